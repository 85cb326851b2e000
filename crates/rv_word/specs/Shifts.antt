-- Shifts as products and quotients by powers of 2 (RISC-V Unprivileged ISA 20191213, section 2.4).
use Rattle.std.specs.Prelude.{ℕ, ◌*◌, ◌/◌, ◌%◌, ◌^◌}
use Rattle.rv_word.specs.Word.{signed, low_word, rounded_down}

-- `shifted_left` is the word shifted left, modulo 2 ^ 32
abbrev pub shifted_left : ℕ → ℕ → ℕ
shifted_left word amount = word * 2 ^ amount % 2 ^ 32

-- `shifted_right` is the word shifted right, with zeros from the left
abbrev pub shifted_right : ℕ → ℕ → ℕ
shifted_right word amount = word / 2 ^ amount

-- an arithmetic right shift: the sign is copied into the vacated bits, so the signed value is divided and rounded down
abbrev pub shifted_right_signed : ℕ → ℕ → ℕ
shifted_right_signed word amount = low_word (rounded_down (signed word) (2 ^ amount))
