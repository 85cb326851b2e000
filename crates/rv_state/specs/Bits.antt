-- The bits that a register keeps of a written word, and aligned addresses. RISC-V Privileged Architecture 20211203, sections 2.3 (fields that
-- ignore writes), 3.1.7 and 4.1.2 (trap vectors), 3.1.14 and 4.1.7 (mepc, sepc).
use Rattle.std.specs.Prelude.{ℕ, ◌*◌, ◌/◌, List, sum_by}
use Rattle.rv_word.specs.BitFields.{is_set, flag}

-- `kept_bits` has the bits of a word at these positions, with every other bit 0
unfoldable pub kept_bits : List ℕ → ℕ → ℕ
kept_bits positions word = sum_by (λ position. flag position (is_set word position)) positions

-- an address with its bits 1:0 cleared, which is a multiple of 4
abbrev pub aligned_to_4 : ℕ → ℕ
aligned_to_4 address = address / 4 * 4
