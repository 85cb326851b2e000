-- Bits and fields of bits, and their signs (RISC-V Unprivileged ISA 20191213, sections 2.2 and 2.3). Bit k has the weight 2 ^ k.
use Rattle.std.specs.Prelude.{ℕ, ◌+◌, ◌-◌, ◌*◌, ◌/◌, ◌%◌, ◌^◌, ◌==◌, Bool, ℤ, pos, ◌-ℤ◌, nat_lt, if◌then◌else◌}
use Rattle.rv_word.specs.Logic.{digit}

-- `is_set` states whether the bit at a position of a word is 1
abbrev pub is_set : ℕ → ℕ → Bool
is_set word position = word / 2 ^ position % 2 == 1

-- `flag` is the word with only the bit at a position set, or 0
abbrev pub flag : ℕ → Bool → ℕ
flag position set = digit set * 2 ^ position

-- `bits` has bits hi down to lo of a word, as a number
abbrev pub bits : ℕ → ℕ → ℕ → ℕ
bits word hi lo = word / 2 ^ lo % 2 ^ (hi + 1 - lo)

-- `signed_field` is the signed value of the low `width` bits of a number, in two's complement
abbrev pub signed_field : ℕ → ℕ → ℤ
signed_field number width =
    let low = number % 2 ^ width
    in if nat_lt low (2 ^ (width - 1)) then pos low else (pos low -ℤ pos (2 ^ width))

-- `sign_extended` is the word that has the signed value of the field: its upper bits are copies of the highest bit of the field
abbrev pub sign_extended : ℕ → ℕ → ℕ
sign_extended number width =
    let low = number % 2 ^ width
    in if nat_lt low (2 ^ (width - 1)) then low else low + 2 ^ 32 - 2 ^ width
