-- The ranges of numbers in operands, and the fields that they encode. (RISC-V Unprivileged ISA 20191213, sections 2.3 (immediates), 2.4 (shift
-- amounts) and 9.1 (numbers and immediates of CSR instructions).)
use Rattle.std.specs.Prelude.{ℕ, ◌-◌, ◌*◌, ◌%◌, ◌^◌, Bool, ◌&&◌, ◌==◌, nat_le, Result, Ok, Err, if◌then◌else◌}
use Rattle.rv_asm.specs.declared.number.Number.{Number}
use Rattle.rv_asm.specs.declared.fault.AsmFaultKind.{AsmFaultKind}
use Rattle.rv_asm.specs.declared.fault.AsmFaultKind.TheVariants.{OutOfRange}

-- the number is from -below to above
abbrev pub is_number_within : ℕ → ℕ → Number → Bool
is_number_within below above number = if number.is_negative then nat_le number.magnitude below else nat_le number.magnitude above

-- `residue` is the number modulo `modulus`, as a field with that many values has it
abbrev pub residue : ℕ → Number → ℕ
residue modulus number =
    if number.is_negative then (modulus - number.magnitude % modulus) % modulus else number.magnitude % modulus

-- `field_within` is the field for a number from -below to above, as its residue modulo `modulus`; otherwise it is the error OutOfRange
abbrev pub field_within : ℕ → ℕ → ℕ → Number → Result ℕ AsmFaultKind
field_within below above modulus number = if is_number_within below above number then Ok (residue modulus number) else Err OutOfRange

-- `immediate_of` is the field for an immediate of the formats I and S
abbrev pub immediate_of : Number → Result ℕ AsmFaultKind
immediate_of number = field_within 2048 2047 (2 ^ 12) number

-- bits 31 to 12 of the word that lui and auipc use
abbrev pub upper_immediate_of : Number → Result ℕ AsmFaultKind
upper_immediate_of number = if is_number_within 0 1048575 number then Ok (number.magnitude * 2 ^ 12) else Err OutOfRange

-- shift amounts, and the immediates of CSR instructions
abbrev pub five_bits_of : Number → Result ℕ AsmFaultKind
five_bits_of number = field_within 0 31 (2 ^ 5) number

-- the number of a control and status register is 0 to 4095
abbrev pub csr_number_field : Number → Result ℕ AsmFaultKind
csr_number_field number = field_within 0 4095 (2 ^ 12) number

-- offsets in bytes, which are even
abbrev pub branch_offset_of : Number → Result ℕ AsmFaultKind
branch_offset_of number =
    if is_number_within 4096 4094 number && number.magnitude % 2 == 0 then Ok (residue (2 ^ 13) number) else Err OutOfRange

-- the offset of a jump is even, and within 1 MiB
abbrev pub jump_offset_of : Number → Result ℕ AsmFaultKind
jump_offset_of number =
    if is_number_within 1048576 1048574 number && number.magnitude % 2 == 0 then Ok (residue (2 ^ 21) number) else Err OutOfRange

-- a whole word is written as a number from -2 ^ 31 to 2 ^ 32 - 1
abbrev pub word_of_number : Number → Result ℕ AsmFaultKind
word_of_number number = field_within (2 ^ 31) (2 ^ 32 - 1) (2 ^ 32) number
