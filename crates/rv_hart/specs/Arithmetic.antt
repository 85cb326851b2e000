-- The results of computations, as natural numbers modulo 2 ^ 32. (RISC-V Unprivileged ISA 20191213, sections 2.4 (integer computation), 2.5
-- (conditions), 2.6 (loads), 7.1 (multiplication) and 7.2 (division).)
use Rattle.std.specs.Prelude.{ℕ, ◌+◌, ◌*◌, ◌%◌, ◌^◌, ◌==◌, Bool, not, nat_lt, int_lt, pos, ◌-ℤ◌, ◌*ℤ◌}
use Rattle.rv_word.specs.BitFields.{bits, sign_extended}
use Rattle.rv_word.specs.Division.{quotient, remainder, unsigned_quotient, unsigned_remainder}
use Rattle.rv_word.specs.Logic.{digit, and_by_bits, or_by_bits, xor_by_bits}
use Rattle.rv_word.specs.Products.{high_word}
use Rattle.rv_word.specs.Shifts.{shifted_left, shifted_right, shifted_right_signed}
use Rattle.rv_word.specs.Word.{signed, low_word}
use Rattle.rv_word.specs.declared.width.Width.{Width}
use Rattle.rv_word.specs.declared.width.Width.TheVariants.{Byte, Half, Word}
use Rattle.rv_encoding.specs.declared.kind.BranchKind.{BranchKind}
use Rattle.rv_encoding.specs.declared.kind.BranchKind.TheVariants.{Beq, Bne, Blt, Bge, Bltu, Bgeu}
use Rattle.rv_encoding.specs.declared.kind.LoadKind.{LoadKind}
use Rattle.rv_encoding.specs.declared.kind.LoadKind.TheVariants.{Lb, Lh, Lw, Lbu, Lhu}
use Rattle.rv_encoding.specs.declared.kind.OpImmKind.{OpImmKind}
use Rattle.rv_encoding.specs.declared.kind.OpImmKind.TheVariants.{Addi, Slti, Sltiu, Xori, Ori, Andi}
use Rattle.rv_encoding.specs.declared.kind.OpKind.{OpKind}
use Rattle.rv_encoding.specs.declared.kind.OpKind.TheVariants.{Add, Sub, Sll, Slt, Sltu, Xor, Srl, Sra, Or, And, Mul, Mulh, Mulhsu, Mulhu, Div, Divu, Rem, Remu}
use Rattle.rv_encoding.specs.declared.kind.ShiftKind.{ShiftKind}
use Rattle.rv_encoding.specs.declared.kind.ShiftKind.TheVariants.{Slli, Srli, Srai}
use Rattle.rv_encoding.specs.declared.kind.StoreKind.{StoreKind}
use Rattle.rv_encoding.specs.declared.kind.StoreKind.TheVariants.{Sb, Sh, Sw}

-- `sum_of` is the sum of two words, modulo 2 ^ 32
abbrev pub sum_of : ℕ → ℕ → ℕ
sum_of left right = (left + right) % 2 ^ 32

-- `difference_of` is the difference of two words, modulo 2 ^ 32
abbrev pub difference_of : ℕ → ℕ → ℕ
difference_of left right = low_word (pos left -ℤ pos right)

-- `is_less` states whether the left word is less than the right one, both as signed numbers
abbrev pub is_less : ℕ → ℕ → Bool
is_less left right = int_lt (signed left) (signed right)

-- `is_less_unsigned` states whether the left word is less than the right one, both as unsigned numbers
abbrev pub is_less_unsigned : ℕ → ℕ → Bool
is_less_unsigned left right = nat_lt left right

-- the result of an operation on two registers; a shift amount is the lowest five bits of the second
abbrev pub op_value : OpKind → ℕ → ℕ → ℕ
op_value Add rs1 rs2 = sum_of rs1 rs2
op_value Sub rs1 rs2 = difference_of rs1 rs2
op_value Sll rs1 rs2 = shifted_left rs1 (bits rs2 4 0)
op_value Slt rs1 rs2 = digit (is_less rs1 rs2)
op_value Sltu rs1 rs2 = digit (is_less_unsigned rs1 rs2)
op_value Xor rs1 rs2 = xor_by_bits rs1 rs2
op_value Srl rs1 rs2 = shifted_right rs1 (bits rs2 4 0)
op_value Sra rs1 rs2 = shifted_right_signed rs1 (bits rs2 4 0)
op_value Or rs1 rs2 = or_by_bits rs1 rs2
op_value And rs1 rs2 = and_by_bits rs1 rs2
op_value Mul rs1 rs2 = rs1 * rs2 % 2 ^ 32
op_value Mulh rs1 rs2 = high_word (signed rs1 *ℤ signed rs2)
op_value Mulhsu rs1 rs2 = high_word (signed rs1 *ℤ pos rs2)
op_value Mulhu rs1 rs2 = high_word (pos rs1 *ℤ pos rs2)
op_value Div rs1 rs2 = quotient rs1 rs2
op_value Divu rs1 rs2 = unsigned_quotient rs1 rs2
op_value Rem rs1 rs2 = remainder rs1 rs2
op_value Remu rs1 rs2 = unsigned_remainder rs1 rs2

-- the result of an operation on a register and an immediate. The immediate is sign-extended, even if sltiu compares it as unsigned.
abbrev pub op_imm_value : OpImmKind → ℕ → ℕ → ℕ
op_imm_value Addi rs1 imm = sum_of rs1 imm
op_imm_value Slti rs1 imm = digit (is_less rs1 imm)
op_imm_value Sltiu rs1 imm = digit (is_less_unsigned rs1 imm)
op_imm_value Xori rs1 imm = xor_by_bits rs1 imm
op_imm_value Ori rs1 imm = or_by_bits rs1 imm
op_imm_value Andi rs1 imm = and_by_bits rs1 imm

-- `shift_value` is the result of a shift of a register by 0 to 31 bits
abbrev pub shift_value : ShiftKind → ℕ → ℕ → ℕ
shift_value Slli rs1 shamt = shifted_left rs1 shamt
shift_value Srli rs1 shamt = shifted_right rs1 shamt
shift_value Srai rs1 shamt = shifted_right_signed rs1 shamt

-- a branch on two registers is taken if its condition holds
abbrev pub is_taken : BranchKind → ℕ → ℕ → Bool
is_taken Beq rs1 rs2 = rs1 == rs2
is_taken Bne rs1 rs2 = not (rs1 == rs2)
is_taken Blt rs1 rs2 = is_less rs1 rs2
is_taken Bge rs1 rs2 = not (is_less rs1 rs2)
is_taken Bltu rs1 rs2 = is_less_unsigned rs1 rs2
is_taken Bgeu rs1 rs2 = not (is_less_unsigned rs1 rs2)

-- `load_width` is the width of a load
abbrev pub load_width : LoadKind → Width
load_width Lb = Byte
load_width Lh = Half
load_width Lw = Word
load_width Lbu = Byte
load_width Lhu = Half

-- `load_value` is the word that a load puts into rd: the loaded number, with its sign extended or not
abbrev pub load_value : LoadKind → ℕ → ℕ
load_value Lb number = sign_extended number 8
load_value Lh number = sign_extended number 16
load_value Lw number = number
load_value Lbu number = number
load_value Lhu number = number

-- `store_width` is the width of a store
abbrev pub store_width : StoreKind → Width
store_width Sb = Byte
store_width Sh = Half
store_width Sw = Word
