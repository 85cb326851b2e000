-- The opcodes, and for each kind of an instruction group its name and its codes (RISC-V Unprivileged ISA 20191213, chapter 24).
use Rattle.std.specs.Prelude.{ℕ, ◌==◌, ◌&&◌, List, [], ◌∷◌, ◌++◌, codes, find, Option}
use Rattle.rv_encoding.specs.declared.kind.BranchKind.{BranchKind}
use Rattle.rv_encoding.specs.declared.kind.BranchKind.TheVariants.{Beq, Bne, Blt, Bge, Bltu, Bgeu}
use Rattle.rv_encoding.specs.declared.kind.LoadKind.{LoadKind}
use Rattle.rv_encoding.specs.declared.kind.LoadKind.TheVariants.{Lb, Lh, Lw, Lbu, Lhu}
use Rattle.rv_encoding.specs.declared.kind.StoreKind.{StoreKind}
use Rattle.rv_encoding.specs.declared.kind.StoreKind.TheVariants.{Sb, Sh, Sw}
use Rattle.rv_encoding.specs.declared.kind.OpImmKind.{OpImmKind}
use Rattle.rv_encoding.specs.declared.kind.OpImmKind.TheVariants.{Addi, Slti, Sltiu, Xori, Ori, Andi}
use Rattle.rv_encoding.specs.declared.kind.ShiftKind.{ShiftKind}
use Rattle.rv_encoding.specs.declared.kind.ShiftKind.TheVariants.{Slli, Srli, Srai}
use Rattle.rv_encoding.specs.declared.kind.OpKind.{OpKind}
use Rattle.rv_encoding.specs.declared.kind.OpKind.TheVariants.{Add, Sub, Sll, Slt, Sltu, Xor, Srl, Sra, Or, And}
use Rattle.rv_encoding.specs.declared.kind.OpKind.TheVariants.{Mul, Mulh, Mulhsu, Mulhu, Div, Divu, Rem, Remu}
use Rattle.rv_encoding.specs.declared.kind.CsrKind.{CsrKind}
use Rattle.rv_encoding.specs.declared.kind.CsrKind.TheVariants.{Write, Set, Clear}

-- ---- opcodes, by the names of the base opcode map (table 24.1)

-- `lui_opcode` is the opcode LUI in bits 6:0 of a word
abbrev pub lui_opcode : ℕ
lui_opcode = 0b0110111

-- `auipc_opcode` is the opcode AUIPC in bits 6:0 of a word
abbrev pub auipc_opcode : ℕ
auipc_opcode = 0b0010111

-- `jal_opcode` is the opcode JAL in bits 6:0 of a word
abbrev pub jal_opcode : ℕ
jal_opcode = 0b1101111

-- `jalr_opcode` is the opcode JALR in bits 6:0 of a word
abbrev pub jalr_opcode : ℕ
jalr_opcode = 0b1100111

-- `branch_opcode` is the opcode BRANCH in bits 6:0 of a word
abbrev pub branch_opcode : ℕ
branch_opcode = 0b1100011

-- LOAD, bits 6:0
abbrev pub load_opcode : ℕ
load_opcode = 0b0000011

-- STORE, bits 6:0
abbrev pub store_opcode : ℕ
store_opcode = 0b0100011

-- `op_imm_opcode` is the opcode OP-IMM in bits 6:0 of a word
abbrev pub op_imm_opcode : ℕ
op_imm_opcode = 0b0010011

-- `op_opcode` is the opcode OP in bits 6:0 of a word
abbrev pub op_opcode : ℕ
op_opcode = 0b0110011

-- `misc_mem_opcode` is the opcode MISC-MEM in bits 6:0 of a word
abbrev pub misc_mem_opcode : ℕ
misc_mem_opcode = 0b0001111

-- `system_opcode` is the opcode SYSTEM in bits 6:0 of a word
abbrev pub system_opcode : ℕ
system_opcode = 0b1110011

-- ---- names and codes

-- `Functs` has funct7, in bits 31:25, and funct3, in bits 14:12
pub record Functs : Type 0 where
  -- bits 31:25 of the word
  pub funct7 : ℕ
  -- bits 14:12 of the word
  pub funct3 : ℕ

-- `functs` is the pair of funct7 (bits 31:25) and funct3 (bits 14:12)
abbrev pub functs : ℕ → ℕ → Functs
functs funct7 funct3 = record { funct7 = funct7; funct3 = funct3 }

-- `branch_code` is the name and the funct3 of a branch
abbrev pub branch_code : BranchKind → List ℕ × ℕ
branch_code Beq = (codes "beq", 0b000)
branch_code Bne = (codes "bne", 0b001)
branch_code Blt = (codes "blt", 0b100)
branch_code Bge = (codes "bge", 0b101)
branch_code Bltu = (codes "bltu", 0b110)
branch_code Bgeu = (codes "bgeu", 0b111)

-- `load_code` is the mnemonic and funct3 of a load
abbrev pub load_code : LoadKind → List ℕ × ℕ
load_code Lb = (codes "lb", 0b000)
load_code Lh = (codes "lh", 0b001)
load_code Lw = (codes "lw", 0b010)
load_code Lbu = (codes "lbu", 0b100)
load_code Lhu = (codes "lhu", 0b101)

-- `store_code` is the mnemonic and funct3 of a store
abbrev pub store_code : StoreKind → List ℕ × ℕ
store_code Sb = (codes "sb", 0b000)
store_code Sh = (codes "sh", 0b001)
store_code Sw = (codes "sw", 0b010)

-- `op_imm_code` is the mnemonic and funct3 of an instruction with a register and an immediate
abbrev pub op_imm_code : OpImmKind → List ℕ × ℕ
op_imm_code Addi = (codes "addi", 0b000)
op_imm_code Slti = (codes "slti", 0b010)
op_imm_code Sltiu = (codes "sltiu", 0b011)
op_imm_code Xori = (codes "xori", 0b100)
op_imm_code Ori = (codes "ori", 0b110)
op_imm_code Andi = (codes "andi", 0b111)

-- `csr_code` is the mnemonic and funct3 of a CSR instruction with a register
abbrev pub csr_code : CsrKind → List ℕ × ℕ
csr_code Write = (codes "csrrw", 0b001)
csr_code Set = (codes "csrrs", 0b010)
csr_code Clear = (codes "csrrc", 0b011)

-- `csr_imm_code` is the mnemonic and funct3 of a CSR instruction with an immediate
abbrev pub csr_imm_code : CsrKind → List ℕ × ℕ
csr_imm_code Write = (codes "csrrwi", 0b101)
csr_imm_code Set = (codes "csrrsi", 0b110)
csr_imm_code Clear = (codes "csrrci", 0b111)

-- `shift_code` is the name, the funct7 and the funct3 of a shift
abbrev pub shift_code : ShiftKind → List ℕ × Functs
shift_code Slli = (codes "slli", functs 0b0000000 0b001)
shift_code Srli = (codes "srli", functs 0b0000000 0b101)
shift_code Srai = (codes "srai", functs 0b0100000 0b101)

-- `op_code` is the mnemonic, funct7 and funct3 of an instruction with two registers
abbrev pub op_code : OpKind → List ℕ × Functs
op_code Add = (codes "add", functs 0b0000000 0b000)
op_code Sub = (codes "sub", functs 0b0100000 0b000)
op_code Sll = (codes "sll", functs 0b0000000 0b001)
op_code Slt = (codes "slt", functs 0b0000000 0b010)
op_code Sltu = (codes "sltu", functs 0b0000000 0b011)
op_code Xor = (codes "xor", functs 0b0000000 0b100)
op_code Srl = (codes "srl", functs 0b0000000 0b101)
op_code Sra = (codes "sra", functs 0b0100000 0b101)
op_code Or = (codes "or", functs 0b0000000 0b110)
op_code And = (codes "and", functs 0b0000000 0b111)
op_code Mul = (codes "mul", functs 0b0000001 0b000)
op_code Mulh = (codes "mulh", functs 0b0000001 0b001)
op_code Mulhsu = (codes "mulhsu", functs 0b0000001 0b010)
op_code Mulhu = (codes "mulhu", functs 0b0000001 0b011)
op_code Div = (codes "div", functs 0b0000001 0b100)
op_code Divu = (codes "divu", functs 0b0000001 0b101)
op_code Rem = (codes "rem", functs 0b0000001 0b110)
op_code Remu = (codes "remu", functs 0b0000001 0b111)

-- `branch_name` is the mnemonic of a branch
abbrev pub branch_name : BranchKind → List ℕ
branch_name kind = (branch_code kind).0

-- `branch_funct3` is the funct3 of a branch
abbrev pub branch_funct3 : BranchKind → ℕ
branch_funct3 kind = (branch_code kind).1

-- `load_name` is the mnemonic of a load
abbrev pub load_name : LoadKind → List ℕ
load_name kind = (load_code kind).0

-- funct3 of a load
abbrev pub load_funct3 : LoadKind → ℕ
load_funct3 kind = (load_code kind).1

-- `store_name` is the mnemonic of a store
abbrev pub store_name : StoreKind → List ℕ
store_name kind = (store_code kind).0

-- funct3 of a store
abbrev pub store_funct3 : StoreKind → ℕ
store_funct3 kind = (store_code kind).1

-- `op_imm_name` is the mnemonic of an instruction with a register and an immediate
abbrev pub op_imm_name : OpImmKind → List ℕ
op_imm_name kind = (op_imm_code kind).0

-- `op_imm_funct3` is the funct3 of an instruction with a register and an immediate
abbrev pub op_imm_funct3 : OpImmKind → ℕ
op_imm_funct3 kind = (op_imm_code kind).1

-- `csr_name` is the mnemonic of a CSR instruction with a register
abbrev pub csr_name : CsrKind → List ℕ
csr_name kind = (csr_code kind).0

-- `csr_funct3` is the funct3 of a CSR instruction with a register
abbrev pub csr_funct3 : CsrKind → ℕ
csr_funct3 kind = (csr_code kind).1

-- `csr_imm_name` is the mnemonic of a CSR instruction with an immediate
abbrev pub csr_imm_name : CsrKind → List ℕ
csr_imm_name kind = (csr_imm_code kind).0

-- `csr_imm_funct3` is the funct3 of a CSR instruction with an immediate
abbrev pub csr_imm_funct3 : CsrKind → ℕ
csr_imm_funct3 kind = (csr_imm_code kind).1

-- `shift_name` is the mnemonic of a shift by an immediate
abbrev pub shift_name : ShiftKind → List ℕ
shift_name kind = (shift_code kind).0

-- funct7 and funct3 of a shift by an immediate
abbrev pub shift_functs : ShiftKind → Functs
shift_functs kind = (shift_code kind).1

-- `op_name` is the mnemonic of an instruction with two registers
abbrev pub op_name : OpKind → List ℕ
op_name kind = (op_code kind).0

-- `op_functs` has the funct7 and the funct3 of an instruction with two registers
abbrev pub op_functs : OpKind → Functs
op_functs kind = (op_code kind).1

-- ---- the kinds of each group, in the order of the listing

-- `branch_kinds` has all branches
abbrev pub branch_kinds : List BranchKind
branch_kinds = Beq ∷ Bne ∷ Blt ∷ Bge ∷ Bltu ∷ Bgeu ∷ []

-- all loads
abbrev pub load_kinds : List LoadKind
load_kinds = Lb ∷ Lh ∷ Lw ∷ Lbu ∷ Lhu ∷ []

-- all stores
abbrev pub store_kinds : List StoreKind
store_kinds = Sb ∷ Sh ∷ Sw ∷ []

-- all instructions with a register and an immediate, without the shifts
abbrev pub op_imm_kinds : List OpImmKind
op_imm_kinds = Addi ∷ Slti ∷ Sltiu ∷ Xori ∷ Ori ∷ Andi ∷ []

-- all shifts by an immediate
abbrev pub shift_kinds : List ShiftKind
shift_kinds = Slli ∷ Srli ∷ Srai ∷ []

-- all kinds of CSR instructions: write, set and clear
abbrev pub csr_kinds : List CsrKind
csr_kinds = Write ∷ Set ∷ Clear ∷ []

-- `rv32i_op_kinds` has the operations of RV32I
abbrev pub rv32i_op_kinds : List OpKind
rv32i_op_kinds = Add ∷ Sub ∷ Sll ∷ Slt ∷ Sltu ∷ Xor ∷ Srl ∷ Sra ∷ Or ∷ And ∷ []

-- `rv32m_op_kinds` has the operations of RV32M
abbrev pub rv32m_op_kinds : List OpKind
rv32m_op_kinds = Mul ∷ Mulh ∷ Mulhsu ∷ Mulhu ∷ Div ∷ Divu ∷ Rem ∷ Remu ∷ []

-- ---- the kind of a code, if there is one

-- `branch_kind` is the branch with this funct3, if there is one
abbrev pub branch_kind : ℕ → Option BranchKind
branch_kind funct3 = find (λ kind. branch_funct3 kind == funct3) branch_kinds

-- `load_kind` is the load with this funct3, if there is one
abbrev pub load_kind : ℕ → Option LoadKind
load_kind funct3 = find (λ kind. load_funct3 kind == funct3) load_kinds

-- `store_kind` is the store with this funct3, if there is one
abbrev pub store_kind : ℕ → Option StoreKind
store_kind funct3 = find (λ kind. store_funct3 kind == funct3) store_kinds

-- `op_imm_kind` is the instruction with a register and an immediate that has this funct3, if there is one
abbrev pub op_imm_kind : ℕ → Option OpImmKind
op_imm_kind funct3 = find (λ kind. op_imm_funct3 kind == funct3) op_imm_kinds

-- `csr_kind` is the CSR instruction with a register that has this funct3, if there is one
abbrev pub csr_kind : ℕ → Option CsrKind
csr_kind funct3 = find (λ kind. csr_funct3 kind == funct3) csr_kinds

-- `csr_imm_kind` is the CSR instruction with an immediate that has this funct3, if there is one
abbrev pub csr_imm_kind : ℕ → Option CsrKind
csr_imm_kind funct3 = find (λ kind. csr_imm_funct3 kind == funct3) csr_kinds

-- `shift_kind` is the shift by an immediate with this funct3 and funct7, if there is one
abbrev pub shift_kind : ℕ → ℕ → Option ShiftKind
shift_kind funct3 funct7 =
    find (λ kind. (shift_functs kind).funct3 == funct3 && (shift_functs kind).funct7 == funct7) shift_kinds

-- `op_kind` is the instruction with two registers that has this funct3 and funct7, if there is one
abbrev pub op_kind : ℕ → ℕ → Option OpKind
op_kind funct3 funct7 =
    find (λ kind. (op_functs kind).funct3 == funct3 && (op_functs kind).funct7 == funct7) (rv32i_op_kinds ++ rv32m_op_kinds)
