-- Each kind of instruction is found by its funct3 (and funct7), funct3 has three bits, and funct7 has seven. All are proved by cases of the kind.
use Rattle.std.proofs.Common.{◌≡◌, ℕ, ◌<◌, Some, None, arith}
use Rattle.rv_encoding.specs.Codes.{branch_funct3, load_funct3, store_funct3, op_imm_funct3, shift_functs, op_functs, csr_funct3, csr_imm_funct3}
use Rattle.rv_encoding.specs.Codes.{branch_kind, load_kind, store_kind, op_imm_kind, shift_kind, op_kind, csr_kind, csr_imm_kind}
use Rattle.rv_encoding.specs.declared.kind.BranchKind.{BranchKind}
use Rattle.rv_encoding.specs.declared.kind.LoadKind.{LoadKind}
use Rattle.rv_encoding.specs.declared.kind.StoreKind.{StoreKind}
use Rattle.rv_encoding.specs.declared.kind.OpImmKind.{OpImmKind}
use Rattle.rv_encoding.specs.declared.kind.ShiftKind.{ShiftKind}
use Rattle.rv_encoding.specs.declared.kind.OpKind.{OpKind}
use Rattle.rv_encoding.specs.declared.kind.CsrKind.{CsrKind}

-- a branch is found by its funct3
pub branch_kind_found : (kind : BranchKind) → branch_kind (branch_funct3 kind) ≡ Some kind
branch_kind_found kind = grind arith

-- funct3 of a branch has three bits
pub branch_funct3-lt : (kind : BranchKind) → branch_funct3 kind < 8
branch_funct3-lt kind = grind arith

-- a load is found by its funct3
pub load_kind_found : (kind : LoadKind) → load_kind (load_funct3 kind) ≡ Some kind
load_kind_found kind = grind arith

-- funct3 of a load has three bits
pub load_funct3-lt : (kind : LoadKind) → load_funct3 kind < 8
load_funct3-lt kind = grind arith

-- a store is found by its funct3
pub store_kind_found : (kind : StoreKind) → store_kind (store_funct3 kind) ≡ Some kind
store_kind_found kind = grind arith

-- funct3 of a store has three bits
pub store_funct3-lt : (kind : StoreKind) → store_funct3 kind < 8
store_funct3-lt kind = grind arith

-- an instruction with a register and an immediate is found by its funct3
pub op_imm_kind_found : (kind : OpImmKind) → op_imm_kind (op_imm_funct3 kind) ≡ Some kind
op_imm_kind_found kind = grind arith

-- funct3 of an instruction with a register and an immediate has three bits
pub op_imm_funct3-lt : (kind : OpImmKind) → op_imm_funct3 kind < 8
op_imm_funct3-lt kind = grind arith

-- a CSR instruction with a register is found by its funct3
pub csr_kind_found : (kind : CsrKind) → csr_kind (csr_funct3 kind) ≡ Some kind
csr_kind_found kind = grind arith

-- funct3 of a CSR instruction with a register has three bits
pub csr_funct3-lt : (kind : CsrKind) → csr_funct3 kind < 8
csr_funct3-lt kind = grind arith

-- a CSR instruction with an immediate is found by its funct3
pub csr_imm_kind_found : (kind : CsrKind) → csr_imm_kind (csr_imm_funct3 kind) ≡ Some kind
csr_imm_kind_found kind = grind arith

-- funct3 of a CSR instruction with an immediate has three bits
pub csr_imm_funct3-lt : (kind : CsrKind) → csr_imm_funct3 kind < 8
csr_imm_funct3-lt kind = grind arith

-- a shift by an immediate is found by its funct3 and funct7
pub shift_kind_found : (kind : ShiftKind) → shift_kind (shift_functs kind).funct3 (shift_functs kind).funct7 ≡ Some kind
shift_kind_found kind = grind arith

-- funct3 of a shift has three bits, and funct7 has seven
pub shift_functs-lt : (kind : ShiftKind) → ((shift_functs kind).funct3 < 8) × ((shift_functs kind).funct7 < 128)
shift_functs-lt kind = grind arith

-- an instruction with two registers is found by its funct3 and funct7
pub op_kind_found : (kind : OpKind) → op_kind (op_functs kind).funct3 (op_functs kind).funct7 ≡ Some kind
op_kind_found kind = grind arith

-- funct3 of an instruction with two registers has three bits, and funct7 has seven
pub op_functs-lt : (kind : OpKind) → ((op_functs kind).funct3 < 8) × ((op_functs kind).funct7 < 128)
op_functs-lt kind = grind arith

-- an operation on an immediate that is no shift does not have the funct3 of a shift, whatever funct7 is
pub no_shift : (kind : OpImmKind) (funct7 : ℕ) → shift_kind (op_imm_funct3 kind) funct7 ≡ None
no_shift kind funct7 = grind arith

-- a CSR instruction with an immediate does not have the funct3 of one with a register
pub no_csr : (kind : CsrKind) → csr_kind (csr_imm_funct3 kind) ≡ None
no_csr kind = grind arith
