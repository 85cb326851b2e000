-- The rows of the instruction listings, and the word that encodes an instruction. A row has the bits that its words share, and the positions of
-- their fields. RISC-V Unprivileged ISA 20191213, sections 2.2 and 2.3 and chapter 24, and Privileged Architecture 20211203, chapter "RISC-V
-- Privileged Instruction Set Listings".
use Rattle.std.specs.Prelude.{◌≡◌, ℕ, ◌+◌, ◌*◌, ◌^◌, ◌<◌, List, [], ◌∷◌, sum_by}
use Rattle.rv_encoding.specs.Places.{Places, rd_at, rs1_at, rs2_at, i_immediate_at, s_immediate_at, b_immediate_at, j_immediate_at}
use Rattle.rv_encoding.specs.Places.{u_immediate_at, shamt_at, fm_at, pred_at, succ_at, csr_at, uimm_at, placed}
use Rattle.rv_encoding.specs.Ranges.{IsUpperImmediate, IsBranchOffset, IsJumpOffset}
use Rattle.rv_encoding.specs.Codes.{lui_opcode, auipc_opcode, jal_opcode, jalr_opcode, branch_opcode, load_opcode, store_opcode, op_imm_opcode}
use Rattle.rv_encoding.specs.Codes.{op_opcode, misc_mem_opcode, system_opcode, Functs, functs, branch_funct3, load_funct3, store_funct3}
use Rattle.rv_encoding.specs.Codes.{op_imm_funct3, shift_functs, op_functs, csr_funct3, csr_imm_funct3}
use Rattle.rv_encoding.specs.declared.instr.Instr.{Instr}
use Rattle.rv_encoding.specs.declared.instr.Instr.TheVariants.{Lui, Auipc, Jal, Jalr, Branch, Load, Store, OpImm, ShiftImm, Op, Fence}
use Rattle.rv_encoding.specs.declared.instr.Instr.TheVariants.{Csr, CsrImm, Ecall, Ebreak, Sret, Mret, Wfi, SfenceVma}

-- A row of the listings, and the fields of one of its words. Every word of the row equals the match under the mask. This word is the match with
-- each of the fields at its positions.
pub record InstrRow : Type 0 where
  -- the mask of the fixed bits
  pub mask : ℕ
  -- the value of the fixed bits
  pub match : ℕ
  -- the value of each field, with its positions
  pub fields : List (Places × ℕ)

-- `fields_at` has the fields, each at its positions
abbrev pub fields_at : List (Places × ℕ) → ℕ
fields_at fields = sum_by (λ (field : Places × ℕ). placed field.0 field.1) fields

-- ---- formats: opcode in bits 6:0, funct3 in bits 14:12, funct7 in bits 31:25, funct12 in bits 31:20

-- `opcode_row` is a row whose opcode alone is fixed
abbrev pub opcode_row : ℕ → List (Places × ℕ) → InstrRow
opcode_row opcode fields = record { mask = 0x0000007F; match = opcode; fields = fields }

-- `funct3_row` is a row whose opcode and funct3 are fixed
abbrev pub funct3_row : ℕ → ℕ → List (Places × ℕ) → InstrRow
funct3_row opcode funct3 fields = record { mask = 0x0000707F; match = opcode + funct3 * 2 ^ 12; fields = fields }

-- a row whose opcode, funct3 and funct7 are fixed
abbrev pub funct7_row : ℕ → Functs → List (Places × ℕ) → InstrRow
funct7_row opcode functs fields =
    record { mask = 0xFE00707F; match = opcode + functs.funct3 * 2 ^ 12 + functs.funct7 * 2 ^ 25; fields = fields }

-- rd (bits 11:7) must be 0
abbrev pub funct7_row_without_rd : ℕ → Functs → List (Places × ℕ) → InstrRow
funct7_row_without_rd opcode functs fields = record (funct7_row opcode functs fields) { mask = 0xFE007FFF }

-- rd, funct3 and rs1 (bits 19:7) must be 0
abbrev pub funct12_row : ℕ → ℕ → InstrRow
funct12_row opcode funct12 = record { mask = 0xFFFFFFFF; match = opcode + funct12 * 2 ^ 20; fields = [] }

-- ---- the rows, by groups with the same fields

-- `row_of_instr` is the row of each instruction: its fixed bits, and its fields with their places
abbrev pub row_of_instr : Instr → InstrRow
row_of_instr (Lui rd imm) = opcode_row lui_opcode ((rd_at, rd) ∷ (u_immediate_at, imm) ∷ [])
row_of_instr (Auipc rd imm) = opcode_row auipc_opcode ((rd_at, rd) ∷ (u_immediate_at, imm) ∷ [])
row_of_instr (Jal rd offset) = opcode_row jal_opcode ((rd_at, rd) ∷ (j_immediate_at, offset) ∷ [])
row_of_instr (Jalr rd rs1 offset) =
    funct3_row jalr_opcode 0b000 ((rd_at, rd) ∷ (rs1_at, rs1) ∷ (i_immediate_at, offset) ∷ [])
row_of_instr (Branch kind rs1 rs2 offset) =
    funct3_row branch_opcode (branch_funct3 kind) ((rs1_at, rs1) ∷ (rs2_at, rs2) ∷ (b_immediate_at, offset) ∷ [])
row_of_instr (Load kind rd rs1 offset) =
    funct3_row load_opcode (load_funct3 kind) ((rd_at, rd) ∷ (rs1_at, rs1) ∷ (i_immediate_at, offset) ∷ [])
row_of_instr (Store kind rs1 rs2 offset) =
    funct3_row store_opcode (store_funct3 kind) ((rs1_at, rs1) ∷ (rs2_at, rs2) ∷ (s_immediate_at, offset) ∷ [])
row_of_instr (OpImm kind rd rs1 imm) =
    funct3_row op_imm_opcode (op_imm_funct3 kind) ((rd_at, rd) ∷ (rs1_at, rs1) ∷ (i_immediate_at, imm) ∷ [])
row_of_instr (ShiftImm kind rd rs1 shamt) =
    funct7_row op_imm_opcode (shift_functs kind) ((rd_at, rd) ∷ (rs1_at, rs1) ∷ (shamt_at, shamt) ∷ [])
row_of_instr (Op kind rd rs1 rs2) =
    funct7_row op_opcode (op_functs kind) ((rd_at, rd) ∷ (rs1_at, rs1) ∷ (rs2_at, rs2) ∷ [])
row_of_instr (Fence fm pred succ rd rs1) =
    funct3_row misc_mem_opcode 0b000 ((fm_at, fm) ∷ (pred_at, pred) ∷ (succ_at, succ) ∷ (rd_at, rd) ∷ (rs1_at, rs1) ∷ [])
row_of_instr (Csr kind rd rs1 csr) =
    funct3_row system_opcode (csr_funct3 kind) ((rd_at, rd) ∷ (rs1_at, rs1) ∷ (csr_at, csr) ∷ [])
row_of_instr (CsrImm kind rd uimm csr) =
    funct3_row system_opcode (csr_imm_funct3 kind) ((rd_at, rd) ∷ (uimm_at, uimm) ∷ (csr_at, csr) ∷ [])
row_of_instr Ecall = funct12_row system_opcode 0x000
row_of_instr Ebreak = funct12_row system_opcode 0x001
row_of_instr Sret = funct12_row system_opcode 0x102
row_of_instr Mret = funct12_row system_opcode 0x302
row_of_instr Wfi = funct12_row system_opcode 0x105
row_of_instr (SfenceVma rs1 rs2) = funct7_row_without_rd system_opcode (functs 0b0001001 0b000) ((rs1_at, rs1) ∷ (rs2_at, rs2) ∷ [])

-- ---- encoding

-- `word_of` is the word of an instruction: the match of its row, with each field at its positions
unfoldable pub word_of : Instr → ℕ
word_of instr = (row_of_instr instr).match + fields_at (row_of_instr instr).fields

-- each field of an instruction is in its range, as the types of the code ensure
abbrev pub IsInstr : Instr → Type 0
IsInstr (Lui rd imm) = (rd < 32) × IsUpperImmediate imm
IsInstr (Auipc rd imm) = (rd < 32) × IsUpperImmediate imm
IsInstr (Jal rd offset) = (rd < 32) × IsJumpOffset offset
IsInstr (Jalr rd rs1 offset) = (rd < 32) × (rs1 < 32) × (offset < 2 ^ 12)
IsInstr (Branch kind rs1 rs2 offset) = (rs1 < 32) × (rs2 < 32) × IsBranchOffset offset
IsInstr (Load kind rd rs1 offset) = (rd < 32) × (rs1 < 32) × (offset < 2 ^ 12)
IsInstr (Store kind rs1 rs2 offset) = (rs1 < 32) × (rs2 < 32) × (offset < 2 ^ 12)
IsInstr (OpImm kind rd rs1 imm) = (rd < 32) × (rs1 < 32) × (imm < 2 ^ 12)
IsInstr (ShiftImm kind rd rs1 shamt) = (rd < 32) × (rs1 < 32) × (shamt < 32)
IsInstr (Op kind rd rs1 rs2) = (rd < 32) × (rs1 < 32) × (rs2 < 32)
IsInstr (Fence fm pred succ rd rs1) = (fm < 16) × (pred < 16) × (succ < 16) × (rd < 32) × (rs1 < 32)
IsInstr (Csr kind rd rs1 csr) = (rd < 32) × (rs1 < 32) × (csr < 2 ^ 12)
IsInstr (CsrImm kind rd uimm csr) = (rd < 32) × (uimm < 32) × (csr < 2 ^ 12)
IsInstr Ecall = Unit {0}
IsInstr Ebreak = Unit {0}
IsInstr Sret = Unit {0}
IsInstr Mret = Unit {0}
IsInstr Wfi = Unit {0}
IsInstr (SfenceVma rs1 rs2) = (rs1 < 32) × (rs2 < 32)

-- a word encodes an instruction whose fields are in their ranges
abbrev pub Encodes : ℕ → Instr → Type 0
Encodes word instr = IsInstr instr × (word_of instr ≡ word)
