-- The instruction that a word encodes, found in the listing (RISC-V Unprivileged ISA 20191213, section 2.2 and chapter 24).
use Rattle.std.specs.Prelude.{ℕ, ◌==◌, List, [], ◌∷◌, ◌++◌, map, find, Option}
use Rattle.std.specs.Option.{option_map}
use Rattle.rv_word.specs.Logic.{and_by_bits}
use Rattle.rv_encoding.specs.Places.{rd_at, rs1_at, rs2_at, i_immediate_at, s_immediate_at, b_immediate_at, j_immediate_at, u_immediate_at}
use Rattle.rv_encoding.specs.Places.{shamt_at, fm_at, pred_at, succ_at, csr_at, uimm_at, taken}
use Rattle.rv_encoding.specs.Codes.{branch_kinds, load_kinds, store_kinds, op_imm_kinds, shift_kinds, rv32i_op_kinds, rv32m_op_kinds, csr_kinds}
use Rattle.rv_encoding.specs.Rows.{row_of_instr}
use Rattle.rv_encoding.specs.declared.instr.Instr.{Instr}
use Rattle.rv_encoding.specs.declared.instr.Instr.TheVariants.{Lui, Auipc, Jal, Jalr, Branch, Load, Store, OpImm, ShiftImm, Op, Fence}
use Rattle.rv_encoding.specs.declared.instr.Instr.TheVariants.{Csr, CsrImm, Ecall, Ebreak, Sret, Mret, Wfi, SfenceVma}

-- `samples` has an instruction of each row with all fields 0, in the order of the listing
abbrev pub samples : List Instr
samples =
    Lui 0 0 ∷ Auipc 0 0 ∷ Jal 0 0 ∷ Jalr 0 0 0
    ∷ map (λ kind. Branch kind 0 0 0) branch_kinds
    ++ map (λ kind. Load kind 0 0 0) load_kinds
    ++ map (λ kind. Store kind 0 0 0) store_kinds
    ++ map (λ kind. OpImm kind 0 0 0) op_imm_kinds
    ++ map (λ kind. ShiftImm kind 0 0 0) shift_kinds
    ++ map (λ kind. Op kind 0 0 0) rv32i_op_kinds
    ++ Fence 0 0 0 0 0 ∷ Ecall ∷ Ebreak
    ∷ map (λ kind. Csr kind 0 0 0) csr_kinds
    ++ map (λ kind. CsrImm kind 0 0 0) csr_kinds
    ++ map (λ kind. Op kind 0 0 0) rv32m_op_kinds
    ++ Sret ∷ Mret ∷ Wfi ∷ SfenceVma 0 0 ∷ []

-- `with_fields_of` is the instruction of the same row with the fields of a word
abbrev pub with_fields_of : ℕ → Instr → Instr
with_fields_of word (Lui rd imm) = Lui (taken rd_at word) (taken u_immediate_at word)
with_fields_of word (Auipc rd imm) = Auipc (taken rd_at word) (taken u_immediate_at word)
with_fields_of word (Jal rd offset) = Jal (taken rd_at word) (taken j_immediate_at word)
with_fields_of word (Jalr rd rs1 offset) = Jalr (taken rd_at word) (taken rs1_at word) (taken i_immediate_at word)
with_fields_of word (Branch kind rs1 rs2 offset) = Branch kind (taken rs1_at word) (taken rs2_at word) (taken b_immediate_at word)
with_fields_of word (Load kind rd rs1 offset) = Load kind (taken rd_at word) (taken rs1_at word) (taken i_immediate_at word)
with_fields_of word (Store kind rs1 rs2 offset) = Store kind (taken rs1_at word) (taken rs2_at word) (taken s_immediate_at word)
with_fields_of word (OpImm kind rd rs1 imm) = OpImm kind (taken rd_at word) (taken rs1_at word) (taken i_immediate_at word)
with_fields_of word (ShiftImm kind rd rs1 shamt) = ShiftImm kind (taken rd_at word) (taken rs1_at word) (taken shamt_at word)
with_fields_of word (Op kind rd rs1 rs2) = Op kind (taken rd_at word) (taken rs1_at word) (taken rs2_at word)
with_fields_of word (Fence fm pred succ rd rs1) =
    Fence (taken fm_at word) (taken pred_at word) (taken succ_at word) (taken rd_at word) (taken rs1_at word)
with_fields_of word (Csr kind rd rs1 csr) = Csr kind (taken rd_at word) (taken rs1_at word) (taken csr_at word)
with_fields_of word (CsrImm kind rd uimm csr) = CsrImm kind (taken rd_at word) (taken uimm_at word) (taken csr_at word)
with_fields_of word Ecall = Ecall
with_fields_of word Ebreak = Ebreak
with_fields_of word Sret = Sret
with_fields_of word Mret = Mret
with_fields_of word Wfi = Wfi
with_fields_of word (SfenceVma rs1 rs2) = SfenceVma (taken rs1_at word) (taken rs2_at word)

-- `decoded` is the instruction of the first row whose match equals the word under the row's mask, with the fields of the word; no word matches two
-- rows
unfoldable pub decoded : ℕ → Option Instr
decoded word = option_map (with_fields_of word) (find (λ sample. and_by_bits word (row_of_instr sample).mask == (row_of_instr sample).match) samples)
