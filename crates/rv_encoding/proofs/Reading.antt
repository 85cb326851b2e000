-- The decoder as functions: for each opcode, the only instruction that a word with this opcode can encode. They are used to prove that the code of
-- the decoder agrees with the listing. No public contract uses them.
use Rattle.std.specs.Prelude.{ℕ, ◌==◌, ◌&&◌, if◌then◌else◌, Option, Some, None}
use Rattle.std.specs.Option.{option_map, option_or}
use Rattle.rv_word.specs.BitFields.{bits}
use Rattle.rv_encoding.specs.Places.{rd_at, rs1_at, rs2_at, i_immediate_at, s_immediate_at, b_immediate_at, j_immediate_at, u_immediate_at}
use Rattle.rv_encoding.specs.Places.{shamt_at, fm_at, pred_at, succ_at, csr_at, uimm_at, taken}
use Rattle.rv_encoding.specs.Codes.{lui_opcode, auipc_opcode, jal_opcode, jalr_opcode, branch_opcode, load_opcode, store_opcode, op_imm_opcode}
use Rattle.rv_encoding.specs.Codes.{op_opcode, misc_mem_opcode, system_opcode}
use Rattle.rv_encoding.specs.Codes.{branch_kind, load_kind, store_kind, op_imm_kind, shift_kind, op_kind, csr_kind, csr_imm_kind}
use Rattle.rv_encoding.specs.declared.instr.Instr.{Instr}
use Rattle.rv_encoding.specs.declared.instr.Instr.TheVariants.{Lui, Auipc, Jal, Jalr, Branch, Load, Store, OpImm, ShiftImm, Op, Fence}
use Rattle.rv_encoding.specs.declared.instr.Instr.TheVariants.{Csr, CsrImm, Ecall, Ebreak, Sret, Mret, Wfi, SfenceVma}

-- ---- the fixed bits of a word

-- the opcode of a word (bits 6:0)
abbrev pub opcode_in : ℕ → ℕ
opcode_in word = bits word 6 0

-- funct3 of a word (bits 14:12)
abbrev pub funct3_in : ℕ → ℕ
funct3_in word = bits word 14 12

-- funct7 of a word (bits 31:25)
abbrev pub funct7_in : ℕ → ℕ
funct7_in word = bits word 31 25

-- ---- the words of each opcode

-- the instruction jalr with the fields of the word, if funct3 is 0
abbrev pub read_jalr : ℕ → Option Instr
read_jalr word = if funct3_in word == 0 then Some (Jalr (taken rd_at word) (taken rs1_at word) (taken i_immediate_at word)) else None

-- the branch with the fields of the word, if a branch has its funct3
abbrev pub read_branch : ℕ → Option Instr
read_branch word = option_map (λ kind. Branch kind (taken rs1_at word) (taken rs2_at word) (taken b_immediate_at word)) (branch_kind (funct3_in word))

-- the load with the fields of the word, if a load has its funct3
abbrev pub read_load : ℕ → Option Instr
read_load word = option_map (λ kind. Load kind (taken rd_at word) (taken rs1_at word) (taken i_immediate_at word)) (load_kind (funct3_in word))

-- the store with the fields of the word, if a store has its funct3
abbrev pub read_store : ℕ → Option Instr
read_store word = option_map (λ kind. Store kind (taken rs1_at word) (taken rs2_at word) (taken s_immediate_at word)) (store_kind (funct3_in word))

-- the shift with the fields of the word, if a shift has its funct3 and funct7; otherwise the instruction with a register and an immediate
abbrev pub read_op_imm : ℕ → Option Instr
read_op_imm word =
    option_or
    (option_map (λ kind. ShiftImm kind (taken rd_at word) (taken rs1_at word) (taken shamt_at word)) (shift_kind (funct3_in word) (funct7_in word)))
    (option_map (λ kind. OpImm kind (taken rd_at word) (taken rs1_at word) (taken i_immediate_at word)) (op_imm_kind (funct3_in word)))

-- the instruction with two registers and the fields of the word, if one has its funct3 and funct7
abbrev pub read_op : ℕ → Option Instr
read_op word = option_map (λ kind. Op kind (taken rd_at word) (taken rs1_at word) (taken rs2_at word)) (op_kind (funct3_in word) (funct7_in word))

-- the fence with the fields of the word, if funct3 is 0
abbrev pub read_fence : ℕ → Option Instr
read_fence word =
    if funct3_in word == 0
    then Some (Fence (taken fm_at word) (taken pred_at word) (taken succ_at word) (taken rd_at word) (taken rs1_at word))
    else None

-- the privileged instruction of a word: one without fields, which all 32 bits select, or sfence.vma, whose rd is 0
abbrev pub read_whole : ℕ → Option Instr
read_whole word =
    if word == 0x00000073 then Some Ecall
    else if word == 0x00100073 then Some Ebreak
    else if word == 0x10200073 then Some Sret
    else if word == 0x30200073 then Some Mret
    else if word == 0x10500073 then Some Wfi
    else if funct7_in word == 0b0001001 && bits word 14 7 == 0 then Some (SfenceVma (taken rs1_at word) (taken rs2_at word))
    else None

-- the instruction of a word with the opcode SYSTEM: a CSR instruction with a register, one with an immediate, or a privileged instruction
abbrev pub read_system : ℕ → Option Instr
read_system word =
    option_or
    (option_map (λ kind. Csr kind (taken rd_at word) (taken rs1_at word) (taken csr_at word)) (csr_kind (funct3_in word)))
    (option_or
    (option_map (λ kind. CsrImm kind (taken rd_at word) (taken uimm_at word) (taken csr_at word)) (csr_imm_kind (funct3_in word)))
    (read_whole word))

-- ---- every word

-- the instruction of a word, which its opcode selects
abbrev pub read : ℕ → Option Instr
read word =
    let opcode = opcode_in word in
    if opcode == lui_opcode then Some (Lui (taken rd_at word) (taken u_immediate_at word))
    else if opcode == auipc_opcode then Some (Auipc (taken rd_at word) (taken u_immediate_at word))
    else if opcode == jal_opcode then Some (Jal (taken rd_at word) (taken j_immediate_at word))
    else if opcode == jalr_opcode then read_jalr word
    else if opcode == branch_opcode then read_branch word
    else if opcode == load_opcode then read_load word
    else if opcode == store_opcode then read_store word
    else if opcode == op_imm_opcode then read_op_imm word
    else if opcode == op_opcode then read_op word
    else if opcode == misc_mem_opcode then read_fence word
    else if opcode == system_opcode then read_system word
    else None
