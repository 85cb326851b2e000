-- The 58 instructions by name, mask and match, in the order of the manuals. RISC-V Unprivileged ISA 20191213, chapter 24 (RV32I, Zicsr, RV32M),
-- and Privileged Architecture 20211203, chapter "RISC-V Privileged Instruction Set Listings". This table can be compared with the manuals;
-- `decode` ensures that it has exactly the rows of `Rows`.
use Rattle.std.specs.Prelude.{◌≡◌, ℕ, List, [], ◌∷◌, codes, slice_get, Some}
use Rattle.rv_encoding.specs.Codes.{branch_name, load_name, store_name, op_imm_name, shift_name, op_name, csr_name, csr_imm_name}
use Rattle.rv_encoding.specs.Rows.{row_of_instr}
use Rattle.rv_encoding.specs.declared.instr.Instr.{Instr}
use Rattle.rv_encoding.specs.declared.instr.Instr.TheVariants.{Lui, Auipc, Jal, Jalr, Branch, Load, Store, OpImm, ShiftImm, Op, Fence}
use Rattle.rv_encoding.specs.declared.instr.Instr.TheVariants.{Csr, CsrImm, Ecall, Ebreak, Sret, Mret, Wfi, SfenceVma}

-- a row of the listing has the mnemonic, the mask of the fixed bits, and the value of these bits
pub record Listed : Type 0 where
  -- the mnemonic
  pub name : List ℕ
  -- the mask of the fixed bits
  pub mask : ℕ
  -- the value of the fixed bits
  pub match : ℕ

-- `listed` is the row with this mnemonic, mask and value
abbrev pub listed : List ℕ → ℕ → ℕ → Listed
listed name mask match = record { name = name; mask = mask; match = match }

-- `listing` is the listing of RV32IM with Zicsr and the privileged instructions, row by row
unfoldable pub listing : List Listed
listing =
    -- RV32I
    listed (codes "lui") 0x0000007F 0x00000037
    ∷ listed (codes "auipc") 0x0000007F 0x00000017
    ∷ listed (codes "jal") 0x0000007F 0x0000006F
    ∷ listed (codes "jalr") 0x0000707F 0x00000067
    ∷ listed (codes "beq") 0x0000707F 0x00000063
    ∷ listed (codes "bne") 0x0000707F 0x00001063
    ∷ listed (codes "blt") 0x0000707F 0x00004063
    ∷ listed (codes "bge") 0x0000707F 0x00005063
    ∷ listed (codes "bltu") 0x0000707F 0x00006063
    ∷ listed (codes "bgeu") 0x0000707F 0x00007063
    ∷ listed (codes "lb") 0x0000707F 0x00000003
    ∷ listed (codes "lh") 0x0000707F 0x00001003
    ∷ listed (codes "lw") 0x0000707F 0x00002003
    ∷ listed (codes "lbu") 0x0000707F 0x00004003
    ∷ listed (codes "lhu") 0x0000707F 0x00005003
    ∷ listed (codes "sb") 0x0000707F 0x00000023
    ∷ listed (codes "sh") 0x0000707F 0x00001023
    ∷ listed (codes "sw") 0x0000707F 0x00002023
    ∷ listed (codes "addi") 0x0000707F 0x00000013
    ∷ listed (codes "slti") 0x0000707F 0x00002013
    ∷ listed (codes "sltiu") 0x0000707F 0x00003013
    ∷ listed (codes "xori") 0x0000707F 0x00004013
    ∷ listed (codes "ori") 0x0000707F 0x00006013
    ∷ listed (codes "andi") 0x0000707F 0x00007013
    ∷ listed (codes "slli") 0xFE00707F 0x00001013
    ∷ listed (codes "srli") 0xFE00707F 0x00005013
    ∷ listed (codes "srai") 0xFE00707F 0x40005013
    ∷ listed (codes "add") 0xFE00707F 0x00000033
    ∷ listed (codes "sub") 0xFE00707F 0x40000033
    ∷ listed (codes "sll") 0xFE00707F 0x00001033
    ∷ listed (codes "slt") 0xFE00707F 0x00002033
    ∷ listed (codes "sltu") 0xFE00707F 0x00003033
    ∷ listed (codes "xor") 0xFE00707F 0x00004033
    ∷ listed (codes "srl") 0xFE00707F 0x00005033
    ∷ listed (codes "sra") 0xFE00707F 0x40005033
    ∷ listed (codes "or") 0xFE00707F 0x00006033
    ∷ listed (codes "and") 0xFE00707F 0x00007033
    ∷ listed (codes "fence") 0x0000707F 0x0000000F
    ∷ listed (codes "ecall") 0xFFFFFFFF 0x00000073
    ∷ listed (codes "ebreak") 0xFFFFFFFF 0x00100073
    -- Zicsr
    ∷ listed (codes "csrrw") 0x0000707F 0x00001073
    ∷ listed (codes "csrrs") 0x0000707F 0x00002073
    ∷ listed (codes "csrrc") 0x0000707F 0x00003073
    ∷ listed (codes "csrrwi") 0x0000707F 0x00005073
    ∷ listed (codes "csrrsi") 0x0000707F 0x00006073
    ∷ listed (codes "csrrci") 0x0000707F 0x00007073
    -- RV32M
    ∷ listed (codes "mul") 0xFE00707F 0x02000033
    ∷ listed (codes "mulh") 0xFE00707F 0x02001033
    ∷ listed (codes "mulhsu") 0xFE00707F 0x02002033
    ∷ listed (codes "mulhu") 0xFE00707F 0x02003033
    ∷ listed (codes "div") 0xFE00707F 0x02004033
    ∷ listed (codes "divu") 0xFE00707F 0x02005033
    ∷ listed (codes "rem") 0xFE00707F 0x02006033
    ∷ listed (codes "remu") 0xFE00707F 0x02007033
    -- privileged
    ∷ listed (codes "sret") 0xFFFFFFFF 0x10200073
    ∷ listed (codes "mret") 0xFFFFFFFF 0x30200073
    ∷ listed (codes "wfi") 0xFFFFFFFF 0x10500073
    ∷ listed (codes "sfence.vma") 0xFE007FFF 0x12000073
    ∷ []

-- `name_of` is the name of an instruction
abbrev pub name_of : Instr → List ℕ
name_of (Lui rd imm) = codes "lui"
name_of (Auipc rd imm) = codes "auipc"
name_of (Jal rd offset) = codes "jal"
name_of (Jalr rd rs1 offset) = codes "jalr"
name_of (Branch kind rs1 rs2 offset) = branch_name kind
name_of (Load kind rd rs1 offset) = load_name kind
name_of (Store kind rs1 rs2 offset) = store_name kind
name_of (OpImm kind rd rs1 imm) = op_imm_name kind
name_of (ShiftImm kind rd rs1 shamt) = shift_name kind
name_of (Op kind rd rs1 rs2) = op_name kind
name_of (Fence fm pred succ rd rs1) = codes "fence"
name_of (Csr kind rd rs1 csr) = csr_name kind
name_of (CsrImm kind rd uimm csr) = csr_imm_name kind
name_of Ecall = codes "ecall"
name_of Ebreak = codes "ebreak"
name_of Sret = codes "sret"
name_of Mret = codes "mret"
name_of Wfi = codes "wfi"
name_of (SfenceVma rs1 rs2) = codes "sfence.vma"

-- `listed_of` is the line of the listing for an instruction
abbrev pub listed_of : Instr → Listed
listed_of instr = listed (name_of instr) (row_of_instr instr).mask (row_of_instr instr).match

-- the listing has this line
abbrev pub IsListed : Instr → Type 0
IsListed instr = (place : ℕ) × (slice_get listing place ≡ Some (listed_of instr))
