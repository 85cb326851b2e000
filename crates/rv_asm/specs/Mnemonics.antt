-- The mnemonics: the names of the instructions, and four more of the assembler. RISC-V Unprivileged ISA 20191213, chapters 24 and 25; Privileged
-- Architecture 20211203, chapter "RISC-V Privileged Instruction Set Listings".
use Rattle.std.specs.Prelude.{ℕ, List, [], ◌∷◌, ◌++◌, map, codes, Option}
use Rattle.rv_encoding.specs.Codes.{branch_name, load_name, store_name, op_imm_name, shift_name, op_name, csr_name, csr_imm_name}
use Rattle.rv_encoding.specs.Codes.{branch_kinds, load_kinds, store_kinds, op_imm_kinds, shift_kinds, rv32i_op_kinds, rv32m_op_kinds, csr_kinds}
use Rattle.rv_encoding.specs.Listing.{name_of}
use Rattle.rv_encoding.specs.declared.instr.Instr.TheVariants as instr
use Rattle.rv_asm.specs.Tables.{looked_up}
use Rattle.rv_asm.specs.declared.mnemonic.Mnemonic.{Mnemonic}
use Rattle.rv_asm.specs.declared.mnemonic.Mnemonic.TheVariants.{Lui, Auipc, Jal, Jalr, Branch, Load, Store, OpImm, ShiftImm, Op, Fence, Csr, CsrImm}
use Rattle.rv_asm.specs.declared.mnemonic.Mnemonic.TheVariants.{Ecall, Ebreak, Sret, Mret, Wfi, SfenceVma, Word, Nop, Ret, Li}

-- `mnemonic_name` is the name of each mnemonic: that of its instructions in the listing, or one of four names of the assembler
abbrev pub mnemonic_name : Mnemonic → List ℕ
mnemonic_name Lui = name_of (instr.Lui 0 0)
mnemonic_name Auipc = name_of (instr.Auipc 0 0)
mnemonic_name Jal = name_of (instr.Jal 0 0)
mnemonic_name Jalr = name_of (instr.Jalr 0 0 0)
mnemonic_name (Branch kind) = branch_name kind
mnemonic_name (Load kind) = load_name kind
mnemonic_name (Store kind) = store_name kind
mnemonic_name (OpImm kind) = op_imm_name kind
mnemonic_name (ShiftImm kind) = shift_name kind
mnemonic_name (Op kind) = op_name kind
mnemonic_name Fence = name_of (instr.Fence 0 0 0 0 0)
mnemonic_name Ecall = name_of instr.Ecall
mnemonic_name Ebreak = name_of instr.Ebreak
mnemonic_name (Csr kind) = csr_name kind
mnemonic_name (CsrImm kind) = csr_imm_name kind
mnemonic_name Sret = name_of instr.Sret
mnemonic_name Mret = name_of instr.Mret
mnemonic_name Wfi = name_of instr.Wfi
mnemonic_name SfenceVma = name_of (instr.SfenceVma 0 0)
mnemonic_name Word = codes ".word"
mnemonic_name Nop = codes "nop"
mnemonic_name Ret = codes "ret"
mnemonic_name Li = codes "li"

-- `all_mnemonics` has every mnemonic of an instruction, in the order of the manual's listing
abbrev pub all_mnemonics : List Mnemonic
all_mnemonics =
    -- RV32I
    Lui ∷ Auipc ∷ Jal ∷ Jalr ∷ map Branch branch_kinds ++ map Load load_kinds ++ map Store store_kinds
    ++ map OpImm op_imm_kinds ++ map ShiftImm shift_kinds ++ map Op rv32i_op_kinds ++ Fence ∷ Ecall ∷ Ebreak
    -- Zicsr
    ∷ map Csr csr_kinds ++ map CsrImm csr_kinds
    -- the privileged instructions
    ++ Sret ∷ Mret ∷ Wfi ∷ SfenceVma
    -- RV32M
    ∷ map Op rv32m_op_kinds
    -- names that the assembler adds
    ++ Word ∷ Nop ∷ Ret ∷ Li ∷ []

-- `mnemonics` is the table of names, each with its mnemonic
unfoldable pub mnemonics : List (List ℕ × Mnemonic)
mnemonics = map (λ mnemonic. (mnemonic_name mnemonic, mnemonic)) all_mnemonics

-- the mnemonic of a name, if there is one; names are case-sensitive
abbrev pub mnemonic_named : List ℕ → Option Mnemonic
mnemonic_named name = looked_up mnemonics name
