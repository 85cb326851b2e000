-- Each mnemonic that the disassembler writes is a piece of a line, and is read back as the same mnemonic.
use Rattle.std.proofs.Common.{◌≡◌, ℕ, true, List, ◌∷◌, ◌++◌, arith}
use Rattle.rv_encoding.specs.Listing.{name_of}
use Rattle.rv_encoding.specs.declared.instr.Instr.{Instr}
use Rattle.rv_encoding.specs.declared.instr.Instr.TheVariants as instr
use Rattle.rv_asm.specs.Cuts.{operands_in, is_name, is_name_byte}
use Rattle.rv_asm.specs.Mnemonics.{mnemonics}
use Rattle.rv_asm.specs.Statements.{statement_at, statement_of}
use Rattle.rv_asm.specs.declared.mnemonic.Mnemonic.{Mnemonic}
use Rattle.rv_asm.specs.declared.mnemonic.Mnemonic.TheVariants as mnemonic
use Rattle.rv_asm.proofs.Plain.{is_piece, IsPiece, IsPiece-from_test}
use Rattle.rv_text.specs.Characters.{space}

-- ---- the mnemonic of an instruction

-- each instruction has a mnemonic
abbrev pub mnemonic_of : Instr → Mnemonic
mnemonic_of (instr.Lui rd imm) = mnemonic.Lui
mnemonic_of (instr.Auipc rd imm) = mnemonic.Auipc
mnemonic_of (instr.Jal rd offset) = mnemonic.Jal
mnemonic_of (instr.Jalr rd rs1 offset) = mnemonic.Jalr
mnemonic_of (instr.Branch kind rs1 rs2 offset) = mnemonic.Branch kind
mnemonic_of (instr.Load kind rd rs1 offset) = mnemonic.Load kind
mnemonic_of (instr.Store kind rs1 rs2 offset) = mnemonic.Store kind
mnemonic_of (instr.OpImm kind rd rs1 imm) = mnemonic.OpImm kind
mnemonic_of (instr.ShiftImm kind rd rs1 shamt) = mnemonic.ShiftImm kind
mnemonic_of (instr.Op kind rd rs1 rs2) = mnemonic.Op kind
mnemonic_of (instr.Fence fm pred succ rd rs1) = mnemonic.Fence
mnemonic_of (instr.Csr kind rd rs1 csr) = mnemonic.Csr kind
mnemonic_of (instr.CsrImm kind rd uimm csr) = mnemonic.CsrImm kind
mnemonic_of instr.Ecall = mnemonic.Ecall
mnemonic_of instr.Ebreak = mnemonic.Ebreak
mnemonic_of instr.Sret = mnemonic.Sret
mnemonic_of instr.Mret = mnemonic.Mret
mnemonic_of instr.Wfi = mnemonic.Wfi
mnemonic_of (instr.SfenceVma rs1 rs2) = mnemonic.SfenceVma

-- ---- the mnemonic is a piece of a line

-- the name of each instruction passes the test of a piece, which is computed for each name
name-passes-test : (instruction : Instr) → is_piece (name_of instruction) ≡ true
name-passes-test instruction = grind arith

-- the name of each instruction is a piece
pub piece-name : (instruction : Instr) → IsPiece (name_of instruction)
piece-name instruction = IsPiece-from_test (name_of instruction) (name-passes-test instruction)

-- ---- the mnemonic is read back

-- A statement whose mnemonic is followed by a blank (32) is read as this mnemonic with the operands after it. Each mnemonic is a constant text, so
-- each case holds by computation.
pub mnemonic-read-back : (instruction : Instr) (rest : List ℕ)
    → statement_at (name_of instruction ++ space ∷ rest) ≡ statement_of (mnemonic_of instruction) (operands_in (space ∷ rest))
unfolding statement_at mnemonics is_name is_name_byte
mnemonic-read-back instruction rest = grind arith
