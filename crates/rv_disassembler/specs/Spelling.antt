-- The disassembly of each word, in the assembly language of the RISC-V Unprivileged ISA (20191213, chapters 24 and 25). Chapter 24 defines the
-- mnemonics, and chapter 25 the registers and the letters of fences. No standard defines the layout of a line: the blanks, the commas and the
-- form of numbers are this project's own.
use Rattle.std.specs.Prelude.{ℕ, ◌-◌, ◌/◌, ◌%◌, ◌^◌, ◌==◌, Bool, true, false, ◌&&◌, List, [], ◌∷◌, ◌++◌, codes, decimal, nat_lt, if◌then◌else◌}
use Rattle.std.specs.Fmt.{digits}
use Rattle.std.specs.List.{join_by}
use Rattle.rv_word.specs.Cases.{option_case}
use Rattle.rv_encoding.specs.Decoding.{decoded}
use Rattle.rv_encoding.specs.Listing.{name_of}
use Rattle.rv_encoding.specs.declared.instr.Instr.{Instr}
use Rattle.rv_encoding.specs.declared.instr.Instr.TheVariants.{Lui, Auipc, Jal, Jalr, Branch, Load, Store, OpImm, ShiftImm, Op, Fence}
use Rattle.rv_encoding.specs.declared.instr.Instr.TheVariants.{Csr, CsrImm, Ecall, Ebreak, Sret, Mret, Wfi, SfenceVma}
use Rattle.rv_text.specs.Digits.{hex3, hex8}

-- ---- operands

-- a register by its number
abbrev pub register_operand_text : ℕ → List ℕ
register_operand_text number = codes "x" ++ decimal number

-- a number in hexadecimal, lower case, without leading zeros
abbrev pub hex_text : ℕ → List ℕ
hex_text n = codes "0x" ++ digits 16 false n

-- a control and status register by its number
abbrev pub csr_operand_text : ℕ → List ℕ
csr_operand_text number = codes "0x" ++ hex3 number

-- the signed number of a field of `width` bits, in two's complement
abbrev pub signed_text : ℕ → ℕ → List ℕ
signed_text width field = if nat_lt field (2 ^ (width - 1)) then decimal field else codes "-" ++ decimal (2 ^ width - field)

-- a signed offset of 12 bits and a base register
abbrev pub address_text : ℕ → ℕ → List ℕ
address_text offset base = signed_text 12 offset ++ codes "(" ++ register_operand_text base ++ codes ")"

-- the letter if the set has the bit, otherwise nothing
abbrev pub letter_text : ℕ → ℕ → List ℕ → List ℕ
letter_text set bit letter = if set / bit % 2 == 1 then letter else []

-- the accesses on one side of a fence: device input and output, memory reads and writes
abbrev pub accesses_text : ℕ → List ℕ
accesses_text set =
    if set == 0 then codes "0"
    else letter_text set 8 (codes "i") ++ letter_text set 4 (codes "o") ++ letter_text set 2 (codes "r") ++ letter_text set 1 (codes "w")

-- the operands of an instruction, in their order
abbrev pub operand_texts : Instr → List (List ℕ)
operand_texts (Lui rd imm) = register_operand_text rd ∷ hex_text (imm / 2 ^ 12) ∷ []
operand_texts (Auipc rd imm) = register_operand_text rd ∷ hex_text (imm / 2 ^ 12) ∷ []
operand_texts (Jal rd offset) = register_operand_text rd ∷ signed_text 21 offset ∷ []
operand_texts (Jalr rd rs1 offset) = register_operand_text rd ∷ address_text offset rs1 ∷ []
operand_texts (Branch kind rs1 rs2 offset) = register_operand_text rs1 ∷ register_operand_text rs2 ∷ signed_text 13 offset ∷ []
operand_texts (Load kind rd rs1 offset) = register_operand_text rd ∷ address_text offset rs1 ∷ []
operand_texts (Store kind rs1 rs2 offset) = register_operand_text rs2 ∷ address_text offset rs1 ∷ []
operand_texts (OpImm kind rd rs1 imm) = register_operand_text rd ∷ register_operand_text rs1 ∷ signed_text 12 imm ∷ []
operand_texts (ShiftImm kind rd rs1 shamt) = register_operand_text rd ∷ register_operand_text rs1 ∷ decimal shamt ∷ []
operand_texts (Op kind rd rs1 rs2) = register_operand_text rd ∷ register_operand_text rs1 ∷ register_operand_text rs2 ∷ []
operand_texts (Fence fm pred succ rd rs1) = accesses_text pred ∷ accesses_text succ ∷ []
operand_texts (Csr kind rd rs1 csr) = register_operand_text rd ∷ csr_operand_text csr ∷ register_operand_text rs1 ∷ []
operand_texts (CsrImm kind rd uimm csr) = register_operand_text rd ∷ csr_operand_text csr ∷ decimal uimm ∷ []
operand_texts Ecall = []
operand_texts Ebreak = []
operand_texts Sret = []
operand_texts Mret = []
operand_texts Wfi = []
operand_texts (SfenceVma rs1 rs2) = register_operand_text rs1 ∷ register_operand_text rs2 ∷ []

-- ---- lines

-- a mnemonic, followed by a blank and the operands if there are any; operands are separated by a comma and a blank
unfoldable pub line_text : List ℕ → List (List ℕ) → List ℕ
line_text name [] = name
line_text name (first ∷ more) = name ++ codes " " ++ join_by (λ operand. operand) (codes ", ") (first ∷ more)

-- the text of an instruction: its mnemonic and operands
unfoldable pub instr_text : Instr → List ℕ
instr_text instr = line_text (name_of instr) (operand_texts instr)

-- the text of a word as a number of eight digits
unfoldable pub word_text : ℕ → List ℕ
word_text word = line_text (codes ".word") ((codes "0x" ++ hex8 word) ∷ [])

-- whether the operands determine the instruction: the operands of a fence do not have its mode and register fields, so these must be 0
abbrev pub is_told_by_operands : Instr → Bool
is_told_by_operands (Fence fm pred succ rd rs1) = (fm == 0) && (rd == 0) && (rs1 == 0)
is_told_by_operands _ = true

-- the disassembly of a word: its instruction, or `.word` and its number if it is no instruction or the operands do not determine it
unfoldable pub spelling : ℕ → List ℕ
spelling word =
    option_case (decoded word) (word_text word)
    (λ instr. if is_told_by_operands instr then instr_text instr else word_text word)
