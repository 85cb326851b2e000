-- The statement of a mnemonic and its operands (RISC-V Unprivileged ISA 20191213, chapters 24 and 25, in this project's grammar). The forms of
-- all operands are checked before the range of any.
use Rattle.std.specs.Prelude.{ℕ, List, [], ◌∷◌, Result, Ok, Err, if◌then◌else◌}
use Rattle.std.specs.Option.{ok_or}
use Rattle.rv_word.specs.Cases.{result_case}
use Rattle.rv_encoding.specs.declared.kind.BranchKind.{BranchKind}
use Rattle.rv_encoding.specs.declared.kind.OpImmKind.{OpImmKind}
use Rattle.rv_encoding.specs.declared.kind.OpImmKind.TheVariants.{Addi}
use Rattle.rv_encoding.specs.declared.kind.ShiftKind.{ShiftKind}
use Rattle.rv_encoding.specs.declared.kind.OpKind.{OpKind}
use Rattle.rv_encoding.specs.declared.kind.CsrKind.{CsrKind}
use Rattle.rv_encoding.specs.declared.instr.Instr.{Instr}
use Rattle.rv_encoding.specs.declared.instr.Instr.TheVariants as instr
use Rattle.rv_asm.specs.Cuts.{first_word, after_word, operands_in, is_name}
use Rattle.rv_asm.specs.Mnemonics.{mnemonic_named}
use Rattle.rv_asm.specs.Operands.{register_at, number_operand, csr_operand, address_operand, target_at, fence_set_at}
use Rattle.rv_asm.specs.OperandRanges.{immediate_of, upper_immediate_of, five_bits_of, csr_number_field, branch_offset_of, jump_offset_of, word_of_number}
use Rattle.rv_asm.specs.declared.mnemonic.Mnemonic.{Mnemonic}
use Rattle.rv_asm.specs.declared.mnemonic.Mnemonic.TheVariants as mnemonic
use Rattle.rv_asm.specs.declared.operand.Target.{Target}
use Rattle.rv_asm.specs.declared.operand.Target.TheVariants.{Label, Offset}
use Rattle.rv_asm.specs.declared.statement.Statement.{Statement}
use Rattle.rv_asm.specs.declared.statement.Statement.TheVariants.{Instruction, JumpTo, BranchTo, Li, Word}
use Rattle.rv_asm.specs.declared.fault.AsmFaultKind.{AsmFaultKind}
use Rattle.rv_asm.specs.declared.fault.AsmFaultKind.TheVariants.{BadText, UnknownName, BadOperand}

infixl 10 ◌>>=◌
abbrev pub ◌>>=◌ : {A B : Type 0} → Result A AsmFaultKind → (A → Result B AsmFaultKind) → Result B AsmFaultKind
read >>= next = result_case read next Err

-- lui and auipc have the operands `rd, n`
abbrev pub upper_operands : List (List ℕ) → Result (ℕ × ℕ) AsmFaultKind
upper_operands (rd ∷ number_text ∷ []) = do
  rd ← register_at rd
  number ← number_operand number_text
  imm ← upper_immediate_of number
  Ok (rd, imm)
upper_operands _ = Err BadOperand

-- a jump is written `jal rd, t`
abbrev pub jump_statement : ℕ → Target → Result Statement AsmFaultKind
jump_statement rd (Label name) = Ok (JumpTo rd name)
jump_statement rd (Offset number) = do
  offset ← jump_offset_of number
  Ok (Instruction (instr.Jal rd offset))

-- the statement of jal has a register and a target
abbrev pub jal_statement : List (List ℕ) → Result Statement AsmFaultKind
jal_statement (rd ∷ target_text ∷ []) = do
  rd ← register_at rd
  target ← target_at target_text
  jump_statement rd target
jal_statement _ = Err BadOperand

-- a branch is written `beq rs1, rs2, t`
abbrev pub branch : BranchKind → ℕ → ℕ → Target → Result Statement AsmFaultKind
branch kind rs1 rs2 (Label name) = Ok (BranchTo kind rs1 rs2 name)
branch kind rs1 rs2 (Offset number) = do
  offset ← branch_offset_of number
  Ok (Instruction (instr.Branch kind rs1 rs2 offset))

-- the statement of a branch has two registers and a target
abbrev pub branch_statement : BranchKind → List (List ℕ) → Result Statement AsmFaultKind
branch_statement kind (rs1 ∷ rs2 ∷ target_text ∷ []) = do
  rs1 ← register_at rs1
  rs2 ← register_at rs2
  target ← target_at target_text
  branch kind rs1 rs2 target
branch_statement kind _ = Err BadOperand

-- `r, n(rs1)` of jalr, loads and stores: r, rs1 and n
abbrev pub address_operands : List (List ℕ) → Result (ℕ × ℕ × ℕ) AsmFaultKind
address_operands (register ∷ address ∷ []) = do
  register ← register_at register
  address ← address_operand address
  offset ← immediate_of address.0
  Ok (register, address.1, offset)
address_operands _ = Err BadOperand

-- an instruction with an immediate is written `addi rd, rs1, n`
abbrev pub immediate_statement : OpImmKind → List (List ℕ) → Result Statement AsmFaultKind
immediate_statement kind (rd ∷ rs1 ∷ number_text ∷ []) = do
  rd ← register_at rd
  rs1 ← register_at rs1
  number ← number_operand number_text
  imm ← immediate_of number
  Ok (Instruction (instr.OpImm kind rd rs1 imm))
immediate_statement kind _ = Err BadOperand

-- a shift by an immediate is written `slli rd, rs1, n`
abbrev pub shift_statement : ShiftKind → List (List ℕ) → Result Statement AsmFaultKind
shift_statement kind (rd ∷ rs1 ∷ number_text ∷ []) = do
  rd ← register_at rd
  rs1 ← register_at rs1
  number ← number_operand number_text
  shamt ← five_bits_of number
  Ok (Instruction (instr.ShiftImm kind rd rs1 shamt))
shift_statement kind _ = Err BadOperand

-- `add rd, rs1, rs2`
abbrev pub register_statement : OpKind → List (List ℕ) → Result Statement AsmFaultKind
register_statement kind (rd ∷ rs1 ∷ rs2 ∷ []) = do
  rd ← register_at rd
  rs1 ← register_at rs1
  rs2 ← register_at rs2
  Ok (Instruction (instr.Op kind rd rs1 rs2))
register_statement kind _ = Err BadOperand

-- a fence is written `fence p, s`
abbrev pub fence_statement : List (List ℕ) → Result Statement AsmFaultKind
fence_statement (pred_text ∷ succ_text ∷ []) = do
  pred ← fence_set_at pred_text
  succ ← fence_set_at succ_text
  Ok (Instruction (instr.Fence 0 pred succ 0 0))
fence_statement _ = Err BadOperand

-- a CSR instruction with a register is written `csrrw rd, c, rs1`
abbrev pub csr_statement : CsrKind → List (List ℕ) → Result Statement AsmFaultKind
csr_statement kind (rd ∷ csr_text ∷ rs1 ∷ []) = do
  rd ← register_at rd
  number ← csr_operand csr_text
  rs1 ← register_at rs1
  csr ← csr_number_field number
  Ok (Instruction (instr.Csr kind rd rs1 csr))
csr_statement kind _ = Err BadOperand

-- a CSR instruction with an immediate is written `csrrwi rd, c, n`
abbrev pub csr_immediate_statement : CsrKind → List (List ℕ) → Result Statement AsmFaultKind
csr_immediate_statement kind (rd ∷ csr_text ∷ number_text ∷ []) = do
  rd ← register_at rd
  number ← csr_operand csr_text
  immediate ← number_operand number_text
  csr ← csr_number_field number
  uimm ← five_bits_of immediate
  Ok (Instruction (instr.CsrImm kind rd uimm csr))
csr_immediate_statement kind _ = Err BadOperand

-- sfence.vma is written `sfence.vma rs1, rs2`
abbrev pub sfence_statement : List (List ℕ) → Result Statement AsmFaultKind
sfence_statement (rs1 ∷ rs2 ∷ []) = do
  rs1 ← register_at rs1
  rs2 ← register_at rs2
  Ok (Instruction (instr.SfenceVma rs1 rs2))
sfence_statement _ = Err BadOperand

-- `plain_statement` is the statement of a mnemonic without operands
abbrev pub plain_statement : Instr → List (List ℕ) → Result Statement AsmFaultKind
plain_statement instruction [] = Ok (Instruction instruction)
plain_statement instruction _ = Err BadOperand

-- a word is written `.word n`
abbrev pub word_statement : List (List ℕ) → Result Statement AsmFaultKind
word_statement (number_text ∷ []) = do
  number ← number_operand number_text
  word ← word_of_number number
  Ok (Word word)
word_statement _ = Err BadOperand

-- a load of a number is written `li rd, n`
abbrev pub li_statement : List (List ℕ) → Result Statement AsmFaultKind
li_statement (rd ∷ number_text ∷ []) = do
  rd ← register_at rd
  number ← number_operand number_text
  word ← word_of_number number
  Ok (Li rd word)
li_statement _ = Err BadOperand

-- `statement_of` is the table of statements, by mnemonic
abbrev pub statement_of : Mnemonic → List (List ℕ) → Result Statement AsmFaultKind
statement_of mnemonic.Lui operands = do
  read ← upper_operands operands
  Ok (Instruction (instr.Lui read.0 read.1))
statement_of mnemonic.Auipc operands = do
  read ← upper_operands operands
  Ok (Instruction (instr.Auipc read.0 read.1))
statement_of mnemonic.Jal operands = jal_statement operands
statement_of mnemonic.Jalr operands = do
  read ← address_operands operands
  Ok (Instruction (instr.Jalr read.0 read.1 read.2))
statement_of (mnemonic.Branch kind) operands = branch_statement kind operands
statement_of (mnemonic.Load kind) operands = do
  read ← address_operands operands
  Ok (Instruction (instr.Load kind read.0 read.1 read.2))
statement_of (mnemonic.Store kind) operands = do
  read ← address_operands operands
  Ok (Instruction (instr.Store kind read.1 read.0 read.2))
statement_of (mnemonic.OpImm kind) operands = immediate_statement kind operands
statement_of (mnemonic.ShiftImm kind) operands = shift_statement kind operands
statement_of (mnemonic.Op kind) operands = register_statement kind operands
statement_of mnemonic.Fence operands = fence_statement operands
statement_of (mnemonic.Csr kind) operands = csr_statement kind operands
statement_of (mnemonic.CsrImm kind) operands = csr_immediate_statement kind operands
statement_of mnemonic.Ecall operands = plain_statement instr.Ecall operands
statement_of mnemonic.Ebreak operands = plain_statement instr.Ebreak operands
statement_of mnemonic.Sret operands = plain_statement instr.Sret operands
statement_of mnemonic.Mret operands = plain_statement instr.Mret operands
statement_of mnemonic.Wfi operands = plain_statement instr.Wfi operands
statement_of mnemonic.SfenceVma operands = sfence_statement operands
statement_of mnemonic.Word operands = word_statement operands
-- addi x0, x0, 0
statement_of mnemonic.Nop operands = plain_statement (instr.OpImm Addi 0 0 0) operands
-- jalr x0, 0(x1)
statement_of mnemonic.Ret operands = plain_statement (instr.Jalr 0 1 0) operands
statement_of mnemonic.Li operands = li_statement operands

-- `mnemonic_at` is the mnemonic of the first word of a statement
abbrev pub mnemonic_at : List ℕ → Result Mnemonic AsmFaultKind
mnemonic_at word = if is_name word then ok_or (mnemonic_named word) UnknownName else Err BadText

-- `statement_at` is the statement of a text without leading blanks
unfoldable pub statement_at : List ℕ → Result Statement AsmFaultKind
statement_at text = do
  mnemonic ← mnemonic_at (first_word text)
  statement_of mnemonic (operands_in (after_word text))
