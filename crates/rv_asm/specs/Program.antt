-- The words of an assembler text, or its error. (This project's own assembler; RISC-V Unprivileged ISA 20191213, chapter 24, defines the words
-- of instructions.)
use Rattle.std.specs.Prelude.{ℕ, ◌+◌, ◌-◌, ◌*◌, ◌%◌, ◌^◌, ◌==◌, ◌||◌, Bool, false, nat_lt, nat_le, List, [], ◌∷◌, ◌++◌, length}
use Rattle.std.specs.Prelude.{map, sum_by, Option, Some, None, is_some, Result, Ok, Err, if◌then◌else◌}
use Rattle.std.specs.Option.{ok_or}
use Rattle.std.specs.Str.{bytes_eq}
use Rattle.rv_word.specs.BitFields.{sign_extended}
use Rattle.rv_word.specs.Cases.{option_case, result_case}
use Rattle.rv_encoding.specs.Rows.{word_of}
use Rattle.rv_encoding.specs.declared.kind.OpImmKind.TheVariants.{Addi}
use Rattle.rv_encoding.specs.declared.instr.Instr.{Instr}
use Rattle.rv_encoding.specs.declared.instr.Instr.TheVariants.{Lui, Jal, Branch, OpImm}
use Rattle.rv_asm.specs.LineReading.{line_read}
use Rattle.rv_text.specs.Lines.{lines_of}
use Rattle.rv_asm.specs.Numbers.{plus, minus}
use Rattle.rv_asm.specs.OperandRanges.{jump_offset_of, branch_offset_of}
use Rattle.rv_asm.specs.Statements.{◌>>=◌}
use Rattle.rv_asm.specs.declared.line.Line.{Line}
use Rattle.rv_asm.specs.declared.number.Number.{Number}
use Rattle.rv_asm.specs.declared.statement.Statement.{Statement}
use Rattle.rv_asm.specs.declared.statement.Statement.TheVariants.{Instruction, JumpTo, BranchTo, Li, Word}
use Rattle.rv_asm.specs.declared.fault.AsmFault.{AsmFault}
use Rattle.rv_asm.specs.declared.fault.AsmFaultKind.{AsmFaultKind}
use Rattle.rv_asm.specs.declared.fault.AsmFaultKind.TheVariants.{UnknownLabel, LabelTwice, TooLong}

-- ---- the words of a statement

-- `is_short` states whether the signed value of a word is from -2048 to 2047, so that one addi loads the word
abbrev pub is_short : ℕ → Bool
is_short value = nat_lt value 2048 || nat_le (2 ^ 32 - 2048) value

-- the value that lui must give so that an addi of the low 12 bits completes it
abbrev pub without_low_part : ℕ → ℕ
without_low_part value = (value + 2 ^ 32 - sign_extended value 12) % 2 ^ 32

-- The instructions of `li`. A short value has one addi. Otherwise a lui loads the word minus its low part, the sign-extended low twelve bits, and an
-- addi adds the low part unless it is 0.
unfoldable pub li_code : ℕ → ℕ → List Instr
li_code rd value =
    if is_short value then OpImm Addi rd 0 (value % 2 ^ 12) ∷ []
    else Lui rd (without_low_part value) ∷ (if value % 2 ^ 12 == 0 then [] else OpImm Addi rd rd (value % 2 ^ 12) ∷ [])

-- `statement_size` is the number of words of a statement
unfoldable pub statement_size : Statement → ℕ
statement_size (Instruction instruction) = 1
statement_size (JumpTo rd name) = 1
statement_size (BranchTo kind rs1 rs2 name) = 1
statement_size (Li rd value) = length (li_code rd value)
statement_size (Word word) = 1

-- `distance` is the distance from one address to another, in bytes; addresses count words
abbrev pub distance : ℕ → ℕ → Number
distance from to = if nat_lt to from then minus (4 * (from - to)) else plus (4 * (to - from))

-- `statement_words` has the words of a statement at an address, with these addresses of the labels
unfoldable pub statement_words : (List ℕ → Option ℕ) → ℕ → Statement → Result (List ℕ) AsmFaultKind
statement_words labels place (Instruction instruction) = Ok (word_of instruction ∷ [])
statement_words labels place (JumpTo rd name) = do
  target ← ok_or (labels name) UnknownLabel
  offset ← jump_offset_of (distance place target)
  Ok (word_of (Jal rd offset) ∷ [])
statement_words labels place (BranchTo kind rs1 rs2 name) = do
  target ← ok_or (labels name) UnknownLabel
  offset ← branch_offset_of (distance place target)
  Ok (word_of (Branch kind rs1 rs2 offset) ∷ [])
statement_words labels place (Li rd value) = Ok (map word_of (li_code rd value))
statement_words labels place (Word word) = Ok (word ∷ [])

-- ---- lines, each an error or its content

-- a line is read as its label and statement, or as its error
abbrev pub Reading : Type 0
Reading = Result Line AsmFaultKind

-- `readings` has the readings of all lines of a text
abbrev pub readings : List ℕ → List Reading
readings text = map line_read (lines_of text)

-- `line_size` is the number of words of a line
abbrev pub line_size : Reading → ℕ
line_size (Ok line) = option_case line.statement 0 statement_size
line_size (Err kind) = 0

-- `words_in` is the number of words of the lines, which is the address of the line after them
abbrev pub words_in : List Reading → ℕ
words_in lines = sum_by line_size lines

-- `is_label` states whether the label, if there is one, is this name
abbrev pub is_label : List ℕ → Option (List ℕ) → Bool
is_label name None = false
is_label name (Some label) = bytes_eq label name

-- `has_label` states whether a line has the label with this name
abbrev pub has_label : List ℕ → Reading → Bool
has_label name (Ok line) = is_label name line.label
has_label name (Err kind) = false

-- `place_from` is the address of a label: that of the first line that has it; `before` has the lines before these
abbrev pub place_from : List Reading → List Reading → List ℕ → Option ℕ
place_from before [] name = None
place_from before (line ∷ lines) name =
    if has_label name line then Some (words_in before) else place_from (before ++ line ∷ []) lines name

-- `place_in` is the address of a label: that of the first line that has it
abbrev pub place_in : List Reading → List ℕ → Option ℕ
place_in lines name = place_from [] lines name

-- `line_words` has the words of a line at an address
abbrev pub line_words : (List ℕ → Option ℕ) → ℕ → Reading → Result (List ℕ) AsmFaultKind
line_words labels place (Ok line) = option_case line.statement (Ok []) (statement_words labels place)
line_words labels place (Err kind) = Err kind

-- ---- the error of a text

-- `own_fault` is the error of a line by itself, or `TooLong` if there are more than 65536 words with it
abbrev pub own_fault : List Reading → Reading → Option AsmFaultKind
own_fault before (Ok line) = if nat_lt 65536 (words_in before + line_size (Ok line)) then Some TooLong else None
own_fault before (Err kind) = Some kind

-- `repeated_name` is the error of a label that a line before has
abbrev pub repeated_name : List Reading → Option (List ℕ) → Option AsmFaultKind
repeated_name before None = None
repeated_name before (Some name) = if is_some (place_in before name) then Some LabelTwice else None

-- `label_fault` is the error of the label of a line, if a line before has the label too
abbrev pub label_fault : List Reading → Reading → Option AsmFaultKind
label_fault before (Ok line) = repeated_name before line.label
label_fault before (Err kind) = None

-- `name_fault` is the error of the label that a line uses
abbrev pub name_fault : (List ℕ → Option ℕ) → List Reading → Reading → Option AsmFaultKind
name_fault labels before line = result_case (line_words labels (words_in before) line) (λ words. None) Some

-- the first error of these lines, in their order; `before` has the lines before these, and lines are counted from 1
abbrev pub first_line_fault : (List Reading → Reading → Option AsmFaultKind) → List Reading → List Reading → Option AsmFault
first_line_fault fault before [] = None
first_line_fault fault before (line ∷ lines) =
    option_case (fault before line) (first_line_fault fault (before ++ line ∷ []) lines)
    (λ kind. Some (record { line = length before + 1; kind = kind }))

-- the lines have the first error of a line by itself; otherwise the first repeated label; otherwise the first error of a used label
abbrev pub fault_in : List Reading → Option AsmFault
fault_in lines =
    option_case (first_line_fault own_fault [] lines)
    (option_case (first_line_fault label_fault [] lines) (first_line_fault (name_fault (place_in lines)) [] lines) Some) Some

-- ---- the words of a text

-- `words_or_none` has the words of a line, or none if it has an error
abbrev pub words_or_none : Result (List ℕ) AsmFaultKind → List ℕ
words_or_none words = result_case words (λ found. found) (λ kind. [])

-- `words_from` has the words of these lines, one line after another; `before` has the lines before these
abbrev pub words_from : (List ℕ → Option ℕ) → List Reading → List Reading → List ℕ
words_from labels before [] = []
words_from labels before (line ∷ lines) =
    words_or_none (line_words labels (words_in before) line) ++ words_from labels (before ++ line ∷ []) lines

-- `words_of_lines` has the words of all lines, with the labels of these lines
abbrev pub words_of_lines : List Reading → List ℕ
words_of_lines lines = words_from (place_in lines) [] lines

-- `assembled` has the words of a text, or its error
unfoldable pub assembled : List ℕ → Result (List ℕ) AsmFault
assembled text = option_case (fault_in (readings text)) (Ok (words_of_lines (readings text))) Err
