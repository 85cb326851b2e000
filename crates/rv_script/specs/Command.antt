-- The commands of the bench: their syntax, and the command of each line. (This project's own commands.)
use Rattle.std.specs.Prelude.{ℕ, Bool, true, false, List, [], ◌∷◌, codes, find, Option, Some, None, Result, Ok, Err, option_and_then, option_map}
use Rattle.std.specs.Prelude.{nat_eq, if◌then◌else◌}
use Rattle.std.specs.Option.{ok_or}
use Rattle.std.specs.List.{starts_with}
use Rattle.std.specs.Str.{bytes_eq}
use Rattle.rv_text.specs.GoodLines.{is_good_line}
use Rattle.rv_text.specs.Words.{words_of}
use Rattle.rv_memory.specs.Blocks.{no_block}
use Rattle.rv_memory.specs.declared.block.Block.{Block}
use Rattle.rv_script.specs.Numbers.{hexadecimal_of, csr_number_of, byte_of_text, decimal_of}
use Rattle.rv_script.specs.Within.{within}
use Rattle.rv_script.specs.Schedules.{hart_named, schedule_of}
use Rattle.rv_pmp.specs.declared.access.Access.{Access}
use Rattle.rv_pmp.specs.declared.access.Access.TheVariants.{Fetch, Read, Write}
use Rattle.rv_pmp.specs.declared.mode.Mode.{Mode}
use Rattle.rv_pmp.specs.declared.mode.Mode.TheVariants.{U, S, M}
use Rattle.rv_word.specs.declared.width.Width.{Width}
use Rattle.rv_word.specs.declared.width.Width.TheVariants.{Byte, Half, Word}
use Rattle.rv_script.specs.declared.keyword.Keyword.{Keyword}
use Rattle.rv_script.specs.declared.keyword.Keyword.TheVariants as keyword
use Rattle.rv_script.specs.declared.command.Command.{Command}
use Rattle.rv_script.specs.declared.command.Command.TheVariants as command
use Rattle.rv_script.specs.declared.command.CommandFault.{CommandFault}
use Rattle.rv_script.specs.declared.command.CommandFault.TheVariants.{BadLine, UnknownCommand, BadOperand}

-- `decimal_within` is a decimal number in a range
abbrev pub decimal_within : ℕ → ℕ → List ℕ → Option ℕ
decimal_within low high operand = option_and_then (within low high) (decimal_of operand)

-- `register_of` is the number of a register, x0 to x31
abbrev pub register_of : List ℕ → Option ℕ
register_of operand = decimal_within 0 31 operand

-- `switch_of` is the truth value of a switch, `on` or `off`
abbrev pub switch_of : List ℕ → Option Bool
switch_of operand =
    if bytes_eq operand (codes "on") then Some true
    else (if bytes_eq operand (codes "off") then Some false else None)

-- `mode_of` is the mode with a letter
abbrev pub mode_of : List ℕ → Option Mode
mode_of operand =
    if bytes_eq operand (codes "M") then Some M
    else (if bytes_eq operand (codes "S") then Some S
    else (if bytes_eq operand (codes "U") then Some U else None))

-- `access_of` is the kind of access with the letter of the permission that it needs
abbrev pub access_of : List ℕ → Option Access
access_of operand =
    if bytes_eq operand (codes "r") then Some Read
    else (if bytes_eq operand (codes "w") then Some Write
    else (if bytes_eq operand (codes "x") then Some Fetch else None))

-- `width_of` is the width with a number of bytes, as one digit
abbrev pub width_of : List ℕ → Option Width
width_of operand =
    if bytes_eq operand (codes "1") then Some Byte
    else (if bytes_eq operand (codes "2") then Some Half
    else (if bytes_eq operand (codes "4") then Some Word else None))

-- a form has the operands of a command, and the command that they give: none, one, two, or four operands
pub data Form : Type 0 where
  NoOperand : (command : Command) → Form
  OneOperand : (make : List ℕ → Option Command) → Form
  TwoOperands : (make : List ℕ → List ℕ → Option Command) → Form
  FourOperands : (make : List ℕ → List ℕ → List ℕ → List ℕ → Option Command) → Form

-- `made` is the command of a form and its operands, or none if their number is wrong or one cannot be read
abbrev pub made : Form → List (List ℕ) → Option Command
made (NoOperand command) [] = Some command
made (OneOperand make) (first ∷ []) = make first
made (TwoOperands make) (first ∷ second ∷ []) = make first second
made (FourOperands make) (first ∷ second ∷ third ∷ fourth ∷ []) = make first second third fourth
made _ _ = None

-- `one` is the form of a command with one operand, which `read` reads
abbrev pub one : {A : Type 0} → (List ℕ → Option A) → (A → Command) → Form
one read make = OneOperand (λ operand. option_map make (read operand))

-- `two` is the form of a command with two operands, each with its reader
abbrev pub two : {A B : Type 0} → (List ℕ → Option A) → (List ℕ → Option B) → (A → B → Command) → Form
two read_first read_second make =
    TwoOperands (λ first second. option_and_then (λ first_value. option_map (make first_value) (read_second second)) (read_first first))

-- `four` is the form of a command with four operands, each with its reader
abbrev pub four : {A B C D : Type 0} → (List ℕ → Option A) → (List ℕ → Option B) → (List ℕ → Option C) → (List ℕ → Option D)
    → (A → B → C → D → Command) → Form
four read_first read_second read_third read_fourth make =
    FourOperands (λ first second third fourth.
    option_and_then (λ first_value. option_and_then (λ second_value. option_and_then (λ third_value.
    option_map (make first_value second_value third_value) (read_fourth fourth)) (read_third third)) (read_second second)) (read_first first))

-- a row of the table of commands has the first word and the operands
pub record CommandRow : Type 0 where
  -- the first word of the command
  pub spelling : List ℕ
  -- the operands, and the command that they give
  pub form : Form

-- `command_row` is the row of a keyword: its text, and the form of its operands
abbrev pub command_row : Keyword → CommandRow
command_row keyword.Step = record { spelling = codes "step"; form = one (decimal_within 1 1000000) command.Step }
command_row keyword.Run = record { spelling = codes "run"; form = one (decimal_within 1 1000000) command.Run }
command_row keyword.Break = record { spelling = codes "break"; form = one hexadecimal_of command.Break }
command_row keyword.Clear = record { spelling = codes "clear"; form = one hexadecimal_of command.Clear }
command_row keyword.Watch = record { spelling = codes "watch"; form = one hexadecimal_of command.Watch }
command_row keyword.Unwatch = record { spelling = codes "unwatch"; form = one hexadecimal_of command.Unwatch }
command_row keyword.Reg = record { spelling = codes "reg"; form = one register_of command.Reg }
command_row keyword.Regs = record { spelling = codes "regs"; form = NoOperand command.Regs }
command_row keyword.SetReg = record { spelling = codes "setreg"; form = two register_of hexadecimal_of command.SetReg }
command_row keyword.Csr = record { spelling = codes "csr"; form = one csr_number_of command.Csr }
command_row keyword.Mem = record { spelling = codes "mem"; form = two hexadecimal_of (decimal_within 1 64) command.Mem }
command_row keyword.Poke = record { spelling = codes "poke"; form = two hexadecimal_of byte_of_text command.Poke }
command_row keyword.Dis = record { spelling = codes "dis"; form = one hexadecimal_of command.Dis }
command_row keyword.Pmp = record { spelling = codes "pmp"; form = NoOperand command.Pmp }
command_row keyword.Enclaves = record { spelling = codes "enclaves"; form = NoOperand command.Enclaves }
command_row keyword.Access = record { spelling = codes "access"; form = four mode_of access_of hexadecimal_of width_of command.Access }
command_row keyword.Timer = record { spelling = codes "timer"; form = one switch_of command.Timer }
command_row keyword.Hart = record { spelling = codes "hart"; form = one hart_named command.Hart }
command_row keyword.Sched = record { spelling = codes "sched"; form = one schedule_of command.Sched }

-- `keywords` has all keywords
abbrev pub keywords : List Keyword
keywords =
    keyword.Step ∷ keyword.Run ∷ keyword.Sched ∷ keyword.Break ∷ keyword.Clear ∷ keyword.Watch ∷ keyword.Unwatch ∷ keyword.Reg ∷ keyword.Regs
    ∷ keyword.SetReg ∷ keyword.Csr ∷ keyword.Mem ∷ keyword.Poke ∷ keyword.Dis ∷ keyword.Pmp ∷ keyword.Enclaves ∷ keyword.Access ∷ keyword.Timer
    ∷ keyword.Hart ∷ []

-- `spelling_of` is the text of a keyword
abbrev pub spelling_of : Keyword → List ℕ
spelling_of k = (command_row k).spelling

-- `operands_of` is the command of a keyword and its operands
abbrev pub operands_of : Keyword → List (List ℕ) → Option Command
operands_of k = made (command_row k).form

-- `keyword_of` is the keyword with a text
unfoldable pub keyword_of : List ℕ → Option Keyword
keyword_of word = find (λ k. bytes_eq word (spelling_of k)) keywords

-- `named` is the command of a keyword, or the error of an unknown keyword or of bad operands
abbrev pub named : Option Keyword → List (List ℕ) → Result Command CommandFault
named None operands = Err UnknownCommand
named (Some k) operands = ok_or (operands_of k operands) BadOperand

-- the command of a list of words; an empty list and a comment are `Blank`
unfoldable pub meaning_of : List (List ℕ) → Result Command CommandFault
meaning_of [] = Ok command.Blank
meaning_of (name ∷ operands) = if starts_with nat_eq name (codes "#") then Ok command.Blank else named (keyword_of name) operands

-- `parse_of` is the command of a line, or the first of its errors
unfoldable pub parse_of : List ℕ → Result Command CommandFault
parse_of line = if is_good_line line then meaning_of (words_of line) else Err BadLine

-- `number_of_fault` is the number of an error, in the order in which the errors are checked
abbrev pub number_of_fault : CommandFault → ℕ
number_of_fault BadLine = 1
number_of_fault UnknownCommand = 2
number_of_fault BadOperand = 3

-- `bytes_named` has the bytes whose addresses are operands of a command
abbrev pub bytes_named : Command → Block
bytes_named (command.Mem address count) = record { base = address; size = count }
bytes_named (command.Dis address) = record { base = address; size = 4 }
bytes_named (command.Poke address byte) = record { base = address; size = 1 }
bytes_named _ = no_block
