-- The errors of a command line, and their numbers. (This project's own command line.)
use Rattle.std.specs.Prelude.{◌≡◌, ⊤, ℕ, Bool, true, false, not}
use Rattle.std.specs.List.{list_any}
use Rattle.clap.specs.Kinds.{Kinds}
use Rattle.clap.specs.declared.error.kind.ErrorKind.{ErrorKind}
use Rattle.clap.specs.declared.error.kind.ErrorKind.TheVariants as kind
use Rattle.std.specs.declared.io.ErrorKind.{ErrorKind as IoErrorKind}
use Rattle.std.specs.declared.io.ErrorKind.TheVariants as io
use Rattle.rv_command_line.specs.declared.words_fault.WordsFault.{WordsFault}
use Rattle.rv_command_line.specs.declared.words_fault.WordsFault.TheVariants as fault

-- `words_fault_number` is a number for each kind of error, by which errors are compared
abbrev pub words_fault_number : WordsFault → ℕ
words_fault_number fault.Refused = 1
words_fault_number fault.NoMemory = 2
words_fault_number (fault.Help text) = 3

-- `unreadable` is the error of arguments that the system does not give
abbrev pub unreadable : IoErrorKind → WordsFault
unreadable io.OutOfMemory = fault.NoMemory
unreadable _ = fault.Refused

-- `is_help` states whether an error is the request for help
abbrev pub is_help : ErrorKind → Bool
is_help kind.DisplayHelp = true
is_help _ = false

-- the error is among these, as a mistake or as a request for help; memory may be exhausted for any arguments
abbrev pub IsFaultOf : Kinds → WordsFault → Type 0
IsFaultOf faults fault.Refused = list_any (λ fault. not (is_help fault)) faults ≡ true
IsFaultOf faults fault.NoMemory = ⊤
IsFaultOf faults (fault.Help text) = list_any is_help faults ≡ true
