-- The lines at which the assembler may run out of memory. (This project's own assembler.)
use Rattle.std.specs.Prelude.{◌≡◌, ◌⊎◌, ◌<◌, ℕ, ◌+◌, ◌-◌, Bool, true, false, is_some, List, [], ◌∷◌, ◌++◌, length, take, Some, None, Ok, Err}
use Rattle.rv_asm.specs.Program.{Reading, readings, own_fault, label_fault, name_fault, first_line_fault, place_in, words_in, assembled}
use Rattle.rv_asm.specs.declared.fault.AsmFault.{AsmFault}
use Rattle.rv_asm.specs.declared.fault.AsmFaultKind.{AsmFaultKind}
use Rattle.rv_asm.specs.declared.fault.AsmFaultKind.TheVariants.{NoMemory}

-- `is_labelled` states whether a line that can be read has a label
abbrev pub is_labelled : Reading → Bool
is_labelled (Ok line) = is_some line.label
is_labelled (Err kind) = false

-- memory is exhausted at the label of a line, which has no error of its own and whose label does not repeat one
pub record OutOfMemoryAt (before : List Reading) (line : Reading) (kind : AsmFaultKind) : Type 0 where
  -- the error is that memory is exhausted
  pub memory : kind ≡ NoMemory
  -- the line has a label
  pub labelled : is_labelled line ≡ true
  -- the line has no error of its own
  pub own : own_fault before line ≡ None
  -- the label repeats no earlier label
  pub label : label_fault before line ≡ None

-- a line has this error of its own, or memory is exhausted at its label
abbrev pub FailsAt : List Reading → Reading → AsmFaultKind → Type 0
FailsAt before line kind = (own_fault before line ≡ Some kind) ⊎ OutOfMemoryAt before line kind

-- memory is exhausted at the label of one of the lines, and no line before it has an error of its own
pub record OutOfMemoryForLabel (lines : List Reading) (fault : AsmFault) : Type 0 where
  -- the lines before
  pub before : List Reading
  -- the line at which memory is exhausted
  pub line : Reading
  -- the lines after
  pub after : List Reading
  -- these are the lines of the text
  pub split : lines ≡ before ++ line ∷ after
  -- the error has the number of the line, from 1
  pub number : fault.line ≡ length before + 1
  -- no line before has an error of its own
  pub none : first_line_fault own_fault [] before ≡ None
  -- memory is exhausted at the label of the line
  pub here : OutOfMemoryAt before line fault.kind

-- Memory is exhausted at the words of one of the lines, which has at least one. No line has an error of its own or repeats a label. No line up to
-- and including this one uses a label that is undefined or too far away.
pub record OutOfMemoryForWords (lines : List Reading) (fault : AsmFault) : Type 0 where
  -- the error is that memory is exhausted
  pub memory : fault.kind ≡ NoMemory
  -- the line has at least one word
  pub some : words_in (take (fault.line - 1) lines) < words_in (take fault.line lines)
  -- no line has an error of its own
  pub own : first_line_fault own_fault [] lines ≡ None
  -- no line repeats a label
  pub labels : first_line_fault label_fault [] lines ≡ None
  -- no line up to this line uses a label that is undefined or too far away
  pub names : first_line_fault (name_fault (place_in lines)) [] (take fault.line lines) ≡ None

-- memory is exhausted at a line of the text, and there is no error that has precedence
abbrev pub RunsOutOfMemory : List ℕ → AsmFault → Type 0
RunsOutOfMemory text fault = OutOfMemoryForLabel (readings text) fault ⊎ OutOfMemoryForWords (readings text) fault

-- the assembler fails for the text with this error: the error of the text, or that memory ran out
abbrev pub FailsFor : List ℕ → AsmFault → Type 0
FailsFor text fault = (assembled text ≡ Err fault) ⊎ RunsOutOfMemory text fault
