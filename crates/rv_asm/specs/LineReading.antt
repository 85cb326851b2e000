-- The content of a line of an assembler text: an optional label, an optional statement, and a comment. (This project's own grammar; RISC-V
-- Unprivileged ISA 20191213, chapter 25, for the statements.)
use Rattle.std.specs.Prelude.{ℕ, ◌==◌, List, length, Option, Some, None, Result, Ok, Err, if◌then◌else◌}
use Rattle.rv_asm.specs.Cuts.{before_comment, label_text, statement_text, is_name}
use Rattle.rv_text.specs.GoodLines.{is_good_line}
use Rattle.rv_asm.specs.Statements.{◌>>=◌, statement_at}
use Rattle.rv_asm.specs.declared.line.Line.{Line}
use Rattle.rv_asm.specs.declared.statement.Statement.{Statement}
use Rattle.rv_asm.specs.declared.fault.AsmFaultKind.{AsmFaultKind}
use Rattle.rv_asm.specs.declared.fault.AsmFaultKind.TheVariants.{BadText}

-- `label_at` is the label of a line, if it has one, or the error of a label that is no name
abbrev pub label_at : Option (List ℕ) → Result (Option (List ℕ)) AsmFaultKind
label_at None = Ok None
label_at (Some name) = if is_name name then Ok (Some name) else Err BadText

-- `optional_statement_at` is the statement of a text, or none if the text is empty
abbrev pub optional_statement_at : List ℕ → Result (Option Statement) AsmFaultKind
optional_statement_at text = if length text == 0 then Ok None else (do
  statement ← statement_at text
  Ok (Some statement))

-- `uncommented_line_at` is the label and the statement of a line without its comment
abbrev pub uncommented_line_at : List ℕ → Result Line AsmFaultKind
uncommented_line_at text = do
  label ← label_at (label_text text)
  statement ← optional_statement_at (statement_text text)
  Ok (record { label = label; statement = statement })

-- `line_read` is the content of a line, or the first of its own errors
unfoldable pub line_read : List ℕ → Result Line AsmFaultKind
line_read text = if is_good_line text then uncommented_line_at (before_comment text) else Err BadText
