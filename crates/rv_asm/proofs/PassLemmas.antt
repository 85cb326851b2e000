-- This file proves lemmas about the first pass, line by line.
use Rattle.std.proofs.Common.{◌≡◌, ◌∙◌, refl, sym, ap, ℕ, ◌+◌, ◌≤◌, List, [], ◌∷◌, ◌++◌, length, length-append}
use Rattle.std.proofs.Common.{None, append_assoc, map, arith}
use Rattle.rv_asm.specs.LineReading.{line_read}
use Rattle.rv_text.specs.Lines.{lines_of}
use Rattle.rv_asm.specs.Passes.{HasRead}
use Rattle.rv_asm.specs.Program.{Reading, readings, own_fault, first_line_fault}
use Rattle.rv_asm.specs.declared.first_pass.FirstPass.{FirstPass}
use Rattle.rv_asm.proofs.LabelLemmas.{fault_later, first_fault-push}

-- The first pass has read the lines `before`, and none of these has an error of its own. `rest` is the text that remains, with the other lines.
pub record HasReadUpTo (pass : FirstPass) (text rest : List ℕ) : Type 0 where
  -- the lines that were read
  pub before : List Reading
  -- the state of the pass is that after these lines
  pub read : HasRead pass before
  -- the lines of the text are these, followed by the lines of the rest
  pub is_split : readings text ≡ before ++ readings rest
  -- the first error of a line of its own is in the rest
  pub fault_in_rest : first_line_fault own_fault [] (readings text) ≡ first_line_fault own_fault before (readings rest)
  -- no line of these has an error of its own
  pub no_fault_before : first_line_fault own_fault [] before ≡ None

-- after one more line without an error of its own, the first pass has read up to the line after it
pub reads_on : (pass new : FirstPass) (text rest after line : List ℕ) → (so_far : HasReadUpTo pass text rest) → lines_of rest ≡ line ∷ lines_of after
    → HasRead new (so_far.before ++ line_read line ∷ []) → own_fault so_far.before (line_read line) ≡ None → HasReadUpTo new text after
reads_on pass new text rest after line so_far lines_are read no_fault = record {
  before = so_far.before ++ line_read line ∷ [];
  read = read;
  is_split = so_far.is_split ∙ ap (λ lines. so_far.before ++ map line_read lines) lines_are
      ∙ sym (append_assoc so_far.before (line_read line ∷ []) (readings after));
  fault_in_rest =
      so_far.fault_in_rest ∙ ap (λ lines. first_line_fault own_fault so_far.before (map line_read lines)) lines_are
      ∙ fault_later own_fault so_far.before (readings after) (line_read line) no_fault;
  no_fault_before = first_fault-push own_fault [] so_far.before (line_read line) ∙ rw (so_far.no_fault_before, no_fault) refl;
}

-- the number of the next line is at most the number of lines of the text
pub is_line_of : (pass : FirstPass) (text rest after line : List ℕ) → (so_far : HasReadUpTo pass text rest) → lines_of rest ≡ line ∷ lines_of after
    → length so_far.before + 1 ≤ length (readings text)
is_line_of pass text rest after line so_far lines_are =
    let is_split : readings text ≡ so_far.before ++ line_read line ∷ readings after =
    so_far.is_split ∙ ap (λ lines. so_far.before ++ map line_read lines) lines_are in
    rw is_split (omega (arith, length-append so_far.before (line_read line ∷ readings after)))
