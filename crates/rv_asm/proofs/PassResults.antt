-- This file is about the results of both passes.
use Rattle.std.proofs.Common.{◌≡◌, ◌⊎◌, inl, inr, ◌∙◌, sym, ap, ℕ, ◌+◌, ◌-◌, ◌≤◌, ◌<◌, List, [], ◌∷◌, ◌++◌, length, length-append, Option, Some, None}
use Rattle.std.proofs.Common.{Result, Ok, Err, IfOk, IfErr, Vec, option_map, arith, refl, take}
use Rattle.std.proofs.lemmas.List.{length-map}
use Rattle.rv_word.specs.Cases.{option_case}
use Rattle.rv_asm.specs.LabelMap.{places_of}
use Rattle.rv_asm.specs.OutOfMemory.{FailsFor, OutOfMemoryForLabel}
use Rattle.rv_asm.specs.LineReading.{line_read}
use Rattle.rv_text.specs.Lines.{lines_of}
use Rattle.rv_asm.specs.Passes.{HasRead, label_twice}
use Rattle.rv_asm.specs.Program.{Reading, readings, own_fault, label_fault, name_fault, first_line_fault, place_in, words_in, words_from}
use Rattle.rv_asm.specs.Program.{words_of_lines, assembled}
use Rattle.rv_asm.specs.declared.first_pass.FirstPass.{FirstPass}
use Rattle.rv_asm.specs.declared.fault.AsmFault.{AsmFault}
use Rattle.rv_asm.specs.declared.fault.AsmFaultKind.{AsmFaultKind}
use Rattle.rv_asm.specs.declared.fault.AsmFaultKind.TheVariants.{NoMemory}
use Rattle.rv_asm.proofs.LabelLemmas.{fault_after}

-- a text has as many readings as lines
pub length-readings : (text : List ℕ) → length (readings text) ≡ length (lines_of text)
length-readings text = length-map (lines_of text) line_read

-- the line of an error is one of `count` lines after the first `before` lines
abbrev IsWithin : ℕ → ℕ → AsmFault → Type 0
IsWithin before count fault = (before + 1 ≤ fault.line) × (fault.line ≤ before + count)

-- An error is that of the first line, or of a later one. If an error of a later line is in one of these lines, then the error is in one of the lines.
later_or_here : (before count longer : ℕ) (own_kind : Option AsmFaultKind) (rest : Option AsmFault) (found : AsmFault) → longer ≡ before + 1
    → (rest ≡ Some found → IsWithin longer count found) → option_case own_kind rest (λ kind. Some (fault_after before kind)) ≡ Some found
    → IsWithin before (count + 1) found
later_or_here before count longer None rest found one_more later choice_is =
    let (after_longer, within_count) = later choice_is in
    (omega (arith, after_longer, one_more), omega (arith, within_count, one_more))
later_or_here before count longer (Some kind) rest found one_more later choice_is =
    let is_here : fault_after before kind ≡ found = cc in
    let line_is : before + 1 ≡ found.line = ap (λ fault. fault.line) is_here in
    (omega (arith, line_is), omega (arith, line_is))

-- the line of the first error is one of the lines (by induction over the lines)
fault_line : (fault : List Reading → Reading → Option AsmFaultKind) (before lines : List Reading) (found : AsmFault)
    → first_line_fault fault before lines ≡ Some found → IsWithin (length before) (length lines) found
fault_line fault before [] found first_line_fault_is = cc
fault_line fault before (line ∷ lines) found first_line_fault_is =
    let (after_before, within_lines) =
    later_or_here (length before) (length lines) (length (before ++ line ∷ [])) (fault before line)
    (first_line_fault fault (before ++ line ∷ []) lines) found (length-append before (line ∷ []))
    (fault_line fault (before ++ line ∷ []) lines found) first_line_fault_is in
    (after_before, omega (arith, within_lines))

-- if a line has an error of its own, the text has the first such error
pub own_decides : (text : List ℕ) (fault : AsmFault) → first_line_fault own_fault [] (readings text) ≡ Some fault → assembled text ≡ Err fault
unfolding assembled
own_decides text fault first_line_fault_is = rw first_line_fault_is refl

-- if a label is repeated and no line has an error of its own, the text has the error of the repeated label
pub twice_decides : (text : List ℕ) (pass : FirstPass) (line : ℕ) → HasRead pass (readings text)
    → first_line_fault own_fault [] (readings text) ≡ None → pass.repeated ≡ Some line → assembled text ≡ Err (label_twice line)
unfolding assembled
twice_decides text pass line has_read no_own_fault is_repeated =
    let label_fault_is : first_line_fault label_fault [] (readings text) ≡ Some (label_twice line) =
    has_read.repeated ∙ ap (option_map label_twice) is_repeated in
    rw (no_own_fault, label_fault_is) refl

-- the number of the line with a repeated label is the number of a line of the text
pub twice_line : (text : List ℕ) (pass : FirstPass) (line : ℕ) → HasRead pass (readings text) → pass.repeated ≡ Some line
    → (1 ≤ line) × (line ≤ length (lines_of text))
twice_line text pass line has_read is_repeated =
    let (from_1, within_lines) =
    fault_line label_fault [] (readings text) (label_twice line) (has_read.repeated ∙ ap (option_map label_twice) is_repeated) in
    (omega (arith, from_1), omega (arith, within_lines, length-readings text))

-- if no label is repeated, no line has the error of a repeated label
not_twice : (text : List ℕ) (pass : FirstPass) → HasRead pass (readings text) → pass.repeated ≡ None
    → first_line_fault label_fault [] (readings text) ≡ None
not_twice text pass has_read not_repeated = has_read.repeated ∙ ap (option_map label_twice) not_repeated

-- if no line has an error of its own and no label is repeated, the first error of a used label is the error of the text
pub name_decides : (text : List ℕ) (pass : FirstPass) (fault : AsmFault) → HasRead pass (readings text)
    → first_line_fault own_fault [] (readings text) ≡ None → pass.repeated ≡ None
    → first_line_fault (name_fault (places_of pass.labels)) [] (readings text) ≡ Some fault → assembled text ≡ Err fault
unfolding assembled
name_decides text pass fault has_read no_own_fault not_repeated first_line_fault_is =
    let name_fault_is : first_line_fault (name_fault (place_in (readings text))) [] (readings text) ≡ Some fault =
    ap (λ labels. first_line_fault (name_fault labels) [] (readings text)) (sym has_read.labels) ∙ first_line_fault_is in
    rw (no_own_fault, not_twice text pass has_read not_repeated, name_fault_is) refl

-- if no line has an error, the words of all lines are the words to which the text assembles
pub words_decide : (text : List ℕ) (pass : FirstPass) (words : List ℕ) → HasRead pass (readings text)
    → first_line_fault own_fault [] (readings text) ≡ None → pass.repeated ≡ None
    → first_line_fault (name_fault (places_of pass.labels)) [] (readings text) ≡ None → words ≡ words_from (places_of pass.labels) [] (readings text)
    → assembled text ≡ Ok words
unfolding assembled
words_decide text pass words has_read no_own_fault not_repeated no_name_fault words_is =
    let no_fault_by_labels : first_line_fault (name_fault (place_in (readings text))) [] (readings text) ≡ None =
    ap (λ labels. first_line_fault (name_fault labels) [] (readings text)) (sym has_read.labels) ∙ no_name_fault in
    let words_are : words_of_lines (readings text) ≡ words = ap (λ labels. words_from labels [] (readings text)) (sym has_read.labels)
    ∙ sym words_is in
    rw (no_own_fault, not_twice text pass has_read not_repeated, no_fault_by_labels) (ap Ok words_are)

-- if the second pass returns the words of all lines, the text assembles to these words
pub words_decide_if : {Z : Type 0} (text : List ℕ) (pass : FirstPass) (result : Result (Vec ℕ Z) AsmFault) → HasRead pass (readings text)
    → first_line_fault own_fault [] (readings text) ≡ None → pass.repeated ≡ None
    → IfOk result (λ words. (words.items ≡ words_from (places_of pass.labels) [] (readings text))
    × (first_line_fault (name_fault (places_of pass.labels)) [] (readings text) ≡ None)) → IfOk result (λ words. assembled text ≡ Ok words.items)
words_decide_if text pass (Ok words) has_read no_own_fault not_repeated (words_are, no_name_fault) =
    words_decide text pass words.items has_read no_own_fault not_repeated no_name_fault words_are
words_decide_if text pass (Err fault) has_read no_own_fault not_repeated nothing_to_prove = tt

-- the first pass fails because a line has an error of its own, or because memory is exhausted
pub own_fails : (text : List ℕ) (fault : AsmFault)
    → (first_line_fault own_fault [] (readings text) ≡ Some fault) ⊎ OutOfMemoryForLabel (readings text) fault → FailsFor text fault
own_fails text fault (inl has_own_fault) = inl (own_decides text fault has_own_fault)
own_fails text fault (inr out_of_memory) = inr (inl out_of_memory)

-- the second pass fails because of an error of a used label, or because memory is exhausted
pub name_fails_if : {A : Type 0} (text : List ℕ) (pass : FirstPass) (result : Result A AsmFault) → HasRead pass (readings text)
    → first_line_fault own_fault [] (readings text) ≡ None → pass.repeated ≡ None
    → IfErr result (λ fault. (first_line_fault (name_fault (places_of pass.labels)) [] (readings text) ≡ Some fault)
    ⊎ ((fault.kind ≡ NoMemory) × (first_line_fault (name_fault (places_of pass.labels)) [] (take fault.line (readings text)) ≡ None)
    × (words_in (take (fault.line - 1) (readings text)) < words_in (take fault.line (readings text))))) → IfErr result (FailsFor text)
name_fails_if text pass (Ok words) has_read no_own_fault not_repeated has_fault = tt
name_fails_if text pass (Err fault) has_read no_own_fault not_repeated (inl has_name_fault) =
    inl (name_decides text pass fault has_read no_own_fault not_repeated has_name_fault)
name_fails_if text pass (Err fault) has_read no_own_fault not_repeated (inr (is_no_memory, no_name_fault_through, line_has_word)) = inr (inr (record {
  memory = is_no_memory;
  some = line_has_word;
  own = no_own_fault;
  labels = not_twice text pass has_read not_repeated;
  names = ap (λ labels. first_line_fault (name_fault labels) [] (take fault.line (readings text))) (sym has_read.labels) ∙ no_name_fault_through;
}))
