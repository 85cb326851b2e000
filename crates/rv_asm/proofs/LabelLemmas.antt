-- This file proves lemmas about the map of labels after one more name, and the addresses of labels after one more line.
use Rattle.std.proofs.Common.{◌≡◌, ◌∙◌, sym, ap, refl, ℕ, ◌+◌, Bool, true, false, cond, List, [], ◌∷◌, ◌++◌, length, Option, Some, None, is_some}
use Rattle.std.proofs.Common.{option_map, append_assoc, append-nil, length-append, arith, ◌≤◌, nat_lt, Ok, if◌then◌else◌}
use Rattle.std.specs.Str.{bytes_eq}
use Rattle.std.proofs.lemmas.Slice.Eq.{bytes_eq-Decides}
use Rattle.std.proofs.lemmas.List.Sums.{sum_by_push}
use Rattle.rv_asm.specs.LabelMap.{places_of}
use Rattle.rv_word.specs.Cases.{option_case}
use Rattle.std.proofs.lemmas.Bool.Decides.{nat_tests}
use Rattle.rv_asm.specs.Passes.{HasRead, AddsLabel, repeated_with, label_twice}
use Rattle.rv_asm.specs.Program.{Reading, line_size, words_in, has_label, is_label, place_from, place_in, first_line_fault, own_fault}
use Rattle.rv_asm.specs.Program.{label_fault, repeated_name}
use Rattle.rv_asm.specs.declared.first_pass.FirstPass.{FirstPass}
use Rattle.rv_asm.specs.declared.line.Line.{Line}
use Rattle.rv_asm.specs.declared.fault.AsmFaultKind.TheVariants.{LabelTwice}
use Rattle.rv_asm.specs.declared.fault.AsmFault.{AsmFault}
use Rattle.rv_asm.specs.declared.fault.AsmFaultKind.{AsmFaultKind}

-- `max_words` is the largest number of words of a text
abbrev pub max_words : ℕ
max_words = 65536

-- a choice between an option and None is the option
option_case-some : {A : Type 0} (option : Option A) → option_case option None Some ≡ option
option_case-some None = refl
option_case-some (Some x) = refl

-- an option is None if the test `is_some` says so
pub none_from_is_some : {A : Type 0} (option : Option A) → is_some option ≡ false → option ≡ None
none_from_is_some None test_is = refl
none_from_is_some (Some x) test_is = cc

-- with one more line, which has the label or not, the address of a label is the earlier one, or else that of the line
with_one_more : (has_label : Bool) (earlier : Option ℕ) (words : ℕ) → (has_label ≡ true → earlier ≡ None)
    → cond has_label (Some words) earlier ≡ option_case earlier (cond has_label (Some words) None) Some
with_one_more true earlier words no_earlier = rw (no_earlier refl) refl
with_one_more false earlier words no_earlier = sym (option_case-some earlier)

-- to add a name that the map does not have changes the address of no other name
pub adds_new : (places : List ℕ → Option ℕ) (name other : List ℕ) (words : ℕ) → is_some (places name) ≡ false
    → cond (bytes_eq name other) (Some words) (places other) ≡ option_case (places other) (cond (bytes_eq name other) (Some words) None) Some
adds_new places name other words is_absent =
    let (equal_if_test, test_if_equal) = bytes_eq-Decides name other in
    -- if the other name is this name, the map does not have it
    with_one_more (bytes_eq name other) (places other) words
    (λ same_name. sym (ap places (equal_if_test same_name)) ∙ none_from_is_some (places name) is_absent)

-- ---- one more line

-- an earlier address of a label stays, whatever line follows
some_stays : (is_own : Bool) (place : ℕ) (later last : Option ℕ)
    → cond is_own (Some place) (option_case later last Some) ≡ option_case (cond is_own (Some place) later) last Some
some_stays true place later last = refl
some_stays false place later last = refl

-- the address of a label in two lists of lines, one after the other, is that in the first, or else that in the second
pub place_from-append : (before prefix after : List Reading) (name : List ℕ)
    → place_from before (prefix ++ after) name ≡ option_case (place_from before prefix name) (place_from (before ++ prefix) after name) Some
place_from-append before [] after name = rw (append-nil before) refl
place_from-append before (line ∷ prefix) after name =
    let rest_is = place_from-append (before ++ line ∷ []) prefix after name in
    rw (rest_is, append_assoc before (line ∷ []) prefix)
    (some_stays (has_label name line) (words_in before) (place_from (before ++ line ∷ []) prefix name) _)

-- `fault_after` is the error of the line after `count` lines
abbrev pub fault_after : ℕ → AsmFaultKind → AsmFault
fault_after count kind = record { line = count + 1; kind = kind }

-- if the first line has no error, the first error of the lines is that of the other lines
pub fault_later : (fault : List Reading → Reading → Option AsmFaultKind) (before lines : List Reading) (line : Reading) → fault before line ≡ None
    → first_line_fault fault before (line ∷ lines) ≡ first_line_fault fault (before ++ line ∷ []) lines
fault_later fault before lines line no_fault = rw no_fault refl

-- an error of the first line is the first error of the lines
pub fault_here : (fault : List Reading → Reading → Option AsmFaultKind) (before lines : List Reading) (line : Reading) (kind : AsmFaultKind)
    → fault before line ≡ Some kind → first_line_fault fault before (line ∷ lines) ≡ Some (fault_after (length before) kind)
fault_here fault before lines line kind has_fault = rw has_fault refl

-- an earlier error stays, whatever line follows
fault_stays : (fault : Option AsmFaultKind) (at_line : AsmFaultKind → AsmFault) (rest last : Option AsmFault)
    → option_case fault (option_case rest last Some) (λ kind. Some (at_line kind)) ≡ option_case
    (option_case fault rest (λ kind. Some (at_line kind))) last Some
fault_stays None at_line rest last = refl
fault_stays (Some kind) at_line rest last = refl

-- a choice between an error and None, at a line, is the error at this line
as_map : (fault : Option AsmFaultKind) (at_line : AsmFaultKind → AsmFault)
    → option_case fault None (λ kind. Some (at_line kind)) ≡ option_map at_line fault
as_map None at_line = refl
as_map (Some kind) at_line = refl

-- with one more line, the first error is that of the lines before it, or else its own (by induction over the lines before it)
pub first_fault-push : (fault : List Reading → Reading → Option AsmFaultKind) (before lines : List Reading) (line : Reading)
    → first_line_fault fault before (lines ++ line ∷ [])
    ≡ option_case (first_line_fault fault before lines) (option_map (fault_after (length (before ++ lines))) (fault (before ++ lines) line)) Some
first_fault-push fault before [] line = rw (append-nil before) (as_map (fault before line) (fault_after (length before)))
first_fault-push fault before (first ∷ lines) line =
    let rest_is = first_fault-push fault (before ++ first ∷ []) lines line in
    rw (rest_is, append_assoc before (first ∷ []) lines)
    (fault_stays (fault before first) (fault_after (length before)) (first_line_fault fault (before ++ first ∷ []) lines) _)

-- ---- the first pass reads one more line

-- one more line adds its size to the number of words
words_in-push : (lines : List Reading) (line : Reading) → words_in (lines ++ line ∷ []) ≡ words_in lines + line_size line
words_in-push lines line = sum_by_push line_size lines line

-- the first repeated label is that of an earlier line, or else that of the next line if its label was defined already
repeated-or-next : (is_defined : Bool) (repeated : Option ℕ) (count : ℕ)
    → option_case (option_map label_twice repeated) (option_map (fault_after count) (if is_defined then Some LabelTwice else None)) Some
    ≡ option_map label_twice (if is_defined then option_case repeated (Some (count + 1)) Some else repeated)
repeated-or-next true None count = refl
repeated-or-next true (Some line) count = refl
repeated-or-next false None count = refl
repeated-or-next false (Some line) count = refl

-- after one more line, the first repeated label of the lines is the one that the pass has then
repeated-with-one-more : (pass : FirstPass) (before : List Reading) (label : Option (List ℕ)) → HasRead pass before
    → option_case (first_line_fault label_fault [] before) (option_map (fault_after (length before)) (repeated_name before label)) Some
    ≡ option_map label_twice (repeated_with pass label)
repeated-with-one-more pass before None has_read = option_case-some (first_line_fault label_fault [] before) ∙ has_read.repeated
repeated-with-one-more pass before (Some name) has_read =
    let same_test : is_some (places_of pass.labels name) ≡ is_some (place_in before name) = λ i. is_some (has_read.labels i name) in
    rw (has_read.repeated, same_test, has_read.count) (repeated-or-next (is_some (place_in before name)) pass.repeated (length before))

-- the pass has read one more line, if it added the label of the line and counted its words, which are at most `max_words` in all
pub reads_more : (before_line with_label : FirstPass) (lines : List Reading) (line : Line) → HasRead before_line lines
    → AddsLabel before_line with_label line.label → before_line.words + line_size (Ok line) ≤ max_words
    → HasRead (record with_label { words = before_line.words + line_size (Ok line); lines = before_line.lines + 1 }) (lines ++ Ok line ∷ [])
reads_more before_line with_label lines line has_read label_added within_limit = record {
  count = omega (arith, has_read.count, length-append lines (Ok line ∷ []));
  words = omega (arith, has_read.words, words_in-push lines (Ok line));
  few = omega (arith, within_limit, has_read.words, words_in-push lines (Ok line));
  labels =
      λ i name. (label_added.labels name
      ∙ (λ j. option_case (has_read.labels j name) (if is_label name line.label then Some (has_read.words j) else None) Some)
      ∙ sym (place_from-append [] lines (Ok line ∷ []) name)) i;
  repeated = first_fault-push label_fault [] lines (Ok line) ∙ repeated-with-one-more before_line lines line.label has_read
      ∙ ap (option_map label_twice) (sym label_added.repeated);
}

-- a line that stays within the limit of `max_words` words has no error of its own
pub own_fault-none : (before : List Reading) (line : Line) (words : ℕ) → words ≡ words_in before → words + line_size (Ok line) ≤ max_words
    → own_fault before (Ok line) ≡ None
own_fault-none before line words words_is within_limit =
    let not_too_long : nat_lt max_words (words_in before + line_size (Ok line)) ≡ false = grind (arith, nat_tests) in rw not_too_long refl

-- a line whose label is not in the map does not repeat a label
not_repeated : (pass : FirstPass) (before : List Reading) (label : Option (List ℕ)) → HasRead pass before
    → option_case label false (λ name. is_some (places_of pass.labels name)) ≡ false → repeated_name before label ≡ None
not_repeated pass before None has_read is_absent = refl
not_repeated pass before (Some name) has_read is_absent =
    let not_defined : is_some (place_in before name) ≡ false = sym (ap (λ (places : List ℕ → Option ℕ). is_some (places name)) has_read.labels)
    ∙ is_absent in
    rw not_defined refl

-- a line whose label is not in the map has no error of a repeated label
pub label_fault-none : (pass : FirstPass) (before : List Reading) (line : Line) → HasRead pass before
    → option_case line.label false (λ name. is_some (places_of pass.labels name)) ≡ false → label_fault before (Ok line) ≡ None
label_fault-none pass before line has_read is_absent = not_repeated pass before line.label has_read is_absent
