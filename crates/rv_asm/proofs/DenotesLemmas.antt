-- The words of a text are the words that it denotes, and it denotes no others.
use Rattle.std.proofs.Common.{◌≡◌, ◌∙◌, sym, ap, ap₂, refl, ℕ, ◌+◌, Bool, true, false, if◌then◌else◌, List, [], ◌∷◌, ◌++◌, length, take, drop}
use Rattle.std.proofs.Common.{Option, Some, None, is_some, Result, Ok, Err, append_assoc, append-nil, length-append, take-append-drop, drop-drop}
use Rattle.std.proofs.Common.{drop_at, drop_of_length-le, arith}
use Rattle.std.proofs.Math.Seq.{take-append_seam}
use Rattle.std.proofs.lemmas.Slice.Eq.{bytes_eq-Decides}
use Rattle.std.proofs.lemmas.List.Sums.{sum_by-cons, sum_by_push}
use Rattle.rv_word.specs.Cases.{option_case, result_case}
use Rattle.rv_asm.specs.Denotes.{Denotes}
use Rattle.rv_asm.specs.Program.{Reading, readings, line_size, line_words, words_in, is_label, has_label, place_from, place_in, own_fault}
use Rattle.rv_asm.specs.Program.{label_fault, name_fault, first_line_fault, fault_in, words_or_none, words_from, words_of_lines, assembled}
use Rattle.rv_asm.specs.declared.line.Line.{Line}
use Rattle.rv_asm.specs.declared.fault.AsmFault.{AsmFault}
use Rattle.rv_asm.specs.declared.fault.AsmFaultKind.{AsmFaultKind}
use Rattle.rv_asm.specs.declared.fault.AsmFaultKind.TheVariants.{LabelTwice}
use Rattle.rv_asm.proofs.LabelLemmas.{fault_after, none_from_is_some, place_from-append}
use Rattle.rv_asm.proofs.WordLemmas.{no_fault}
use Rattle.rv_asm.proofs.WordCounts.{length-line_words}

-- ---- the words of lines

-- a result without an error is Ok, and has the words that `words_or_none` gives
ok_words : (result : Result (List ℕ) AsmFaultKind) → (let fault : Option AsmFaultKind = result_case result (λ words. None) Some in fault ≡ None)
    → result ≡ Ok (words_or_none result)
ok_words (Ok words) no_error = refl
ok_words (Err kind) no_error = cc

-- if lines have no error, neither the first line nor the others have one
no_fault_first : (fault : List Reading → Reading → Option AsmFaultKind) (before lines : List Reading) (line : Reading)
    → first_line_fault fault before (line ∷ lines) ≡ None → (fault before line ≡ None) × (first_line_fault fault (before ++ line ∷ []) lines ≡ None)
no_fault_first fault before lines line no_error =
    no_fault (fault before line) (fault_after (length before)) (first_line_fault fault (before ++ line ∷ []) lines) no_error

-- if lines have no error, neither a prefix of them nor the lines after it have one
no_fault_in : (fault : List Reading → Reading → Option AsmFaultKind) (before prefix after : List Reading)
    → first_line_fault fault before (prefix ++ after) ≡ None
    → (first_line_fault fault before prefix ≡ None) × (first_line_fault fault (before ++ prefix) after ≡ None)
no_fault_in fault before [] after no_error = (refl, rw (append-nil before) no_error)
no_fault_in fault before (line ∷ prefix) after no_error =
    let (line_has_none, others_have_none) = no_fault_first fault before (prefix ++ after) line no_error in
    let (prefix_has_none, after_has_none) = no_fault_in fault (before ++ line ∷ []) prefix after others_have_none in
    (rw line_has_none prefix_has_none, rw (← append_assoc before (line ∷ []) prefix) after_has_none)

-- if the lines of a text have no error, neither a line nor the lines before it have one
no_fault_at : (fault : List Reading → Reading → Option AsmFaultKind) (all_lines before after : List Reading) (line : Reading)
    → all_lines ≡ before ++ line ∷ after → first_line_fault fault [] all_lines ≡ None
    → (first_line_fault fault [] before ≡ None) × (fault before line ≡ None)
no_fault_at fault all_lines before after line is_split no_error =
    let (before_has_none, from_line_has_none) = no_fault_in fault [] before (line ∷ after) (rw is_split at no_error) in
    let (line_has_none, after_has_none) = no_fault_first fault before after line from_line_has_none in
    (before_has_none, line_has_none)

-- the words of two lists of lines are the words of the first, followed by the words of the second
words_from-append : (labels : List ℕ → Option ℕ) (before prefix after : List Reading)
    → words_from labels before (prefix ++ after) ≡ words_from labels before prefix ++ words_from labels (before ++ prefix) after
words_from-append labels before [] after = rw (append-nil before) refl
words_from-append labels before (line ∷ prefix) after =
    let rest_is = words_from-append labels (before ++ line ∷ []) prefix after in
    rw (rest_is, append_assoc before (line ∷ []) prefix) (sym (append_assoc (words_or_none (line_words labels (words_in before) line)) _ _))

-- lines without an error have as many words as the sum of their sizes (by induction over the lines)
length-words_from : (labels : List ℕ → Option ℕ) (before lines : List Reading) → first_line_fault (name_fault labels) before lines ≡ None
    → length (words_from labels before lines) ≡ words_in lines
length-words_from labels before [] no_error = refl
length-words_from labels before (line ∷ lines) no_error =
    let (line_has_none, others_have_none) = no_fault_first (name_fault labels) before lines line no_error in
    let first_words = line_words labels (words_in before) line in
    let same_length = length-line_words labels (words_in before) line (words_or_none first_words) (ok_words first_words line_has_none) in
    let rest_length = length-words_from labels (before ++ line ∷ []) lines others_have_none in
    length-append (words_or_none first_words) (words_from labels (before ++ line ∷ []) lines)
    ∙ ap₂ (λ first others. first + others) same_length rest_length ∙ sym (sum_by-cons line_size line lines)

-- of three lists, one after another, the `count` elements after the first `start` are the second list, if the first has `start` elements and
-- the second has `count`
second_of_three : (start count : ℕ) (xs ys zs : List ℕ) → length xs ≡ start → length ys ≡ count → take count (drop start (xs ++ (ys ++ zs))) ≡ ys
second_of_three start count xs ys zs first_length second_length =
    ap (take count) (drop_at xs (ys ++ zs) start first_length) ∙ ap (λ length_taken. take length_taken (ys ++ zs))
    (sym second_length) ∙ take-append_seam ys zs

-- in the words of all lines, the words of a line are at the address of the line
words_at_address : (labels : List ℕ → Option ℕ) (all_lines before after : List Reading) (line : Reading) → all_lines ≡ before ++ line ∷ after
    → first_line_fault (name_fault labels) [] all_lines ≡ None
    → line_words labels (words_in before) line ≡ Ok (take (line_size line) (drop (words_in before) (words_from labels [] all_lines)))
words_at_address labels all_lines before after line is_split no_error =
    let own_words = line_words labels (words_in before) line in
    let (before_has_none, line_has_none) = no_fault_at (name_fault labels) all_lines before after line is_split no_error in
    let is_ok = ok_words own_words line_has_none in
    -- the words of all lines are those of the lines before, those of the line, and those of the lines after
    let part_is =
    second_of_three (words_in before) (line_size line) (words_from labels [] before) (words_or_none own_words)
    (words_from labels (before ++ line ∷ []) after)
    (length-words_from labels [] before before_has_none) (length-line_words labels (words_in before) line (words_or_none own_words) is_ok) in
    is_ok ∙ ap Ok (sym part_is) ∙ ap (λ words. Ok (take (line_size line) (drop (words_in before) words)))
    (sym (ap (words_from labels []) is_split ∙ words_from-append labels [] before (line ∷ after)))

-- ---- the addresses of labels

-- a label has the address that it had before a line that defines it, or else the address of this line
address_of_label : (all_lines before after : List Reading) (line : Line) (name : List ℕ) → all_lines ≡ before ++ Ok line ∷ after
    → line.label ≡ Some name
    → place_in all_lines name ≡ option_case (place_in before name) (Some (words_in before)) Some
address_of_label all_lines before after line name is_split has_name =
    ap (λ lines. place_in lines name) is_split ∙ place_from-append [] before (Ok line ∷ after) name
    -- the line has the label `name`, and the name equals itself
    ∙ rw (has_name, (let (equal_if_test, test_if_equal) = bytes_eq-Decides name name in test_if_equal refl)) refl

-- a label that is not repeated has no address before its line
no_earlier_address : (before : List Reading) (line : Line) (name : List ℕ) → line.label ≡ Some name → label_fault before (Ok line) ≡ None
    → place_in before name ≡ None
no_earlier_address before line name has_name no_fault = none_from_is_some (place_in before name)
    (not_repeated (is_some (place_in before name)) (rw has_name at no_fault)) where
      -- if there is no error of a repeated label, the label is not repeated
      not_repeated : (is_repeated : Bool) → (if is_repeated then Some LabelTwice else None) ≡ None → is_repeated ≡ false
      not_repeated true no_fault = cc
      not_repeated false no_fault = refl

-- a line of `all_lines` defines the label `name`, and `place` is the number of words before this line
abbrev FoundIn : List Reading → List ℕ → ℕ → Type 0
FoundIn all_lines name place =
    (before : List Reading) × (line : Line) × ((after : List Reading) × (all_lines ≡ before ++ Ok line ∷ after)) × (line.label ≡ Some name)
    × (place ≡ words_in before)

-- a label that passes the test `is_label` for a name is this name
label_is : (name : List ℕ) (label : Option (List ℕ)) → is_label name label ≡ true → label ≡ Some name
label_is name None test_holds = cc
label_is name (Some label) test_holds = let (equal_if_test, test_if_equal) = bytes_eq-Decides label name in ap Some (equal_if_test test_holds)

-- a label that a line defines is found there, with the address of the line
label_of_this_line : (all_lines before lines : List Reading) (line : Reading) (name : List ℕ) (place : ℕ) → all_lines ≡ before ++ line ∷ lines
    → has_label name line ≡ true → place ≡ words_in before → FoundIn all_lines name place
label_of_this_line all_lines before lines (Ok line) name place is_split line_has_label place_is =
    (before, line, (lines, is_split), label_is name line.label line_has_label, place_is)
label_of_this_line all_lines before lines (Err kind) name place is_split line_has_label place_is = cc

-- If an address is found, it is the address here or that of another line. A claim P therefore holds if it follows from each of the two.
found_either : {P : Type 0} (is_own : Bool) (own_place place : ℕ) (others : Option ℕ) → (is_own ≡ true → place ≡ own_place → P)
    → (others ≡ Some place → P)
    → (if is_own then Some own_place else others) ≡ Some place → P
found_either true own_place place others if_here if_later place_is = if_here refl cc
found_either false own_place place others if_here if_later place_is = if_later place_is

-- each label with an address is found at a line that defines it (by induction over the lines)
label_found : (all_lines before lines : List Reading) (name : List ℕ) (place : ℕ) → all_lines ≡ before ++ lines
    → place_from before lines name ≡ Some place
    → FoundIn all_lines name place
label_found all_lines before [] name place is_split place_from_is = cc
label_found all_lines before (line ∷ lines) name place is_split place_from_is =
    found_either (has_label name line) (words_in before) place (place_from (before ++ line ∷ []) lines name)
    (label_of_this_line all_lines before lines line name place is_split)
    (label_found all_lines (before ++ line ∷ []) lines name place (is_split ∙ sym (append_assoc before (line ∷ []) lines))) place_from_is

-- ---- the assembled words are words that the text denotes

-- if the first of two options is None and their choice is None, then both are None
both_none : {F : Type 0} (first second : Option F) → option_case first second Some ≡ None → (first ≡ None) × (second ≡ None)
both_none None second choice_is = (refl, choice_is)
both_none (Some fault) second choice_is = cc

-- a text without an error has no repeated label, and no error of a used label
no_faults : (lines : List Reading) → fault_in lines ≡ None
    → (first_line_fault label_fault [] lines ≡ None) × (first_line_fault (name_fault (place_in lines)) [] lines ≡ None)
no_faults lines no_error =
    let (no_own_fault, no_label_or_name_fault) = both_none (first_line_fault own_fault [] lines)
    (option_case (first_line_fault label_fault [] lines) (first_line_fault (name_fault (place_in lines)) [] lines) Some) no_error in
    both_none (first_line_fault label_fault [] lines) (first_line_fault (name_fault (place_in lines)) [] lines) no_label_or_name_fault

-- if a choice between an error and words is Ok, there is no error, and the words are these
words_if : (error : Option AsmFault) (made words : List ℕ) → option_case error (Ok made) Err ≡ Ok words → (error ≡ None) × (made ≡ words)
words_if None made words choice_is = (refl, cc)
words_if (Some f) made words choice_is = cc

-- a text without an error denotes the words of its lines
denotes_words_of : (text : List ℕ) → fault_in (readings text) ≡ None → Denotes text (words_of_lines (readings text))
denotes_words_of text no_error =
    let lines = readings text in
    let labels = place_in lines in
    let (none_repeated, no_name_fault) = no_faults lines no_error in
    record {
      labels = labels;
      -- the address of a label is that of its line, since no earlier line has the label
      placed = λ before line name line_in_text has_name.
          let (after, is_split) = line_in_text in
          let (before_has_none, not_repeated_here) = no_fault_at label_fault lines before after (Ok line) is_split none_repeated in
          let no_earlier = no_earlier_address before line name has_name not_repeated_here in
          address_of_label lines before after line name is_split has_name
          ∙ ap (λ (earlier : Option ℕ). option_case earlier (Some (words_in before)) Some) no_earlier;
      -- each label with an address is the label of a line
      named = λ name place has_name. label_found lines [] lines name place refl has_name;
      -- the words of each line are at its address
      each = λ before line line_in_text. let (after, is_split) = line_in_text in
          words_at_address labels lines before after line is_split no_name_fault;
      -- there are no other words
      whole = length-words_from labels [] lines no_name_fault;
    }

-- if a text assembles to words, it denotes these words
pub denotes_assembled : (text words : List ℕ) → assembled text ≡ Ok words → Denotes text words
unfolding assembled
denotes_assembled text words assembled_is =
    let (no_error, words_are) = words_if (fault_in (readings text)) (words_of_lines (readings text)) words assembled_is in
    rw (← words_are) (denotes_words_of text no_error)

-- ---- the text denotes no other words

-- two options are equal if each element of the second is in the first, and the second has an element if the first has
agree : (first second : Option ℕ) → ((element : ℕ) → second ≡ Some element → first ≡ Some element)
    → ((element : ℕ) → first ≡ Some element → is_some second ≡ true) → first ≡ second
agree first (Some element) second_in_first second_has_one = second_in_first element refl
agree None None second_in_first second_has_one = refl
agree (Some element) None second_in_first second_has_one = let is_false : false ≡ true = second_has_one element refl in cc

-- a choice between an option and an element has an element
option_case-is_some : (option : Option ℕ) (default : ℕ) → is_some (option_case option (Some default) Some) ≡ true
option_case-is_some None default = refl
option_case-is_some (Some element) default = refl

-- the labels of words that a text denotes have the addresses that the definition gives
same_place : (text words : List ℕ) (denotes : Denotes text words) (name : List ℕ) → denotes.labels name ≡ place_in (readings text) name
same_place text words denotes name =
    agree (denotes.labels name) (place_in (readings text) name)
    (λ place place_is.
    let (before, line, line_in_text, has_name, address_is) = label_found (readings text) [] (readings text) name place refl place_is in
    denotes.placed before line name line_in_text has_name ∙ ap Some (sym address_is))
    (λ place named_is.
    let (before, line, (after, is_split), has_name, address_is) = denotes.named name place named_is in
    ap is_some (address_of_label (readings text) before after line name is_split has_name)
    ∙ option_case-is_some (place_in before name) (words_in before))

-- a part of a list and the part after it are one part
join_parts : (start count : ℕ) (words rest : List ℕ) → rest ≡ drop (start + count) words → take count (drop start words) ++ rest ≡ drop start words
join_parts start count words rest rest_is =
    ap (λ others. take count (drop start words) ++ others) (rest_is ∙ sym (drop-drop count start words)) ∙ take-append-drop count (drop start words)

-- if each line has its words at its address in some words, these are the words of the text (by induction over the lines)
words_from-each : (labels : List ℕ → Option ℕ) (all_lines before lines : List Reading) (words : List ℕ) → all_lines ≡ before ++ lines
    → length words ≡ words_in all_lines
    → ((prefix : List Reading) (line : Reading) → (after : List Reading) × (all_lines ≡ prefix ++ line ∷ after)
    → line_words labels (words_in prefix) line ≡ Ok (take (line_size line) (drop (words_in prefix) words)))
    → words_from labels before lines ≡ drop (words_in before) words
words_from-each labels all_lines before [] words is_split same_length each_in_place =
    let end_is : words_in all_lines ≡ words_in before = ap words_in (is_split ∙ append-nil before) in
    sym (drop_of_length-le words (omega (arith, same_length, end_is)))
words_from-each labels all_lines before (line ∷ lines) words is_split same_length each_in_place =
    let rest_is = words_from-each labels all_lines (before ++ line ∷ []) lines words (is_split
    ∙ sym (append_assoc before (line ∷ []) lines)) same_length
    each_in_place in
    let next_is : words_in (before ++ line ∷ []) ≡ words_in before + line_size line = sum_by_push line_size before line in
    rw (each_in_place before line (lines, is_split))
    (join_parts (words_in before) (line_size line) words _ (rest_is ∙ ap (λ count. drop count words) next_is))

-- a text without an error denotes only the words to which it assembles
pub assembled_denoted : (text words : List ℕ) → Denotes text words → fault_in (readings text) ≡ None → assembled text ≡ Ok words
unfolding assembled
assembled_denoted text words denotes no_error =
    let same_labels : denotes.labels ≡ place_in (readings text) = λ i name. same_place text words denotes name i in
    let words_are : words_from denotes.labels [] (readings text) ≡ words =
    words_from-each denotes.labels (readings text) [] (readings text) words refl denotes.whole denotes.each in
    rw no_error (ap Ok (ap (λ labels. words_from labels [] (readings text)) (sym same_labels) ∙ words_are))
