-- This file proves lemmas about the second pass, line by line.
use Rattle.std.proofs.Common.{◌≡◌, ◌⊎◌, inl, inr, ◌∙◌, sym, ap, refl, ℕ, ◌+◌, ◌-◌, ◌≤◌, ◌<◌, nat_lt, Bool, true, false, if◌then◌else◌, List, []}
use Rattle.std.proofs.Common.{◌∷◌, ◌++◌}
use Rattle.std.proofs.Common.{length, length-append, take, Option, Some, None, Result, Ok, Err, IsOk, append_assoc, map, arith}
use Rattle.std.proofs.lemmas.Bool.Decides.{nat_tests}
use Rattle.std.proofs.lemmas.List.{take_at}
use Rattle.std.proofs.lemmas.List.Sums.{sum_by_push}
use Rattle.rv_word.specs.Cases.{option_case, result_case}
use Rattle.rv_asm.specs.LineReading.{line_read}
use Rattle.rv_text.specs.Lines.{lines_of}
use Rattle.rv_asm.specs.Program.{Reading, readings, own_fault, name_fault, first_line_fault, line_words, line_size, words_in, words_from}
use Rattle.rv_asm.specs.declared.fault.AsmFault.{AsmFault}
use Rattle.rv_asm.specs.declared.fault.AsmFaultKind.{AsmFaultKind}
use Rattle.rv_asm.specs.declared.fault.AsmFaultKind.TheVariants.{TooLong, NoMemory}
use Rattle.rv_asm.proofs.LabelLemmas.{fault_after, fault_later, fault_here, first_fault-push, max_words}

-- The second pass has written the words of the lines `before`. `rest` is the text that remains, with the other lines.
pub record HasWrittenUpTo (labels : List ℕ → Option ℕ) (words : List ℕ) (lines : ℕ) (text rest : List ℕ) : Type 0 where
  -- the lines whose words are written
  pub before : List Reading
  -- `lines` is the number of these lines
  pub line_count : lines ≡ length before
  -- the number of words is the sum of the sizes of these lines
  pub word_count : length words ≡ words_in before
  -- there are at most `max_words` words
  pub within_limit : words_in before ≤ max_words
  -- the lines of the text are these, followed by the lines of the rest
  pub is_split : readings text ≡ before ++ readings rest
  -- no line of the rest has an error of its own
  pub no_own_fault : first_line_fault own_fault before (readings rest) ≡ None
  -- the first error of a used label is in the rest
  pub fault_in_rest : first_line_fault (name_fault labels) [] (readings text) ≡ first_line_fault (name_fault labels) before (readings rest)
  -- no line of these has an error of a used label
  pub no_fault_before : first_line_fault (name_fault labels) [] before ≡ None
  -- the words of the text are these words, followed by those of the rest
  pub words_split : words_from labels [] (readings text) ≡ words ++ words_from labels before (readings rest)

-- if an error is chosen before the rest of errors and none is found, then neither has one
pub no_fault : (fault : Option AsmFaultKind) (at_line : AsmFaultKind → AsmFault) (rest : Option AsmFault)
    → option_case fault rest (λ kind. Some (at_line kind)) ≡ None → (fault ≡ None) × (rest ≡ None)
no_fault None at_line rest choice_is = (refl, choice_is)
no_fault (Some kind) at_line rest choice_is = cc

-- after a line without an error of its own there are at most `max_words` words
stays_within_limit : (before : List Reading) (line : Reading) → own_fault before line ≡ None → words_in before + line_size line ≤ max_words
stays_within_limit before (Err kind) no_fault = cc
stays_within_limit before (Ok line) no_fault = within_limit (nat_lt max_words (words_in before + line_size (Ok line))) refl no_fault where
  -- the words are within the limit, if the test of too many words gives no error
  within_limit : (is_too_long : Bool) → nat_lt max_words (words_in before + line_size (Ok line)) ≡ is_too_long
      → (if is_too_long then Some TooLong else None) ≡ None → words_in before + line_size (Ok line) ≤ max_words
  within_limit true test_is no_fault = cc
  within_limit false test_is no_fault = grind (arith, nat_tests)

-- After the second pass has written the words of one more line, it has written up to the line after it. Each fact about the longer list of lines
-- follows from the fact about the lines before and from the line.
pub writes_on : (labels : List ℕ → Option ℕ) (words new added : List ℕ) (lines : ℕ) (text rest after line : List ℕ)
    → (so_far : HasWrittenUpTo labels words lines text rest) → lines_of rest ≡ line ∷ lines_of after
    → line_words labels (length words) (line_read line) ≡ Ok added → new ≡ words ++ added → length new ≡ length words + line_size (line_read line)
    → HasWrittenUpTo labels new (lines + 1) text after
writes_on labels words new added lines text rest after line so_far lines_are words_are new_words_are same_length =
    let read_line = line_read line in
    let rest_is : readings rest ≡ read_line ∷ readings after = ap (map line_read) lines_are in
    -- neither the line nor the lines after it have an error of their own
    let (line_has_none, others_have_none) =
    no_fault (own_fault so_far.before read_line) (fault_after (length so_far.before)) (first_line_fault own_fault (so_far.before ++ read_line ∷ [])
    (readings after))
    (rw rest_is at so_far.no_own_fault) in
    -- the words of the lines so far and of the line are the words of both
    let word_sum : words_in (so_far.before ++ read_line ∷ []) ≡ words_in so_far.before + line_size read_line =
    sum_by_push line_size so_far.before read_line in
    let now_within_limit = stays_within_limit so_far.before read_line line_has_none in
    let line_words_are : line_words labels (words_in so_far.before) read_line ≡ Ok added = rw (← so_far.word_count) words_are in
    record {
      before = so_far.before ++ read_line ∷ [];
      line_count = omega (arith, so_far.line_count, length-append so_far.before (read_line ∷ []));
      word_count = omega (arith, same_length, so_far.word_count, word_sum);
      within_limit = omega (arith, now_within_limit, word_sum);
      is_split = so_far.is_split ∙ ap (λ others. so_far.before ++ others) rest_is
          ∙ sym (append_assoc so_far.before (read_line ∷ []) (readings after));
      no_own_fault = others_have_none;
      fault_in_rest =
          so_far.fault_in_rest ∙ ap (first_line_fault (name_fault labels) so_far.before) rest_is
          ∙ fault_later (name_fault labels) so_far.before (readings after) read_line (rw line_words_are refl);
      -- the line has no error of a used label, since its words are Ok
      no_fault_before = first_fault-push (name_fault labels) [] so_far.before read_line ∙ rw (so_far.no_fault_before, line_words_are) refl;
      -- the words of the text are those so far, those of the line, and those of the lines after it
      words_split =
          so_far.words_split ∙ ap (λ others. words ++ words_from labels so_far.before others) rest_is
          ∙ rw (line_words_are, new_words_are)
          (sym (append_assoc words added (words_from labels (so_far.before ++ read_line ∷ []) (readings after))));
    }

-- a line whose words are Ok has no error of a used label
no_name_fault : (words : Result (List ℕ) AsmFaultKind) → IsOk words → result_case words (λ found. None) Some ≡ None
no_name_fault (Ok found) is_ok = refl
no_name_fault (Err kind) is_ok = cc

-- the second pass has written the words of the lines before `rest`, and `line` is the next line
module _ {labels : List ℕ → Option ℕ} {words : List ℕ} {lines : ℕ} {text rest : List ℕ} (after line : List ℕ)
    (so_far : HasWrittenUpTo labels words lines text rest) (lines_are : lines_of rest ≡ line ∷ lines_of after) where
  -- `read_line` is the next line as it is read
  abbrev read_line : Reading
  read_line = line_read line

  -- the lines of the text are those before the rest, the next line, and those after it
  text_is_split : readings text ≡ so_far.before ++ read_line ∷ readings after
  text_is_split = so_far.is_split ∙ ap (λ others. so_far.before ++ map line_read others) lines_are

  -- an error in the words of the next line is the first error of a used label in the text
  fails_at : (kind : AsmFaultKind) → line_words labels (length words) read_line ≡ Err kind
      → first_line_fault (name_fault labels) [] (readings text) ≡ Some (record { line = lines + 1; kind = kind })
  fails_at kind line_fails =
      let has_fault : line_words labels (words_in so_far.before) read_line ≡ Err kind = rw (← so_far.word_count) line_fails in
      so_far.fault_in_rest ∙ ap (λ others. first_line_fault (name_fault labels) so_far.before (map line_read others)) lines_are
      ∙ fault_here (name_fault labels) so_far.before (readings after) read_line kind (rw has_fault refl)
      ∙ ap (λ number. Some (fault_after number kind)) (sym so_far.line_count)

  -- the lines up to and including the next one are those before the rest and the next one
  lines_through : take (lines + 1) (readings text) ≡ so_far.before ++ read_line ∷ []
  lines_through =
      let is_split : readings text ≡ (so_far.before ++ read_line ∷ []) ++ readings after =
      text_is_split ∙ sym (append_assoc so_far.before (read_line ∷ []) (readings after)) in
      let count_is = length-append so_far.before (read_line ∷ []) in
      ap (take (lines + 1)) is_split
      ∙ take_at (so_far.before ++ read_line ∷ []) (readings after) (lines + 1) (omega (arith, so_far.line_count, count_is))

  -- if the words of the next line are Ok, no line up to and including it has an error of a used label
  no_fault_through : IsOk (line_words labels (length words) read_line)
      → first_line_fault (name_fault labels) [] (take (lines + 1) (readings text)) ≡ None
  no_fault_through is_ok =
      let no_fault_here : name_fault labels so_far.before read_line ≡ None =
      no_name_fault (line_words labels (words_in so_far.before) read_line) (rw (← so_far.word_count) is_ok) in
      ap (first_line_fault (name_fault labels) []) lines_through
      ∙ (first_fault-push (name_fault labels) [] so_far.before read_line ∙ rw (so_far.no_fault_before, no_fault_here) refl)

  -- if the next line has a word, there are fewer words before it than with it
  words_through : 0 < line_size read_line → words_in (take (lines + 1 - 1) (readings text)) < words_in (take (lines + 1) (readings text))
  words_through has_word =
      let count_is : length so_far.before ≡ lines + 1 - 1 = omega (arith, so_far.line_count) in
      let lines_are_before : take (lines + 1 - 1) (readings text) ≡ so_far.before =
      ap (take (lines + 1 - 1)) text_is_split ∙ take_at so_far.before (read_line ∷ readings after) (lines + 1 - 1) count_is in
      let word_sum : words_in (so_far.before ++ read_line ∷ []) ≡ words_in so_far.before + line_size read_line =
      sum_by_push line_size so_far.before read_line in
      let words_before_are : words_in (take (lines + 1 - 1) (readings text)) ≡ words_in so_far.before = ap words_in lines_are_before in
      let words_through_are : words_in (take (lines + 1) (readings text)) ≡ words_in (so_far.before ++ read_line ∷ []) = ap words_in lines_through in
      omega (arith, words_before_are, words_through_are, word_sum, has_word)

  -- the second pass fails at a line because of an error of a used label in it, or because memory is exhausted
  pub fails_or_out_of_memory : (kind : AsmFaultKind) → (line_words labels (length words) read_line ≡ Err kind)
      ⊎ ((kind ≡ NoMemory) × IsOk (line_words labels (length words) read_line) × (0 < line_size read_line))
      → (first_line_fault (name_fault labels) [] (readings text) ≡ Some (record { line = lines + 1; kind = kind }))
      ⊎ ((kind ≡ NoMemory) × (first_line_fault (name_fault labels) [] (take (lines + 1) (readings text)) ≡ None)
      × (words_in (take (lines + 1 - 1) (readings text)) < words_in (take (lines + 1) (readings text))))
  fails_or_out_of_memory kind (inl line_fails) = inl (fails_at kind line_fails)
  fails_or_out_of_memory kind (inr (is_no_memory, words_are_ok, has_word)) = inr (is_no_memory, no_fault_through words_are_ok, words_through has_word)

  -- the number of the next line is at most the number of lines of the text
  pub is_line_of : lines + 1 ≤ length (readings text)
  is_line_of = rw text_is_split (omega (arith, so_far.line_count, length-append so_far.before (read_line ∷ readings after)))
