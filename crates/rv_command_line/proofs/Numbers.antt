-- The value that a typed getter of `clap` returns for the text of an option is the value that the definition reads from this text.
use Rattle.std.proofs.Common.{◌≡◌, ◌∙◌, ◌&&◌, ◌∷◌, ◌^◌, ◌<◌, [], ap, Bool, cond, Err, false, length, List, None, ℕ, Ok, Option, refl, Result, Some, true}
use Rattle.std.proofs.Common.{sym, true≢false}
use Rattle.std.proofs.lemmas.Bool.Decides.{Decides-and, Decides-ltb}
use Rattle.std.specs.Bool.{Decides}
use Rattle.std.specs.Char.{digit_value}
use Rattle.std.specs.List.{list_all}
use Rattle.std.specs.Prelude.{nat_lt, option_and_then}
use Rattle.std.specs.Str.Parse.{AllDigits, digits_value, IsNumeral, ParsesUnsigned, without_leading_plus}
use Rattle.clap.specs.ValueTests.{is_numeral}
use Rattle.clap.proofs.WalkLemmas.{one_text-rows}
use Rattle.clap.specs.Words.{one_of, one_text, ReadsOne, rows_of, Text}
use Rattle.clap.specs.declared.parser.matches.Found.{Found}
use Rattle.rv_command_line.specs.Job.{number_in_text}

-- the value that a getter returns for the option's text, if the option is given
pub getter_value : {X : Type 0} (read : Text → Option X) (found : Found) (id : Text) (result : Option X) → (one_text found id ≡ None → result ≡ None)
    → ((text : Text) → one_text found id ≡ Some text → result ≡ read text) → result ≡ option_and_then read (one_of id (rows_of found))
getter_value read found id result if_not_given if_given = rw (sym (one_text-rows found id)) (by_text (one_text found id) refl) where
  -- the same claim by cases on the text of the option, which may not be given
  by_text : (given : Option Text) → one_text found id ≡ given → result ≡ option_and_then read given
  by_text None is_given = if_not_given is_given
  by_text (Some text) is_given = if_given text is_given

-- digits pass the test of a decimal number
digits_decided : (digits : List ℕ) → Decides (list_all (λ digit. nat_lt (digit_value digit) 10) digits) (AllDigits 10 digits)
digits_decided [] = ((λ all_digits. tt), (λ all_digits. refl))
digits_decided (digit ∷ digits) = Decides-and _ _ (Decides-ltb (digit_value digit) 10) (digits_decided digits)

module _ (bits : ℕ) (text : Text) where
  -- `value` is the value of the digits
  abbrev value : ℕ
  value = digits_value 10 (without_leading_plus text)

  -- the text is a number of `bits` bits
  abbrev is_word : Bool
  is_word = is_numeral (without_leading_plus text) && nat_lt value (2 ^ bits)

  -- the test decides whether the text is a number of so many bits
  word_decided : Decides is_word (IsNumeral 10 (without_leading_plus text) × (value < 2 ^ bits))
  word_decided = Decides-and _ _ (Decides-and _ _ (Decides-ltb 0 (length (without_leading_plus text))) (digits_decided (without_leading_plus text)))
      (Decides-ltb value (2 ^ bits))

  -- the value that `get_one` returns for a text is the number of `bits` bits in the text
  pub reads_number : {E : Type 0} (G : Text → Result ℕ E → Type 0) (result : Option ℕ) → ReadsOne G text result
      → ((result_read : Result ℕ E) → G text result_read → ParsesUnsigned bits 10 text result_read) → result ≡ number_in_text bits text
  reads_number G (Some number) read parses =
      let (test_if_number, number_is_value) = parses (Ok number) read in
      let (number_if_test, test_holds_if_number) = word_decided in
      rw (test_holds_if_number test_if_number) (ap Some number_is_value)
  reads_number G None read parses = by_test is_word refl where
    -- the same claim by cases on the test: a getter returns no value only if the text is no number in range
    by_test : (test : Bool) → is_word ≡ test → None ≡ cond test (Some value) None
    by_test true test_is =
        let (error, text_has_error) = read in
        let (number_if_test, test_holds_if_number) = word_decided in
        absurd (parses (Err error) text_has_error (number_if_test test_is))
    by_test false test_is = refl

  -- for every text, the number in the text is a value that `get_one` may return, where `bits` is the width of the number
  pub number_reads : ReadsOne {E = Bool} (λ text result. ParsesUnsigned bits 10 text result) text (number_in_text bits text)
  number_reads = by_test is_word refl where
    -- the same claim by cases on the test, which states whether the text is a number in range
    by_test : (test : Bool) → is_word ≡ test
        → ReadsOne {E = Bool} (λ text result. ParsesUnsigned bits 10 text result) text (cond test (Some value) None)
    by_test true test_is = let (number_if_test, test_holds_if_number) = word_decided in (number_if_test test_is, refl)
    by_test false test_is =
        let (number_if_test, test_holds_if_number) = word_decided in
        (true, λ is_number. true≢false (sym (test_holds_if_number is_number) ∙ test_is))
