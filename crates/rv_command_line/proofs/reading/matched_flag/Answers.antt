-- This file proves obligations of `matched_flag`, which returns whether a flag is set, if the command line has it.
use Rattle.std.proofs.Common.{◌≡◌, Bool, codes, false, List, None, ℕ, Option, refl, Some, true}
use Rattle.std.proofs.lemmas.Bool.{false_from_ne_true}
use Rattle.std.proofs.lemmas.Slice.Eq.{bytes_eq-Decides}
use Rattle.std.specs.Str.{bytes_eq}
use Rattle.std.specs.Str.Parse.{ParsesBool}
use Rattle.clap.specs.Words.{found_of, ReadsOne}
use Rattle.rv_command_line.proofs.Numbers.{getter_value}
use Rattle.rv_command_line.specs.Job.{truth_in_text}
use Rattle.rv_command_line.proofs.reading.matched_flag.Goals as goal

-- the value that `get_one::<bool>` returns for a text is the truth value of the definition
reads_truth : (E : Type 0) (text : List ℕ) (result : Option Bool) → ReadsOne {E = E} ParsesBool text result → result ≡ truth_in_text text
reads_truth E text (Some true) read = rw read refl
reads_truth E text (Some false) read = rw read refl
reads_truth E text None (error, (is_not_true, is_not_false)) =
    rw (not_equal (codes "true") is_not_true, not_equal (codes "false") is_not_false) refl
  where
    -- two different texts fail the test of equal bytes
    not_equal : (other : List ℕ) → (text ≡ other → ⊥) → bytes_eq text other ≡ false
    not_equal other differs =
        let (equal_if_test, test_if_equal) = bytes_eq-Decides text other in
        false_from_ne_true (bytes_eq text other) (λ test_is. differs (equal_if_test test_is))

-- the result is the truth value in the text of the flag, if the command line has the flag
pub returns : goal.returns
returns c = getter_value truth_in_text (found_of c.args.matches.now) c.args.id.now c.get_one.result c.get_one.ensures.none
    (λ text text_is. reads_truth _ text _ (c.get_one.ensures.value text text_is))
