-- This file proves obligations of `add_bytes`: the crate hex decodes the same bytes of a word as the definition `bytes_of_digits`.
use Rattle.std.proofs.Common.{rules, ◌≡◌, ℕ, ◌+◌, ◌*◌, ◌%◌, Bool, true, false, cond, ◌&&◌, inl, inr, List, [], ◌∷◌, length}
use Rattle.std.proofs.Common.{Option, Some, None, Result, Ok, Err, refl, sym, subst, ◌∙◌, ap, arith}
use Rattle.std.proofs.lemmas.Grind.{common_steps}
use Rattle.std.proofs.lemmas.Bool.{cases_eq}
use Rattle.std.proofs.lemmas.Bool.Decides.{nat_tests}
use Rattle.std.specs.Char.{is_digit, digit_value}
use Rattle.std.specs.List.{list_all}
use Rattle.std.specs.Result.{result_ok}
use Rattle.hex.specs.declared.error.FromHexError.{FromHexError}
use Rattle.hex.specs.Hex.{hex_digit_value, digit_or_error, decode_pairs, decode_of, ◌>>=◌}
use Rattle.rv_streams.specs.declared.fault.BenchFault.TheVariants.{NoMemory}
use Rattle.rv_streams.specs.Faults.{Outcome}
use Rattle.rv_streams.specs.Image.{AddsBytes, pair_values, bytes_of_digits}
use Rattle.rv_streams.proofs.image.add_bytes.Goals as goal

-- the two definitions of the value of a hexadecimal digit agree
hex_digit_value-is : (digit : ℕ) → hex_digit_value digit ≡ cond (is_digit digit 16) (Some (digit_value digit)) None
hex_digit_value-is digit = grind (arith, nat_tests)

-- `byte_before` is the byte of two digits, followed by other bytes, if all of them exist
byte_before : Option ℕ → Option ℕ → Option (List ℕ) → Option (List ℕ)
byte_before (Some high) (Some low) (Some bytes) = Some ((high * 16 + low) ∷ bytes)
byte_before (Some high) (Some low) None = None
byte_before (Some high) None bytes = None
byte_before None low bytes = None

-- the decoder reads two digits as a byte before the rest, and fails if one of them is no digit
read_pair : (first second index : ℕ) (high low : Option ℕ) (rest : Result (List ℕ) FromHexError)
    → result_ok
    ((digit_or_error first index high >>= (λ high. digit_or_error second (index + 1) low >>= (λ low. Ok (high * 16 + low))))
    >>= (λ byte. rest >>= (λ bytes. Ok (byte ∷ bytes))))
    ≡ byte_before high low (result_ok rest)
unfolding byte_before
read_pair first second index (Some high) (Some low) (Ok bytes) = refl
read_pair first second index (Some high) (Some low) (Err error) = refl
read_pair first second index (Some high) None rest = refl
read_pair first second index None low rest = refl

-- two digits before other bytes give the byte of both digits and the other bytes, if the tests of both digits and of the other bytes are true
byte_before-tests : (is_high is_low are_others : Bool) (high low : ℕ) (bytes : List ℕ)
    → byte_before (cond is_high (Some high) None) (cond is_low (Some low) None) (cond are_others (Some bytes) None)
    ≡ cond (is_high && (is_low && are_others)) (Some ((16 * high + low) ∷ bytes)) None
unfolding byte_before
byte_before-tests true true true high low bytes =
    let same_byte : high * 16 + low ≡ 16 * high + low = omega arith in ap (λ byte. Some (byte ∷ bytes)) same_byte
byte_before-tests true true false high low bytes = refl
byte_before-tests true false are_others high low bytes = refl
byte_before-tests false is_low are_others high low bytes = refl

-- the decoder of pairs gives the bytes of a word of even length if all its bytes are hexadecimal digits
decode_pairs-is : (index : ℕ) (word : List ℕ) → length word % 2 ≡ 0
    → result_ok (decode_pairs index word) ≡ cond (list_all (λ digit. is_digit digit 16) word) (Some (pair_values word)) None
unfolding decode_pairs
decode_pairs-is index [] even = refl
decode_pairs-is index (first ∷ []) even = absurd (omega arith)
decode_pairs-is index (first ∷ second ∷ rest) even =
    let are_digits = list_all (λ digit. is_digit digit 16) rest in
    let decoded = result_ok (decode_pairs (index + 2) rest) in
    let high = cond (is_digit first 16) (Some (digit_value first)) None in
    let low = cond (is_digit second 16) (Some (digit_value second)) None in
    let decoded_is : decoded ≡ cond are_digits (Some (pair_values rest)) None = decode_pairs-is (index + 2) rest (omega arith) in
    read_pair first second index (hex_digit_value first) (hex_digit_value second) (decode_pairs (index + 2) rest)
    ∙ (ap (λ high. byte_before high (hex_digit_value second) decoded) (hex_digit_value-is first)
    ∙ (ap (λ low. byte_before high low decoded) (hex_digit_value-is second)
    ∙ (ap (λ bytes. byte_before high low bytes) decoded_is
    ∙ byte_before-tests (is_digit first 16) (is_digit second 16) are_digits (digit_value first) (digit_value second) (pair_values rest))))

-- the crate hex decodes a word to the bytes of its digits, or to an error if its length is odd or a byte is no digit
pub bytes_of_digits-decoded : (word : List ℕ) → bytes_of_digits word ≡ result_ok (decode_of word)
unfolding bytes_of_digits
bytes_of_digits-decoded word =
    elim (cases_eq (length word % 2) 1) [
      | inl odd ↦ rw (odd) refl
      | inr not_odd ↦
          let even : length word % 2 ≡ 0 = omega arith in
          rw (even) (sym (decode_pairs-is 0 word even))
    ]

-- if the word is not decoded, the result is `Hex`, and the image is unchanged (clause `outcome`)
pub returns-then-is_err-clause-outcome : goal.returns-then-is_err-clause-outcome
returns-then-is_err-clause-outcome digit = (rw (bytes_of_digits-decoded digit.args.word.now) (search rules), refl)

-- if the image would be too long, the result is `TooLong`, and the image is unchanged (clause `outcome`)
pub returns-then-len-count-gt-IMAGE_MAX-clause-outcome : goal.returns-then-len-count-gt-IMAGE_MAX-clause-outcome
returns-then-len-count-gt-IMAGE_MAX-clause-outcome digit = (rw (bytes_of_digits-decoded digit.args.word.now) (search rules), refl)

-- otherwise the bytes are appended, or memory for them is refused and the image is unchanged (clause `outcome`)
pub returns-clause-outcome : goal.returns-clause-outcome
returns-clause-outcome digit = by_result digit.add_behind.result refl where
  -- the contract holds for each result of `add_behind`: success, or an error
  by_result : (result : Outcome) → digit.add_behind.result ≡ result
      → AddsBytes digit.args.word.now digit.args.image.now.items digit.add_behind.new.bytes.items result
  by_result (Ok done) result_is =
      let items = rw result_is at digit.add_behind.ensures.items in rw (bytes_of_digits-decoded digit.args.word.now) (grind (arith, common_steps))
  by_result (Err fault) result_is =
      let items = rw result_is at digit.add_behind.ensures.items in
      let full = rw result_is at digit.add_behind.ensures.full in
      let is_no_memory : fault ≡ NoMemory = rw result_is at digit.add_behind.ensures.fault in
      subst (λ fault. AddsBytes digit.args.word.now digit.args.image.now.items digit.add_behind.new.bytes.items (Err fault)) (sym is_no_memory)
      (rw (bytes_of_digits-decoded digit.args.word.now) (grind (arith, common_steps)), items)
