-- This file proves that a number which is read digit by digit has only digits of its base, and stays below the base to the power of their count.
use Rattle.std.proofs.Common.{◌≡◌, ℕ, suc, ◌+◌, ◌*◌, ◌^◌, ◌<◌, ◌≤◌, true, List, [], ◌∷◌, length, take, get_or, length-take-le, subst, arith}
use Rattle.std.specs.List.{list_all}
use Rattle.std.specs.Char.{is_digit, digit_value}
use Rattle.std.specs.Str.Parse.{AllDigits, digits_value}
use Rattle.std.proofs.lemmas.Bool.Decides.{nat_tests}
use Rattle.std.proofs.lemmas.Int.Digits.{digits_value-lt}
use Rattle.std.proofs.lemmas.List.Folds.{list_all_more}
use Rattle.std.proofs.Math.Nat.{pow-le-pow_right, mul-le-mul_right, pow-suc}

-- if the test for digits holds for all bytes of `byte ∷ text`, then the first byte is a digit of the base, and the test holds for the bytes after it
digits_from_test : (base byte : ℕ) (text : List ℕ) → list_all (λ byte. is_digit byte base) (byte ∷ text) ≡ true
    → (digit_value byte < base) × (list_all (λ byte. is_digit byte base) text ≡ true)
digits_from_test base byte text all_pass = grind (arith, nat_tests)

-- if the test for digits holds for all bytes of a text, then it has only digits of the base (by induction over the text)
pub AllDigits-from_list_all : (base : ℕ) (text : List ℕ) → list_all (λ byte. is_digit byte base) text ≡ true → AllDigits base text
AllDigits-from_list_all base [] all_pass = tt
AllDigits-from_list_all base (byte ∷ text) all_pass =
    let digits = digits_from_test base byte text all_pass in
    (digits.0, AllDigits-from_list_all base text digits.1)

-- a value of `count` digits, with one more digit, fits in 32 bits if `count` is below `most` and each number of `most` digits fits
pub value_step-lt : (base most count value digit : ℕ) → 2 ≤ base → base ^ most ≤ 2 ^ 32 → count < most → value < base ^ count → digit < base
    → value * base + digit < 2 ^ 32
value_step-lt base most count value digit base_is_valid most_digits_fit digit_fits value_is_below digit_below_base =
    let power_is_monotonic : base ^ suc count ≤ base ^ most = pow-le-pow_right (omega arith) (omega arith) in
    let scaled_is_below : suc value * base ≤ base ^ count * base = mul-le-mul_right base (omega arith) in
    omega (arith, pow-suc base count, power_is_monotonic, scaled_is_below)

-- the value of the first `count` digits of a text is below the base to the power of `count`
first_digits-lt : (base count value : ℕ) (text : List ℕ) → 2 ≤ base → count ≤ length text
    → list_all (λ byte. is_digit byte base) (take count text) ≡ true
    → value ≡ digits_value base (take count text) → value < base ^ count
first_digits-lt base count value text base_is_valid count_in_range all_are_digits value_is =
    let length_is : length (take count text) ≡ count = length-take-le count text count_in_range in
    let below_power : digits_value base (take count text) < base ^ length (take count text) =
    digits_value-lt base (take count text) (AllDigits-from_list_all base (take count text) all_are_digits) in
    let IsBelowPower : ℕ → Type 0 = λ exponent. digits_value base (take count text) < base ^ exponent in
    let below_power_of_count : digits_value base (take count text) < base ^ count = subst IsBelowPower length_is below_power in
    omega (arith, value_is, below_power_of_count)

-- the value of the first `count` digits of a text of at most `most` digits, with one more digit, fits in 32 bits if `most` digits always fit
pub number_step-lt : (base most count value digit : ℕ) (text : List ℕ) → 2 ≤ base → base ^ most ≤ 2 ^ 32 → count < length text
    → length text ≤ most → list_all (λ byte. is_digit byte base) (take count text) ≡ true → value ≡ digits_value base (take count text) → digit < base
    → value * base + digit < 2 ^ 32
number_step-lt base most count value digit text base_is_valid most_digits_fit index_in_bounds is_short all_are_digits value_is digit_below_base =
    let below_power = first_digits-lt base count value text base_is_valid (omega arith) all_are_digits value_is in
    value_step-lt base most count value digit base_is_valid most_digits_fit (omega arith) below_power digit_below_base

-- the value of the first `count` digits of a text with at most `most` digits is below the base to the power of `most`
pub number-lt : (base most count value : ℕ) (text : List ℕ) → 2 ≤ base → count ≤ length text → length text ≤ most
    → list_all (λ byte. is_digit byte base) (take count text) ≡ true → value ≡ digits_value base (take count text) → value < base ^ most
number-lt base most count value text base_is_valid count_in_range is_short all_are_digits value_is =
    let below_power_of_count = first_digits-lt base count value text base_is_valid count_in_range all_are_digits value_is in
    let power_is_monotonic : base ^ count ≤ base ^ most = pow-le-pow_right (omega arith) (omega arith) in
    omega (arith, below_power_of_count, power_is_monotonic)

-- if the first `count` bytes of a text are digits, and so is the byte at index `count`, then the first `count + 1` bytes are digits
pub all_digits_more : (base count : ℕ) (text : List ℕ) → count < length text → list_all (λ byte. is_digit byte base) (take count text) ≡ true
    → digit_value (get_or text count 0) < base → list_all (λ byte. is_digit byte base) (take (count + 1) text) ≡ true
all_digits_more base count text index_in_bounds all_are_digits digit_below_base =
    let test_of_one_more = list_all_more (λ byte. is_digit byte base) text count 0 index_in_bounds in
    grind (arith, nat_tests, test_of_one_more)
