-- The hexadecimal text of a number without leading zeros is the text of its last k digits, if the number has k digits.
use Rattle.std.proofs.Common.{◌≡◌, ℕ, zero, suc, ◌/◌, ◌%◌, ◌^◌, ◌<◌, ◌≤◌, false, List, [], ◌∷◌, ◌++◌, sym, ◌∙◌, arith, append_assoc, append-nil}
use Rattle.std.specs.Char.{digit_char}
use Rattle.std.specs.Fmt.{digits, digits_onto}
use Rattle.std.proofs.Math.Nat.{pow-suc}
use Rattle.std.proofs.lemmas.Bool.Decides.{nat_tests}
use Rattle.rv_text.specs.Digits.{hex_digits}

-- `digits_onto` puts the one digit of a number below 16 before a text
onto_last : (k n : ℕ) (after : List ℕ) → n < 16 → digits_onto (suc k) 16 false n after ≡ digit_char (n % 16) ∷ after
onto_last k n after below_16 = grind (arith, nat_tests)

-- for a larger number, `digits_onto` puts the digits of its quotient by 16, and then its last digit, before a text
onto_step : (k n : ℕ) (after : List ℕ) → 16 ≤ n → digits_onto (suc k) 16 false n after ≡ digits_onto k 16 false (n / 16) (digit_char (n % 16) ∷ after)
onto_step k n after at_least_16 = grind (arith, nat_tests)

-- a number of at least 16 has the digits of its quotient by 16, and then its last digit, as its hexadecimal text
by_quotient : (k places n : ℕ) (after : List ℕ) → 16 ≤ n
    → ((rest : List ℕ) → digits_onto k 16 false (n / 16) rest ≡ hex_digits places (n / 16) ++ rest)
    → digits_onto (suc k) 16 false n after ≡ hex_digits (suc places) n ++ after
unfolding hex_digits
by_quotient k places n after at_least_16 quotient_text =
    onto_step k n after at_least_16 ∙ quotient_text (digit_char (n % 16) ∷ after)
    ∙ sym (append_assoc (hex_digits places (n / 16)) (digit_char (n % 16) ∷ []) after)

-- a power of 16 is at least 1
pow-pos : (k : ℕ) → 1 ≤ 16 ^ k
pow-pos zero = omega arith
pow-pos (suc k) = omega (arith, pow-suc 16 k, pow-pos k)

-- the hexadecimal text of a number below 16 is its one digit
one_digit_onto : (k n : ℕ) (after : List ℕ) → n < 16 → digits_onto (suc k) 16 false n after ≡ hex_digits 1 n ++ after
unfolding hex_digits
one_digit_onto k n after below_16 = onto_last k n after below_16

-- the hexadecimal text of a number with `suc places` digits has all of them (by induction over the digits)
all_digits_onto : (k places n : ℕ) (after : List ℕ) → places ≤ k → n < 16 ^ suc places → (0 < places → 16 ^ places ≤ n)
    → digits_onto (suc k) 16 false n after ≡ hex_digits (suc places) n ++ after
all_digits_onto k zero n after places_fit digits_suffice digits_needed = one_digit_onto k n after (omega (arith, digits_suffice))
all_digits_onto zero (suc places) n after places_fit digits_suffice digits_needed = absurd (omega (arith, places_fit))
all_digits_onto (suc k) (suc places) n after places_fit digits_suffice digits_needed =
    let has_digits : 16 ^ suc places ≤ n = digits_needed (omega arith) in
    let quotient_below : n / 16 < 16 ^ suc places = omega (arith, digits_suffice, pow-suc 16 (suc places)) in
    let quotient_has_digits : 0 < places → 16 ^ places ≤ n / 16 = λ not_zero. omega (arith, has_digits, pow-suc 16 places) in
    let at_least_16 : 16 ≤ n = omega (arith, has_digits, pow-suc 16 places, pow-pos places) in
    by_quotient (suc k) (suc places) n after at_least_16 (λ rest. all_digits_onto k places (n / 16) rest (omega (arith, places_fit)) quotient_below
    quotient_has_digits)

-- the hexadecimal digits of a number are its text, if it has `places + 1` digits and no fewer
hex_text_is : (places n : ℕ) → places ≤ 63 → n < 16 ^ suc places → (0 < places → 16 ^ places ≤ n) → hex_digits (suc places) n ≡ digits 16 false n
unfolding digits
hex_text_is places n places_fit digits_suffice digits_needed =
    sym (append-nil (hex_digits (suc places) n)) ∙ sym (all_digits_onto 63 places n [] places_fit digits_suffice digits_needed)

-- a number below 2 ^ 4 has one hexadecimal digit
pub one_digit : (n : ℕ) → n < 0x10 → hex_digits 1 n ≡ digits 16 false n
one_digit n below_16 = hex_text_is 0 n (omega arith) (omega arith) (λ no_more. omega arith)

-- a number from 2 ^ 4 to below 2 ^ 8 has two hexadecimal digits
pub two_digits : (n : ℕ) → 0x10 ≤ n → n < 0x100 → hex_digits 2 n ≡ digits 16 false n
two_digits n at_least is_below = hex_text_is 1 n (omega arith) (omega arith) (λ not_zero. omega arith)

-- a number from 2 ^ 8 to below 2 ^ 12 has three hexadecimal digits
pub three_digits : (n : ℕ) → 0x100 ≤ n → n < 0x1000 → hex_digits 3 n ≡ digits 16 false n
three_digits n at_least is_below = hex_text_is 2 n (omega arith) (omega arith) (λ not_zero. omega arith)

-- a number from 2 ^ 12 to below 2 ^ 16 has four hexadecimal digits
pub four_digits : (n : ℕ) → 0x1000 ≤ n → n < 0x10000 → hex_digits 4 n ≡ digits 16 false n
four_digits n at_least is_below = hex_text_is 3 n (omega arith) (omega arith) (λ not_zero. omega arith)

-- a number from 2 ^ 16 to below 2 ^ 20 has five hexadecimal digits
pub five_digits : (n : ℕ) → 0x10000 ≤ n → n < 0x100000 → hex_digits 5 n ≡ digits 16 false n
five_digits n at_least below = hex_text_is 4 n (omega arith) (omega arith) (λ not_zero. omega arith)

pub ruleset hex_texts = (one_digit, two_digits, three_digits, four_digits, five_digits)
