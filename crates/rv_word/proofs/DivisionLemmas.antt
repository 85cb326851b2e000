-- The division of std solves the equation of a division, and its quotient and remainder are the only solution, also as words.
use Rattle.std.proofs.Common.{◌≡◌, ℕ, zero, suc, ◌+◌, ◌-◌, ◌*◌, ◌/◌, ◌%◌, ◌^◌, ◌<◌, ℤ, pos, negsuc, sym, ap, ◌∙◌, arith}
use Rattle.std.specs.Prelude.{unsigned_abs, int_div, int_rem, ◌≤ℤ◌, ◌≢◌}
use Rattle.std.proofs.lemmas.Nat.{div-add-mod', div-mul-add, mod-mul-add, mod_below}
use Rattle.std.proofs.lemmas.Int.{ints, quot-rem, rem_below}
use Rattle.rv_word.specs.Word.{signed, low_word}
use Rattle.rv_word.specs.Division.{IsDivision, IsQuotient, IsRemainder, quotient, remainder, IsUnsignedQuotient, IsUnsignedRemainder}

-- ---- the quotient and remainder of std are those of a division

-- the remainder of a dividend that is not negative is not negative
remainder-not_negative : (dividend divisor : ℤ) → pos 0 ≤ℤ dividend → pos 0 ≤ℤ int_rem dividend divisor
remainder-not_negative (pos n) divisor dividend_not_negative = grind (arith, ints)
remainder-not_negative (negsuc n) divisor dividend_not_negative = absurd (omega (arith, ints))

-- the remainder of a dividend that is not positive is not positive
remainder-not_positive : (dividend divisor : ℤ) → dividend ≤ℤ pos 0 → int_rem dividend divisor ≤ℤ pos 0
remainder-not_positive (pos n) divisor dividend_not_positive = grind (arith, ints)
remainder-not_positive (negsuc n) divisor dividend_not_positive = grind (arith, ints)

-- the quotient and remainder of std solve the equation of a division, rounded towards zero, for a divisor that is not 0
division-of_std : (dividend divisor : ℤ) → 0 < unsigned_abs divisor
    → IsDivision dividend divisor (int_div dividend divisor) (int_rem dividend divisor)
division-of_std dividend divisor divisor_not_zero = record {
  whole = quot-rem dividend divisor;
  smaller = rem_below dividend divisor divisor_not_zero;
  not_negative = remainder-not_negative dividend divisor;
  not_positive = remainder-not_positive dividend divisor;
}

-- a word that is not 0 has a signed value that is not 0
signed-nonzero : (word : ℕ) → word < 2 ^ 32 → word ≢ 0 → 0 < unsigned_abs (signed word)
signed-nonzero word word_fits word_not_zero = grind (arith, ints)

-- ---- the quotient and remainder as words, also on signed overflow

-- on signed overflow, -2 ^ 31 by -1, the dividend is the low word of the integer quotient
overflow-quotient : (dividend divisor : ℕ) → dividend ≡ 2 ^ 31 → divisor ≡ 2 ^ 32 - 1
    → dividend ≡ low_word (int_div (signed dividend) (signed divisor))
overflow-quotient dividend divisor dividend_is_least divisor_is_minus_one = rw (dividend_is_least, divisor_is_minus_one)

-- on signed overflow, -2 ^ 31 by -1, the low word of the integer remainder is 0
overflow-remainder : (dividend divisor : ℕ) → dividend ≡ 2 ^ 31 → divisor ≡ 2 ^ 32 - 1
    → 0 ≡ low_word (int_rem (signed dividend) (signed divisor))
overflow-remainder dividend divisor dividend_is_least divisor_is_minus_one = rw (dividend_is_least, divisor_is_minus_one)

-- for a divisor that is not 0, the quotient is the low word of the integer quotient, on overflow too
pub quotient-word : (dividend divisor : ℕ) → divisor ≢ 0
    → quotient dividend divisor ≡ low_word (int_div (signed dividend) (signed divisor))
quotient-word dividend divisor divisor_not_zero = grind (arith, overflow-quotient dividend divisor)

-- for a divisor that is not 0, the remainder is the low word of the integer remainder, on overflow too
pub remainder-word : (dividend divisor : ℕ) → divisor ≢ 0
    → remainder dividend divisor ≡ low_word (int_rem (signed dividend) (signed divisor))
remainder-word dividend divisor divisor_not_zero = grind (arith, overflow-remainder dividend divisor)

-- the quotient of two words solves the equation of a division, for a divisor that is not 0
pub quotient-equation : (dividend divisor word : ℕ) → divisor < 2 ^ 32 → word ≡ quotient dividend divisor → divisor ≢ 0
    → IsQuotient (signed dividend) (signed divisor) word
quotient-equation dividend divisor word divisor_fits word_is divisor_not_zero = (
  int_div (signed dividend) (signed divisor),
  int_rem (signed dividend) (signed divisor),
  division-of_std (signed dividend) (signed divisor) (signed-nonzero divisor divisor_fits divisor_not_zero),
  word_is ∙ quotient-word dividend divisor divisor_not_zero,
)

-- the remainder of two words solves the equation of a division, for a divisor that is not 0
pub remainder-equation : (dividend divisor word : ℕ) → divisor < 2 ^ 32 → word ≡ remainder dividend divisor → divisor ≢ 0
    → IsRemainder (signed dividend) (signed divisor) word
remainder-equation dividend divisor word divisor_fits word_is divisor_not_zero = (
  int_div (signed dividend) (signed divisor),
  int_rem (signed dividend) (signed divisor),
  division-of_std (signed dividend) (signed divisor) (signed-nonzero divisor divisor_fits divisor_not_zero),
  word_is ∙ remainder-word dividend divisor divisor_not_zero,
)

-- ---- no other numbers are those of a division

-- q and r are the quotient and the remainder of the natural numbers n and k
record IsNatDivision (n k q r : ℕ) : Type 0 where
  -- q is the quotient
  quotient_is : n / k ≡ q
  -- r is the remainder
  remainder_is : n % k ≡ r

-- if q * k + r is n, and r is below k, then q and r are the quotient and the remainder of n and k
nat_division-unique : (n k q r : ℕ) → q * k + r ≡ n → r < k → IsNatDivision n k q r
nat_division-unique n k q r equation remainder_below = record {
  quotient_is = ap (λ x. x / k) (sym equation) ∙ div-mul-add q k r remainder_below;
  remainder_is = ap (λ x. x % k) (sym equation) ∙ mod-mul-add q k r remainder_below;
}

-- q and r are the quotient and the remainder that std has for the integers a and d
record IsIntDivision (a d q r : ℤ) : Type 0 where
  -- q is the quotient of std
  quotient_is : q ≡ int_div a d
  -- r is the remainder of std
  remainder_is : r ≡ int_rem a d

-- If q and r solve the equation of a division of a by d, they are the quotient and the remainder of std. There is a clause for each choice of signs.
-- With the right signs, the magnitudes are those of a division of natural numbers; with wrong signs, the equation has no solution.
division-unique : (a d q r : ℤ) → IsDivision a d q r → IsIntDivision a d q r
-- a dividend n that is not negative: the remainder is not negative (`negsuc r` is -(r + 1))
division-unique (pos n) d q (negsuc r) solves = absurd (omega (arith, ints))
division-unique (pos n) (pos k) (pos q) (pos r) solves =
    let magnitudes = nat_division-unique n k q r (omega (arith, ints, solves.whole)) solves.smaller in
    record { quotient_is = ap pos (sym magnitudes.quotient_is); remainder_is = ap pos (sym magnitudes.remainder_is) }
division-unique (pos n) (pos k) (negsuc q) (pos r) solves = absurd (omega (arith, ints, solves.whole, solves.smaller))
-- a dividend n and a divisor -(k + 1): the quotient is not positive
division-unique (pos n) (negsuc k) (pos zero) (pos r) solves =
    let magnitudes = nat_division-unique n (suc k) 0 r (omega (arith, ints, solves.whole)) solves.smaller in
    record { quotient_is = grind (arith, ints, magnitudes.quotient_is); remainder_is = ap pos (sym magnitudes.remainder_is) }
division-unique (pos n) (negsuc k) (pos (suc q)) (pos r) solves = absurd (omega (arith, ints, solves.whole, solves.smaller))
division-unique (pos n) (negsuc k) (negsuc q) (pos r) solves =
    let magnitudes = nat_division-unique n (suc k) (suc q) r (omega (arith, ints, solves.whole)) solves.smaller in
    record { quotient_is = grind (arith, ints, magnitudes.quotient_is); remainder_is = ap pos (sym magnitudes.remainder_is) }
-- a dividend -(n + 1): the remainder is not positive
division-unique (negsuc n) d q (pos (suc r)) solves = absurd (omega (arith, ints))
division-unique (negsuc n) (pos k) (pos q) (pos zero) solves = absurd (omega (arith, ints, solves.whole))
division-unique (negsuc n) (pos k) (pos zero) (negsuc r) solves =
    let magnitudes = nat_division-unique (suc n) k 0 (suc r) (omega (arith, ints, solves.whole)) solves.smaller in
    record { quotient_is = grind (arith, ints, magnitudes.quotient_is); remainder_is = grind (arith, ints, magnitudes.remainder_is) }
division-unique (negsuc n) (pos k) (pos (suc q)) (negsuc r) solves = absurd (omega (arith, ints, solves.whole, solves.smaller))
division-unique (negsuc n) (pos k) (negsuc q) (pos zero) solves =
    let magnitudes = nat_division-unique (suc n) k (suc q) 0 (omega (arith, ints, solves.whole)) solves.smaller in
    record { quotient_is = grind (arith, ints, magnitudes.quotient_is); remainder_is = grind (arith, ints, magnitudes.remainder_is) }
division-unique (negsuc n) (pos k) (negsuc q) (negsuc r) solves =
    let magnitudes = nat_division-unique (suc n) k (suc q) (suc r) (omega (arith, ints, solves.whole)) solves.smaller in
    record { quotient_is = grind (arith, ints, magnitudes.quotient_is); remainder_is = grind (arith, ints, magnitudes.remainder_is) }
-- a dividend -(n + 1) and a divisor -(k + 1): the quotient is not negative
division-unique (negsuc n) (negsuc k) (pos q) (pos zero) solves =
    let magnitudes = nat_division-unique (suc n) (suc k) q 0 (omega (arith, ints, solves.whole)) solves.smaller in
    record { quotient_is = grind (arith, ints, magnitudes.quotient_is); remainder_is = grind (arith, ints, magnitudes.remainder_is) }
division-unique (negsuc n) (negsuc k) (pos q) (negsuc r) solves =
    let magnitudes = nat_division-unique (suc n) (suc k) q (suc r) (omega (arith, ints, solves.whole)) solves.smaller in
    record { quotient_is = grind (arith, ints, magnitudes.quotient_is); remainder_is = grind (arith, ints, magnitudes.remainder_is) }
division-unique (negsuc n) (negsuc k) (negsuc q) (pos zero) solves = absurd (omega (arith, ints, solves.whole, solves.smaller))
division-unique (negsuc n) (negsuc k) (negsuc q) (negsuc r) solves = absurd (omega (arith, ints, solves.whole, solves.smaller))

-- no other word than the quotient is the quotient of a division
pub quotient-unique : (dividend divisor word : ℕ) → word ≡ quotient dividend divisor → divisor ≢ 0 → (other : ℕ)
    → IsQuotient (signed dividend) (signed divisor) other → other ≡ word
quotient-unique dividend divisor word word_is divisor_not_zero other other_solves =
    let unique = division-unique (signed dividend) (signed divisor) other_solves.0 other_solves.1 other_solves.2 in
    other_solves.3 ∙ ap low_word unique.quotient_is ∙ sym (quotient-word dividend divisor divisor_not_zero) ∙ sym word_is

-- no other word than the remainder is the remainder of a division
pub remainder-unique : (dividend divisor word : ℕ) → word ≡ remainder dividend divisor → divisor ≢ 0 → (other : ℕ)
    → IsRemainder (signed dividend) (signed divisor) other → other ≡ word
remainder-unique dividend divisor word word_is divisor_not_zero other other_solves =
    let unique = division-unique (signed dividend) (signed divisor) other_solves.0 other_solves.1 other_solves.2 in
    other_solves.3 ∙ ap low_word unique.remainder_is ∙ sym (remainder-word dividend divisor divisor_not_zero) ∙ sym word_is

-- ---- unsigned words

-- the unsigned quotient solves the equation of an unsigned division, for a divisor that is not 0
pub unsigned-quotient : (dividend divisor : ℕ) → divisor ≢ 0 → IsUnsignedQuotient dividend divisor (dividend / divisor)
unsigned-quotient dividend divisor divisor_not_zero =
    (dividend % divisor, mod_below dividend divisor (omega arith), div-add-mod' dividend divisor)

-- the unsigned remainder solves the equation of an unsigned division, for a divisor that is not 0
pub unsigned-remainder : (dividend divisor : ℕ) → divisor ≢ 0 → IsUnsignedRemainder dividend divisor (dividend % divisor)
unsigned-remainder dividend divisor divisor_not_zero =
    (dividend / divisor, mod_below dividend divisor (omega arith), div-add-mod' dividend divisor)
