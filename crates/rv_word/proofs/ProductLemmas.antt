-- The high word of a product is the upper half of its 64-bit number, as the casts of std compute it, and is the only solution of its equation.
use Rattle.std.proofs.Common.{◌≡◌, ℕ, ◌-◌, ◌/◌, ◌%◌, ◌^◌, ◌<◌, ◌≤◌, ℤ, pos, negsuc, ◌*ℤ◌, sym, ap, subst, ◌∙◌, arith}
use mir.Val.{to_z, of_z}
use Rattle.std.specs.Prelude.{FitsSigned, unsigned_abs}
use Rattle.std.specs.Int.{w64, cast_unsigned}
use Rattle.std.proofs.lemmas.Nat.{mod_below}
use Rattle.std.proofs.lemmas.Int.{ints, fits_signed_mul, to_z-of_z}
use Rattle.rv_word.specs.Word.{signed}
use Rattle.rv_word.specs.Products.{high_word, IsSignedHighWord}
use Rattle.rv_word.proofs.SignLemmas.{signed-low, signed-is}

-- the upper half of the 64-bit number of a product is the high word of the product
pub high_word_is : (product : ℤ) (number : ℕ) → FitsSigned w64 product → number ≡ cast_unsigned w64 product
    → number / 2 ^ 32 ≡ high_word product
high_word_is (pos n) number product_fits number_is = grind (arith, ints)
high_word_is (negsuc n) number product_fits number_is = grind (arith, ints)

-- the upper half of the 64-bit number of a product solves the equation of the signed high word: the lower half is the low word
pub IsSignedHighWord-high : (product : ℤ) (number : ℕ) → FitsSigned w64 product → number ≡ cast_unsigned w64 product
    → IsSignedHighWord product (number / 2 ^ 32)
IsSignedHighWord-high (pos n) number product_fits number_is =
    (number % 2 ^ 32, mod_below number (2 ^ 32) (omega arith), grind (arith, ints, signed-low))
IsSignedHighWord-high (negsuc n) number product_fits number_is =
    (number % 2 ^ 32, mod_below number (2 ^ 32) (omega arith), grind (arith, ints, signed-is))

-- no other word than the high word of a product solves the equation of the signed high word
pub high_word-unique : (product : ℤ) (high : ℕ) → high < 2 ^ 32 → IsSignedHighWord product high → high ≡ high_word product
high_word-unique (pos n) high high_is_word solves = grind (arith, ints)
high_word-unique (negsuc n) high high_is_word solves = grind (arith, ints)

-- ---- the products of words fit in 64 bits

-- the magnitude of the signed value of a word is below 2 ^ 32
pub signed-magnitude : (word : ℕ) → word < 2 ^ 32 → unsigned_abs (signed word) ≤ 2 ^ 32 - 1
signed-magnitude word word_fits = grind (arith, ints)

-- the magnitude of the signed value of a word is at most 2 ^ 31
signed-magnitude_i32 : (word : ℕ) → word < 2 ^ 32 → unsigned_abs (signed word) ≤ 2 ^ 31
signed-magnitude_i32 word word_fits = grind (arith, ints)

-- the signed value of a word does not change when it is written in 64 bits and read back
pub signed-in_64_bits : (value : ℤ) (word : ℕ) → word < 2 ^ 32 → value ≡ signed word → to_z w64 (of_z w64 value) ≡ signed word
signed-in_64_bits value word word_fits value_is =
    let magnitude_is : unsigned_abs (signed word) ≤ 2 ^ 31 = signed-magnitude_i32 word word_fits in
    to_z-of_z w64 value (subst (λ value. FitsSigned w64 value) (sym value_is) (grind arith)) ∙ value_is

-- the product of the signed value of a word and a factor of magnitude below 2 ^ 32 fits in 64 bits
pub product-fits_64_bits : (left right : ℤ) (word : ℕ) (factor : ℤ) → word < 2 ^ 32 → left ≡ signed word → right ≡ factor
    → unsigned_abs factor ≤ 2 ^ 32 - 1
    → FitsSigned w64 (left *ℤ right)
product-fits_64_bits left right word factor word_fits left_is right_is factor_is_small =
    subst (λ value. FitsSigned w64 value) (sym (ap (λ left. left *ℤ right) left_is ∙ ap (λ right. signed word *ℤ right) right_is))
    (fits_signed_mul w64 (signed word) factor (2 ^ 31) (2 ^ 32 - 1) (signed-magnitude_i32 word word_fits) factor_is_small (omega arith))

-- the product of a signed word and a factor of magnitude below 2 ^ 32 does not change when it is written in 64 bits and read back
pub product-in_64_bits : (left right : ℤ) (word : ℕ) (factor : ℤ) → word < 2 ^ 32 → left ≡ signed word → right ≡ factor
    → unsigned_abs factor ≤ 2 ^ 32 - 1
    → to_z w64 (of_z w64 (left *ℤ right)) ≡ signed word *ℤ factor
product-in_64_bits left right word factor word_fits left_is right_is factor_is_small =
    to_z-of_z w64 (left *ℤ right) (product-fits_64_bits left right word factor word_fits left_is right_is factor_is_small)
    ∙ (ap (λ left. left *ℤ right) left_is ∙ ap (λ right. signed word *ℤ right) right_is)
