-- Bit fields by shifts and masks, and sign extension by a left shift and an arithmetic right shift.
use Rattle.std.proofs.Common.{◌≡◌, ℕ, suc, ◌+◌, ◌-◌, ◌*◌, ◌/◌, ◌%◌, ◌^◌, ◌<◌, ◌≤◌, negsuc, bit_and, sym, ap, subst, inl, inr, ◌∙◌, arith, add-zero}
use Rattle.std.specs.Int.{w32, cast_signed, cast_unsigned}
use Rattle.std.specs.Int.Signed.{shr_z}
use Rattle.std.proofs.lemmas.Nat.{and_mask, mod_below, pow_pos, pow-add, div-add-mod', shl_below, mod-mul-add, div-mul-add}
use Rattle.std.proofs.lemmas.Nat.Bits.{ones_shr}
use Rattle.std.proofs.lemmas.Int.{ints, to_z_pos}
use Rattle.std.proofs.lemmas.Bool.{cases_lt, lt-ltb, le-ltb}
use Rattle.std.proofs.Math.Nat.{mul-lt-mul_of_pos_right, mul-le-mul_right, pow-le-pow_right}
use Rattle.rv_word.specs.Word.{signed}
use Rattle.rv_word.specs.BitFields.{bits, sign_extended, signed_field}

-- ---- fields

-- all ones of a word, shifted right by 31 - (hi - lo), are the mask of hi + 1 - lo bits
mask_is : (hi lo : ℕ) → lo ≤ hi → hi ≤ 31 → (2 ^ 32 - 1) / 2 ^ (31 - (hi - lo)) ≡ 2 ^ (hi + 1 - lo) - 1
mask_is hi lo lo_at_most_hi hi_in_word =
    let width_is : 32 - (31 - (hi - lo)) ≡ hi + 1 - lo = omega arith
    in ones_shr 32 (31 - (hi - lo)) (omega arith) ∙ ap (λ exponent. 2 ^ exponent - 1) width_is

-- a right shift by lo and a mask give bits hi down to lo of a word
pub bits_by_mask : (word hi lo : ℕ) → lo ≤ hi → hi ≤ 31 → bit_and (word / 2 ^ lo) ((2 ^ 32 - 1) / 2 ^ (31 - (hi - lo))) ≡ bits word hi lo
bits_by_mask word hi lo lo_at_most_hi hi_in_word =
    ap (bit_and (word / 2 ^ lo)) (mask_is hi lo lo_at_most_hi hi_in_word) ∙ and_mask (word / 2 ^ lo) (hi + 1 - lo)

-- bits hi down to lo of a word are below 2 to the power of their number
pub bits-lt : (word hi lo : ℕ) → bits word hi lo < 2 ^ (hi + 1 - lo)
bits-lt word hi lo = mod_below (word / 2 ^ lo) (2 ^ (hi + 1 - lo)) (pow_pos (hi + 1 - lo))

-- ---- sign extension

-- two powers of 2 whose exponents sum to 32 have the product 2 ^ 32
pow-product : (width shift : ℕ) → width + shift ≡ 32 → 2 ^ width * 2 ^ shift ≡ 2 ^ 32
pow-product width shift sum_is_32 = sym (pow-add 2 width shift) ∙ ap (λ exponent. 2 ^ exponent) sum_is_32

-- after a left shift by `shift` bits in a word, only the low `32 - shift` bits are left: the bits above them are shifted out
shl_low : (number width shift : ℕ) → width + shift ≡ 32 → number * 2 ^ shift % 2 ^ 32 ≡ number % 2 ^ width * 2 ^ shift
shl_low number width shift sum_is_32 =
    let powers_product : 2 ^ width * 2 ^ shift ≡ 2 ^ 32 = pow-product width shift sum_is_32 in
    let high_part : number / 2 ^ width * (2 ^ width * 2 ^ shift) ≡ number / 2 ^ width * 2 ^ 32 =
    ap (λ x. number / 2 ^ width * x) powers_product in
    let number_splits : number * 2 ^ shift ≡ number / 2 ^ width * 2 ^ 32 + number % 2 ^ width * 2 ^ shift =
    ap (λ n. n * 2 ^ shift) (sym (div-add-mod' number (2 ^ width))) ∙ omega (arith, high_part) in
    let low_part_fits : number % 2 ^ width * 2 ^ shift < 2 ^ 32 =
    subst (λ (x : ℕ). number % 2 ^ width * 2 ^ shift < x) (ap (λ exponent. 2 ^ exponent) sum_is_32)
    (shl_below (number % 2 ^ width) width shift (mod_below number (2 ^ width) (pow_pos width))) in
    ap (λ n. n % 2 ^ 32) number_splits ∙ mod-mul-add (number / 2 ^ width) (2 ^ 32) (number % 2 ^ width * 2 ^ shift) low_part_fits

-- a field whose highest bit is 0 is unchanged by a left shift and an arithmetic right shift; `factor` is 2 to the power of the shift
shl_shr_positive : (low half factor : ℕ) → 0 < factor → half * factor ≡ 2 ^ 31 → low < half
    → cast_unsigned w32 (shr_z (cast_signed w32 (low * factor)) factor) ≡ low
shl_shr_positive low half factor factor_positive half_scaled low_below_half =
    let scaled_fits : low * factor < 2 ^ 31 =
    subst (λ (x : ℕ). low * factor < x) half_scaled (mul-lt-mul_of_pos_right low_below_half factor_positive) in
    rw (to_z_pos w32 (low * factor) scaled_fits)
    (ap (λ x. x / factor) (sym (add-zero (low * factor))) ∙ div-mul-add low factor 0 factor_positive)

-- a field whose highest bit is 1 has ones above it after a left shift and an arithmetic right shift; `factor` is 2 to the power of the shift
shl_shr_negative : (low half factor : ℕ) → 0 < factor → half * factor ≡ 2 ^ 31 → half ≤ low → low < 2 * half
    → cast_unsigned w32 (shr_z (cast_signed w32 (low * factor)) factor) ≡ low + 2 ^ 32 - 2 * half
shl_shr_negative low half factor factor_positive half_scaled highest_bit_set low_fits =
    -- the signed value of the scaled field is -(rest + 1) * factor
    let rest : ℕ = 2 * half - suc low in
    let scaled_is_negative : 2 ^ 31 ≤ low * factor =
    subst (λ (x : ℕ). x ≤ low * factor) half_scaled (mul-le-mul_right factor highest_bit_set) in
    let cast_signed_is : cast_signed w32 (low * factor) ≡ negsuc (2 ^ 32 - suc (low * factor)) = grind arith in
    let rest_is : rest + suc low ≡ 2 * half = omega arith in
    let magnitude_splits : 2 ^ 32 - suc (low * factor) ≡ rest * factor + (factor - 1) =
    omega (arith, ap (λ x. x * factor) rest_is, half_scaled) in
    let magnitude_shifted : (2 ^ 32 - suc (low * factor)) / factor ≡ rest =
    ap (λ x. x / factor) magnitude_splits ∙ div-mul-add rest factor (factor - 1) (omega arith) in
    rw cast_signed_is (rw magnitude_shifted (omega arith))

-- a number of one bit more has twice the range
pow-double : (width : ℕ) → 1 ≤ width → 2 ^ width ≡ 2 * 2 ^ (width - 1)
pow-double width width_positive =
    let width_is : width ≡ 1 + (width - 1) = omega arith in
    ap (λ exponent. 2 ^ exponent) width_is ∙ pow-add 2 1 (width - 1)

-- a left shift by 32 - width and an arithmetic right shift back are the sign extension of the low `width` bits, by the highest of these bits
pub sign_extended_by_shifts : (value width : ℕ) → 1 ≤ width → width ≤ 32
    → cast_unsigned w32 (shr_z (cast_signed w32 (value * 2 ^ (32 - width) % 2 ^ 32)) (2 ^ (32 - width))) ≡ sign_extended value width
sign_extended_by_shifts value width width_positive width_in_word =
    let low : ℕ = value % 2 ^ width in
    let half : ℕ = 2 ^ (width - 1) in
    let factor : ℕ = 2 ^ (32 - width) in
    let sum_is_32 : width + (32 - width) ≡ 32 = omega arith in
    let factor_positive : 0 < factor = pow_pos (32 - width) in
    let sum_is_31 : width - 1 + (32 - width) ≡ 31 = omega arith in
    let half_scaled : half * factor ≡ 2 ^ 31 = sym (pow-add 2 (width - 1) (32 - width)) ∙ ap (λ exponent. 2 ^ exponent) sum_is_31 in
    let low_fits : low < 2 ^ width = mod_below value (2 ^ width) (pow_pos width) in
    rw (shl_low value width (32 - width) sum_is_32)
    (elim (cases_lt low half) [
      | inl low_below_half ↦
          rw (lt-ltb low half low_below_half) (shl_shr_positive low half factor factor_positive half_scaled low_below_half)
      | inr highest_bit_set ↦
          let low_below_twice_half : low < 2 * half = subst (λ (x : ℕ). low < x) (pow-double width width_positive) low_fits in
          rw (le-ltb low half highest_bit_set)
          (shl_shr_negative low half factor factor_positive half_scaled highest_bit_set low_below_twice_half
          ∙ ap (λ x. low + 2 ^ 32 - x) (sym (pow-double width width_positive)))
    ])

-- ---- sign extension keeps the signed value

-- the sign extension of a field has, as a word, the signed value of the field (by the highest bit of the field)
pub signed-sign_extended : (value width : ℕ) → 1 ≤ width → width ≤ 32 → signed (sign_extended value width) ≡ signed_field value width
signed-sign_extended value width width_positive width_in_word =
    let low : ℕ = value % 2 ^ width in
    let low_fits : value % 2 ^ width < 2 ^ width = mod_below value (2 ^ width) (pow_pos width) in
    let range_is_doubled : 2 ^ width ≡ 2 * 2 ^ (width - 1) = pow-double width width_positive in
    let range_in_word : 2 ^ width ≤ 2 ^ 32 = pow-le-pow_right (omega arith) width_in_word in
    elim (cases_lt (value % 2 ^ width) (2 ^ (width - 1))) [
      | inl low_below_half ↦ grind (arith, ints)
      | inr highest_bit_set ↦ grind (arith, ints)
    ]
