-- This file proves obligations of `digits`, which returns the number that a text of 1 to `most` digits in the base has, or `None` for any other
-- text.
use Rattle.std.proofs.Common.{arith, ◌≡◌, ◌<◌, get_or}
use Rattle.std.proofs.lemmas.Grind.{common_steps}
use Rattle.std.proofs.lemmas.Int.Digits.{digits_value_more}
use Rattle.rv_text.proofs.DigitValues.{number_step-lt, number-lt, all_digits_more}
use Rattle.rv_text.proofs.number.digits.Goals as goal

-- the value with the next digit is below 2 ^ 32, so that the sum does not overflow: each number of `most` digits of the base fits
pub overflow_add-value : goal.overflow_add-value
overflow_add-value c =
    let so_far = c.loop-byte.invariant in
    let digit_below_base : c.in_ok-digit.digit < c.args.base = omega (arith, c.in_ok-digit.ensures.value) in
    let next_value_fits =
    number_step-lt c.args.base c.args.most c.loop-byte.byte-index c.loop-byte.value c.in_ok-digit.digit c.args.text.now
    c.requires.low c.requires.fits (omega arith) (omega arith) so_far.digits so_far.value digit_below_base in
    omega (arith, next_value_fits)

-- the product does not overflow either: it is at most the sum
pub overflow_mul-value : goal.overflow_mul-value
overflow_mul-value c =
    let so_far = c.loop-byte.invariant in
    let digit_below_base : c.in_ok-digit.digit < c.args.base = omega (arith, c.in_ok-digit.ensures.value) in
    let next_value_fits =
    number_step-lt c.args.base c.args.most c.loop-byte.byte-index c.loop-byte.value c.in_ok-digit.digit c.args.text.now
    c.requires.low c.requires.fits (omega arith) (omega arith) so_far.digits so_far.value digit_below_base in
    omega (arith, next_value_fits)

-- an iteration reads one more digit: the bytes read are digits, and the value is theirs
pub loop-byte-preserved : goal.loop-byte-preserved
loop-byte-preserved c =
    let byte_is : c.from.result ≡ get_or c.args.text.now c.loop-byte.byte-index 0 = search arith in
    record {
      digits =
          all_digits_more c.args.base c.loop-byte.byte-index c.args.text.now (omega arith) c.loop-byte.invariant.digits
          (rw byte_is at c.in_ok-digit.ensures.value.0);
      value = grind (arith, common_steps, digits_value_more);
    }

-- the number is below the base to the power of `most` (clause `below`), since the text has at most `most` digits
pub returns-clause-below : goal.returns-clause-below
returns-clause-below c =
    let so_far = c.loop-byte.invariant in
    number-lt c.args.base c.args.most c.loop-byte.byte-index c.loop-byte.value c.args.text.now
    c.requires.low (omega arith) (omega arith) so_far.digits so_far.value
