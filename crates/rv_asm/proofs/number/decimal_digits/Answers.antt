-- This file proves obligations of `decimal_digits`, which returns the value of a text of one or more decimal digits.
use Rattle.std.proofs.Common.{arith, ◌≡◌, get_or}
use Rattle.std.proofs.lemmas.Grind.{common_steps}
use Rattle.std.proofs.lemmas.Int.Digits.{digits_value_more}
use Rattle.rv_text.proofs.DigitValues.{all_digits_more}
use Rattle.rv_asm.proofs.number.decimal_digits.Goals as goal

-- after an iteration, the bytes up to the next one are digits, and the value is theirs
pub loop-byte-preserved : goal.loop-byte-preserved
loop-byte-preserved c =
    let byte_is : c.from.result ≡ get_or c.args.text.now c.loop-byte.byte-index 0 = search arith in
    record {
      digits = all_digits_more 10 c.loop-byte.byte-index c.args.text.now (omega arith) c.loop-byte.invariant.digits
          (rw byte_is at c.in_ok-digit.ensures.value.0);
      value = grind (arith, common_steps, digits_value_more);
    }
