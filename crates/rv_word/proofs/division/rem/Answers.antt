-- This file proves obligations of `rem`, which returns the remainder of the signed division, with the sign of the dividend.
use Rattle.std.proofs.Common.{◌≡◌, ◌∙◌, sym, rules}
use Rattle.std.specs.Prelude.{int_rem}
use Rattle.rv_word.specs.Word.{signed, low_word}
use Rattle.rv_word.proofs.DivisionLemmas.{remainder-equation, remainder-unique, remainder-word}
use Rattle.rv_word.proofs.division.rem.Goals as goal

-- for a divisor that is not 0, the result is the remainder, solves the equation of a division, and is its only solution
pub returns-else-divisor-eq0 : goal.returns-else-divisor-eq0
returns-else-divisor-eq0 c =
    let word_is : c.cast_unsigned.result ≡ low_word (int_rem (signed c.args.dividend) (signed c.args.divisor)) = search rules in
    let value_is = word_is ∙ sym (remainder-word c.args.dividend c.args.divisor c.if-divisor-eq0.false) in
    record {
      value = value_is;
      equation = remainder-equation c.args.dividend c.args.divisor c.cast_unsigned.result c.ranges.divisor.fits value_is;
      unique = remainder-unique c.args.dividend c.args.divisor c.cast_unsigned.result value_is c.if-divisor-eq0.false;
    }
