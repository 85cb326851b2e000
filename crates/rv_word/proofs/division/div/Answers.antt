-- This file proves obligations of `div`, which returns the signed quotient, rounded towards zero, modulo 2^32.
use Rattle.std.proofs.Common.{◌≡◌, ◌∙◌, sym, rules}
use Rattle.std.specs.Prelude.{int_div}
use Rattle.rv_word.specs.Word.{signed, low_word}
use Rattle.rv_word.proofs.DivisionLemmas.{quotient-equation, quotient-unique, quotient-word}
use Rattle.rv_word.proofs.division.div.Goals as goal

-- for a divisor that is not 0, the result is the quotient, solves the equation of a division, and is its only solution
pub returns-else-divisor-eq0 : goal.returns-else-divisor-eq0
returns-else-divisor-eq0 c =
    let word_is : c.cast_unsigned.result ≡ low_word (int_div (signed c.args.dividend) (signed c.args.divisor)) = search rules in
    let value_is = word_is ∙ sym (quotient-word c.args.dividend c.args.divisor c.if-divisor-eq0.false) in
    record {
      value = value_is;
      equation = quotient-equation c.args.dividend c.args.divisor c.cast_unsigned.result c.ranges.divisor.fits value_is;
      unique = quotient-unique c.args.dividend c.args.divisor c.cast_unsigned.result value_is c.if-divisor-eq0.false;
    }
