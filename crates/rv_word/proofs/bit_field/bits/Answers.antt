-- This file proves obligations of `bits`, which returns bits `hi` down to `lo` of a word, as a number.
use Rattle.rv_word.proofs.BitFieldLemmas.{bits_by_mask, bits-lt}
use Rattle.rv_word.proofs.bit_field.bits.Goals as goal

-- the result, by a shift and a mask, is bits `hi` down to `lo` of the word (clause `value`)
pub returns-clause-value : goal.returns-clause-value
returns-clause-value c = bits_by_mask c.args.word c.args.hi c.args.lo c.requires.ordered c.requires.within

-- the result is below 2 to the power of its number of bits (clause `narrow`)
pub returns-clause-narrow : goal.returns-clause-narrow
returns-clause-narrow c =
    rw (bits_by_mask c.args.word c.args.hi c.args.lo c.requires.ordered c.requires.within) (bits-lt c.args.word c.args.hi c.args.lo)
