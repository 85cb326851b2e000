-- This file proves obligations of `next_word`, which returns the first word of a text and the text after it, or `None` if there is no word.
use Rattle.rv_text.proofs.WordCuts.{words-none}
use Rattle.rv_text.proofs.words.next_word.Goals as goal

-- if the loop reaches the end of the text, the text has no word: by the invariant, it has the same words as the empty rest
pub returns : goal.returns
returns c = words-none _ _ _ c.loop-rest.invariant.same_words c.is_empty.ensures c.loop-rest-test.false
