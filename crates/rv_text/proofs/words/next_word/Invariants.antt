-- This file states the loop invariants of `next_word`, which returns the first word of a text and the text after it, or `None` if there is no word.
use Rattle.std.proofs.Common.{◌≡◌, length}
use Rattle.rv_text.specs.Words.{words_of}
use Rattle.rv_text.proofs.words.next_word.Given as goal

-- the bytes before the rest have no word: the text has the same words as the rest
abbrev pub invariant-loop-rest : goal.invariant-loop-rest
invariant-loop-rest l = record { same_words : words_of l.text ≡ words_of l.rest }

-- the rest of the text gets shorter
abbrev pub decreases-loop-rest : goal.decreases-loop-rest
decreases-loop-rest l = length l.rest
