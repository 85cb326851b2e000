-- This file states the loop invariants of `first_words`, which returns the first words of a line, at most `MOST_WORDS`.
use Rattle.std.proofs.Common.{◌≡◌, ◌≤◌, ◌-◌, ◌++◌, length, map}
use Rattle.rv_text.specs.Words.{words_of}
use Rattle.rv_text.proofs.words.first_words.Given as goal

-- the words of the line are the words that are read and the words of the rest, and at most `MOST_WORDS` = 6 words are read
abbrev pub invariant-loop-rest : goal.invariant-loop-rest
invariant-loop-rest l = record {
  all_words : words_of l.line ≡ map (λ word. word.now) l.words.items ++ words_of l.rest;
  at_most_six : length l.words.items ≤ 6;
}

-- the number of words that may still be read decreases with each iteration
abbrev pub decreases-loop-rest : goal.decreases-loop-rest
decreases-loop-rest l = 6 - length l.words.items
