-- This file proves obligations of `first_words`, which returns the first words of a line, at most `MOST_WORDS`.
use Rattle.std.proofs.Common.{◌≡◌, length, map, arith}
use Rattle.std.proofs.lemmas.List.{length-map}
use Rattle.std.proofs.lemmas.Bool.Decides.{nat_tests}
use Rattle.rv_text.proofs.WordCuts.{words-full}
use Rattle.rv_text.proofs.words.first_words.Goals as goal

-- if the loop ends because `MOST_WORDS` = 6 words are read, these are the first 6 words of the line
pub returns-after-loop-rest : goal.returns-after-loop-rest
returns-after-loop-rest c =
    let count_is : length (map (λ word. word.now) c.loop-rest.words.items) ≡ 6 =
    grind (arith, nat_tests, length-map c.loop-rest.words.items (λ word. word.now)) in
    words-full 6 _ _ _ c.loop-rest.invariant.all_words count_is
