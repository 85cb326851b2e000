-- This file proves obligations of `position_in_short`, which returns the position of the first such byte of a short text by a loop.
use Rattle.std.proofs.Common.{◌==◌, ◌∙◌, length, rules}
use Rattle.std.specs.List.{position_or_len}
use Rattle.std.proofs.lemmas.Iterator.{YieldsList-from_slice}
use Rattle.std.proofs.lemmas.Iterator.Search.{position_from_yields_List}
use Rattle.std.proofs.lemmas.List.Sums.{prefix_len-le-length}
use Rattle.rv_text.proofs.Positions.{unwrap_or-position}
use Rattle.rv_text.proofs.position.position_in_short.Goals as goal

-- the result is the position of the first wanted byte, or the length of the text (clause `value`): the iterator yields the bytes of the text in order
pub returns-clause-value : goal.returns-clause-value
returns-clause-value c =
    let text = c.args.text.now in
    c.unwrap_or.ensures ∙ unwrap_or-position (position_or_len (λ b. b == c.args.wanted) text) (length text) c.position.result
    (position_from_yields_List (λ b. b == c.args.wanted) _ _ c.position.result c.position.ensures.ran
    (YieldsList-from_slice text c.iter.ensures.rest) (λ x b q k. search rules))
    (prefix_len-le-length _ text)
