-- This file proves obligations of `blank_position`, which returns the position of the first blank, or the length of the text if there is none.
use Rattle.std.proofs.Common.{◌∙◌, length, rules}
use Rattle.std.specs.List.{position_or_len}
use Rattle.std.proofs.lemmas.Iterator.{YieldsList-from_slice}
use Rattle.std.proofs.lemmas.Iterator.Search.{position_from_yields_List}
use Rattle.std.proofs.lemmas.List.Sums.{prefix_len-le-length}
use Rattle.rv_text.specs.GoodLines.{is_blank}
use Rattle.rv_text.proofs.FirstBytes.{position-first_byte}
use Rattle.rv_text.proofs.Positions.{unwrap_or-position}
use Rattle.rv_text.proofs.words.blank_position.Goals as goal

-- the search of a short text by a loop returns the position of the first blank, or the length of the text (clause `value`)
pub returns-then-text-lt-LONG-clause-value : goal.returns-then-text-lt-LONG-clause-value
returns-then-text-lt-LONG-clause-value c =
    let text = c.args.text.now in
    c.unwrap_or.ensures ∙ unwrap_or-position (position_or_len is_blank text) (length text) c.position.result
    (position_from_yields_List is_blank _ _ c.position.result c.position.ensures.ran
    (YieldsList-from_slice text c.iter.ensures.rest) (λ x b q k. search rules))
    (prefix_len-le-length _ text)

-- the search of a long text by `memchr2` returns the position of the first blank, or the length of the text (clause `value`)
pub returns-clause-value : goal.returns-clause-value
returns-clause-value c = c.unwrap_or-2.ensures ∙ position-first_byte is_blank c.args.text.now c.memchr2.result c.memchr2.ensures
