-- This file proves obligations of `Keyword::matching`, which returns the keyword in the row of a word, if there is one.
use Rattle.std.proofs.Common.{rules, tests, ◌∙◌}
use Rattle.std.specs.Str.{bytes_eq}
use Rattle.std.proofs.lemmas.Iterator.{YieldsList-from_slice}
use Rattle.std.proofs.lemmas.Iterator.Search.{find_from_yields_List}
use Rattle.rv_script.proofs.Keywords.{row-found}
use Rattle.rv_script.proofs.keyword.Keyword.matching.Goals as goal

-- if no row has the text of the word, the result is `None`
pub returns-in_err-row : goal.returns-in_err-row
returns-in_err-row c =
    let found = find_from_yields_List (λ row. bytes_eq c.args.word.now row.0.now) _ _ c.find.result c.find.ensures.ran
    (YieldsList-from_slice c.args.rows.now c.iter.ensures.rest) (λ x b q k. search (rules, tests)) in
    c.from_residual.ensures ∙ rw (c.in_err-row.was) at (row-found c.args.word.now c.args.rows.now c.find.result found)

-- otherwise the result is the keyword of the first row with the text of the word
pub returns : goal.returns
returns c =
    let found = find_from_yields_List (λ row. bytes_eq c.args.word.now row.0.now) _ _ c.find.result c.find.ensures.ran
    (YieldsList-from_slice c.args.rows.now c.iter.ensures.rest) (λ x b q k. search (rules, tests)) in
    rw c.in_ok-row.was at (row-found c.args.word.now c.args.rows.now c.find.result found)
