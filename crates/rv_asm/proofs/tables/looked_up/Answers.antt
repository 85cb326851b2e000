-- This file proves obligations of `looked_up`, which returns the value in the row of a name, if there is one.
use Rattle.std.proofs.Common.{rules, tests, ◌∙◌}
use Rattle.std.specs.Str.{bytes_eq}
use Rattle.std.proofs.lemmas.Iterator.{YieldsList-from_slice}
use Rattle.std.proofs.lemmas.Iterator.Search.{find_from_yields_List}
use Rattle.rv_asm.proofs.Found.{looked_up-found}
use Rattle.rv_asm.proofs.tables.looked_up.Goals as goal

-- if the search finds no row, the definition looks up no value
pub returns-in_err-row : goal.returns-in_err-row
returns-in_err-row g c =
    let found =
    find_from_yields_List (λ row. bytes_eq c.args.name.now row.0.now) _ _ c.find.result c.find.ensures.ran
    (YieldsList-from_slice c.args.rows.now c.iter.ensures.rest) (λ x b q k. search (rules, tests)) in
    c.from_residual.ensures ∙ rw (c.in_err-row.was) at (looked_up-found c.args.name.now c.args.rows.now c.find.result found)

-- if the search finds a row, the definition looks up the value of this row
pub returns : goal.returns
returns g c =
    let found =
    find_from_yields_List (λ row. bytes_eq c.args.name.now row.0.now) _ _ c.find.result c.find.ensures.ran
    (YieldsList-from_slice c.args.rows.now c.iter.ensures.rest) (λ x b q k. search (rules, tests)) in
    rw c.in_ok-row.was at (looked_up-found c.args.name.now c.args.rows.now c.find.result found)
