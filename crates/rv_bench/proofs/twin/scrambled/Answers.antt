-- This file proves obligations of `scrambled`, which scrambles the slot in the second bench, if possible.
use Rattle.std.proofs.Common.{◌≡◌, ◌∙◌, sym, ap, true, false}
use Rattle.rv_debug.specs.BothBenches.{can_scramble, scrambled}
use Rattle.rv_bench.proofs.Twins.{no_pair_if_unscramblable, pair_if_scramblable}
use Rattle.rv_bench.proofs.twin.scrambled.Goals as goal

-- if the slot cannot be scrambled, the result is `None`, since the slot has no pair (clause `pair`)
pub returns-then-not-scramble-clause-pair : goal.returns-then-not-scramble-clause-pair
returns-then-not-scramble-clause-pair c =
    let not_scramblable : can_scramble c.args.slot c.args.benches.second ≡ false = sym c.scramble.ensures.asked ∙ c.if-not-scramble.true in
    no_pair_if_unscramblable c.args.slot c.args.benches.first
    (ap (can_scramble c.args.slot) (sym c.args.benches.equal) ∙ not_scramblable)

-- if the slot can be scrambled, the result is the bench and its scrambled copy (clause `pair`)
pub returns-clause-pair : goal.returns-clause-pair
returns-clause-pair c =
    let is_scramblable : can_scramble c.args.slot c.args.benches.second ≡ true = sym c.scramble.ensures.asked ∙ c.if-not-scramble.false in
    pair_if_scramblable c.args.slot c.args.benches.first c.scramble.new.self
    (ap (can_scramble c.args.slot) (sym c.args.benches.equal) ∙ is_scramblable)
    (c.scramble.ensures.meaning c.if-not-scramble.false ∙ ap (scrambled c.args.slot) c.args.benches.equal)
