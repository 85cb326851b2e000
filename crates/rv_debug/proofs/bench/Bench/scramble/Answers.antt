-- This file proves obligations of `Bench::scramble`, which complements the private state of the enclave of a slot.
use Rattle.std.proofs.Common.{◌≡◌, true, sym, ◌∙◌, subst}
use Rattle.rv_debug.proofs.Prelude.{BenchState, can_scramble}
use Rattle.rv_debug.proofs.NotRunning.{scrambled_on_no_hart}
use Rattle.rv_debug.proofs.bench.Bench.scramble.Goals as goal

-- clause `not_running`: if the result is true, the enclave of the slot runs on no hart, since it can be scrambled
pub returns-clause-not_running : goal.returns-clause-not_running
returns-clause-not_running c is_scrambled =
    let can_be_scrambled =
    subst (λ (bench : BenchState). can_scramble c.args.slot bench ≡ true) c.self.view_is (sym c.scramble.ensures.asked ∙ is_scrambled) in
    scrambled_on_no_hart c.args.slot c.args.self.now.target c.invariant.ensures.monitor can_be_scrambled
