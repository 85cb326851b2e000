-- The proof obligation of the law `any_order_keeps` (src/laws.rt).
use Rattle.rv_monitor.proofs.InvariantLemmas.{sched_invariant}
use Rattle.rv_monitor.proofs.laws.any_order_keeps.Goals as goal

-- proves the law (`SchedInvariantLaw`) that is the contract of `any_order_keeps`
pub returns : goal.returns
returns c = sched_invariant
