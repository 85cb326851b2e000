-- The proof obligation of the law `any_order_noninterference` (src/laws.rt).
use Rattle.rv_monitor.proofs.SchedNoninterference.{sched_law}
use Rattle.rv_monitor.proofs.laws.any_order_noninterference.Goals as goal

-- proves the law (`SchedLaw`) that is the contract of `any_order_noninterference`
pub returns : goal.returns
returns c = sched_law
