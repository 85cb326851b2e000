-- The proof obligation of the law `any_order_integrity` (src/laws.rt).
use Rattle.rv_monitor.proofs.SchedIntegrity.{sched_integrity}
use Rattle.rv_monitor.proofs.laws.any_order_integrity.Goals as goal

-- proves the law (`SchedIntegrityLaw`) that is the contract of `any_order_integrity`
pub returns : goal.returns
returns c = sched_integrity
