-- The proof obligation of the law `running_is_undisturbed` (src/laws.rt).
use Rattle.rv_monitor.proofs.SchedIntegrity.{running_law}
use Rattle.rv_monitor.proofs.laws.running_is_undisturbed.Goals as goal

-- proves the law (`RunningLaw`) that is the contract of `running_is_undisturbed`
pub returns : goal.returns
returns c = running_law
