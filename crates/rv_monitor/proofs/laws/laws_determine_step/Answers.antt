-- The proof obligation of the law `laws_determine_step` (src/laws.rt).
use Rattle.rv_monitor.proofs.Determined.{determined_law}
use Rattle.rv_monitor.proofs.laws.laws_determine_step.Goals as goal

-- proves the law (`DeterminedLaw`) that is the contract of `laws_determine_step`
pub returns : goal.returns
returns c = determined_law
