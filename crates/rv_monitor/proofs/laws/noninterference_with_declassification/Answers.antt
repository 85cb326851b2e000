-- The proof obligation of the law `noninterference_with_declassification` (src/laws.rt).
use Rattle.rv_monitor.proofs.Declassification.{declassification_law}
use Rattle.rv_monitor.proofs.laws.noninterference_with_declassification.Goals as goal

-- proves the law (`DeclassificationLaw`) that is the contract of `noninterference_with_declassification`
pub returns : goal.returns
returns c = declassification_law
