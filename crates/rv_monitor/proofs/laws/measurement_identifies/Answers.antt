-- The proof obligation of the law `measurement_identifies` (src/laws.rt).
use Rattle.rv_monitor.proofs.Attestation.{attestation_law, reentry_law}
use Rattle.rv_monitor.proofs.laws.measurement_identifies.Goals as goal

-- proves the law that is the contract of `measurement_identifies`
pub returns : goal.returns
returns c = record { first_run = attestation_law; later_runs = reentry_law }
