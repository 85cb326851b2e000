-- The proof obligation of the law `measurement_covers` (src/laws.rt).
use Rattle.rv_enclaves.proofs.Measurement.{measurement_law}
use Rattle.rv_enclaves.proofs.laws.measurement_covers.Goals as goal

-- proves the law (`MeasurementLaw`) that is the contract of `measurement_covers`
pub returns : goal.returns
returns c = measurement_law
