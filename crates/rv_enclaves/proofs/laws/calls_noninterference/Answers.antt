-- The proof obligation of the law `calls_noninterference` (src/laws.rt).
use Rattle.rv_enclaves.proofs.WorksAlike.{calls_alike}
use Rattle.rv_enclaves.proofs.laws.calls_noninterference.Goals as goal

-- proves the law (`CallsAlikeLaw`) that is the contract of `calls_noninterference`
pub returns : goal.returns
returns c = calls_alike
