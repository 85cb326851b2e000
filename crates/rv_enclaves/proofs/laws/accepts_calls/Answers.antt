-- The proof obligation of the law `accepts_calls` (src/laws.rt).
use Rattle.rv_enclaves.proofs.AcceptedCalls.{accepts_calls}
use Rattle.rv_enclaves.proofs.laws.accepts_calls.Goals as goal

-- proves the law (`AcceptsCallsLaw`) that is the contract of `accepts_calls`
pub returns : goal.returns
returns c = accepts_calls
