-- The proof obligation of the law `handler_noninterference` (src/laws.rt).
use Rattle.rv_monitor.proofs.HandledAlike.{handler_law}
use Rattle.rv_monitor.proofs.laws.handler_noninterference.Goals as goal

-- proves the law (`HandlerLaw`) that is the contract of `handler_noninterference`
pub returns : goal.returns
returns c = handler_law
