-- This file proves the theorem `ended_enclaves_have_no_secret`, which states that no premise is left after an enclave has ended.
use Rattle.rv_debug.proofs.Ended.{ended_law}
use Rattle.rv_debug.proofs.laws.ended_enclaves_have_no_secret.Goals as goal

-- proves the law (`EndedLaw`) that is the contract of `ended_enclaves_have_no_secret`
pub returns : goal.returns
returns c = ended_law
