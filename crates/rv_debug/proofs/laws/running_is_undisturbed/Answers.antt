-- This file proves the theorem `running_is_undisturbed`, which states when a command leaves an enclave that runs on a hart undisturbed.
use Rattle.rv_debug.proofs.Isolation.{running_undisturbed}
use Rattle.rv_debug.proofs.laws.running_is_undisturbed.Goals as goal

-- proves the law (`RunningLaw`) that is the contract of `running_is_undisturbed`
pub returns : goal.returns
returns c = running_undisturbed
