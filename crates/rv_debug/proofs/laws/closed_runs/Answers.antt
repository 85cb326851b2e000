-- This file proves the theorem `closed_runs`, which states two closed instances of laws about steps.
use Rattle.rv_debug.proofs.HostRun.{host_run}
use Rattle.rv_debug.proofs.SecretCommands.{secret_run}
use Rattle.rv_debug.proofs.laws.closed_runs.Goals as goal

-- proves the law (`SecretRunLaw`) that is clause `secret` of the contract of `closed_runs`
pub returns-clause-secret : goal.returns-clause-secret
returns-clause-secret c = secret_run

-- proves the law (`HostRunLaw`) that is clause `host` of the contract of `closed_runs`
pub returns-clause-host : goal.returns-clause-host
returns-clause-host c = host_run
