-- This file proves the theorem `noninterference`. Two benches that are equivalent except for an enclave reply the same to a part of a script that
-- avoids the enclave.
use Rattle.rv_bench.proofs.NoninterferenceLemmas.{secret_noninterference, started_noninterference}
use Rattle.rv_bench.proofs.laws.noninterference.Goals as goal

-- proves the law (`ScriptNoninterferenceLaw`) that is clause `script` of the contract of `noninterference`
pub returns-clause-script : goal.returns-clause-script
returns-clause-script c = started_noninterference

-- proves the law (`SecretNoninterferenceLaw`) that is clause `secret` of the contract of `noninterference`
pub returns-clause-secret : goal.returns-clause-secret
returns-clause-secret c = secret_noninterference
