-- This file proves the theorem `noninterference`, which states that two benches that are equivalent except for an enclave reply the same to a
-- command that avoids the enclave.
use Rattle.rv_debug.proofs.ExecuteAlike.{noninterference}
use Rattle.rv_debug.proofs.laws.noninterference.Goals as goal

-- proves the law (`NoninterferenceLaw`) that is the contract of `noninterference`
pub returns : goal.returns
returns c = noninterference
