-- This file proves the theorem `stays_equivalent`, which states when a command leaves two benches equivalent except for an enclave, even if it shows
-- a hart on which the enclave runs.
use Rattle.rv_debug.proofs.StateAlike.{equivalence}
use Rattle.rv_debug.proofs.laws.stays_equivalent.Goals as goal

-- proves the law (`EquivalenceLaw`) that is the contract of `stays_equivalent`
pub returns : goal.returns
returns c = equivalence
