-- This file proves the theorem `replies_are_observed`, which states what others observe if the enclave does not run.
use Rattle.rv_debug.proofs.Observation.{observation}
use Rattle.rv_debug.proofs.laws.replies_are_observed.Goals as goal

-- proves the law (`ObservationLaw`) that is the contract of `replies_are_observed`
pub returns : goal.returns
returns c = observation
