-- This file proves the theorem `host_influences_through_window`, which states how the host influences an enclave.
use Rattle.rv_debug.proofs.HostInfluence.{host_influence}
use Rattle.rv_debug.proofs.laws.host_influences_through_window.Goals as goal

-- proves the law (`HostInfluenceLaw`) that is the contract of `host_influences_through_window`
pub returns : goal.returns
returns c = host_influence
