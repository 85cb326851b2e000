-- This file proves the theorem `host_influences_through_window`, which states how the host influences an enclave, for two scripts with unlike
-- images, setups and lines.
use Rattle.rv_bench.proofs.HostInfluence.{script_influence}
use Rattle.rv_bench.proofs.laws.host_influences_through_window.Goals as goal

-- proves the law (`ScriptInfluenceLaw`) that is the contract of `host_influences_through_window`
pub returns : goal.returns
returns c = script_influence
