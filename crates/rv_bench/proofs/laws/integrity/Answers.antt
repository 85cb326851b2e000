-- This file proves the theorem `integrity`, which states that every part of a script preserves each enclave that the part leaves undisturbed.
use Rattle.rv_bench.proofs.IntegrityLemmas.{started_integrity}
use Rattle.rv_bench.proofs.laws.integrity.Goals as goal

-- proves the law (`ScriptIntegrityLaw`) that is the contract of `integrity`
pub returns : goal.returns
returns c = started_integrity
