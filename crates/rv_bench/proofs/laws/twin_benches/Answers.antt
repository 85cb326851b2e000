-- This file proves the theorem `twin_benches`, which states the theorems about a twin run.
use Rattle.rv_bench.proofs.TwinAlike.{twin_integrity, twin_noninterference}
use Rattle.rv_bench.proofs.laws.twin_benches.Goals as goal

-- proves the law (`TwinLaw`) that is the contract of `twin_benches`
pub returns : goal.returns
returns c = record { noninterference = twin_noninterference; integrity = twin_integrity }
