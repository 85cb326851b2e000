-- This file proves the theorem `equivalent_benches_are_related`, which states that a bench is related to itself, and when benches that are
-- equivalent except for an enclave are related.
use Rattle.rv_debug.proofs.Declassification.{relation_law}
use Rattle.rv_debug.proofs.laws.equivalent_benches_are_related.Goals as goal

-- proves the law (`BenchRelationLaw`) that is the contract of `equivalent_benches_are_related`
pub returns : goal.returns
returns c = relation_law
