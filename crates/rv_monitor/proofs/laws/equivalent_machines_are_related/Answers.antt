-- The proof obligation of the law `equivalent_machines_are_related` (src/laws.rt).
use Rattle.rv_monitor.proofs.Declassification.{relation_law}
use Rattle.rv_monitor.proofs.laws.equivalent_machines_are_related.Goals as goal

-- proves the law (`RelationLaw`) that is the contract of `equivalent_machines_are_related`
pub returns : goal.returns
returns c = relation_law
