-- The proof obligation of the law `accessible` (src/laws.rt).
use Rattle.rv_enclaves.proofs.AccessLemmas.{reach_law}
use Rattle.rv_enclaves.proofs.laws.accessible.Goals as goal

-- proves the law (`LayoutAccessLaw`) that is the contract of `accessible`
pub returns : goal.returns
returns c = reach_law
