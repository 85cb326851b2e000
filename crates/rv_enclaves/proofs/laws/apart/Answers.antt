-- The proof obligation of the law `apart` (src/laws.rt).
use Rattle.rv_enclaves.proofs.AccessLemmas.{apart_law}
use Rattle.rv_enclaves.proofs.laws.apart.Goals as goal

-- proves the law (`ApartLaw`) that is the contract of `apart`
pub returns : goal.returns
returns c = apart_law
