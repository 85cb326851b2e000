-- The proof obligation of the law `calls_keep` (src/laws.rt).
use Rattle.rv_enclaves.proofs.SharedInvariantLemmas.{calls_keep}
use Rattle.rv_enclaves.proofs.laws.calls_keep.Goals as goal

-- proves the law (`CallsKeepLaw`) that is the contract of `calls_keep`
pub returns : goal.returns
returns c = calls_keep
