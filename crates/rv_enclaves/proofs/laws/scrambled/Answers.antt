-- The proof obligation of the law `scrambled` (src/laws.rt).
use Rattle.rv_enclaves.proofs.Scrambled.{scrambled_law}
use Rattle.rv_enclaves.proofs.laws.scrambled.Goals as goal

-- proves the law (`ScrambledLaw`) that is the contract of `scrambled`
pub returns : goal.returns
returns c = scrambled_law
