-- The proof obligation of the law `scrambled_twice` (src/laws.rt).
use Rattle.rv_enclaves.proofs.ScrambledTwice.{shared_twice}
use Rattle.rv_enclaves.proofs.laws.scrambled_twice.Goals as goal

-- proves the law (`ScrambledTwiceLaw`) that is the contract of `scrambled_twice`
pub returns : goal.returns
returns c = shared_twice
