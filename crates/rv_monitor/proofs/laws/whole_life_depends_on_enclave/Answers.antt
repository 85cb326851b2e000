-- The proof obligation of the law `whole_life_depends_on_enclave` (src/laws.rt).
use Rattle.rv_monitor.proofs.Life.{life_begins, life_law}
use Rattle.rv_monitor.proofs.LegalMachine.{legal_law}
use Rattle.rv_monitor.proofs.laws.whole_life_depends_on_enclave.Goals as goal

-- proves the law that is the contract of `whole_life_depends_on_enclave`
pub returns : goal.returns
returns c = record { life = life_law; begins = life_begins; legal = legal_law }
