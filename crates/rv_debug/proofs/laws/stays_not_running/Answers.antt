-- This file proves the theorem `stays_not_running`, which states that every command avoids the hart of an enclave that runs on no hart.
use Rattle.rv_debug.proofs.NotRunning.{on_no_hart_law}
use Rattle.rv_debug.proofs.laws.stays_not_running.Goals as goal

-- proves the law (`RunsOnNoHartLaw`) that is the contract of `stays_not_running`
pub returns : goal.returns
returns c = on_no_hart_law
