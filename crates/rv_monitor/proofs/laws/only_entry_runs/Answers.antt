-- The proof obligation of the law `only_entry_runs` (src/laws.rt).
use Rattle.rv_monitor.proofs.SchedNoninterference.{entry_law}
use Rattle.rv_monitor.proofs.laws.only_entry_runs.Goals as goal

-- proves the law (`EntryLaw`) that is the contract of `only_entry_runs`
pub returns : goal.returns
returns c = entry_law
