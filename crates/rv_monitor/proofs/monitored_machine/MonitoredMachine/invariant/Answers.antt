-- The proof obligations of `MonitoredMachine::invariant` (src/monitored_machine.rt).
use Rattle.std.proofs.Common.{◌<◌, ℕ, sym, subst}
use Rattle.rv_monitor.proofs.Prelude.{MonitoredMachine, count_of}
use Rattle.rv_monitor.proofs.monitored_machine.MonitoredMachine.invariant.Goals as goal

-- `MonitoredMachine::invariant` meets clause `first` of its contract
pub returns-clause-first : goal.returns-clause-first
returns-clause-first c =
    let (_, some_harts, _) = c.self.invariant in
    subst (λ (machine : MonitoredMachine). 0 < count_of machine) c.self.view_is (subst (λ (count : ℕ). 0 < count) (sym c.counts.ensures) some_harts)
