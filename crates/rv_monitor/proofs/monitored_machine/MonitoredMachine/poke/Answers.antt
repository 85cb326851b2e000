-- The proof obligations of `MonitoredMachine::poke` (src/monitored_machine.rt).
use Rattle.std.proofs.Common.{sym}
use Rattle.rv_monitor.proofs.Prelude.{machine_of_parts}
use Rattle.rv_monitor.proofs.InvariantLemmas.{invariant_by_size}
use Rattle.rv_monitor.proofs.monitored_machine.MonitoredMachine.poke.Goals as goal

-- `self` has the invariant of its type when `MonitoredMachine::poke` returns
pub invariant_of-self : goal.invariant_of-self
invariant_of-self c =
    let inside = c.self.inside in
    let (full_invariant, some_harts, at_most_max_harts) = c.self.invariant in
    let before = machine_of_parts inside.by_hart inside.harts inside.shared in (
      -- a poke keeps the size of the memory
      record {
        monitor = invariant_by_size before c.poke.new.self full_invariant.monitor (sym c.poke.ensures.only.size);
        legal = full_invariant.legal;
      },
      some_harts,
      at_most_max_harts,
    )

-- `MonitoredMachine::poke` meets clause `invariant` of its contract (`FullInvariant`)
pub returns-clause-invariant : goal.returns-clause-invariant
returns-clause-invariant c = let (full_invariant, _, _) = invariant_of-self c in full_invariant
