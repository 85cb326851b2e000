-- The proof obligations of `MonitoredMachine::new` (src/monitored_machine.rt).
use Rattle.std.proofs.Common.{refl, ◌∙◌}
use Rattle.rv_memory.specs.Harts.{number_of_harts}
use Rattle.rv_monitor.proofs.Start.{parts_represent_start, start_full, start_is_reset}
use Rattle.rv_monitor.proofs.monitored_machine.MonitoredMachine.new.Goals as goal

-- `MonitoredMachine::new` meets clause `start` of its contract
pub returns-clause-start : goal.returns-clause-start
returns-clause-start c =
    -- the array has the harts at reset, and the shared state is that at reset
    parts_represent_start c.args.ram c.args.entry c.args.harts _ _ _ c.count.ensures c.all_at_start.ensures (rw (c.new.ensures) refl)

-- `MonitoredMachine::new` meets clause `reset` of its contract
pub returns-clause-reset : goal.returns-clause-reset
returns-clause-reset c = returns-clause-start c ∙ start_is_reset c.args.ram c.args.entry (number_of_harts c.args.harts)

-- the result has the invariant of its type when `MonitoredMachine::new` returns
pub invariant_of-result : goal.invariant_of-result
invariant_of-result c = start_full c.args.ram c.args.entry c.args.harts _ _ _ (rw (c.size.ensures.size) at c.size.ensures.allowed) c.count.ensures
    c.all_at_start.ensures (rw (c.new.ensures) refl)

-- `MonitoredMachine::new` meets clause `invariant` of its contract
pub returns-clause-invariant : goal.returns-clause-invariant
returns-clause-invariant c = let (full_invariant, _, _) = invariant_of-result c in full_invariant
