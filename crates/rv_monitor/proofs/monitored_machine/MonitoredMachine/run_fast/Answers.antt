-- The proof obligations of `MonitoredMachine::run_fast` (src/monitored_machine.rt).
use Rattle.std.proofs.Common.{◌≡◌, subst}
use Rattle.rv_monitor.proofs.Prelude.{MonitoredMachine, count_of, machine_of_parts}
use Rattle.rv_monitor.proofs.FastSteps.{steps_count}
use Rattle.rv_monitor.proofs.monitored_machine.MonitoredMachine.run_fast.Goals as goal

-- `self` has the invariant of its type when `MonitoredMachine::run_fast` returns
pub invariant_of-self : goal.invariant_of-self
invariant_of-self c =
    let (_, some_harts, at_most_max_harts) = c.self.invariant in (c.run_fast_in.ensures.kept, some_harts, at_most_max_harts)

-- `MonitoredMachine::run_fast` meets clause `invariant` of its contract (`FullInvariant`)
pub returns-clause-invariant : goal.returns-clause-invariant
returns-clause-invariant c = let (full_invariant, _, _) = invariant_of-self c in full_invariant

-- `MonitoredMachine::run_fast` meets clause `harts` of its contract
pub returns-clause-harts : goal.returns-clause-harts
returns-clause-harts c =
    let inside = c.self.inside in
    let new = c.run_fast_in.new in
    -- fast steps do not change the number of harts
    subst (λ (machine : MonitoredMachine). count_of (machine_of_parts new.by_hart inside.harts new.shared) ≡ count_of machine) c.self.view_is
    (steps_count c.args.hart c.args.limits.now c.run_fast_in.result (machine_of_parts inside.by_hart inside.harts inside.shared)
    (machine_of_parts new.by_hart inside.harts new.shared) c.run_fast_in.ensures.steps)
