-- The proof obligations of `MonitoredMachine::step_at` (src/monitored_machine.rt).
use Rattle.std.proofs.Common.{◌≡◌, ◌<◌, sym, subst}
use Rattle.rv_monitor.specs.StepLaws.{ObeysStepLaws}
use Rattle.rv_monitor.proofs.Prelude.{MonitoredMachine, MonitoredStepped, count_of, machine_of_parts}
use Rattle.rv_monitor.proofs.HartCases.{step_count}
use Rattle.rv_monitor.proofs.StepLaws.{step_laws}
use Rattle.rv_monitor.proofs.monitored_machine.MonitoredMachine.step_at.Goals as goal

-- `self` has the invariant of its type when `MonitoredMachine::step_at` returns
pub invariant_of-self : goal.invariant_of-self
invariant_of-self g c =
    let (_, some_harts, at_most_max_harts) = c.self.invariant in (c.step_in.ensures.kept, some_harts, at_most_max_harts)

-- `MonitoredMachine::step_at` meets clause `invariant` of its contract (`FullInvariant`)
pub returns-clause-invariant : goal.returns-clause-invariant
returns-clause-invariant g c = let (full_invariant, _, _) = invariant_of-self g c in full_invariant

-- `MonitoredMachine::step_at` meets clause `laws` of its contract (`ObeysStepLaws`)
pub returns-clause-laws : goal.returns-clause-laws
returns-clause-laws g c =
    let inside = c.self.inside in
    let before : MonitoredMachine = machine_of_parts inside.by_hart inside.harts inside.shared in
    let after : MonitoredStepped =
    record { state = machine_of_parts c.step_in.new.by_hart inside.harts c.step_in.new.shared; outcome = c.step_in.result } in
    let (full_invariant, _, _) = c.self.invariant in
    let in_range = subst (λ (machine : MonitoredMachine). c.args.hart < count_of machine) (sym c.self.view_is) c.requires in
    -- the code makes the step `step_of` (`meaning`), which obeys all laws of a step
    subst (λ (machine : MonitoredMachine). ObeysStepLaws c.args.hart machine after) c.self.view_is
    (subst (ObeysStepLaws c.args.hart before) c.step_in.ensures.meaning (step_laws c.args.hart before in_range full_invariant))

-- `MonitoredMachine::step_at` meets clause `harts` of its contract
pub returns-clause-harts : goal.returns-clause-harts
returns-clause-harts g c =
    let inside = c.self.inside in
    let before : MonitoredMachine = machine_of_parts inside.by_hart inside.harts inside.shared in
    -- the step does not change the number of harts
    subst (λ (machine : MonitoredMachine). count_of
    (machine_of_parts c.step_in.new.by_hart inside.harts c.step_in.new.shared) ≡ count_of machine) c.self.view_is
    (subst (λ (after : MonitoredStepped). count_of after.state ≡ count_of before) c.step_in.ensures.meaning (step_count c.args.hart before))
