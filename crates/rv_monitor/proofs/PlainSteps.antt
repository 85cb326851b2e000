-- A step without a trap is the step of its hart without the monitor. The host takes no interrupt.
use Rattle.std.proofs.Common.{◌≡◌, ℕ, Bool, false, slice_set, Option, Some, None, refl, sym, ◌∙◌, ap}
use Rattle.std.proofs.Math.Bool.{and-false}
use Rattle.std.specs.Prelude.{◌&&◌, if◌then◌else◌}
use Rattle.rv_state.specs.Interrupts.{mip_word, pending}
use Rattle.rv_state.specs.declared.cause.Interrupt.TheVariants.{MachineExternal, MachineSoftware, MachineTimer, SupervisorExternal, SupervisorSoftware}
use Rattle.rv_state.specs.declared.cause.Interrupt.TheVariants.{SupervisorTimer}
use Rattle.rv_hart.proofs.Interrupted.{takes_pending}
use Rattle.rv_monitor.specs.PlainSteps.{HostContinues, StepsPlainly}
use Rattle.rv_monitor.specs.Prelude.{CsrState, Mode, StepOutcome, Trap, is_machine, is_set, mie_of, step}
use Rattle.rv_monitor.proofs.Prelude.{HartViewStepped, HartView, Invariant, MonitoredMachine, MonitoredStepped, bare_machine, hart_states_reprogrammed, hart_view}
use Rattle.rv_monitor.proofs.Prelude.{monitored_step, step_of, stepped_by}
use Rattle.rv_monitor.proofs.Exits.{redirects_step}
use Rattle.rv_monitor.proofs.InvariantLemmas.{hart_view_invariant}
use Rattle.rv_monitor.proofs.HartCases.{machine_step_is, is_trapping, step_of_view}
use Rattle.rv_monitor.proofs.TrapSteps.{same_outcome, step_cases, view_without_trap}

-- ---- without a trap

-- a step of a view without a trap is the bare step
step_without_trap : (view : HartView) → (monitored_step view).outcome.step.trap ≡ None
    → monitored_step view ≡ view_without_trap view
step_without_trap view =
    step_cases view (λ after. after.outcome.step.trap ≡ None → after ≡ view_without_trap view) (λ no_trap is_untrapped. refl)
    (λ trap traps is_untrapped. let contradiction : None ≡ Some trap = sym is_untrapped ∙ traps in cc)

-- ---- no interrupt

-- if no interrupt is enabled, then there is no highest pending interrupt
find_none : (is_external is_software is_timer is_s_external is_s_software is_s_timer : Bool)
    → (if is_external && false then Some MachineExternal else
    (if is_software && false then Some MachineSoftware else (if is_timer && false then Some MachineTimer
    else
    (if is_s_external && false then Some SupervisorExternal else
    (if is_s_software && false then Some SupervisorSoftware else (if is_s_timer && false then Some SupervisorTimer else None))))))
    ≡ None
find_none is_external is_software is_timer is_s_external is_s_software is_s_timer =
    -- no interrupt is enabled, so each of the six tests (`.. && false`) fails
    rw (and-false is_external, and-false is_software, and-false is_timer, and-false is_s_external, and-false is_s_software, and-false is_s_timer) refl

-- below mode M, no interrupt is pending if mie is 0
pending_is_none : (csrs : CsrState) (mode : Mode) → is_machine mode ≡ false → csrs.mie ≡ 0 → pending csrs mode ≡ None
pending_is_none csrs mode mode_below_m disabled =
    let mip = mip_word csrs in
    -- the mode is below M, and mie enables no interrupt
    rw (mode_below_m, disabled) (find_none (is_set mip 11) (is_set mip 3) (is_set mip 7) (is_set mip 9) (is_set mip 1) (is_set mip 5))

-- ---- the laws

-- proves that a step of the machine is the step of the hart without the monitor, up to the trap handler
pub steps_plainly : (hart : ℕ) (machine : MonitoredMachine) → StepsPlainly hart machine (step_of hart machine)
steps_plainly hart machine in_range =
    let view = hart_view hart machine in
    let outcome_is : (step_of hart machine).outcome.step ≡ (step (bare_machine view)).outcome =
    ap (λ (after : HartViewStepped). after.outcome.step) (step_of_view hart machine in_range) ∙ same_outcome view in
    record {
      outcome = outcome_is;
      -- without a trap, the trap handler does not run, and no hart is reprogrammed
      quiet = λ no_trap.
          let bare_step_untrapped : (step (bare_machine view)).outcome.trap ≡ None =
          sym (ap (λ (outcome : StepOutcome). outcome.trap) outcome_is) ∙ no_trap in
          -- the step of the view is the bare step
          let view_step_is =
          step_without_trap view (ap (λ (outcome : StepOutcome). outcome.trap) (same_outcome view) ∙ bare_step_untrapped) in
          let step_is : step_of hart machine ≡ stepped_by hart machine (view_without_trap view) =
          machine_step_is hart machine in_range ∙ ap (stepped_by hart machine) view_step_is in
          let machine_after : Option Trap → MonitoredMachine = λ maybe_trap. record {
            hart_states =
                slice_set (hart_states_reprogrammed maybe_trap machine.shared.table machine.hart_states) hart
                (view_without_trap view).state.hart_state;
            shared = (view_without_trap view).state.shared;
          } in (
            ap (λ (after : MonitoredStepped). after.state) step_is
                ∙ ap machine_after bare_step_untrapped,
            ap (λ (after : MonitoredStepped). after.outcome.entered) step_is,
          );
    }

-- proves that a step of the host takes no interrupt, and redirects each exception that is not a call
pub host_continues : (hart : ℕ) (machine : MonitoredMachine) → Invariant machine
    → HostContinues hart machine (step_of hart machine)
host_continues hart machine invariant host = record {
  uninterrupted = λ trap interrupt trapped cause_is.
      let trapping = is_trapping hart machine trap trapped in
      let view = hart_view hart machine in
      let view_invariant = hart_view_invariant hart machine invariant trapping.has in
      let bare_step_traps : (step (bare_machine view)).outcome.trap ≡ Some trap =
      sym (ap (λ (outcome : StepOutcome). outcome.trap) (same_outcome view)) ∙ trapping.trapped in
      -- while the host runs, mie enables no interrupt, so no interrupt is pending
      let disabled : view.hart_state.hart.csrs.mie ≡ 0 = view_invariant.hart.layout.mie ∙ ap mie_of host in
      let contradiction : None ≡ Some interrupt =
      sym (pending_is_none view.hart_state.hart.csrs view.hart_state.hart.mode view_invariant.hart.layout.mode disabled)
      ∙ takes_pending (bare_machine view) trap interrupt bare_step_traps cause_is in
      cc;
  redirects = redirects_step hart machine invariant;
}
