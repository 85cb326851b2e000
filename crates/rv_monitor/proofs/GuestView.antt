-- No world reads a counter, or a register that a trap to M-mode writes. A step of a machine and a step of its guest view have the same outcome, and
-- leave the same guest view.
use Rattle.std.proofs.Common.{◌≡◌, ℕ, List, Option, Some, None, refl, sym, ◌∙◌, ap, ap₂, subst, inl, inr, arith}
use Rattle.std.proofs.lemmas.Simd.{map-map}
use Rattle.std.specs.Prelude.{Bool, map, slice_set}
use Rattle.rv_state.specs.declared.cause.Cause.TheVariants as causes
use Rattle.rv_hart.specs.HartRecord.{Hart}
use Rattle.rv_hart.proofs.BelowMSteps.{SameToGuests, guest_machine, guest_step}
use Rattle.rv_monitor.specs.GuestView.{DependsOnGuestView, SameGuestView, guest_state, guest_view}
use Rattle.rv_monitor.specs.Prelude.{Call, Cause, Create, EnvironmentCallFromS, Exception, NotSupported, Outcome, Refusal, HartState, Shared, Slots, StepOutcome}
use Rattle.rv_monitor.specs.Prelude.{Trap, requested_call, first_refusal, option_case, step}
use Rattle.rv_monitor.proofs.Prelude.{Handled, Invariant, MonitoredMachine, HartView, HartViewStepped, bare_machine, call_handled}
use Rattle.rv_monitor.proofs.Prelude.{call_refusals, called, cases_lt, count_of, entered_slot, with_redirected_trap, get_or-map, handled, handled_cause}
use Rattle.rv_monitor.proofs.Prelude.{handled_exception, left, length-map, map-set, monitored_step, performed, refused, returned, hart_state_at_start}
use Rattle.rv_monitor.proofs.Prelude.{hart_state_of, reprogrammed, hart_states_reprogrammed, hart_view, step_of, stepped_by, timer_stopped, with_reprogrammed_hart}
use Rattle.rv_monitor.proofs.InvariantLemmas.{hart_view_invariant}
use Rattle.rv_monitor.proofs.HartCases.{machine_step_is, outside, past_hart_state}
use Rattle.rv_monitor.proofs.TrapSteps.{step_cases, hart_state_after, view_after_trap, view_without_trap}

-- ---- the trap handler does not depend on the counters

-- the hart state with these values of mcycle and minstret
abbrev with_counters : ℕ → ℕ → HartState → HartState
with_counters mcycle minstret hart_state = record hart_state {
  hart = record hart_state.hart { csrs = record hart_state.hart.csrs { mcycle = mcycle; minstret = minstret } };
}

-- the result of the trap handler with these values of mcycle and minstret
abbrev result_with_counters : ℕ → ℕ → Handled → Handled
result_with_counters mcycle minstret result =
    record result { hart_state = with_counters mcycle minstret result.hart_state }

-- the hart state with its own counters, and with other values of the counters
module _ (mcycle minstret : ℕ) (hart_state : HartState) (shared : Shared) where
  -- the hart state with the other values of the counters
  abbrev state_with_counters : HartState
  state_with_counters = with_counters mcycle minstret hart_state

  -- The refusals of a call do not depend on the counters. Each case holds by computation.
  same_refusals : (call : Call) → call_refusals state_with_counters shared call ≡ call_refusals hart_state shared call
  same_refusals Create = refl
  same_refusals _ = refl

  -- The effect of a call does not depend on the counters. Each case holds by computation.
  same_call_effect : (call : Call)
      → performed state_with_counters shared call ≡ result_with_counters mcycle minstret (performed hart_state shared call)
  unfolding performed entered_slot left
  same_call_effect Create = refl
  same_call_effect _ = refl

  -- a call, refused or not, has the same result with other counters, if the effect of the call has the same result
  same_result_if_refused : (maybe_refusal : Option Refusal) (result other_result : Handled)
      → other_result ≡ result_with_counters mcycle minstret result
      → option_case maybe_refusal other_result (refused state_with_counters shared) ≡ result_with_counters mcycle minstret
      (option_case maybe_refusal result (refused hart_state shared))
  same_result_if_refused None result other_result results_alike = results_alike
  same_result_if_refused (Some refusal) result other_result results_alike = refl

  -- a call with its refusals has the same result with other counters
  same_call_result : (call : Call) → called state_with_counters shared call ≡ result_with_counters mcycle minstret (called hart_state shared call)
  unfolding called
  same_call_result call =
      ap (λ (rows : List (Bool × Refusal)). option_case (first_refusal rows) (performed state_with_counters shared call)
      (refused state_with_counters shared))
      (same_refusals call)
      ∙ same_result_if_refused (first_refusal (call_refusals hart_state shared call)) (performed hart_state shared call)
      (performed state_with_counters shared call)
      (same_call_effect call)

  -- the requested call, if there is one, has the same result with other counters
  same_requested_call_result : (maybe_call : Option Call)
      → option_case maybe_call (refused state_with_counters shared NotSupported) (called state_with_counters shared)
      ≡ result_with_counters mcycle minstret (option_case maybe_call (refused hart_state shared NotSupported) (called hart_state shared))
  same_requested_call_result None = refl
  same_requested_call_result (Some call) = same_call_result call

  -- the handling of an exception has the same result with other counters
  same_exception_result : (trap : Trap) (exception : Exception)
      → handled_exception state_with_counters shared trap exception ≡ result_with_counters mcycle minstret
      (handled_exception hart_state shared trap exception)
  unfolding call_handled with_redirected_trap
  same_exception_result trap EnvironmentCallFromS = same_requested_call_result (requested_call hart_state.world hart_state.hart.regs)
  same_exception_result trap _ = refl

  -- the handling of a cause has the same result with other counters
  same_cause_result : (trap : Trap) (cause : Cause)
      → handled_cause state_with_counters shared trap cause ≡ result_with_counters mcycle minstret (handled_cause hart_state shared trap cause)
  unfolding timer_stopped left
  same_cause_result trap (causes.Interrupt interrupt) = refl
  same_cause_result trap (causes.Exception exception) = same_exception_result trap exception

  -- the trap handler has the same result with other counters
  same_handler_result : (trap : Trap)
      → handled state_with_counters shared trap ≡ result_with_counters mcycle minstret (handled hart_state shared trap)
  unfolding handled
  same_handler_result trap = ap with_reprogrammed_hart (same_cause_result trap trap.cause)

-- ---- the step of one hart

-- two steps of a view have the same outcome, the same shared state and the same guest state
record SameGuestStep (one other : HartViewStepped) : Type 0 where
  -- the outcomes are equal
  outcome : one.outcome ≡ other.outcome
  -- the shared states after the steps are equal
  shared : one.state.shared ≡ other.state.shared
  -- the guest states of the hart after the steps are equal
  hart_state : guest_state one.state.hart_state ≡ guest_state other.state.hart_state

-- the return from the trap handler with other counters is the same to guests
same_guest_return : (outcome : StepOutcome) (result : Handled) (mcycle minstret : ℕ)
    → SameGuestStep (returned outcome result) (returned outcome (result_with_counters mcycle minstret result))
same_guest_return outcome result mcycle minstret = record { outcome = refl; shared = refl; hart_state = refl }

-- the bare steps of the view and of the view with the guest state are the same to guests
module _ (view : HartView) (alike : SameToGuests (step (bare_machine view)) (step (guest_machine (bare_machine view)))) where
  -- the view with the guest state of the hart
  abbrev guest_state_view : HartView
  guest_state_view = record view { hart_state = guest_state view.hart_state }

  -- a step without a trap is the same to guests from the view and from the view with the guest state
  same_guest_step_without_trap : SameGuestStep (view_without_trap view) (view_without_trap guest_state_view)
  same_guest_step_without_trap = record {
    outcome =
        ap (λ (outcome : StepOutcome). let shown : Outcome = record { step = outcome; entered = None } in shown) alike.outcome;
    shared = ap (λ (memory : List ℕ). record view.shared { memory = memory }) alike.memory;
    hart_state = ap (λ (hart : Hart). record view.hart_state { hart = hart }) alike.hart;
  }

  -- a step with a trap is the same to guests from the view and from the view with the guest state
  same_guest_step_with_trap : (trap : Trap) → SameGuestStep (view_after_trap view trap) (view_after_trap guest_state_view trap)
  same_guest_step_with_trap trap =
      let hart_state = hart_state_after view.hart_state trap in
      let guest_at_trap = hart_state_after (guest_state view.hart_state) trap in
      let mcycle = guest_at_trap.hart.csrs.mcycle in
      let minstret = guest_at_trap.hart.csrs.minstret in
      let handled_state = handled hart_state view.shared trap in
      let bare_outcome = (step (bare_machine view)).outcome in
      let SameGuestStepFor : StepOutcome → Handled → Type 0 =
      λ outcome result. SameGuestStep (returned bare_outcome handled_state) (returned outcome result) in
      subst (λ (outcome : StepOutcome). SameGuestStepFor outcome (handled guest_at_trap view.shared trap)) alike.outcome
      (subst (SameGuestStepFor bare_outcome) (sym (same_handler_result mcycle minstret hart_state view.shared trap))
      (same_guest_return bare_outcome handled_state mcycle minstret))

  -- a step is the same to guests from the view and from the view with the guest state
  same_guest_step : SameGuestStep (monitored_step view) (monitored_step guest_state_view)
  same_guest_step =
      let traps = ap (λ (outcome : StepOutcome). outcome.trap) alike.outcome in
      step_cases view (λ after. SameGuestStep after (monitored_step guest_state_view))
      (λ no_trap. step_cases guest_state_view (λ after. SameGuestStep (view_without_trap view) after) (λ no_second_trap. same_guest_step_without_trap)
      (λ trap trapped. let contradiction : None ≡ Some trap = sym no_trap ∙ traps ∙ trapped in cc))
      (λ trap trapped. step_cases guest_state_view (λ after. SameGuestStep (view_after_trap view trap) after)
      (λ no_trap. let contradiction : Some trap ≡ None = sym trapped ∙ traps ∙ no_trap in cc)
      (λ second_trap second_trapped.
      let some_traps_equal : Some trap ≡ Some second_trap = sym trapped ∙ traps ∙ second_trapped in
      let traps_equal : trap ≡ second_trap = cc in
      subst (λ (some_trap : Trap). SameGuestStep (view_after_trap view trap) (view_after_trap guest_state_view some_trap)) traps_equal
      (same_guest_step_with_trap trap)))

-- ---- the step of the machine

-- the state of a hart in the guest view of a machine is the guest state of this hart in the machine
pub guest_hart_state : (hart : ℕ) (machine : MonitoredMachine)
    → hart_state_of hart (guest_view machine) ≡ guest_state (hart_state_of hart machine)
guest_hart_state hart machine = elim (cases_lt hart (count_of machine)) [
  | inl in_range ↦
      get_or-map guest_state machine.hart_states hart (hart_state_at_start 0) (hart_state_at_start 0) in_range
  -- no hart of the machine has this number
  | inr past_last ↦
      let same_length = length-map machine.hart_states guest_state in
      past_hart_state (guest_view machine).hart_states hart (omega (arith, same_length, past_last))
      ∙ ap guest_state (sym (past_hart_state machine.hart_states hart past_last))
]

-- the guest states of guest states are the guest states
guest_states_twice : (hart_states : List HartState)
    → map guest_state hart_states ≡ map guest_state (map guest_state hart_states)
guest_states_twice hart_states = sym (map-map guest_state guest_state hart_states)

-- reprogramming after a trap leaves the same guest states from the hart states and from their guest states
same_guest_states_reprogrammed : (maybe_trap : Option Trap) (table : Slots) (hart_states : List HartState)
    → map guest_state (hart_states_reprogrammed maybe_trap table hart_states)
    ≡ map guest_state (hart_states_reprogrammed maybe_trap table (map guest_state hart_states))
same_guest_states_reprogrammed None table hart_states = guest_states_twice hart_states
same_guest_states_reprogrammed (Some trap) table hart_states =
    map-map guest_state (reprogrammed table) hart_states
    ∙ sym
    (map-map guest_state (reprogrammed table) (map guest_state hart_states)
    ∙ map-map (λ (hart_state : HartState). guest_state (reprogrammed table hart_state)) guest_state hart_states)

-- if two views after a step are the same to guests, then so are the machines after the step
same_guest_machine : (hart : ℕ) (machine : MonitoredMachine) (stepped other_stepped : HartViewStepped)
    → SameGuestStep stepped other_stepped
    → guest_view (stepped_by hart machine stepped).state ≡ guest_view (stepped_by hart (guest_view machine) other_stepped).state
same_guest_machine hart machine stepped other_stepped same_guest_steps =
    let hart_states = machine.hart_states in
    let guest_states = (guest_view machine).hart_states in
    let first_trap = stepped.outcome.step.trap in
    let first_table = stepped.state.shared.table in
    let same_trap = ap (λ (outcome : Outcome). outcome.step.trap) same_guest_steps.outcome in
    let same_table = ap (λ (shared : Shared). shared.table) same_guest_steps.shared in
    let machine_of : List HartState → Shared → MonitoredMachine =
    λ hart_states shared. record { hart_states = hart_states; shared = shared } in
    -- the guest states of a written list are the written list of guest states
    let first_states =
    map-set guest_state (hart_states_reprogrammed first_trap first_table hart_states) hart stepped.state.hart_state in
    let second_states =
    map-set guest_state (hart_states_reprogrammed other_stepped.outcome.step.trap other_stepped.state.shared.table guest_states) hart
    other_stepped.state.hart_state in
    -- both reprogrammings give the same guest states, because the traps and the tables are equal
    let reprogrammed_alike : map guest_state (hart_states_reprogrammed first_trap first_table hart_states) ≡ map guest_state
    (hart_states_reprogrammed other_stepped.outcome.step.trap other_stepped.state.shared.table guest_states) =
    same_guest_states_reprogrammed first_trap first_table hart_states
    ∙ ap₂ (λ (maybe_trap : Option Trap) (table : Slots). map guest_state
    (hart_states_reprogrammed maybe_trap table guest_states)) same_trap same_table in
    ap₂ machine_of
    (first_states ∙ ap₂ (λ (hart_states : List HartState) (hart_state : HartState). slice_set hart_states hart hart_state) reprogrammed_alike
    same_guest_steps.hart_state
    ∙ sym second_states) same_guest_steps.shared

-- a step of a machine and a step of its guest view have the same outcome, and leave the same guest view
pub guest_step_of : (hart : ℕ) (machine : MonitoredMachine) → Invariant machine
    → SameGuestView (step_of hart machine) (step_of hart (guest_view machine))
guest_step_of hart machine invariant = elim (cases_lt hart (count_of machine)) [
  -- a hart that the machine does not have makes no step
  | inr past_last ↦
      let same_length = length-map machine.hart_states guest_state in
      let guest_step_is = outside hart (guest_view machine) (omega (arith, same_length, past_last)) in
      rw (outside hart machine past_last, guest_step_is)
      (record {
        outcome = refl;
        state =
            ap (λ (hart_states : List HartState). record machine { hart_states = hart_states }) (guest_states_twice machine.hart_states);
      })
  -- the step of the hart's view and the step of its guest view are the same to guests
  | inl in_range ↦
      let size = length-map machine.hart_states guest_state in
      let view = hart_view hart machine in
      let view_invariant = hart_view_invariant hart machine invariant in_range in
      let alike = guest_step (bare_machine view) view_invariant.hart.layout.mode view_invariant.hart.layout.mprv in
      let view_with : HartState → HartView = λ hart_state. record { hart_state = hart_state; shared = machine.shared } in
      -- the state of the hart in the guest view is the guest state of the hart
      let same_to_guests : SameGuestStep (monitored_step view) (monitored_step (hart_view hart (guest_view machine))) =
      subst (λ (hart_state : HartState). SameGuestStep (monitored_step view) (monitored_step (view_with hart_state)))
      (sym (guest_hart_state hart machine))
      (same_guest_step view alike) in
      let guest_machine_step_is = machine_step_is hart (guest_view machine) (omega (arith, size, in_range)) in
      rw (machine_step_is hart machine in_range, guest_machine_step_is) (record {
        outcome = same_to_guests.outcome;
        state =
            same_guest_machine hart machine (monitored_step view) (monitored_step (hart_view hart (guest_view machine))) same_to_guests;
      })
]

-- proves that a step depends only on the guest view of the machine
pub guest_law : (hart : ℕ) (machine : MonitoredMachine) → Invariant machine
    → DependsOnGuestView hart machine (step_of hart machine)
guest_law hart machine invariant other invariant_other same_guest_view =
    let first_guest_step = guest_step_of hart machine invariant in
    let second_guest_step = guest_step_of hart other invariant_other in
    record {
      outcome =
          first_guest_step.outcome ∙ ap (λ (machine : MonitoredMachine). (step_of hart machine).outcome) same_guest_view
          ∙ sym second_guest_step.outcome;
      state =
          first_guest_step.state ∙ ap (λ (machine : MonitoredMachine). guest_view (step_of hart machine).state) same_guest_view
          ∙ sym second_guest_step.state;
    }
