-- Low steps of two machines whose guest views are equivalent except `enclave` have equal outcomes, and leave machines whose guest views are
-- equivalent except `enclave`.
use Rattle.std.proofs.Common.{◌≡◌, ◌≢◌, ◌<◌, ℕ, true, false, List, length, Some, None, refl, sym, ◌∙◌, ap}
use Rattle.std.proofs.Common.{subst, inl, inr, arith}
use Rattle.std.proofs.lemmas.Simd.{map-map}
use Rattle.rv_state.specs.GuestCsrs.{guest_csrs}
use Rattle.rv_monitor.specs.GuestView.{guest_state, guest_view}
use Rattle.rv_monitor.specs.Prelude.{Contexts, CsrState, SharedInvariant, HartState, Shared, SharedEquivExcept}
use Rattle.rv_monitor.specs.Prelude.{Slots, StepOutcome, Trap, World}
use Rattle.rv_monitor.specs.Prelude.{is_world_of, measured, Hart}
use Rattle.rv_monitor.proofs.Prelude.{EquivExcept, Handled, Invariant, HartViewInvariant, HartInvariant, MonitoredMachine}
use Rattle.rv_monitor.proofs.Prelude.{MonitoredStepped, HartView, HartViewStepped, cases_eq}
use Rattle.rv_monitor.proofs.Prelude.{count_of, entered_slot, with_redirected_trap, handled}
use Rattle.rv_monitor.proofs.Prelude.{left, length-map, monitored_step, runs_on, hart_state_of}
use Rattle.rv_monitor.proofs.Prelude.{hart_view, step_of, continuing_from}
use Rattle.rv_monitor.proofs.EquivLemmas.{hart_states_equiv}
use Rattle.rv_monitor.proofs.Beside.{running_hart_in_range}
use Rattle.rv_monitor.proofs.GuestView.{guest_hart_state, guest_step_of}
use Rattle.rv_monitor.proofs.InvariantLemmas.{hart_view_invariant}
use Rattle.rv_monitor.proofs.MonitoredAlike.{noninterference}
use Rattle.rv_monitor.proofs.HartCases.{step_count, step_of_view, other_harts_keep}
use Rattle.rv_monitor.proofs.TrapSteps.{step_cases, hart_state_after, view_after_trap, view_without_trap}
use Rattle.rv_monitor.proofs.HandlerCases.{handler_cases_of_both, shared_of}
use Rattle.rv_monitor.proofs.BareStepNoninterference.{bare_law}
use Rattle.rv_monitor.specs.Declassification.{EquivToGuests, SameHost, SameHostOn, unswitched}

-- ---- the guest view of a machine is a machine

-- the guest state of a hart with the invariant has the invariant
guest_hart_invariant : (table : Slots) (hart_state : HartState) → HartInvariant table hart_state
    → HartInvariant table (guest_state hart_state)
guest_hart_invariant table hart_state hart_invariant = record {
  host = record { kept = hart_invariant.host.kept; held = hart_invariant.host.held };
  -- the guest state keeps the PMP entries, mie, the mode and these bits of mstatus
  layout = record {
    entries = hart_invariant.layout.entries;
    mie = hart_invariant.layout.mie;
    mode = hart_invariant.layout.mode;
    mstatus_mie = hart_invariant.layout.mstatus_mie;
    mprv = hart_invariant.layout.mprv;
    tvm = hart_invariant.layout.tvm;
    tw = hart_invariant.layout.tw;
    tsr = hart_invariant.layout.tsr;
  };
}

-- the world of a hart state
abbrev world_of : HartState → World
world_of hart_state = hart_state.world

-- the guest view of a machine with the invariant has the invariant
pub guest_invariant : (machine : MonitoredMachine) → Invariant machine → Invariant (guest_view machine)
guest_invariant machine invariant =
    let same_length = length-map machine.hart_states guest_state in
    record {
      shared =
          subst (SharedInvariant machine.shared) (sym (map-map world_of guest_state machine.hart_states)) invariant.shared;
      hart_states = λ hart in_range. subst (HartInvariant machine.shared.table) (sym (guest_hart_state hart machine))
          (guest_hart_invariant machine.shared.table (hart_state_of hart machine)
          (invariant.hart_states hart (omega (arith, same_length, in_range))));
    }

-- two machines that are equivalent except `enclave` have guest views that are equivalent except `enclave`
pub guest_equiv : (enclave : ℕ) (one other : MonitoredMachine) → EquivExcept enclave one other
    → EquivToGuests enclave one other
guest_equiv enclave one other equiv = record {
  harts = length-map one.hart_states guest_state ∙ equiv.harts ∙ sym (length-map other.hart_states guest_state);
  hart_states = λ hart.
      let hart_states = equiv.hart_states hart in
      hart_states_equiv enclave (hart_state_of hart (guest_view one)) (guest_state (hart_state_of hart one)) (hart_state_of hart (guest_view other))
      (guest_state (hart_state_of hart other))
      (guest_hart_state hart one) (guest_hart_state hart other)
      (record { world = hart_states.world; same = λ not_running. ap guest_state (hart_states.same not_running) });
  shared = equiv.shared;
}

-- the same harts run the same enclaves in the guest view
pub guest_view_runs_same : (enclave hart : ℕ) (machine : MonitoredMachine)
    → runs_on enclave hart (guest_view machine) ≡ runs_on enclave hart machine
guest_view_runs_same enclave hart machine =
    ap (λ (hart_state : HartState). is_world_of enclave hart_state.world) (guest_hart_state hart machine)

-- If the steps of two guest views lead to equivalent machines, then the steps of the machines lead to machines that are equivalent in the guest view.
pub equiv_from_guests : (enclave hart : ℕ) (one other : MonitoredMachine) → Invariant one → Invariant other
    → EquivExcept enclave (step_of hart (guest_view one)).state (step_of hart (guest_view other)).state
    → EquivToGuests enclave (step_of hart one).state (step_of hart other).state
equiv_from_guests enclave hart one other invariant_one invariant_other equiv =
    let guest_one = (guest_step_of hart one invariant_one).state in
    let guest_other = (guest_step_of hart other invariant_other).state in
    let guest_views_equiv =
    guest_equiv enclave (step_of hart (guest_view one)).state (step_of hart (guest_view other)).state equiv in
    subst (λ (machine : MonitoredMachine). EquivExcept enclave machine (guest_view (step_of hart other).state)) (sym guest_one)
    (subst (EquivExcept enclave (guest_view (step_of hart (guest_view one)).state)) (sym guest_other) guest_views_equiv)

-- two steps have equal outcomes, and leave machines that are equivalent in the guest view
pub record GuestStepEquiv (enclave : ℕ) (one other : MonitoredStepped) : Type 0 where
  -- the outcomes are equal
  pub outcome : one.outcome ≡ other.outcome
  -- the machines after the steps are equivalent except `enclave` in the guest view
  pub state : EquivToGuests enclave one.state other.state

-- low steps of two machines that are equivalent in the guest view have equal outcomes, and leave machines that are equivalent in the guest view
pub guest_step_equiv : (enclave hart : ℕ) (one other : MonitoredMachine) → Invariant one → Invariant other
    → EquivToGuests enclave one other
    → runs_on enclave hart one ≡ false → GuestStepEquiv enclave (step_of hart one) (step_of hart other)
guest_step_equiv enclave hart one other invariant_one invariant_other equiv not_running =
    let invariant_guest_one = guest_invariant one invariant_one in
    let invariant_guest_other = guest_invariant other invariant_other in
    let step =
    noninterference hart (guest_view one) invariant_guest_one enclave (guest_view other) invariant_guest_other equiv
    (guest_view_runs_same enclave hart one ∙ not_running) in
    record {
      outcome =
          (guest_step_of hart one invariant_one).outcome ∙ step.outcome
          ∙ sym (guest_step_of hart other invariant_other).outcome;
      state = equiv_from_guests enclave hart one other invariant_one invariant_other step.state;
    }

-- the CSRs in the guest view, without those that a context switch replaces
abbrev pub rest_of : HartState → CsrState
rest_of hart_state = unswitched (guest_csrs hart_state.hart.csrs)

-- ---- a step of one hart over two shared states, also the one that enters the enclave

-- Two results of the trap handler have the same host context. The host continues with this context, or the hart saves this context.
abbrev SameHostHandled : Handled → Handled → Type 0
SameHostHandled result other_result =
    SameHost (guest_state (continuing_from result)) (guest_state (continuing_from other_result))

-- the bit MPRV of the hart is 0
module _ (hart_state : HartState) (mprv : hart_state.hart.csrs.mstatus.mprv ≡ false) where
  -- the trap handler on two shared states with equal tables gives results with the same host
  handler_keeps_host : (trap : Trap) (table : Slots) (memory other_memory : List ℕ) (contexts other_contexts : Contexts)
      → length memory ≡ length other_memory
      → SameHostHandled (handled hart_state (shared_of table memory contexts) trap)
      (handled hart_state (shared_of table other_memory other_contexts) trap)
  unfolding measured entered_slot left with_redirected_trap
  handler_keeps_host trap table memory other_memory contexts other_contexts same_length =
      -- in each case both results have the same host context, because the tables are equal
      handler_cases_of_both hart_state trap table memory other_memory contexts other_contexts SameHostHandled (record {
        answers = λ status result. record { host = refl; rest = rw mprv refl };
        creates = λ requests no_refusal. record { host = refl; rest = rw mprv refl };
        destroys = λ requests slot_accepted. record { host = refl; rest = rw mprv refl };
        measures = λ requests no_refusal. record { host = refl; rest = rw mprv refl };
        enters = λ call requests is_entry_call from_host slot_accepted. record { host = refl; rest = rw mprv refl };
        leaves = record { host = refl; rest = rw mprv refl };
        redirects = record { host = refl; rest = rw mprv refl };
      }) same_length

-- the view with this hart state and this shared state
abbrev view_of : HartState → Shared → HartView
view_of hart_state shared = record { hart_state = hart_state; shared = shared }

-- two views after a step have the same host
abbrev SameHostAfter : HartViewStepped → HartViewStepped → Type 0
SameHostAfter stepped other_stepped =
    SameHost (guest_state stepped.state.hart_state) (guest_state other_stepped.state.hart_state)

-- the hart does not run `enclave`, and makes a step over two shared states that are equivalent except `enclave`
module _ (enclave : ℕ) (hart_state : HartState) (one other : Shared) (view_invariant_one : HartViewInvariant (view_of hart_state one))
    (runs_other : is_world_of enclave hart_state.world ≡ false)
    (shared_equiv : SharedEquivExcept enclave one other) where
  -- a step with a trap leaves the same host over both shared states
  step_with_trap_keeps_host : (trap : Trap)
      → SameHostAfter (view_after_trap (view_of hart_state one) trap) (view_after_trap (view_of hart_state other) trap)
  step_with_trap_keeps_host trap =
      let first_handled = handled (hart_state_after hart_state trap) one trap in
      let same_host =
      handler_keeps_host
      (hart_state_after hart_state trap) view_invariant_one.hart.layout.mprv trap one.table one.memory other.memory
      one.contexts other.contexts shared_equiv.memory.size in
      subst (λ (shared : Shared). SameHostHandled first_handled (handled (hart_state_after hart_state trap) shared trap))
      (ap (λ (table : Slots). shared_of table other.memory other.contexts) shared_equiv.table) same_host

  -- a step leaves the same host over both shared states
  step_keeps_host : SameHostAfter (monitored_step (view_of hart_state one)) (monitored_step (view_of hart_state other))
  step_keeps_host =
      let bare_steps_alike =
      bare_law enclave (view_of hart_state one) other.memory view_invariant_one runs_other shared_equiv.memory in
      let traps = ap (λ (outcome : StepOutcome). outcome.trap) bare_steps_alike.outcome in
      step_cases (view_of hart_state one) (λ after. SameHostAfter after (monitored_step (view_of hart_state other)))
      -- without a trap, only the hart and the memory change, and both bare steps are alike
      (λ no_trap. step_cases (view_of hart_state other) (λ after. SameHostAfter (view_without_trap (view_of hart_state one)) after)
      (λ no_second_trap. record { host = refl; rest = ap (λ (hart : Hart). unswitched (guest_csrs hart.csrs)) (sym bare_steps_alike.hart) })
      (λ trap trapped. let contradiction : None ≡ Some trap = sym no_trap ∙ sym traps ∙ trapped in cc))
      -- with a trap, the second step has the same trap
      (λ trap trapped. step_cases (view_of hart_state other) (λ after. SameHostAfter (view_after_trap (view_of hart_state one) trap) after)
      (λ no_trap. let contradiction : Some trap ≡ None = sym trapped ∙ sym traps ∙ no_trap in cc)
      (λ second_trap second_trapped.
      let some_traps_equal : Some trap ≡ Some second_trap = sym trapped ∙ sym traps ∙ second_trapped in
      let traps_equal : trap ≡ second_trap = cc in
      subst (λ (some_trap : Trap). SameHostAfter (view_after_trap (view_of hart_state one) trap)
      (view_after_trap (view_of hart_state other) some_trap)) traps_equal
      (step_with_trap_keeps_host trap)))

-- ---- a low step

-- the state of a hart after its step is the state after the step of its guest view, in the guest view
guest_state_after : (hart : ℕ) (machine : MonitoredMachine) → Invariant machine → hart < count_of machine
    → guest_state (hart_state_of hart (step_of hart machine).state)
    ≡ guest_state (monitored_step (hart_view hart (guest_view machine))).state.hart_state
guest_state_after hart machine invariant in_range =
    let same_length = length-map machine.hart_states guest_state in
    let view_step = step_of_view hart (guest_view machine) (omega (arith, same_length, in_range)) in
    sym (guest_hart_state hart (step_of hart machine).state)
    ∙ ap (hart_state_of hart) (guest_step_of hart machine invariant).state
    ∙ guest_hart_state hart (step_of hart (guest_view machine)).state
    ∙ ap (λ (stepped : HartViewStepped). guest_state stepped.state.hart_state) view_step

-- a step of one hart keeps the saved host of each other hart
pub other_harts_keep_host : (hart other_hart : ℕ) (machine : MonitoredMachine) → other_hart ≢ hart
    → SameHostOn other_hart (step_of hart machine).state machine
other_harts_keep_host hart other_hart machine distinct = record {
  host =
      other_harts_keep (λ (hart_state : HartState). hart_state.host_context) (λ table hart_state. refl) hart other_hart machine distinct;
  rest = other_harts_keep rest_of (λ table hart_state. refl) hart other_hart machine distinct;
}

-- If the machines of each neighbouring pair of four have the same saved host on a hart, then so have the first and the last machine.
pub same_host_chain : (some_hart : ℕ) (machine one other other_machine : MonitoredMachine)
    → SameHostOn some_hart machine one
    → SameHostOn some_hart one other
    → SameHostOn some_hart other_machine other
    → SameHostOn some_hart machine other_machine
same_host_chain some_hart machine one other other_machine first_hosts_equal middle_hosts_equal last_hosts_equal = record {
  host = first_hosts_equal.host ∙ middle_hosts_equal.host ∙ sym last_hosts_equal.host;
  rest = first_hosts_equal.rest ∙ middle_hosts_equal.rest ∙ sym last_hosts_equal.rest;
}

-- an enclave that runs on the other hart after a step of another hart ran on the other hart before the step
pub ran_before : (enclave hart other_hart : ℕ) (machine : MonitoredMachine) → other_hart ≢ hart
    → runs_on enclave other_hart (step_of hart machine).state ≡ true
    → runs_on enclave other_hart machine ≡ true
ran_before enclave hart other_hart machine distinct runs_after =
    sym (other_harts_keep (λ (hart_state : HartState). is_world_of enclave hart_state.world)
    (λ table hart_state. refl) hart other_hart machine distinct)
    ∙ runs_after

-- Two machines are equivalent except `enclave` in the guest view, and each hart that runs `enclave` has the same saved host in both. A hart that
-- does not run `enclave` makes a step in both.
module _ (enclave hart : ℕ) (one other : MonitoredMachine) (invariant_one : Invariant one) (invariant_other : Invariant other)
    (equiv : EquivToGuests enclave one other)
    (hosts : (other_hart : ℕ) → runs_on enclave other_hart one ≡ true → SameHostOn other_hart one other)
    (not_running : runs_on enclave hart one ≡ false) where
  -- the hart that steps has the same saved host in both machines after the step
  stepped_hart_keeps_host : hart < count_of one → SameHostOn hart (step_of hart one).state (step_of hart other).state
  stepped_hart_keeps_host in_range =
      let first_view = guest_view one in
      let second_view = guest_view other in
      let first_length = length-map one.hart_states guest_state in
      let second_length = length-map other.hart_states guest_state in
      let same_count = equiv.harts in
      -- the hart does not run `enclave` in the guest view either, so both guest views have the same hart state
      let not_running_in_view : runs_on enclave hart first_view ≡ false =
      ap (λ (hart_state : HartState). is_world_of enclave hart_state.world) (guest_hart_state hart one) ∙ not_running in
      let hart_states = (equiv.hart_states hart).same not_running_in_view in
      let view_invariant =
      hart_view_invariant hart first_view (guest_invariant one invariant_one) (omega (arith, first_length, in_range)) in
      let same_over_shared =
      step_keeps_host enclave (hart_state_of hart first_view) first_view.shared second_view.shared view_invariant not_running_in_view equiv.shared in
      -- the steps of the guest views leave the same host
      let same_host_after : SameHostAfter (monitored_step (hart_view hart first_view)) (monitored_step (hart_view hart second_view)) =
      subst
      (λ (hart_state : HartState). SameHostAfter (monitored_step (hart_view hart first_view))
      (monitored_step (view_of hart_state second_view.shared))) hart_states same_over_shared in
      -- the host of each machine after the step is the host of its guest view
      subst (λ (hart_state : HartState). SameHost hart_state (guest_state (hart_state_of hart (step_of hart other).state)))
      (sym (guest_state_after hart one invariant_one in_range))
      (subst (SameHost (guest_state (monitored_step (hart_view hart first_view)).state.hart_state))
      (sym (guest_state_after hart other invariant_other (omega (arith, first_length, second_length, same_count, in_range)))) same_host_after)

  -- after low steps, each hart that runs the enclave has the same saved host in both machines
  pub same_hosts_after : (other_hart : ℕ) → runs_on enclave other_hart (step_of hart one).state ≡ true
      → SameHostOn other_hart (step_of hart one).state (step_of hart other).state
  same_hosts_after other_hart runs_after =
      let in_range = running_hart_in_range enclave other_hart (step_of hart one).state runs_after in
      let count = step_count hart one in
      elim (cases_eq other_hart hart) [
        -- the stepping hart keeps the saved host
        | inl is_stepping_hart ↦ rw is_stepping_hart (stepped_hart_keeps_host (omega (arith, in_range, count, is_stepping_hart)))
        -- every other hart keeps its saved host
        | inr is_other_hart ↦
            same_host_chain other_hart (step_of hart one).state one other (step_of hart other).state
            (other_harts_keep_host hart other_hart one is_other_hart)
            (hosts other_hart (ran_before enclave hart other_hart one is_other_hart runs_after))
            (other_harts_keep_host hart other_hart other is_other_hart)
      ]
