-- A step of the host either continues with the host, or enters an enclave. If the step enters an enclave, then it leaves the machine that the
-- definition `entered_by_call` gives.
use Rattle.std.proofs.Common.{◌≡◌, ◌<◌, ℕ, ◌⊎◌, true, false, Option, Some, None, IfSome, refl, sym, ◌∙◌, ap, subst, inl, inr}
use Rattle.std.specs.Prelude.{is_some, not, slice_set}
use Rattle.std.proofs.Math.Bool.{or-false}
use Rattle.rv_enclaves.specs.SharedInvariant.{SavedContextsInvariant, is_held}
use Rattle.rv_enclaves.proofs.Refusals.{takes_rests}
use Rattle.rv_monitor.specs.Entering.{EntersOnly, HasEntered}
use Rattle.rv_monitor.specs.NumberedCalls.{entered_by_call, slots_with_state, switched_hart}
use Rattle.rv_monitor.specs.Prelude.{Call, Context, Enclave, Host, Outcome, Running, S, HartState, StepOutcome, Trap, World, can_go_on, context_at, is_set, step}
use Rattle.rv_monitor.specs.TrapReturns.{past_ecall}
use Rattle.rv_monitor.proofs.Prelude.{Handled, HartViewInvariant, Invariant, SlotIsAccepted, MonitoredMachine, MonitoredStepped, HartView, HartViewStepped, a0, bare_machine, cases_lt, count_of, entered_slot, handled, left}
use Rattle.rv_monitor.proofs.Prelude.{monitored_step, returned, saved, hart_state_of, hart_view, step_of, with_reprogrammed_hart}
use Rattle.rv_monitor.proofs.InvariantLemmas.{hart_view_invariant}
use Rattle.rv_monitor.proofs.HartCases.{is_trapping, outside, programmed_by, step_of_view}
use Rattle.rv_monitor.proofs.Switched.{pc_is_aligned}
use Rattle.rv_monitor.proofs.TrapSteps.{hart_state_after, untrapped_world_unchanged, trapped_step}
use Rattle.rv_monitor.proofs.HandlerCases.{handler_cases, entering}

-- the host has a trap, and `slot` has the saved context `context`
module _ (before : HartView) (slot : ℕ) (context : Context) (from_host : before.hart_state.world ≡ Host)
    (has_context : context_at before.shared.contexts slot ≡ Some context) (trap : Trap) where
  -- the hart state at the trap, before the trap handler
  abbrev hart_state : HartState
  hart_state = hart_state_after before.hart_state trap

  -- the result of the trap handler for an entry of the slot in a0
  abbrev entry_result : Handled
  entry_result = entering hart_state before.shared

  -- the trap handler continues the host, or enters the slot in a0
  abbrev HostOrEntry : Handled → Type 0
  HostOrEntry result = (result.hart_state.world ≡ Host) ⊎ (result ≡ with_reprogrammed_hart entry_result)

  -- the trap handler continues the host, or enters the slot in a0
  handled_host_or_entry : HostOrEntry (handled hart_state before.shared trap)
  unfolding left
  -- an entry enters the slot in a0, and every other case continues with the host
  handled_host_or_entry = handler_cases hart_state trap before.shared HostOrEntry (record {
    answers = λ status result. inl from_host;
    creates = λ requests no_refusal. inl from_host;
    destroys = λ requests slot_accepted. inl from_host;
    measures = λ requests no_refusal. inl from_host;
    enters = λ call requests is_entry_call from_host slot_accepted. inr refl;
    leaves = inl refl;
    redirects = inl from_host;
  })

  -- ---- the step

  -- the view after an entry of `slot`
  abbrev view_after_entry : HartView
  view_after_entry =
      let slots = slots_with_state before.shared.table slot Running in
      let hart = before.hart_state.hart in
      record {
        hart_state = record {
          hart = switched_hart hart trap context slots (Enclave slot);
          host_context = Some (saved hart (past_ecall hart) S);
          world = Enclave slot;
        };
        shared = record before.shared { table = slots; contexts = slice_set before.shared.contexts slot None };
      }

  -- the view after the step is the view after an entry of `slot`, and the step reports this entry
  abbrev IsEntryStep : HartViewStepped → Type 0
  IsEntryStep after = (after.state ≡ view_after_entry) × (after.outcome.entered ≡ Some slot)

  -- the return from an entry of `slot` gives the view after the entry
  return_after_entry : (outcome : StepOutcome) → HartViewInvariant before → can_go_on context ≡ true → a0 hart_state ≡ slot
      → IsEntryStep (returned outcome (with_reprogrammed_hart entry_result))
  unfolding entered_slot
  return_after_entry outcome view_invariant can_continue a0_is_slot =
      let aligned = pc_is_aligned context.mode context.pc can_continue in
      let mprv = view_invariant.hart.layout.mprv in
      -- a0 names `slot`, whose saved context is `context` with a pc that is a multiple of 4; `|| false` changes nothing, and MPRV is 0
      rw (a0_is_slot, has_context, aligned, or-false (is_set before.hart_state.hart.csrs.mcountinhibit 0), mprv) (refl, refl)

  -- if an entry leaves the hart in `slot`, then a0 names `slot`
  a0_names_slot : (result : Handled) → result ≡ with_reprogrammed_hart entry_result
      → result.hart_state.world ≡ Enclave slot → a0 hart_state ≡ slot
  unfolding entered_slot
  a0_names_slot result is_entry_result enclave_runs_after =
      let worlds_equal : Enclave (a0 hart_state) ≡ Enclave slot =
      sym (ap (λ (some_result : Handled). some_result.hart_state.world) is_entry_result) ∙ enclave_runs_after in
      let slots_equal : a0 hart_state ≡ slot = cc in
      slots_equal

  -- if the result of the trap handler is in `slot`, then the return from the trap handler gives the view after the entry
  entry_if_in_slot : (outcome : StepOutcome) (result : Handled) → HartViewInvariant before
      → can_go_on context ≡ true → HostOrEntry result
      → result.hart_state.world ≡ Enclave slot
      → IsEntryStep (returned outcome result)
  -- the host still runs after the trap handler, so the hart is not in `slot`
  entry_if_in_slot outcome result view_invariant can_continue (inl host_stays) enclave_runs_after =
      let contradiction : Host ≡ Enclave slot = sym host_stays ∙ enclave_runs_after in cc
  -- the trap handler enters the slot in a0, which is `slot`
  entry_if_in_slot outcome result view_invariant can_continue (inr is_entry) enclave_runs_after =
      subst (λ (some_result : Handled). IsEntryStep (returned outcome some_result)) (sym is_entry)
      (return_after_entry outcome view_invariant can_continue (a0_names_slot result is_entry enclave_runs_after))

  -- a step with a trap after which the hart is in `slot` is an entry of `slot`
  step_is_entry : HartViewInvariant before → can_go_on context ≡ true
      → (monitored_step before).outcome.step.trap ≡ Some trap
      → (monitored_step before).state.hart_state.world ≡ Enclave slot → IsEntryStep (monitored_step before)
  step_is_entry view_invariant can_continue trapped enclave_runs_after =
      let step_is = trapped_step before trap trapped in
      let enclave_runs_after_handler =
      subst (λ (after : HartViewStepped). after.state.hart_state.world ≡ Enclave slot) step_is enclave_runs_after in
      subst IsEntryStep (sym step_is)
      (entry_if_in_slot (step (bare_machine before)).outcome _ view_invariant can_continue handled_host_or_entry enclave_runs_after_handler)

-- ---- an entry is a trap, and the slot had a saved context

-- The host has a trap. The saved contexts agree with the table.
module _ (before : HartView) (contexts_agree : SavedContextsInvariant before.shared) (runs : before.hart_state.world ≡ Host) (trap : Trap) where
  -- each slot that runs after the trap handler had a saved context before the trap handler
  abbrev HadContext : Handled → Type 0
  HadContext result =
      (slot : ℕ) → result.hart_state.world ≡ Enclave slot → is_some (context_at before.shared.contexts slot) ≡ true

  -- the host is not an enclave, so nothing is to show for a result in which the host runs
  host_runs_no_enclave : (world : World) → world ≡ Host → (slot : ℕ) → world ≡ Enclave slot
      → is_some (context_at before.shared.contexts slot) ≡ true
  host_runs_no_enclave world from_host slot enclave_runs_after =
      let contradiction : Host ≡ Enclave slot = sym from_host ∙ enclave_runs_after in cc

  -- a slot with an enclave in a state that the call accepts has a saved context
  accepted_slot_has_context : (call : Call) (named_slot : ℕ)
      → SlotIsAccepted before.shared.table call named_slot → (slot : ℕ)
      → Enclave named_slot ≡ Enclave slot
      → is_some (context_at before.shared.contexts slot) ≡ true
  accepted_slot_has_context call named_slot slot_accepted slot same_enclave =
      let slots_equal : named_slot ≡ slot = cc in
      subst (λ (some_slot : ℕ). is_some (context_at before.shared.contexts some_slot) ≡ true) slots_equal
      (contexts_agree.kept named_slot ∙ ap is_held slot_accepted.is ∙ ap not (takes_rests call slot_accepted.info.state slot_accepted.taken))

  -- the trap handler enters only a slot with a saved context
  handled_had_context : HadContext (handled (hart_state_after before.hart_state trap) before.shared trap)
  unfolding left entered_slot
  -- an entry needs a slot in a state that the call accepts, and every other case continues with the host
  handled_had_context = handler_cases (hart_state_after before.hart_state trap) trap before.shared HadContext (record {
    answers = λ status result. host_runs_no_enclave _ runs;
    creates = λ requests no_refusal. host_runs_no_enclave _ runs;
    destroys = λ requests slot_accepted. host_runs_no_enclave _ runs;
    measures = λ requests no_refusal. host_runs_no_enclave _ runs;
    enters =
        λ call requests is_entry_call from_host slot_accepted. accepted_slot_has_context call
        (a0 (hart_state_after before.hart_state trap)) slot_accepted;
    leaves = host_runs_no_enclave Host refl;
    redirects = host_runs_no_enclave _ runs;
  })

  -- the slot that a step enters had a saved context before the step
  had_context : (monitored_step before).outcome.step.trap ≡ Some trap → (slot : ℕ)
      → (monitored_step before).state.hart_state.world ≡ Enclave slot
      → is_some (context_at before.shared.contexts slot) ≡ true
  had_context trapped slot enclave_runs_after =
      handled_had_context slot
      (subst (λ (after : HartViewStepped). after.state.hart_state.world ≡ Enclave slot) (trapped_step before trap trapped) enclave_runs_after)

-- ---- the law

-- a step of the host after which the hart is in `slot` leaves the machine after an entry by a call
enters_from : (hart : ℕ) (machine : MonitoredMachine) → Invariant machine → (slot : ℕ) (context : Context) (trap : Trap)
    → (hart_state_of hart machine).world ≡ Host → context_at machine.shared.contexts slot ≡ Some context
    → (step_of hart machine).outcome.step.trap ≡ Some trap
    → (hart_state_of hart (step_of hart machine).state).world ≡ Enclave slot
    → ((step_of hart machine).state ≡ entered_by_call hart machine slot trap context) × ((step_of hart machine).outcome.entered ≡ Some slot)
enters_from hart machine invariant slot context trap from_host has_context trapped enclave_runs_after =
    let trapping = is_trapping hart machine trap trapped in
    let view_ends_in_slot =
    sym (ap (λ (after : HartViewStepped). after.state.hart_state.world) (step_of_view hart machine trapping.has)) ∙ enclave_runs_after in
    let CanGoOnIfSome : Option Context → Type 0 =
    λ maybe_context. IfSome maybe_context (λ some_context. can_go_on some_context ≡ true) in
    let can_continue : can_go_on context ≡ true = subst CanGoOnIfSome has_context (invariant.shared.contexts.held slot) in
    -- the step of the view enters the slot, because the hart is in the slot after the step
    let (view_state_is, view_entered_is) =
    step_is_entry (hart_view hart machine) slot context from_host has_context trap
    (hart_view_invariant hart machine invariant trapping.has) can_continue trapping.trapped view_ends_in_slot in
    -- the step of the machine is the step of the view, after which all harts are reprogrammed for the new table
    (trapping.state ∙ ap (programmed_by hart machine) view_state_is, ap (λ (outcome : Outcome). outcome.entered) trapping.outcome ∙ view_entered_is)

-- the hart runs the host before its step, and enclave `slot` after it
module _ (hart slot : ℕ) (machine : MonitoredMachine) (invariant : Invariant machine) (from_host : (hart_state_of hart machine).world ≡ Host)
    (enclave_runs_after : (hart_state_of hart (step_of hart machine).state).world ≡ Enclave slot) where
  -- the step of the hart's view ends in `slot`
  view_ends_in_slot : hart < count_of machine
      → (monitored_step (hart_view hart machine)).state.hart_state.world ≡ Enclave slot
  view_ends_in_slot in_range =
      sym (ap (λ (after : HartViewStepped). after.state.hart_state.world) (step_of_view hart machine in_range)) ∙ enclave_runs_after

  -- if a step without a trap ended in `slot`, then the host would be an enclave
  no_trap_contradicts : (step_of hart machine).outcome.step.trap ≡ None → Host ≡ Enclave slot
  no_trap_contradicts no_trap = elim (cases_lt hart (count_of machine)) [
    -- no hart of the machine has this number
    | inr past_last ↦
        sym (ap (λ (after : MonitoredStepped). (hart_state_of hart after.state).world) (outside hart machine past_last) ∙ from_host)
        ∙ enclave_runs_after
    | inl in_range ↦
        let view_step = step_of_view hart machine in_range in
        let view_untrapped = sym (ap (λ (after : HartViewStepped). after.outcome.step.trap) view_step) ∙ no_trap in
        sym from_host ∙ sym (untrapped_world_unchanged (hart_view hart machine) view_untrapped) ∙ view_ends_in_slot in_range
  ]

  -- a step with a trap that ends in `slot` enters `slot` with the saved context of `slot`
  entry_with_context : (trap : Trap) → (step_of hart machine).outcome.step.trap ≡ Some trap
      → (maybe_context : Option Context)
      → context_at machine.shared.contexts slot ≡ maybe_context → HasEntered hart slot machine (step_of hart machine)
  entry_with_context trap trapped None no_context =
      let trapping = is_trapping hart machine trap trapped in
      let slot_has_context =
      had_context (hart_view hart machine) invariant.shared.contexts from_host trap trapping.trapped slot (view_ends_in_slot trapping.has) in
      let contradiction : false ≡ true =
      ap (λ (maybe_context : Option Context). is_some maybe_context) (sym no_context) ∙ slot_has_context in
      cc
  entry_with_context trap trapped (Some context) has_context =
      let (state_is, entered_is) =
      enters_from hart machine invariant slot context trap from_host has_context trapped enclave_runs_after in
      record { trap = trap; trapped = trapped; call = record { context = context; kept = has_context; state = state_is; entered = entered_is } }

  -- a step that ends in `slot` has a trap, and enters `slot` with its saved context
  entry_by_trap : (maybe_trap : Option Trap) → (step_of hart machine).outcome.step.trap ≡ maybe_trap
      → HasEntered hart slot machine (step_of hart machine)
  entry_by_trap None no_trap = let contradiction = no_trap_contradicts no_trap in cc
  entry_by_trap (Some trap) trapped = entry_with_context trap trapped (context_at machine.shared.contexts slot) refl

-- proves that a hart which enters an enclave continues with exactly the saved context of this enclave
pub enter_law : (hart : ℕ) (machine : MonitoredMachine) → Invariant machine
    → EntersOnly hart machine (step_of hart machine)
enter_law hart machine invariant slot from_host enclave_runs_after =
    entry_by_trap hart slot machine invariant from_host enclave_runs_after (step_of hart machine).outcome.step.trap refl
