-- After a trap of an enclave, either the enclave continues, or the enclave exits and the step leaves the machine that `left_machine` gives.
use Rattle.std.proofs.Common.{◌≡◌, ℕ, ◌⊎◌, true, Option, Some, None, IfSome, refl, sym, ◌∙◌, ap, subst, inl, inr, ◌<◌, arith}
use Rattle.std.proofs.Math.Bool.{or-false}
use Rattle.rv_state.specs.declared.cause.Cause.TheVariants as causes
use Rattle.rv_monitor.specs.Prelude.{Cause, Context, Enclave, Host, Outcome, HartState, StepOutcome, Trap, can_go_on, is_set, step}
use Rattle.rv_monitor.proofs.LeftMachine.{left_machine}
use Rattle.rv_monitor.proofs.Prelude.{Handled, HartViewInvariant, HartView, HartViewStepped, bare_machine, handled, saved_after, left_hart, count_of}
use Rattle.rv_monitor.proofs.Prelude.{left, left_shared, monitored_step, returned, hart_view, with_reprogrammed_hart, Invariant, MonitoredMachine, step_of}
use Rattle.rv_monitor.proofs.InvariantLemmas.{hart_view_invariant}
use Rattle.rv_monitor.proofs.HartCases.{is_trapping, programmed_by, step_of_view}
use Rattle.rv_monitor.proofs.Switched.{pc_is_aligned}
use Rattle.rv_monitor.proofs.TrapSteps.{hart_state_after, trapped_step}
use Rattle.rv_monitor.proofs.HandlerCases.{handler_cases, context_saved_by, enclave_exit_of, lowered_by}
use Rattle.std.specs.Prelude.{map}
use Rattle.rv_monitor.proofs.Prelude.{get_or-set_at, hart_state_at_start, hart_state_of, length-map, reprogrammed}

-- ---- the trap handler

-- the trap of a hart that runs the enclave in `slot`, with a saved context of the host
module _ (before : HartView) (slot : ℕ) (host : Context) (runs_enclave : before.hart_state.world ≡ Enclave slot)
    (host_is_saved : before.hart_state.host_context ≡ Some host)
    (trap : Trap) where
  -- the hart state at the trap, before the trap handler
  abbrev hart_state : HartState
  hart_state = hart_state_after before.hart_state trap

  -- the result of an exit that saves the given context of the enclave
  abbrev leaving_with : Context → Handled
  leaving_with context =
      left (lowered_by trap.cause hart_state) before.shared (record (enclave_exit_of trap.cause hart_state) { kept = context })

  -- the result of an exit
  abbrev exit_result : Handled
  exit_result = leaving_with (saved_after trap.cause before.hart_state.hart)

  -- the context of the enclave that the exit saves, from the hart before the trap
  saved_context_is : (cause : Cause) → context_saved_by cause hart_state ≡ saved_after cause before.hart_state.hart
  saved_context_is (causes.Interrupt interrupt) = refl
  saved_context_is (causes.Exception exception) = refl

  -- the enclave continues, or exits
  abbrev StaysOrExits : Handled → Type 0
  StaysOrExits result = (result.hart_state.world ≡ Enclave slot) ⊎ (result ≡ with_reprogrammed_hart exit_result)

  -- a claim about a hart that runs both an enclave and the host holds, because there is no such hart
  no_entry_from_enclave : before.hart_state.world ≡ Host → (Claim : Type 0) → Claim
  no_entry_from_enclave from_host Claim = let contradiction : Host ≡ Enclave slot = sym from_host ∙ runs_enclave in cc

  -- the trap handler exits the enclave, or leaves the enclave running
  handled_stays_or_exits : StaysOrExits (handled hart_state before.shared trap)
  -- an exit leaves for the host, an enclave may not enter, and every other case continues with the enclave
  handled_stays_or_exits = handler_cases hart_state trap before.shared StaysOrExits (record {
    answers = λ status result. inl runs_enclave;
    creates = λ requests no_refusal. inl runs_enclave;
    destroys = λ requests slot_accepted. inl runs_enclave;
    measures = λ requests no_refusal. inl runs_enclave;
    enters = λ call requests is_entry_call from_host slot_accepted. no_entry_from_enclave from_host _;
    leaves = inr (ap (λ (saved_context : Context). with_reprogrammed_hart (leaving_with saved_context)) (saved_context_is trap.cause));
    redirects = inl runs_enclave;
  })

  -- ---- the step

  -- the view after an exit
  abbrev view_after_exit : HartView
  view_after_exit =
      let shared = left_shared before.shared slot trap.cause before.hart_state.hart in
      record {
        hart_state =
            record { hart = left_hart before.hart_state.hart shared.table trap host; host_context = None; world = Host };
        shared = shared;
      }

  -- the view after the step is the view after an exit, and the step enters no slot
  abbrev IsExitStep : HartViewStepped → Type 0
  IsExitStep after = (after.state ≡ view_after_exit) × (after.outcome.entered ≡ None)

  -- the return from an exit gives the view after an exit
  return_after_exit : (outcome : StepOutcome) → HartViewInvariant before
      → IsExitStep (returned outcome (with_reprogrammed_hart exit_result))
  unfolding left
  return_after_exit outcome view_invariant =
      let CanGoOnIfSome : Option Context → Type 0 =
      λ maybe_context. IfSome maybe_context (λ some_context. can_go_on some_context ≡ true) in
      let aligned = pc_is_aligned host.mode host.pc (subst CanGoOnIfSome host_is_saved view_invariant.hart.host.held) in
      let mprv = view_invariant.hart.layout.mprv in
      -- the hart runs the enclave of `slot`, and its saved host context is `host` with a pc that is a multiple of 4. `|| false` changes nothing, and
      -- MPRV is 0.
      (rw (runs_enclave, host_is_saved, aligned, or-false (is_set before.hart_state.hart.csrs.mcountinhibit 0), mprv) refl, refl)

  -- if the host runs after the trap handler, then the return from the trap handler gives the view after an exit
  exit_if_host_runs : (outcome : StepOutcome) (result : Handled) → HartViewInvariant before → StaysOrExits result
      → result.hart_state.world ≡ Host
      → IsExitStep (returned outcome result)
  -- the enclave still runs after the trap handler, so the host does not run
  exit_if_host_runs outcome result view_invariant (inl stays) host_runs_after =
      let contradiction : Enclave slot ≡ Host = sym stays ∙ host_runs_after in cc
  -- the result of the trap handler is that of an exit
  exit_if_host_runs outcome result view_invariant (inr is_exit) host_runs_after =
      subst (λ (some_result : Handled). IsExitStep (returned outcome some_result)) (sym is_exit) (return_after_exit outcome view_invariant)

  -- a step with a trap after which the host runs is an exit
  step_is_exit : HartViewInvariant before → (monitored_step before).outcome.step.trap ≡ Some trap
      → (monitored_step before).state.hart_state.world ≡ Host
      → IsExitStep (monitored_step before)
  step_is_exit view_invariant trapped host_runs_after =
      let step_is = trapped_step before trap trapped in
      let host_runs_after_handler =
      subst (λ (after : HartViewStepped). after.state.hart_state.world ≡ Host) step_is host_runs_after in
      subst IsExitStep (sym step_is) (exit_if_host_runs (step (bare_machine before)).outcome _ view_invariant handled_stays_or_exits
      host_runs_after_handler)

-- a step of an enclave with a trap after which the host runs leaves the machine after an exit, and enters no slot
pub leave_law : (hart : ℕ) (machine : MonitoredMachine) → Invariant machine → (slot : ℕ) (host : Context) (trap : Trap)
    → (hart_state_of hart machine).world ≡ Enclave slot → (hart_state_of hart machine).host_context ≡ Some host
    → (step_of hart machine).outcome.step.trap ≡ Some trap
    → (hart_state_of hart (step_of hart machine).state).world ≡ Host
    → ((step_of hart machine).state ≡ left_machine hart machine slot trap host) × ((step_of hart machine).outcome.entered ≡ None)
leave_law hart machine invariant slot host trap runs host_is_saved trapped host_runs_after =
    let trapping = is_trapping hart machine trap trapped in
    let view_runs_host =
    sym (ap (λ (after : HartViewStepped). after.state.hart_state.world) (step_of_view hart machine trapping.has)) ∙ host_runs_after in
    let (view_state_is, view_entered_none) =
    step_is_exit (hart_view hart machine) slot host runs host_is_saved trap
    (hart_view_invariant hart machine invariant trapping.has) trapping.trapped view_runs_host in
    (trapping.state ∙ ap (programmed_by hart machine) view_state_is, ap (λ (outcome : Outcome). outcome.entered) trapping.outcome ∙ view_entered_none)

-- the state of the hart after an exit is the state that `left_hart` gives
pub left_hart_state : (hart : ℕ) (machine : MonitoredMachine) (slot : ℕ) (trap : Trap) (host : Context) → hart < count_of machine
    → (let hart_before = (hart_state_of hart machine).hart in
    let shared = left_shared machine.shared slot trap.cause hart_before in
    let hart_state : HartState =
    record { hart = left_hart hart_before shared.table trap host; host_context = None; world = Host } in
    hart_state_of hart (left_machine hart machine slot trap host) ≡ hart_state)
left_hart_state hart machine slot trap host in_range =
    let hart_before = (hart_state_of hart machine).hart in
    let shared = left_shared machine.shared slot trap.cause hart_before in
    let same_length = length-map machine.hart_states (reprogrammed shared.table) in
    get_or-set_at (map (reprogrammed shared.table) machine.hart_states) hart hart _ (hart_state_at_start 0) refl
    (omega (arith, same_length, in_range))
