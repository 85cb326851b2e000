-- A step of an enclave depends only on the state of the enclave. In two machines in which two enclaves have the same state, the steps have equal
-- outcomes, and leave the enclaves in the same state or both exited.
use Rattle.std.proofs.Common.{◌≡◌, ◌<◌, ℕ, zero, suc, Bool, true, false, List, [], ◌∷◌, length, Option, Some, None, refl, sym, ◌∙◌, ap, ap₂, subst}
use Rattle.std.proofs.Common.{inl, inr, arith}
use Rattle.std.proofs.lemmas.Bool.{cases_Bool}
use Rattle.std.specs.Prelude.{◌||◌, ◌+◌, is_some, not, slice_index}
use Rattle.rv_state.specs.declared.cause.Cause.TheVariants as causes
use Rattle.rv_hart.specs.GuestView.{SameBelowM, below_m_hart}
use Rattle.rv_monitor.specs.Prelude.{Call, Cause, CsrState, Enclave, EnvironmentCallFromS, Exception, Exit, Host}
use Rattle.rv_monitor.specs.Prelude.{Hart, Measure, NotSupported, Outcome, Refusal, HartState, Shared, Slots, StepOutcome, Stop}
use Rattle.rv_monitor.specs.Prelude.{Trap, World, requested_call, first_refusal, is_host}
use Rattle.rv_monitor.specs.Prelude.{is_offered, is_world_of, may_store_all, measure_refusals, measured, call_requested}
use Rattle.rv_monitor.specs.Prelude.{option_case, ram_base, region_of, register, slot_at, status_of, step, with_bytes_at, has, Context}
use Rattle.rv_enclaves.specs.Table.{window_of}
use Rattle.rv_enclaves.specs.declared.refusal.Refusal.TheVariants.{NoEnclave, BadAddress}
use Rattle.rv_enclaves.proofs.SharedInvariantLemmas.{live_slot_in_range}
use Rattle.rv_monitor.specs.EnclaveSteps.{DependsOnEnclave, EnclaveRunLaw, HasReturned, Place, SameEnclave, SameEnclaveStep, SameExit, is_beyond}
use Rattle.rv_monitor.specs.EnclaveSteps.{runs_at, step_at}
use Rattle.rv_monitor.proofs.Prelude.{Handled, Invariant, HartViewInvariant, MonitoredMachine, HartViewStepped, a1, bare_machine, call_handled}
use Rattle.rv_monitor.proofs.Prelude.{call_refusals, called, with_redirected_trap, handled, handled_cause, handled_exception, left, monitored_step}
use Rattle.rv_monitor.proofs.Prelude.{performed}
use Rattle.rv_monitor.proofs.Prelude.{SlotInfo, returned_to_caller, count_of, refused, returned, hart_state_of, hart_view, step_of, timer_stopped}
use Rattle.rv_monitor.proofs.Exits.{exits_law}
use Rattle.rv_monitor.proofs.Beside.{running_hart_in_range, running_is_live}
use Rattle.rv_monitor.proofs.InvariantLemmas.{invariant_by_size, invariant_law, hart_view_invariant}
use Rattle.rv_monitor.proofs.EnclaveMemory.{OwnAlike, enclave_world_is_not_host, own_step_alike, world_is_enclave, KeepsExtent, within_before}
use Rattle.rv_monitor.proofs.EnclaveMemory.{not_host, new_state_keeps_extent, slot_with_new_state}
use Rattle.rv_monitor.proofs.HartCases.{step_of_view}
use Rattle.rv_monitor.proofs.TrapSteps.{step_cases, hart_state_after, view_after_trap, view_without_trap, hart_after}
use Rattle.rv_monitor.proofs.HandlerCases.{requested-is_offered}
use Rattle.rv_monitor.specs.Prelude.{EnclaveState, EqualOutside, context_at}
use Rattle.rv_monitor.proofs.Prelude.{false≢true, saved_after, both_ways, eq-eqb, at_written_slot, enclave_state_after, reason, value}
use Rattle.rv_monitor.proofs.Leaving.{leave_law, left_hart_state}
use Rattle.rv_monitor.proofs.Availability.{world_is_host}
use Rattle.rv_monitor.proofs.EnclaveAccesses.{view_of, Alike, bare_steps_alike, same_may_store, same_may_store_all}

-- ---- two steps of a hart: equal outcomes, and the same state again unless the enclaves exit

-- Two steps have equal outcomes. Afterwards both harts run the host, or their enclaves are alike.
record StepAlike (first_slot second_slot : ℕ) (first_step second_step : HartViewStepped) : Type 0 where
  outcome : first_step.outcome ≡ second_step.outcome
  -- after the steps, both harts run the host or neither does
  hosts : is_host first_step.state.hart_state.world ≡ is_host second_step.state.hart_state.world
  -- if the first hart does not run the host, then the enclaves are alike again
  runs : is_host first_step.state.hart_state.world ≡ false
      → Alike first_slot second_slot first_step.state second_step.state

-- ---- the trap handler

-- CSRs in which the parts that only M-mode uses come from the CSRs `m_csrs`
abbrev with_m_csrs : CsrState → CsrState → CsrState
with_m_csrs csrs m_csrs = record csrs {
  mie = m_csrs.mie;
  mtvec = m_csrs.mtvec;
  mcountinhibit = m_csrs.mcountinhibit;
  mscratch = m_csrs.mscratch;
  software_pending = m_csrs.software_pending;
  pmp = m_csrs.pmp;
  mcycle = m_csrs.mcycle;
  minstret = m_csrs.minstret;
}

-- the hart with the M-mode parts of the CSRs `m_csrs`, at another pc
abbrev with_m_parts : CsrState → ℕ → Hart → Hart
with_m_parts m_csrs pc hart = record hart { csrs = with_m_csrs hart.csrs m_csrs; pc = pc }

-- the state of a hart that runs the enclave of the slot, with this saved context of the host
abbrev running : ℕ → Option Context → Hart → HartState
running slot host hart = record { hart = hart; host_context = host; world = Enclave slot }

-- The enclaves of two slots have the same trap on two harts. The first hart is `hart`. The second hart has the M-mode parts of `m_csrs`, and another
-- pc.
module _ (first_slot second_slot : ℕ) (hart : Hart) (m_csrs : CsrState) (pc : ℕ) (first_host second_host : Option Context)
    (first_shared second_shared : Shared) (step_outcome : StepOutcome)
    (mprv : hart.csrs.mstatus.mprv ≡ false) (records_equal : slot_at first_shared.table first_slot ≡ slot_at second_shared.table second_slot)
    (memories_equal : first_shared.memory ≡ second_shared.memory)
    (same_may_store : may_store_all first_shared.memory hart.csrs.pmp (register hart.regs 11)
    ≡ may_store_all second_shared.memory m_csrs.pmp (register hart.regs 11)) where
  -- the first hart state at the trap, which runs the enclave of the first slot
  abbrev first_at_trap : HartState
  first_at_trap = running first_slot first_host hart

  -- the second hart state at the trap, which runs the enclave of the second slot
  abbrev second_at_trap : HartState
  second_at_trap = running second_slot second_host (with_m_parts m_csrs pc hart)

  -- the returns from two results of the trap handler are alike
  abbrev ResultsAlike : Handled → Handled → Type 0
  ResultsAlike result other_result =
      StepAlike first_slot second_slot (returned step_outcome result) (returned step_outcome other_result)

  -- a return to the caller is alike for both enclaves
  returns_alike : (shared other_shared : Shared) (status result : ℕ) → shared.memory ≡ other_shared.memory
      → slot_at shared.table first_slot ≡ slot_at other_shared.table second_slot
      → ResultsAlike (returned_to_caller first_at_trap shared status result) (returned_to_caller second_at_trap other_shared status result)
  returns_alike shared other_shared status result memories_after_equal records_after_equal = record {
    outcome = refl;
    hosts = refl;
    runs =
        λ runs_after. record { first = refl; second = refl; hart = rw mprv refl; slot = records_after_equal; memory = memories_after_equal };
  }

  -- a measure is alike for both enclaves
  measure_alike : ResultsAlike (performed first_at_trap first_shared Measure) (performed second_at_trap second_shared Measure)
  unfolding performed measured
  measure_alike =
      returns_alike (measured first_shared first_slot (a1 first_at_trap)) (measured second_shared second_slot (a1 first_at_trap)) _ _
      (ap₂ (λ (memory : List ℕ) (maybe_info : Option SlotInfo). with_bytes_at memory (a1 first_at_trap)
      (option_case maybe_info [] (λ info. info.measurement))) memories_equal records_equal) records_equal

  -- a measure has the same refusals for both enclaves
  same_measure_refusals : call_refusals second_at_trap second_shared Measure ≡ call_refusals first_at_trap first_shared Measure
  unfolding measure_refusals
  same_measure_refusals =
      ap₂ (λ (maybe_info : Option SlotInfo) (stores : Bool).
      (not (is_some maybe_info), NoEnclave) ∷ (not stores, BadAddress) ∷ []) (sym records_equal)
      (sym same_may_store)

  -- a call, refused or not, is alike for both enclaves, if its effect is alike
  refusal_alike : (maybe_refusal : Option Refusal) (result other_result : Handled) → ResultsAlike result other_result
      → ResultsAlike (option_case maybe_refusal result (refused first_at_trap first_shared))
      (option_case maybe_refusal other_result (refused second_at_trap second_shared))
  refusal_alike None result other_result alike = alike
  refusal_alike (Some refusal) result other_result alike =
      returns_alike first_shared second_shared (status_of refusal) 0 memories_equal records_equal

  -- each call that is offered to an enclave is alike for both enclaves
  call_alike : (call : Call) → is_offered (Enclave first_slot) call ≡ true
      → ResultsAlike (called first_at_trap first_shared call) (called second_at_trap second_shared call)
  unfolding called performed left
  call_alike Measure offered =
      -- the measure has the same refusals for both enclaves
      let refusals_equal = same_measure_refusals in
      rw refusals_equal
      (refusal_alike (first_refusal (call_refusals first_at_trap first_shared Measure)) (performed first_at_trap first_shared Measure)
      (performed second_at_trap second_shared Measure) measure_alike)
  call_alike Stop offered = record { outcome = refl; hosts = refl; runs = λ runs_after. cc }
  call_alike Exit offered = record { outcome = refl; hosts = refl; runs = λ runs_after. cc }
  call_alike _ offered = cc

  -- the requested call, if there is one, is alike for both enclaves
  requested_call_alike : (maybe_call : Option Call) → requested_call (Enclave first_slot) hart.regs ≡ maybe_call
      → ResultsAlike (option_case maybe_call (refused first_at_trap first_shared NotSupported) (called first_at_trap first_shared))
      (option_case maybe_call (refused second_at_trap second_shared NotSupported) (called second_at_trap second_shared))
  requested_call_alike None requested =
      returns_alike first_shared second_shared (status_of NotSupported) 0 memories_equal records_equal
  requested_call_alike (Some call) requested =
      let (_, call_is_offered) = requested-is_offered (Enclave first_slot) hart.regs call requested in
      call_alike call call_is_offered

  -- both enclaves request the same call
  same_request : requested_call (Enclave first_slot) hart.regs ≡ requested_call (Enclave second_slot) hart.regs
  unfolding call_requested
  same_request = refl

  -- the trap handler handles an exception alike for both enclaves
  exception_alike : (trap : Trap) (exception : Exception)
      → ResultsAlike (handled_exception first_at_trap first_shared trap exception) (handled_exception second_at_trap second_shared trap exception)
  unfolding call_handled with_redirected_trap
  exception_alike trap EnvironmentCallFromS =
      let ResultsAlikeFor : Option Call → Type 0 = λ maybe_call.
      ResultsAlike (option_case (requested_call (Enclave first_slot) hart.regs) (refused first_at_trap first_shared NotSupported)
      (called first_at_trap first_shared))
      (option_case maybe_call (refused second_at_trap second_shared NotSupported) (called second_at_trap second_shared)) in
      subst ResultsAlikeFor same_request (requested_call_alike (requested_call (Enclave first_slot) hart.regs) refl)
  exception_alike trap _ = record {
    outcome = refl;
    hosts = refl;
    runs =
        λ runs_after. record { first = refl; second = refl; hart = rw mprv refl; slot = records_equal; memory = memories_equal };
  }

  -- the trap handler handles each cause alike for both enclaves
  cause_alike : (trap : Trap) (cause : Cause)
      → ResultsAlike (handled_cause first_at_trap first_shared trap cause) (handled_cause second_at_trap second_shared trap cause)
  unfolding timer_stopped left
  cause_alike trap (causes.Interrupt interrupt) = record { outcome = refl; hosts = refl; runs = λ runs_after. cc }
  cause_alike trap (causes.Exception exception) = exception_alike trap exception

  -- the results of the trap handler are alike for both enclaves
  handler_alike : (trap : Trap) → ResultsAlike (handled first_at_trap first_shared trap) (handled second_at_trap second_shared trap)
  unfolding handled
  handler_alike trap =
      let cause_is_alike = cause_alike trap trap.cause in
      record {
        outcome = cause_is_alike.outcome;
        hosts = cause_is_alike.hosts;
        runs = λ runs_after.
            let alike = cause_is_alike.runs runs_after in
            record { first = alike.first; second = alike.second; hart = alike.hart; slot = alike.slot; memory = alike.memory };
      }

-- ---- the step of one hart

-- the hart `hart` with the M-mode parts of the hart `m_source`
abbrev with_m_parts_of : Hart → Hart → Hart
with_m_parts_of m_source hart = record hart {
  csrs = record hart.csrs {
    mstatus = record hart.csrs.mstatus { mpie = m_source.csrs.mstatus.mpie; mpp = m_source.csrs.mstatus.mpp };
    mie = m_source.csrs.mie;
    mtvec = m_source.csrs.mtvec;
    mcountinhibit = m_source.csrs.mcountinhibit;
    mscratch = m_source.csrs.mscratch;
    mepc = m_source.csrs.mepc;
    mcause = m_source.csrs.mcause;
    mtval = m_source.csrs.mtval;
    software_pending = m_source.csrs.software_pending;
    pmp = m_source.csrs.pmp;
    mcycle = m_source.csrs.mcycle;
    minstret = m_source.csrs.minstret;
  };
}

-- the enclaves of two slots run on two harts with equal memories and equal records, and with equal harts as S and U see them
module _ (first_slot second_slot : ℕ) (first_state second_state : HartState) (first_shared second_shared : Shared)
    (first_view_invariant : HartViewInvariant (view_of first_state first_shared))
    (second_view_invariant : HartViewInvariant (view_of second_state second_shared))
    (alike : Alike first_slot second_slot (view_of first_state first_shared) (view_of second_state second_shared)) where
  -- the bare steps are equal, as S and U see them
  abbrev bare_steps_equal : SameBelowM (step (bare_machine (view_of first_state first_shared)))
      (step (bare_machine (view_of second_state second_shared)))
  bare_steps_equal =
      bare_steps_alike first_slot second_slot first_state second_state first_shared second_shared first_view_invariant second_view_invariant alike

  -- the second hart is the first one with the parts of M-mode from the second
  second_is_first_with_m_parts : with_m_parts_of second_state.hart first_state.hart ≡ second_state.hart
  second_is_first_with_m_parts = ap (with_m_parts_of second_state.hart) alike.hart

  -- the second hart at the trap is the first one at the trap, with the parts of M-mode from the second
  second_hart_after_trap : (trap : Trap)
      → hart_after second_state.hart trap ≡ with_m_parts (hart_after second_state.hart trap).csrs
      (hart_after second_state.hart trap).pc (hart_after first_state.hart trap)
  second_hart_after_trap trap =
      let with_m_parts_at_trap : Hart → Hart =
      λ some_hart. with_m_parts (hart_after some_hart trap).csrs (hart_after some_hart trap).pc (hart_after first_state.hart trap) in
      let trap_keeps_m_parts : hart_after (with_m_parts_of second_state.hart first_state.hart) trap
      ≡ with_m_parts_at_trap (with_m_parts_of second_state.hart first_state.hart) = refl in
      sym (ap (λ (hart : Hart). hart_after hart trap) second_is_first_with_m_parts) ∙ trap_keeps_m_parts
      ∙ ap with_m_parts_at_trap second_is_first_with_m_parts

  -- the steps of both views with a trap are alike
  trapped_alike : (trap : Trap) → StepAlike first_slot second_slot (view_after_trap (view_of first_state first_shared) trap)
      (view_after_trap (view_of second_state second_shared) trap)
  trapped_alike trap =
      let bare_outcome = (step (bare_machine (view_of first_state first_shared))).outcome in
      let state_with : Option Context → Hart → World → HartState =
      λ host hart world. record { hart = hart; host_context = host; world = world } in
      -- the first hart at the trap
      let first_state_is : hart_state_after first_state trap ≡ running first_slot first_state.host_context (hart_after first_state.hart trap) =
      ap (state_with first_state.host_context (hart_after first_state.hart trap)) alike.first in
      -- the second hart at the trap is the first one with other M-mode parts
      let second_state_is : hart_state_after second_state trap
      ≡ running second_slot second_state.host_context (with_m_parts (hart_after second_state.hart trap).csrs (hart_after second_state.hart trap).pc
      (hart_after first_state.hart trap)) =
      ap₂ (state_with second_state.host_context) (second_hart_after_trap trap) alike.second in
      let same_a1 = ap (λ (hart : Hart). register hart.regs 11) alike.hart in
      let StepAlikeFor : StepOutcome → HartState → HartState → Type 0 =
      λ outcome some_hart other_state. StepAlike first_slot second_slot (returned bare_outcome (handled some_hart first_shared trap))
      (returned outcome (handled other_state second_shared trap)) in
      -- the trap handler gives results that are alike, for these harts and the equal bare outcomes
      subst (λ (outcome : StepOutcome). StepAlikeFor outcome (hart_state_after first_state trap) (hart_state_after second_state trap))
      bare_steps_equal.outcome
      (subst (λ (hart_state : HartState). StepAlikeFor bare_outcome hart_state (hart_state_after second_state trap)) (sym first_state_is)
      (subst (λ (hart_state : HartState). StepAlikeFor bare_outcome
      (running first_slot first_state.host_context (hart_after first_state.hart trap)) hart_state) (sym second_state_is)
      (handler_alike first_slot second_slot (hart_after first_state.hart trap) (hart_after second_state.hart trap).csrs
      (hart_after second_state.hart trap).pc first_state.host_context second_state.host_context first_shared second_shared bare_outcome
      first_view_invariant.hart.layout.mprv alike.slot alike.memory
      (same_may_store_all first_slot second_slot first_state second_state first_shared second_shared first_view_invariant second_view_invariant alike
      (register first_state.hart.regs 11)) trap)))

  -- the steps of both views without a trap are alike
  untrapped_alike : (step (bare_machine (view_of first_state first_shared))).outcome.trap ≡ None
      → StepAlike first_slot second_slot (view_without_trap (view_of first_state first_shared))
      (view_without_trap (view_of second_state second_shared))
  untrapped_alike no_trap = record {
    outcome =
        ap (λ (outcome : StepOutcome). let monitored : Outcome = record { step = outcome; entered = None } in monitored) bare_steps_equal.outcome;
    hosts = ap is_host alike.first ∙ sym (ap is_host alike.second);
    runs =
        λ runs_after. record {
          first = alike.first;
          second = alike.second;
          hart = bare_steps_equal.hart no_trap;
          slot = alike.slot;
          memory = bare_steps_equal.memory;
        };
  }

  -- the steps of both views are alike
  step_alike : StepAlike first_slot second_slot (monitored_step (view_of first_state first_shared))
      (monitored_step (view_of second_state second_shared))
  step_alike =
      let same_traps = ap (λ (outcome : StepOutcome). outcome.trap) bare_steps_equal.outcome in
      step_cases (view_of first_state first_shared) (λ after. StepAlike first_slot second_slot after
      (monitored_step (view_of second_state second_shared)))
      -- without a trap in the first step, there is none in the second, because the bare outcomes are equal
      (λ no_trap. step_cases (view_of second_state second_shared)
      (λ after. StepAlike first_slot second_slot (view_without_trap (view_of first_state first_shared)) after)
      (λ no_second_trap. untrapped_alike no_trap)
      (λ trap trapped. let contradiction : None ≡ Some trap = sym no_trap ∙ same_traps ∙ trapped in cc))
      -- with a trap in the first step, the second step has the same trap
      (λ trap trapped. step_cases (view_of second_state second_shared)
      (λ after. StepAlike first_slot second_slot (view_after_trap (view_of first_state first_shared) trap) after)
      (λ no_trap. let contradiction : Some trap ≡ None = sym trapped ∙ same_traps ∙ no_trap in cc)
      (λ second_trap second_trapped.
      let some_traps_equal : Some trap ≡ Some second_trap = sym trapped ∙ same_traps ∙ second_trapped in
      let traps_equal : trap ≡ second_trap = cc in
      subst (λ (some_trap : Trap). StepAlike first_slot second_slot (view_after_trap (view_of first_state first_shared) trap)
      (view_after_trap (view_of second_state second_shared) some_trap)) traps_equal (trapped_alike trap)))

-- ---- the exit of an enclave

-- the record with another state, if there is a record
abbrev record_with_state : EnclaveState → Option SlotInfo → Option SlotInfo
record_with_state state maybe_info = option_case maybe_info None (λ info. Some (record info { state = state }))

-- the enclave has exited: the host received the reason and the value, and the record and the saved context are those after the trap
pub record HasExited (place : Place) (cause : Cause) (before after : MonitoredMachine) : Type 0 where
  -- the host received the reason and the value in a0 and a1
  pub returned : (let regs = (hart_state_of place.hart before).hart.regs in HasReturned (reason cause regs) (value cause regs) place.hart after)
  -- the record of the enclave has the state after the exit, and its other fields are unchanged
  pub slot : slot_at after.shared.table place.slot
      ≡ record_with_state (enclave_state_after cause (hart_state_of place.hart before).hart.regs) (slot_at before.shared.table place.slot)
  -- the exit saves the context of the enclave
  pub context : context_at after.shared.contexts place.slot ≡ Some (saved_after cause (hart_state_of place.hart before).hart)
  -- the exit changes no byte of memory
  pub memory : after.shared.memory ≡ before.shared.memory
  -- the slot keeps its region and its window
  pub extent : KeepsExtent place.slot before.shared.table after.shared.table

-- after a trap of an enclave after which the host runs, the enclave has exited
pub enclave_has_exited : (place : Place) (machine : MonitoredMachine) (trap : Trap) → Invariant machine → runs_at place machine ≡ true
    → (step_at place machine).outcome.step.trap ≡ Some trap
    → (hart_state_of place.hart (step_at place machine).state).world ≡ Host
    → (saved_host : Option Context) → (hart_state_of place.hart machine).host_context ≡ saved_host
    → HasExited place trap.cause machine (step_at place machine).state
-- a hart that runs an enclave has a saved context of the host
enclave_has_exited place machine trap invariant runs trapped host_runs_after None host_context_is =
    let in_range = running_hart_in_range place.slot place.hart machine runs in
    let world = world_is_enclave place.slot (hart_state_of place.hart machine).world runs in
    let contradiction : false ≡ true =
    ap (λ (maybe_context : Option Context). is_some maybe_context) (sym host_context_is)
    ∙ (invariant.hart_states place.hart in_range).host.kept
    ∙ ap (λ (world : World). not (is_host world)) world in
    absurd (false≢true contradiction)
-- the machine after the step is the machine that `leave_law` gives
enclave_has_exited place machine trap invariant runs trapped host_runs_after (Some host) host_context_is =
    let in_range = running_hart_in_range place.slot place.hart machine runs in
    let world = world_is_enclave place.slot (hart_state_of place.hart machine).world runs in
    let hart = (hart_state_of place.hart machine).hart in
    let table = machine.shared.table in
    let maybe_info = slot_at table place.slot in
    let state_after = enclave_state_after trap.cause hart.regs in
    let table_length = invariant.shared.valid.count in
    let context_count = invariant.shared.contexts.count in
    let (left_machine_is, _) =
    leave_law place.hart machine invariant place.slot host trap world host_context_is trapped host_runs_after in
    let hart_state_is = left_hart_state place.hart machine place.slot trap host in_range in
    let live = running_is_live place.slot place.hart machine invariant runs in
    let slot_in_range = live_slot_in_range table place.slot maybe_info table_length refl live in
    rw left_machine_is (record {
      -- the host received the reason and the value, and the record and the saved context have their new values
      returned = record {
        world = ap (λ (hart_state : HartState). hart_state.world) hart_state_is;
        host = host.regs;
        regs = ap (λ (hart_state : HartState). hart_state.hart.regs) hart_state_is;
      };
      slot = slot_with_new_state table place.slot maybe_info state_after table_length refl;
      context =
          at_written_slot machine.shared.contexts place.slot (Some (saved_after trap.cause hart)) (omega (arith, slot_in_range, context_count));
      memory = refl;
      extent = new_state_keeps_extent table place.slot maybe_info state_after table_length refl;
    })

-- the context that an exit saves does not depend on the M-mode parts of the hart
exit_saves_no_m_parts : (cause : Cause) (hart : Hart) → saved_after cause (below_m_hart hart) ≡ saved_after cause hart
exit_saves_no_m_parts (causes.Interrupt interrupt) hart = refl
exit_saves_no_m_parts (causes.Exception exception) hart = refl

-- ---- the step of the machine

-- two slots with equal records have the same bytes beyond their region and window
same_bytes_beyond : (table other_table : Slots) (slot other_slot byte : ℕ)
    → slot_at table slot ≡ slot_at other_table other_slot
    → is_beyond table slot byte ≡ is_beyond other_table other_slot byte
same_bytes_beyond table other_table slot other_slot byte same_slot =
    ap (λ (maybe_info : Option SlotInfo). not (has (region_of maybe_info) byte || has (window_of maybe_info) byte)) same_slot

-- the enclaves of two places have the same state in two machines
module _ (place other_place : Place) (one other : MonitoredMachine) (invariant_one : Invariant one) (invariant_other : Invariant other)
    (same_enclave : SameEnclave place other_place one other) where
  -- The mixed machine: the second machine with the memory of the first one.
  abbrev mixed : MonitoredMachine
  mixed = record other { shared = record other.shared { memory = one.shared.memory } }

  -- the mixed machine has the invariant
  mixed_invariant : Invariant mixed
  mixed_invariant = invariant_by_size other one.shared.memory invariant_other (sym same_enclave.memory.size)

  -- the first machine has the hart of the first place, because an enclave runs on this hart
  pub first_in_range : place.hart < count_of one
  first_in_range = running_hart_in_range place.slot place.hart one same_enclave.first

  -- the second machine has the hart of the second place, because an enclave runs on this hart
  pub second_in_range : other_place.hart < count_of other
  second_in_range = running_hart_in_range other_place.slot other_place.hart other same_enclave.second

  -- the hart of the first place runs the enclave of the first place
  pub first_world : (hart_state_of place.hart one).world ≡ Enclave place.slot
  first_world = world_is_enclave place.slot (hart_state_of place.hart one).world same_enclave.first

  -- the hart of the second place runs the enclave of the second place
  pub second_world : (hart_state_of other_place.hart other).world ≡ Enclave other_place.slot
  second_world = world_is_enclave other_place.slot (hart_state_of other_place.hart other).world same_enclave.second

  -- the steps of the first machine and of the mixed machine are alike
  first_steps_alike : StepAlike place.slot other_place.slot (monitored_step (hart_view place.hart one))
      (monitored_step (hart_view other_place.hart mixed))
  first_steps_alike =
      step_alike place.slot other_place.slot (hart_state_of place.hart one) (hart_state_of other_place.hart other) one.shared mixed.shared
      (hart_view_invariant place.hart one invariant_one first_in_range)
      (hart_view_invariant other_place.hart mixed mixed_invariant second_in_range)
      (record { first = first_world; second = second_world; hart = same_enclave.hart; slot = same_enclave.slot; memory = refl })

  -- the steps of the mixed machine and of the second machine are equal for the enclave
  own_steps_alike : OwnAlike other_place.slot (monitored_step (hart_view other_place.hart mixed)) (monitored_step (hart_view other_place.hart other))
  own_steps_alike =
      own_step_alike other_place.slot (hart_state_of other_place.hart other) mixed.shared other.shared
      (hart_view_invariant other_place.hart mixed mixed_invariant second_in_range) second_world refl
      (record {
        table = refl;
        memory = record {
          size = same_enclave.memory.size;
          bytes =
              λ index not_hidden. same_enclave.memory.bytes index
              (same_bytes_beyond one.shared.table other.shared.table place.slot other_place.slot (ram_base + index) same_enclave.slot ∙ not_hidden);
        };
        context = refl;
      })

  -- the state of the first hart after the step of the machine is its state after the step of the view
  first_state_of_view : hart_state_of place.hart (step_at place one).state ≡ (monitored_step (hart_view place.hart one)).state.hart_state
  first_state_of_view = ap (λ (stepped : HartViewStepped). stepped.state.hart_state) (step_of_view place.hart one first_in_range)

  -- the state of the second hart after the step of the machine is its state after the step of the mixed machine
  second_state_of_mixed_view : (monitored_step (hart_view other_place.hart mixed)).state.hart_state ≡ hart_state_of other_place.hart
      (step_at other_place other).state
  second_state_of_mixed_view =
      own_steps_alike.hart_state ∙ sym (ap (λ (stepped : HartViewStepped). stepped.state.hart_state)
      (step_of_view other_place.hart other second_in_range))

  -- the steps of both machines have equal outcomes
  same_outcome : (step_at place one).outcome ≡ (step_at other_place other).outcome
  same_outcome =
      ap (λ (stepped : HartViewStepped). stepped.outcome) (step_of_view place.hart one first_in_range)
      ∙ first_steps_alike.outcome ∙ own_steps_alike.outcome
      ∙ sym (ap (λ (stepped : HartViewStepped). stepped.outcome) (step_of_view other_place.hart other second_in_range))

  -- if the first enclave still runs after the step, then both enclaves have the same state after the step
  same_enclave_if_runs : runs_at place (step_at place one).state ≡ true
      → SameEnclave place other_place (step_at place one).state (step_at other_place other).state
  same_enclave_if_runs runs_after =
      let after_one = (monitored_step (hart_view place.hart one)).state in
      let after_mixed = (monitored_step (hart_view other_place.hart mixed)).state in
      let first_shared_after = ap (λ (stepped : HartViewStepped). stepped.state.shared) (step_of_view place.hart one first_in_range) in
      let second_shared_after =
      ap (λ (stepped : HartViewStepped). stepped.state.shared) (step_of_view other_place.hart other second_in_range) in
      -- the first machine and the mixed machine are alike after the step, because the enclave still runs
      let alike =
      first_steps_alike.runs (sym (ap (λ (hart_state : HartState). is_host hart_state.world) first_state_of_view)
      ∙ enclave_world_is_not_host place.slot (hart_state_of place.hart (step_at place one).state).world runs_after) in
      -- bytes within the region and the window are equal in the first, the mixed and the second machine
      let bytes_equal : EqualOutside (is_beyond after_one.shared.table place.slot) after_one.shared.memory
      (monitored_step (hart_view other_place.hart other)).state.shared.memory =
      record {
        size = ap (λ (memory : List ℕ). length memory) alike.memory ∙ own_steps_alike.shared.memory.size;
        bytes = λ index not_hidden.
            ap (λ (memory : List ℕ). slice_index memory index) alike.memory
            ∙ own_steps_alike.shared.memory.bytes index
            (sym (same_bytes_beyond after_one.shared.table after_mixed.shared.table place.slot other_place.slot (ram_base + index) alike.slot)
            ∙ not_hidden);
      } in
      record {
        first = runs_after;
        -- both enclaves still run on their harts
        second =
            ap (λ (hart_state : HartState). is_world_of other_place.slot hart_state.world) (sym second_state_of_mixed_view)
            ∙ ap (is_world_of other_place.slot) alike.second
            ∙ eq-eqb other_place.slot other_place.slot refl;
        hart =
            ap (λ (hart_state : HartState). below_m_hart hart_state.hart) first_state_of_view ∙ alike.hart
            ∙ ap (λ (hart_state : HartState). below_m_hart hart_state.hart) second_state_of_mixed_view;
        -- the record is equal in the first, the mixed and the second machine
        slot =
            ap (λ (shared : Shared). slot_at shared.table place.slot) first_shared_after ∙ alike.slot
            ∙ ap (λ (table : Slots). slot_at table other_place.slot) own_steps_alike.shared.table
            ∙ sym (ap (λ (shared : Shared). slot_at shared.table other_place.slot) second_shared_after);
        -- the memories after the steps of the machines are those after the steps of the views
        memory =
            subst (λ (shared : Shared). EqualOutside (is_beyond shared.table place.slot) shared.memory
            (step_at other_place other).state.shared.memory)
            (sym first_shared_after)
            (subst (λ (shared : Shared). EqualOutside (is_beyond after_one.shared.table place.slot) after_one.shared.memory shared.memory)
            (sym second_shared_after) bytes_equal);
      }

  -- if the first enclave does not run after the step, then its hart runs the host
  first_runs_host : runs_at place (step_at place one).state ≡ false
      → (hart_state_of place.hart (step_at place one).state).world ≡ Host
  first_runs_host not_running =
      elim (cases_Bool (is_host (monitored_step (hart_view place.hart one)).state.hart_state.world)) [
        | inl host_runs_after ↦
            world_is_host _ (ap (λ (hart_state : HartState). is_host hart_state.world) first_state_of_view ∙ host_runs_after)
        -- an enclave that still runs on the hart contradicts the premise
        | inr enclave_runs_after ↦
            let enclave_still_runs =
            ap (λ (hart_state : HartState). is_world_of place.slot hart_state.world) first_state_of_view
            ∙ ap (is_world_of place.slot) (first_steps_alike.runs enclave_runs_after).first
            ∙ eq-eqb place.slot place.slot refl in
            absurd (both_ways _ not_running enclave_still_runs)
      ]

  -- if the hart of the first enclave runs the host after the step, then the hart of the second enclave runs the host too
  second_runs_host : (hart_state_of place.hart (step_at place one).state).world ≡ Host
      → (hart_state_of other_place.hart (step_at other_place other).state).world ≡ Host
  second_runs_host host_runs_after =
      world_is_host _ (ap (λ (hart_state : HartState). is_host hart_state.world) (sym second_state_of_mixed_view) ∙ sym first_steps_alike.hosts
      ∙ sym (ap (λ (hart_state : HartState). is_host hart_state.world) first_state_of_view)
      ∙ ap is_host host_runs_after)

  -- if both enclaves exit, then they exit alike
  exits_alike : (maybe_trap : Option Trap) → (step_at place one).outcome.step.trap ≡ maybe_trap
      → (hart_state_of place.hart (step_at place one).state).world ≡ Host
      → SameExit place other_place (step_at place one).state (step_at other_place other).state
  exits_alike None no_trap host_runs_after =
      not_host _ place.slot _ ((exits_law place.hart one invariant_one place.slot first_world).quiet no_trap) host_runs_after
  exits_alike (Some trap) trapped host_runs_after =
      let second_traps = sym (ap (λ (outcome : Outcome). outcome.step.trap) same_outcome) ∙ trapped in
      -- each step is an exit, whose effect the cause and the hart determine
      let first_exit =
      enclave_has_exited place one trap invariant_one same_enclave.first trapped host_runs_after (hart_state_of place.hart one).host_context refl in
      let second_exit =
      enclave_has_exited other_place other trap invariant_other same_enclave.second second_traps (second_runs_host host_runs_after)
      (hart_state_of other_place.hart other).host_context refl in
      let cause = trap.cause in
      let first_hart = (hart_state_of place.hart one).hart in
      let second_hart = (hart_state_of other_place.hart other).hart in
      let regs_equal : first_hart.regs ≡ second_hart.regs = ap (λ (hart : Hart). hart.regs) same_enclave.hart in
      let saved_contexts_equal =
      sym (exit_saves_no_m_parts cause first_hart) ∙ ap (saved_after cause) same_enclave.hart
      ∙ exit_saves_no_m_parts cause second_hart in
      let some_context : Context → Option Context = λ context. Some context in
      -- the cause of the trap and the registers of the first enclave determine what both enclaves hand over
      record {
        reason = reason cause first_hart.regs;
        value = value cause first_hart.regs;
        first = first_exit.returned;
        second =
            subst (λ (regs : List ℕ). HasReturned (reason cause regs) (value cause regs) other_place.hart (step_at other_place other).state)
            (sym regs_equal) second_exit.returned;
        -- the saved contexts are equal, because an exit saves what the enclave can see of its hart
        saved = record {
          context = saved_after cause first_hart;
          first = first_exit.context;
          second = second_exit.context ∙ ap some_context (sym saved_contexts_equal);
          slot =
              first_exit.slot ∙ ap₂ (λ (regs : List ℕ) (maybe_info : Option SlotInfo). record_with_state
              (enclave_state_after cause regs) maybe_info) regs_equal same_enclave.slot
              ∙ sym second_exit.slot;
          -- an exit changes no byte of memory
          memory = record {
            size =
                ap (λ (memory : List ℕ). length memory) first_exit.memory ∙ same_enclave.memory.size
                ∙ sym (ap (λ (memory : List ℕ). length memory) second_exit.memory);
            bytes =
                λ index not_hidden. ap (λ (memory : List ℕ). slice_index memory index) first_exit.memory
                ∙ same_enclave.memory.bytes index (within_before place.slot _ _ (ram_base + index) first_exit.extent not_hidden)
                ∙ sym (ap (λ (memory : List ℕ). slice_index memory index) second_exit.memory);
          };
        };
      }

  -- one step of two enclaves with the same state has equal outcomes, and leaves them in the same state or both exited
  pub enclave_step : SameEnclaveStep place other_place (step_at place one) (step_at other_place other)
  enclave_step = record {
    outcome = same_outcome;
    state =
        record {
          runs = same_enclave_if_runs;
          exits = λ not_running. exits_alike (step_at place one).outcome.step.trap refl (first_runs_host not_running);
        };
  }

-- proves that a step of an enclave depends only on the state of the enclave
pub enclave_step_law : (hart : ℕ) (machine : MonitoredMachine) → Invariant machine
    → DependsOnEnclave hart machine (step_of hart machine)
enclave_step_law hart machine invariant slot other_place other invariant_other same_enclave =
    enclave_step (record { slot = slot; hart = hart }) other_place machine other invariant invariant_other same_enclave

-- ---- many steps

-- proves the law of many steps of an enclave, by induction on the number of steps
pub enclave_run_law : EnclaveRunLaw
-- no step: both enclaves keep the same state
enclave_run_law place other_place zero one other _ _ same_enclave are_high_steps =
    record {
      outcomes = refl;
      state =
          record { runs = λ runs. same_enclave; exits = λ not_running. absurd (both_ways _ not_running same_enclave.first) };
    }
-- one step: `enclave_step`
enclave_run_law place other_place (suc zero) one other invariant_one invariant_other same_enclave are_high_steps =
    let step = enclave_step place other_place one other invariant_one invariant_other same_enclave in
    record { outcomes = ap (λ (outcome : Outcome). outcome ∷ []) step.outcome; state = step.state }
-- several steps: the first one leaves both enclaves in the same state, because the enclave runs before the second one
enclave_run_law place other_place (suc (suc count)) one other invariant_one invariant_other same_enclave (_, are_later_high_steps) =
    let (runs_after_first_step, _) = are_later_high_steps in
    let step = enclave_step place other_place one other invariant_one invariant_other same_enclave in
    let remaining =
    enclave_run_law place other_place (suc count) (step_at place one).state (step_at other_place other).state
    (invariant_law place.hart one invariant_one)
    (invariant_law other_place.hart other invariant_other)
    (step.state.runs runs_after_first_step) are_later_high_steps in
    record {
      outcomes =
          ap₂ (λ (outcome : Outcome) (outcomes : List Outcome). outcome ∷ outcomes) step.outcome remaining.outcomes;
      state = remaining.state;
    }
