-- The whole life of an enclave: two enclaves at one point of life take the same own steps. Steps of other worlds, timer interrupts and changes of
-- timer lines leave an enclave at its point of life. The point consists of the registers of the enclave, its record without the state, and the bytes
-- of its region.
use Rattle.std.proofs.Common.{◌≡◌, ℕ, ◌+◌, Bool, true, false, List, [], ◌∷◌, length, Option, Some, None, IfSome, refl, sym, ◌∙◌, ap, ap₂, subst}
use Rattle.std.proofs.Common.{inl, inr, arith}
use Rattle.std.specs.Prelude.{◌⊎◌, is_some, not, map, slice_index}
use Rattle.std.specs.Option.{option_map}
use Rattle.rv_state.specs.declared.s_context.SContext.{SContext}
use Rattle.rv_hart.specs.GuestView.{below_m_hart}
use Rattle.rv_memory.specs.declared.block.Block.{Block}
use Rattle.rv_enclaves.specs.Measurement.{args_of}
use Rattle.rv_enclaves.specs.Table.{runs, window}
use Rattle.rv_enclaves.proofs.Measurement.{measurement_law, same_digest}
use Rattle.rv_monitor.specs.Availability.{ExitsByTimer, timer_trap}
use Rattle.rv_monitor.specs.Debugger.{with_timer}
use Rattle.rv_monitor.specs.MonitoredMachine.{timer_line_set}
use Rattle.rv_monitor.specs.EnclaveSteps.{Place, SameEnclave, SameEnclaveStep, is_beyond, runs_at, step_at}
use Rattle.rv_monitor.specs.NumberedCalls.{slots_with_state}
use Rattle.rv_monitor.specs.Events.{Event, LineOf, StepOf, event_of}
use Rattle.rv_monitor.specs.Life.{AreAtOnePoint, ContinuesWith, InFirst, InSecond, IsForeign, IsOwnStep, LifeBeginsLaw}
use Rattle.rv_monitor.specs.Life.{LifeLaw, Own, SameOwnStep, at}
use Rattle.rv_monitor.specs.Reads.{ChangeAlike, in_span, reads_byte}
use Rattle.rv_monitor.specs.Records.{identity_at, identity_of}
use Rattle.rv_monitor.specs.LegalMachine.{IsLegalMachine}
use Rattle.rv_monitor.specs.SwitchLaws.{continuation}
use Rattle.rv_monitor.specs.Touches.{IsTouchedAccessible, SpanIsAccessible}
use Rattle.rv_monitor.specs.Prelude.{Access, Context, Contexts, Enclave, Fetch, Hart, HartState, Host, IsLegal, Outcome, Read}
use Rattle.rv_monitor.specs.Prelude.{Running, Slots, Span, Trap, World, bytes_in, context_at, first_context, has, is_host, is_live, is_running}
use Rattle.rv_monitor.specs.Prelude.{is_world_of, byte_at, bytes_from, is_accessible, option_case, ram_base, region, region_of, s_context, slot_at}
use Rattle.rv_monitor.specs.Prelude.{with_s_context}
use Rattle.rv_monitor.proofs.Prelude.{Handled, HartView, HartViewStepped, Invariant, MonitoredMachine, MonitoredStepped, SlotInfo, and_parts}
use Rattle.rv_monitor.proofs.Prelude.{both_ways}
use Rattle.rv_monitor.proofs.Prelude.{cases_Bool, cases_lt, count_of, enters, eq-eqb, get_or-set_at, handled, hart_state_at_start, hart_state_of}
use Rattle.rv_monitor.proofs.Prelude.{hart_view, length-map, monitored_step, reprogrammed, runs_on, saved_after, step_of}
use Rattle.rv_monitor.proofs.Attestation.{equal_fresh_records, same_size, record_is_valid}
use Rattle.rv_monitor.proofs.Availability.{timer_exits}
use Rattle.rv_monitor.proofs.Beside.{running_is_live, running_hart_in_range}
use Rattle.rv_monitor.proofs.EnclaveMemory.{enclave_world_is_not_host, accessible_bytes_are_own, world_is_enclave}
use Rattle.rv_monitor.proofs.EnclaveStays.{equal_bytes_at_index, bytes_beyond_unchanged}
use Rattle.rv_monitor.proofs.EnclaveSteps.{enclave_step, enclave_has_exited}
use Rattle.rv_monitor.proofs.Entering.{enter_law}
use Rattle.rv_monitor.proofs.Events.{event_invariant, line_worlds}
use Rattle.rv_monitor.proofs.HartCases.{is_trapping, outside, step_of_view}
use Rattle.rv_monitor.specs.MonitoredMachine.{hart_state_in}
use Rattle.rv_monitor.proofs.Integrity.{integrity}
use Rattle.rv_monitor.proofs.InvariantLemmas.{change_preserves, hart_view_invariant, invariant_by_size, invariant_law}
use Rattle.rv_monitor.proofs.LowSteps.{differs, same_does_not_differ, equal_outside_differing}
use Rattle.rv_monitor.proofs.Records.{record_law}
use Rattle.rv_monitor.proofs.SchedNoninterference.{entered_some, entry_law}
use Rattle.rv_monitor.proofs.SteppedOver.{MachineOver, MeasuresSeen, ReadsSeen, machine_over, over_bytes}
use Rattle.rv_monitor.proofs.LegalMachine.{event_stored}
use Rattle.rv_monitor.proofs.Switched.{StaysEntersOrExits, handled_stays_or_switches, restored_context_same}
use Rattle.rv_monitor.proofs.Touched.{touch_law}
use Rattle.rv_monitor.proofs.TrapSteps.{hart_state_after, step_cases}
use Rattle.std.proofs.lemmas.Bool.{leb-true, ltb-true, not-false}
use Rattle.rv_monitor.proofs.Booleans.{left_if_nor_fails, nand_fails, right_if_not_left}
use Rattle.rv_monitor.proofs.LifePoints.{runs_if_on_hart, running_continues, same_region, same_liveness, same_beyond, running_records_equal}
use Rattle.rv_monitor.proofs.LifePoints.{context_hart, below_m_hart_of_context, saved_enclave_not_running, saved_enclave_is_live}
use Rattle.rv_monitor.proofs.LifePoints.{saved_continues}

-- ---- steps of others, and changes of timer lines

-- the enclave is live, continues with the same context, and keeps its identity and the bytes of its region
record StaysAtPoint (slot : ℕ) (context : Context) (before after : MonitoredMachine) : Type 0 where
  -- the enclave continues with `context` after the step
  continues : ContinuesWith slot context after
  -- the enclave is live after the step
  live : is_live after.shared.table slot ≡ true
  -- the region, the window, the entry and the measurement of the enclave are unchanged
  identity : identity_at after.shared.table slot ≡ identity_at before.shared.table slot
  -- the size of the memory is unchanged
  size : length after.shared.memory ≡ length before.shared.memory
  -- each byte of the region is unchanged
  bytes : (index : ℕ) → has (region before.shared.table slot) (ram_base + index) ≡ true
      → slice_index after.shared.memory index ≡ slice_index before.shared.memory index

-- a change of a timer line leaves the enclave at its point
stays_after_line_change : (slot hart : ℕ) (raised : Bool) (machine : MonitoredMachine) (context : Context)
    → ContinuesWith slot context machine
    → is_live machine.shared.table slot ≡ true → StaysAtPoint slot context machine (with_timer hart machine raised)
stays_after_line_change slot hart raised machine context continues live = record {
  continues = record {
    -- a change of a timer line changes neither the registers nor the saved contexts
    running = λ other_hart runs_on_other.
        change_preserves (λ (hart_state : HartState). continuation hart_state.hart) (timer_line_set raised)
        (λ hart_state. refl) hart other_hart machine
        ∙ continues.running other_hart (sym (line_worlds slot hart other_hart raised machine) ∙ runs_on_other);
    resting = continues.resting;
  };
  live = live;
  identity = refl;
  size = refl;
  bytes = λ index in_region. refl;
}

-- if the trap handler reports an entry of the slot, then the host ran before the trap, and the enclave runs after the trap handler
handled_entry_from_host : (slot : ℕ) (hart_state : HartState) (trap : Trap) (result : Handled)
    → StaysEntersOrExits hart_state trap result
    → result.next.entered ≡ Some slot
    → (hart_state.world ≡ Host) × (result.hart_state.world ≡ Enclave slot)
handled_entry_from_host slot hart_state trap result (inl stays) enters_slot =
    let contradiction : None ≡ Some slot = sym stays.entered ∙ enters_slot in cc
handled_entry_from_host slot hart_state trap result (inr (inl enters)) enters_slot =
    let some_slots_equal : Some enters.slot ≡ Some slot = sym enters.entered ∙ enters_slot in
    let slots_equal : enters.slot ≡ slot = cc in
    (enters.from_host, enters.world ∙ ap Enclave slots_equal)
handled_entry_from_host slot hart_state trap result (inr (inr leaves)) enters_slot =
    let contradiction : None ≡ Some slot = sym leaves.entered ∙ enters_slot in cc

-- if the step of a view enters the slot, then the host ran before the step, and the enclave of the slot runs after the step
abbrev EntersFromHost : ℕ → HartView → HartViewStepped → Type 0
EntersFromHost slot view after =
    after.outcome.entered ≡ Some slot → (view.hart_state.world ≡ Host) × (after.state.hart_state.world ≡ Enclave slot)

-- each step of a view satisfies `EntersFromHost`
entry_from_host : (slot : ℕ) (view : HartView) → EntersFromHost slot view (monitored_step view)
entry_from_host slot view = step_cases view (EntersFromHost slot view) (λ no_trap enters_slot. cc)
    (λ trap traps enters_slot.
    handled_entry_from_host slot (hart_state_after view.hart_state trap) trap (handled (hart_state_after view.hart_state trap) view.shared trap)
    (handled_stays_or_switches (hart_state_after view.hart_state trap) view.shared trap) enters_slot)

-- if a step of the machine enters the slot, then its hart ran the host before the step, and runs the enclave after the step
worlds_around_entry : (slot hart : ℕ) (machine : MonitoredMachine) → (step_of hart machine).outcome.entered ≡ Some slot
    → ((hart_state_of hart machine).world ≡ Host) × ((hart_state_of hart (step_of hart machine).state).world ≡ Enclave slot)
worlds_around_entry slot hart machine enters_slot = elim (cases_lt hart (count_of machine)) [
  -- no hart of the machine has this number
  | inr past_last ↦
      let contradiction : None ≡ Some slot =
      sym (ap (λ (stepped : MonitoredStepped). stepped.outcome.entered) (outside hart machine past_last)) ∙ enters_slot in
      cc
  | inl in_range ↦
      let step_is = step_of_view hart machine in_range in
      let (host_before, enclave_after) =
      entry_from_host slot (hart_view hart machine) (sym (ap (λ (stepped : HartViewStepped). stepped.outcome.entered) step_is) ∙ enters_slot) in
      (host_before, ap (λ (stepped : HartViewStepped). stepped.state.hart_state.world) step_is ∙ enclave_after)
]

-- the enclave continues with this context before a step, and is live before and after the step
module _ (slot hart : ℕ) (machine : MonitoredMachine) (context : Context) (invariant : Invariant machine)
    (continues : ContinuesWith slot context machine)
    (live : is_live machine.shared.table slot ≡ true) (live_after : is_live (step_of hart machine).state.shared.table slot ≡ true)
    (legal_machine : IsLegalMachine machine) where
  -- the machine after the step
  abbrev after : MonitoredMachine
  after = (step_of hart machine).state

  -- the machine after the step has the invariant
  invariant_after : Invariant (step_of hart machine).state
  invariant_after = invariant_law hart machine invariant

  -- a step of another world that does not enter the enclave leaves the enclave at its point
  stays_if_undisturbed : runs_on slot hart machine ≡ false → enters slot (step_of hart machine).outcome.entered ≡ false
      → StaysAtPoint slot context machine (step_of hart machine).state
  stays_if_undisturbed not_running not_entered =
      -- by integrity, the step preserves an enclave that is not the running world and is neither entered nor destroyed
      let preserved = integrity hart machine invariant slot not_running live not_entered live_after in
      let same_length = same_size hart machine in
      record {
        continues = record {
          running = λ other_hart runs_after. elim (cases_Bool (runs_on slot other_hart machine)) [
            -- an enclave that ran before the step keeps its hart state
            | inl ran_before ↦
                ap (λ (hart_state : HartState). continuation hart_state.hart) (preserved.hart_state other_hart ran_before)
                ∙ continues.running other_hart ran_before
            -- an enclave that did not run before the step does not run after it, because the step does not enter the enclave
            | inr idle_before ↦
                absurd (both_ways _ (entry_law slot hart other_hart machine idle_before not_entered) runs_after)
          ];
          resting = λ not_running_now.
              preserved.preserved.context
              ∙ continues.resting
              (ap (λ (maybe_info : Option SlotInfo). option_case maybe_info false (λ info. is_running info.state)) (sym preserved.preserved.slot)
              ∙ not_running_now);
        };
        live = live_after;
        identity = ap (option_map identity_of) preserved.preserved.slot;
        size = same_length;
        bytes =
            λ index in_region. sym
            (equal_bytes_at_index machine.shared.memory after.shared.memory index (sym same_length)
            (preserved.preserved.bytes (ram_base + index) in_region));
      }

  -- a step that enters the enclave leaves the enclave at its point
  stays_after_entry : enters slot (step_of hart machine).outcome.entered ≡ true
      → StaysAtPoint slot context machine (step_of hart machine).state
  stays_after_entry enters_slot =
      -- the hart runs the host before the step, and the enclave after it
      let (host_before, enclave_after) =
      worlds_around_entry slot hart machine (entered_some slot (step_of hart machine).outcome.entered enters_slot) in
      -- the step is an entry by a call, which restores the saved context of the slot
      let entry = enter_law hart machine invariant slot host_before enclave_after in
      let saved_before = entry.call.kept in
      let saved_context = entry.call.context in
      let saved_contexts_equal : Some saved_context ≡ Some context =
      sym saved_before ∙ continues.resting (saved_enclave_not_running slot machine saved_context invariant saved_before) in
      let contexts_equal : saved_context ≡ context = cc in
      -- a legal context has the same S-mode registers after the monitor restores it
      let context_is_legal : IsLegal saved_context.supervisor =
      subst (λ (maybe_context : Option Context). IfSome maybe_context (λ context. IsLegal context.supervisor)) saved_before
      (legal_machine.contexts slot) in
      let table_after = slots_with_state machine.shared.table slot Running in
      let in_range = (is_trapping hart machine entry.trap entry.trapped).has in
      let same_length = length-map machine.hart_states (reprogrammed table_after) in
      let entered_hart_state =
      get_or-set_at (map (reprogrammed table_after) machine.hart_states) hart hart _ (hart_state_at_start 0) refl
      (omega (arith, same_length, in_range)) in
      let runs_after : runs_on slot hart (step_of hart machine).state ≡ true =
      ap (is_world_of slot) enclave_after ∙ eq-eqb slot slot refl in
      -- the hart continues with the saved context
      let continuation_is : continuation (hart_state_of hart (step_of hart machine).state).hart
      ≡ record saved_context { supervisor = s_context (with_s_context (hart_state_of hart machine).hart.csrs saved_context.supervisor) } =
      ap (λ (machine : MonitoredMachine). continuation (hart_state_of hart machine).hart) entry.call.state
      ∙ ap (λ (hart_state : HartState). continuation hart_state.hart) entered_hart_state in
      let same_context_again = ap (λ (supervisor : SContext). record saved_context { supervisor = supervisor })
      (restored_context_same (hart_state_of hart machine).hart.csrs saved_context.supervisor context_is_legal) in
      -- the enclave continues with its saved context, and the entry changes no byte of memory
      record {
        continues =
            running_continues slot hart (step_of hart machine).state context invariant_after runs_after
            (continuation_is ∙ same_context_again ∙ contexts_equal);
        live = live_after;
        identity = record_law hart machine invariant slot live live_after;
        size = same_size hart machine;
        bytes =
            λ index in_region. ap (λ (machine : MonitoredMachine). slice_index machine.shared.memory index) entry.call.state;
      }

  -- an enclave on a hart whose timer line is set exits by the timer interrupt
  timer_exit : (saved_host : Option Context) → (hart_state_of hart machine).host_context ≡ saved_host → runs_on slot hart machine ≡ true
      → (hart_state_of hart machine).hart.csrs.timer ≡ true
      → (host : Context) × ExitsByTimer hart slot host machine (step_of hart machine)
  timer_exit None host_context_is runs_on_hart timer_set =
      let world = world_is_enclave slot (hart_state_of hart machine).world runs_on_hart in
      let contradiction : false ≡ true =
      ap (λ (maybe_context : Option Context). is_some maybe_context) (sym host_context_is)
      ∙ (invariant.hart_states hart (running_hart_in_range slot hart machine runs_on_hart)).host.kept
      ∙ ap (λ (world : World). not (is_host world)) world in
      cc
  timer_exit (Some host) host_context_is runs_on_hart timer_set = (
    host,
    timer_exits hart machine invariant slot host (world_is_enclave slot
        (hart_state_of hart machine).world runs_on_hart) host_context_is timer_set,
  )

  -- a timer interrupt leaves the enclave at its point: its saved context is the context with which it would have continued
  stays_after_interrupt : runs_on slot hart machine ≡ true → (hart_state_of hart machine).hart.csrs.timer ≡ true
      → StaysAtPoint slot context machine (step_of hart machine).state
  stays_after_interrupt runs_on_hart timer_set =
      -- the interrupt exits to the host, and saves the context of the enclave
      let (_, exit) = timer_exit (hart_state_of hart machine).host_context refl runs_on_hart timer_set in
      let has_exited =
      enclave_has_exited (at slot hart) machine timer_trap invariant runs_on_hart exit.trapped exit.world
      (hart_state_of hart machine).host_context refl in
      -- the saved pc is the pc of the hart, because this pc is a multiple of 4
      let saved_context_is : saved_after timer_trap.cause (hart_state_of hart machine).hart ≡ continuation (hart_state_of hart machine).hart =
      ap (λ (pc : ℕ). record (continuation (hart_state_of hart machine).hart) { pc = pc }) (legal_machine.harts hart).pc in
      let some : Context → Option Context = λ some_context. Some some_context in
      record {
        continues = saved_continues slot (step_of hart machine).state context invariant_after
            (has_exited.context ∙ ap some (saved_context_is ∙ continues.running hart runs_on_hart));
        live = live_after;
        identity = record_law hart machine invariant slot live live_after;
        size = same_size hart machine;
        bytes = λ index in_region. ap (λ (memory : List ℕ). slice_index memory index) has_exited.memory;
      }

  -- a foreign step leaves the enclave at its point
  stays_after_foreign_step : (runs_on slot hart machine ≡ false) ⊎ ((hart_state_of hart machine).hart.csrs.timer ≡ true)
      → StaysAtPoint slot context machine (step_of hart machine).state
  stays_after_foreign_step foreign = elim (cases_Bool (runs_on slot hart machine)) [
    -- if the hart runs the enclave, then the timer interrupt takes the enclave off the hart
    | inl runs_on_hart ↦ elim foreign [
      | inl not_running ↦ absurd (both_ways _ not_running runs_on_hart)
      | inr timer_line_is_set ↦ stays_after_interrupt runs_on_hart timer_line_is_set
    ]
    -- a step of another world enters the enclave, or leaves the enclave undisturbed
    | inr not_running ↦ elim (cases_Bool (enters slot (step_of hart machine).outcome.entered)) [
      | inl enters_slot ↦ stays_after_entry enters_slot
      | inr not_entered ↦ stays_if_undisturbed not_running not_entered
    ]
  ]

-- a foreign event leaves the enclave at its point
stays_after_foreign_event : (slot : ℕ) (event : Event) (machine : MonitoredMachine) (context : Context)
    → Invariant machine → IsLegalMachine machine
    → ContinuesWith slot context machine
    → is_live machine.shared.table slot ≡ true → IsForeign slot event machine
    → StaysAtPoint slot context machine (event_of event machine).state
stays_after_foreign_event slot (StepOf hart) machine context invariant legal continues live (idle_or_interrupted, live_after) =
    stays_after_foreign_step slot hart machine context invariant continues live live_after legal idle_or_interrupted
stays_after_foreign_event slot (LineOf hart raised) machine context invariant legal continues live foreign =
    stays_after_line_change slot hart raised machine context continues live

-- a foreign event of the first machine leaves both enclaves at one point
foreign_event_keeps_point : (slot other_slot : ℕ) (event : Event) (one other : MonitoredMachine)
    → Invariant one → IsLegalMachine one
    → AreAtOnePoint slot other_slot one other
    → IsForeign slot event one
    → AreAtOnePoint slot other_slot (event_of event one).state other
foreign_event_keeps_point slot other_slot event one other invariant_one legal point foreign =
    -- the event leaves the first enclave at its point
    let stays_at_point = stays_after_foreign_event slot event one point.context invariant_one legal point.first point.live foreign in
    let table_after = (event_of event one).state.shared.table in
    let region_unchanged = same_region table_after one.shared.table slot slot stays_at_point.identity in
    record {
      context = point.context;
      first = stays_at_point.continues;
      second = point.second;
      live = stays_at_point.live;
      identity = stays_at_point.identity ∙ point.identity;
      -- the region of the first enclave keeps its bytes, which are those of the second enclave
      memory = record {
        size = stays_at_point.size ∙ point.memory.size;
        bytes = λ index outside_region.
            let outside_before = ap (λ (block : Block). not (has block (ram_base + index))) (sym region_unchanged) ∙ outside_region in
            stays_at_point.bytes index (not-false _ outside_before) ∙ point.memory.bytes index outside_before;
      };
    }

-- two enclaves at one point are at one point in the other order too
swapped : (slot other_slot : ℕ) (one other : MonitoredMachine) → AreAtOnePoint slot other_slot one other
    → AreAtOnePoint other_slot slot other one
swapped slot other_slot one other point =
    let regions_equal = same_region one.shared.table other.shared.table slot other_slot point.identity in
    record {
      context = point.context;
      first = point.second;
      second = point.first;
      live = sym (same_liveness one.shared.table other.shared.table slot other_slot point.identity) ∙ point.live;
      identity = sym point.identity;
      -- the regions are equal, because the identities are equal
      memory = record {
        size = sym point.memory.size;
        bytes =
            λ index outside_region. sym (point.memory.bytes index
            (ap (λ (block : Block). not (has block (ram_base + index))) regions_equal ∙ outside_region));
      };
    }

-- ---- own steps of the enclave

-- bytes that are accessible to the enclave are not beyond its region and window
accessible_span_is_own : (slot : ℕ) (machine : MonitoredMachine) (hart : ℕ) (access : Access) (maybe_span : Option Span)
    → (hart_state_of hart machine).world ≡ Enclave slot
    → SpanIsAccessible (hart_view hart machine) access maybe_span → (byte : ℕ) → in_span maybe_span byte ≡ true
    → is_beyond machine.shared.table slot byte ≡ false
accessible_span_is_own slot machine hart access None world is_accessible_span byte byte_in_span = cc
accessible_span_is_own slot machine hart access (Some span) world is_accessible_span byte byte_in_span =
    -- the byte is at or after the start of the span, and before its end
    let (start_test, end_test) = and_parts _ _ byte_in_span in
    accessible_bytes_are_own machine.shared.memory machine.shared.table slot access span.addr (bytes_in span.len)
    (subst (λ (world : World). is_accessible machine.shared.memory machine.shared.table world access
    (bytes_from span.addr (bytes_in span.len)) ≡ true) world is_accessible_span)
    byte (leb-true _ _ start_test) (ltb-true _ _ end_test)

-- an own step reads only bytes of the enclave's region and window
reads_only_own_bytes : (place : Place) (machine : MonitoredMachine) → Invariant machine
    → runs_at place machine ≡ true → (byte : ℕ)
    → reads_byte (step_at place machine).outcome.step.touched byte ≡ true
    → is_beyond machine.shared.table place.slot byte ≡ false
reads_only_own_bytes place machine invariant runs byte byte_read =
    let in_range = running_hart_in_range place.slot place.hart machine runs in
    let world = world_is_enclave place.slot (hart_state_of place.hart machine).world runs in
    let view = hart_view place.hart machine in
    let step_is : (step_at place machine).outcome.step ≡ (monitored_step view).outcome.step =
    ap (λ (stepped : HartViewStepped). stepped.outcome.step) (step_of_view place.hart machine in_range) in
    -- the instruction fetches and loads only bytes that are accessible to the running enclave
    let accessed =
    subst (IsTouchedAccessible view) (sym step_is) (touch_law view (hart_view_invariant place.hart machine invariant in_range)) in
    let touched = (step_at place machine).outcome.step.touched in
    elim (cases_Bool (in_span touched.fetched byte)) [
      | inl is_fetched ↦
          accessible_span_is_own place.slot machine place.hart Fetch touched.fetched world accessed.fetched byte is_fetched
      -- a byte that is read but not fetched is loaded
      | inr not_fetched ↦
          accessible_span_is_own place.slot machine place.hart Read touched.loaded world accessed.loaded byte
          (right_if_not_left _ _ byte_read not_fetched)
    ]

-- an own step changes no byte beyond the enclave's region and window
changes_only_own_bytes : (place : Place) (machine : MonitoredMachine) → Invariant machine
    → runs_at place machine ≡ true → (index : ℕ)
    → is_beyond machine.shared.table place.slot (ram_base + index) ≡ true
    → slice_index (step_at place machine).state.shared.memory index ≡ slice_index machine.shared.memory index
changes_only_own_bytes place machine invariant runs index byte_beyond =
    let in_range = running_hart_in_range place.slot place.hart machine runs in
    let world = world_is_enclave place.slot (hart_state_of place.hart machine).world runs in
    let view = hart_view place.hart machine in
    let memory_of_view =
    ap (λ (stepped : HartViewStepped). stepped.state.shared.memory) (step_of_view place.hart machine in_range) in
    -- a step of an enclave changes no byte beyond its region and window
    let byte_unchanged =
    bytes_beyond_unchanged place.slot view (hart_view_invariant place.hart machine invariant in_range) world (ram_base + index) byte_beyond in
    let same_length = same_size place.hart machine in
    sym (equal_bytes_at_index machine.shared.memory (step_at place machine).state.shared.memory index (sym same_length)
    (subst (λ (memory : List ℕ). byte_at memory (ram_base + index) ≡ byte_at machine.shared.memory (ram_base + index))
    (sym memory_of_view) byte_unchanged))

-- two enclaves are at one point of life, and make an own step in two machines
module _ (place other_place : Place) (one other : MonitoredMachine) (invariant_one : Invariant one) (invariant_other : Invariant other)
    (point : AreAtOnePoint place.slot other_place.slot one other)
    (own_step_premises : IsOwnStep place other_place one other) where
  -- the slot of the first enclave
  abbrev first_slot : ℕ
  first_slot = place.slot

  -- the slot of the second enclave
  abbrev second_slot : ℕ
  second_slot = other_place.slot

  -- The mixed machine: the second machine with the memory of the first one.
  abbrev mixed : MonitoredMachine
  mixed = over_bytes other one.shared.memory

  -- the mixed machine has the invariant
  mixed_invariant : Invariant mixed
  mixed_invariant = invariant_by_size other one.shared.memory invariant_other (sym point.memory.size)

  -- both slots have the same record before the step
  same_record : slot_at one.shared.table first_slot ≡ slot_at other.shared.table second_slot
  same_record =
      running_records_equal (slot_at one.shared.table first_slot) (slot_at other.shared.table second_slot) point.identity
      (runs_if_on_hart first_slot place.hart one invariant_one own_step_premises.first)
      (runs_if_on_hart second_slot other_place.hart other invariant_other own_step_premises.second)

  -- both harts are equal before the step, as S and U see them
  same_hart : below_m_hart (hart_state_of place.hart one).hart ≡ below_m_hart (hart_state_of other_place.hart other).hart
  same_hart =
      let below_one =
      below_m_hart_of_context one.shared.table (hart_state_of place.hart one)
      (invariant_one.hart_states place.hart (running_hart_in_range first_slot place.hart one own_step_premises.first)) in
      let below_other =
      below_m_hart_of_context other.shared.table (hart_state_of other_place.hart other)
      (invariant_other.hart_states other_place.hart (running_hart_in_range second_slot other_place.hart other own_step_premises.second)) in
      below_one
      ∙ ap₂ context_hart (own_step_premises.line ∙ sym own_step_premises.line_too)
      (point.first.running place.hart own_step_premises.first ∙ sym (point.second.running other_place.hart own_step_premises.second))
      ∙ sym below_other

  -- the enclave has the same state in the first machine and in the mixed machine
  same_enclave : SameEnclave place other_place one mixed
  same_enclave = record {
    first = own_step_premises.first;
    second = own_step_premises.second;
    hart = same_hart;
    slot = same_record;
    memory = record { size = refl; bytes = λ index not_hidden. refl };
  }

  -- the step of the enclave is the same in the first machine and in the mixed machine
  same_own_step : SameEnclaveStep place other_place (step_at place one) (step_at other_place mixed)
  same_own_step = enclave_step place other_place one mixed invariant_one mixed_invariant same_enclave

  -- each byte that the step reads is equal in the memories of both machines
  read_bytes_equal : (index : ℕ) → reads_byte (step_at place one).outcome.step.touched (ram_base + index) ≡ true
      → slice_index one.shared.memory index ≡ slice_index other.shared.memory index
  read_bytes_equal index byte_read = elim (cases_Bool (has (window one.shared.table first_slot) (ram_base + index))) [
    -- the bytes of the window that the step reads are equal
    | inl in_window ↦ own_step_premises.window.bytes index (nand_fails _ _ in_window byte_read)
    -- an own step reads outside the window only bytes of the region, which are equal
    | inr outside_window ↦
        point.memory.bytes index (left_if_nor_fails _ _ (reads_only_own_bytes place one invariant_one own_step_premises.first
        (ram_base + index) byte_read) outside_window)
  ]

  -- the step reads no byte in which the memories of both machines differ
  step_reads_seen : ReadsSeen (differs one.shared.memory other.shared.memory) (step_at other_place mixed).outcome.step.touched
  step_reads_seen index byte_is_read =
      let touched =
      ap (λ (outcome : Outcome). reads_byte outcome.step.touched (ram_base + index)) same_own_step.outcome in
      same_does_not_differ one.shared.memory other.shared.memory index (read_bytes_equal index (touched ∙ byte_is_read))

  -- the step measures no byte in which the memories of both machines differ, because no enclave may create
  measures_seen : MeasuresSeen (differs one.shared.memory other.shared.memory)
      (hart_state_of other_place.hart mixed).world mixed.shared.table mixed.shared.contexts
  measures_seen from_host memory new no_refusal index in_region =
      absurd (both_ways _ (enclave_world_is_not_host second_slot (hart_state_of other_place.hart other).world own_step_premises.second) from_host)

  -- the steps of the mixed machine and of the second machine differ only in bytes that the step does not change
  same_over_memory : MachineOver one.shared.memory other.shared.memory (step_at other_place mixed) (step_at other_place other)
  same_over_memory =
      machine_over (differs one.shared.memory other.shared.memory) other_place.hart mixed other.shared.memory
      (equal_outside_differing one.shared.memory other.shared.memory point.memory.size) step_reads_seen measures_seen

  -- the first machine after the step
  abbrev after_one : MonitoredMachine
  after_one = (step_at place one).state

  -- the mixed machine after the step
  abbrev after_mixed : MonitoredMachine
  after_mixed = (step_at other_place mixed).state

  -- the second machine after the step
  abbrev after_other : MonitoredMachine
  after_other = (step_at other_place other).state

  -- the first machine after the step has the invariant
  invariant_after_one : Invariant (step_at place one).state
  invariant_after_one = invariant_law place.hart one invariant_one

  -- the second machine after the step has the invariant
  invariant_after_other : Invariant (step_at other_place other).state
  invariant_after_other = invariant_law other_place.hart other invariant_other

  -- the first enclave is live after the step
  live_after : is_live after_one.shared.table first_slot ≡ true
  live_after = elim (cases_Bool (runs_at place after_one)) [
    -- an enclave that still runs is live
    | inl runs_still ↦ running_is_live first_slot place.hart after_one invariant_after_one runs_still
    -- an enclave that has exited has a saved context, so it is live
    | inr has_left ↦
        saved_enclave_is_live first_slot after_one (same_own_step.state.exits has_left).saved.context invariant_after_one
        (same_own_step.state.exits has_left).saved.first
  ]

  -- the first enclave keeps its identity
  identity_kept : identity_at after_one.shared.table first_slot ≡ identity_at one.shared.table first_slot
  identity_kept = record_law place.hart one invariant_one first_slot point.live live_after

  -- after the step, each byte within the enclave's region and window is equal in the first machine and in the mixed machine
  own_bytes_equal : (index : ℕ) → is_beyond after_one.shared.table first_slot (ram_base + index) ≡ false
      → slice_index after_one.shared.memory index ≡ slice_index after_mixed.shared.memory index
  own_bytes_equal index byte_within = elim (cases_Bool (runs_at place after_one)) [
    -- the enclaves have the same state again, so their own bytes are equal
    | inl runs_still ↦ (same_own_step.state.runs runs_still).memory.bytes index byte_within
    -- the enclaves have exited alike, and their own bytes are equal after the exits
    | inr has_left ↦ (same_own_step.state.exits has_left).saved.memory.bytes index byte_within
  ]

  -- a byte is either unchanged in both machines, or equal in both machines after the step
  changes : ChangeAlike one.shared.memory other.shared.memory after_one.shared.memory after_other.shared.memory
  changes index = elim (cases_Bool (is_beyond one.shared.table first_slot (ram_base + index))) [
    -- an own step changes no byte beyond the region and the window, in either machine
    | inl byte_beyond ↦
        let beyond_other =
        sym (same_beyond one.shared.table other.shared.table first_slot second_slot (ram_base + index) point.identity) ∙ byte_beyond in
        inl (
          changes_only_own_bytes place one invariant_one own_step_premises.first index byte_beyond,
          changes_only_own_bytes other_place other invariant_other own_step_premises.second index beyond_other,
        )
    -- an own byte is equal in the first and the mixed machine, and changes alike in the mixed and the second machine
    | inr byte_within ↦
        let bytes_equal =
        own_bytes_equal index (same_beyond after_one.shared.table one.shared.table first_slot first_slot (ram_base + index) identity_kept
        ∙ byte_within) in
        elim (same_over_memory.shared.changes index) [
          -- the step leaves the byte unchanged in both machines
          | inl (mixed_unchanged, other_unchanged) ↦ inl (bytes_equal ∙ mixed_unchanged, other_unchanged)
          -- the step changes the byte to the same value in both machines
          | inr changed_alike ↦ inr (bytes_equal ∙ changed_alike)
        ]
  ]

  -- both slots have the same record after the step
  same_record_after : slot_at after_one.shared.table first_slot ≡ slot_at after_other.shared.table second_slot
  same_record_after =
      let tables_equal = ap (λ (table : Slots). slot_at table second_slot) same_over_memory.shared.table in
      elim (cases_Bool (runs_at place after_one)) [
        -- the enclaves have the same state again, so their records are equal
        | inl runs_still ↦ (same_own_step.state.runs runs_still).slot ∙ tables_equal
        -- the enclaves have exited alike, and their records are equal after the exits
        | inr has_left ↦ (same_own_step.state.exits has_left).saved.slot ∙ tables_equal
      ]

  -- the hart has the same state after the step in the mixed machine and in the second machine
  same_hart_after : hart_state_of other_place.hart after_mixed ≡ hart_state_of other_place.hart after_other
  same_hart_after =
      ap (λ (hart_states : List HartState). hart_state_in hart_states other_place.hart) same_over_memory.hart_states

  -- the context with which both enclaves continue after the step
  record ContinueAlike : Type 0 where
    context : Context
    -- the first enclave continues with `context` in the first machine after the step
    first : ContinuesWith first_slot context (step_at place one).state
    -- the second enclave continues with `context` in the second machine after the step
    second : ContinuesWith second_slot context (step_at other_place other).state

  -- both enclaves continue with the same context after the step
  continue_alike : ContinueAlike
  continue_alike = elim (cases_Bool (runs_at place after_one)) [
    -- the enclave still runs: both harts are equal as S and U see them, so both continue with the same context
    | inl runs_still ↦
        let still_same_enclave = same_own_step.state.runs runs_still in
        let other_runs : runs_at other_place after_other ≡ true =
        ap (λ (hart_state : HartState). is_world_of second_slot hart_state.world) (sym same_hart_after)
        ∙ still_same_enclave.second in
        let continuations_equal : continuation (hart_state_of place.hart after_one).hart
        ≡ continuation (hart_state_of other_place.hart after_mixed).hart =
        ap (λ (hart : Hart). continuation hart) still_same_enclave.hart in
        record {
          context = continuation (hart_state_of place.hart after_one).hart;
          first = running_continues first_slot place.hart after_one _ invariant_after_one runs_still refl;
          second = running_continues second_slot other_place.hart after_other _ invariant_after_other other_runs
              (ap (λ (hart_state : HartState). continuation hart_state.hart) (sym same_hart_after) ∙ sym continuations_equal);
        }
    -- the enclave has exited: the monitor saved the same context in both machines
    | inr has_left ↦
        let saved_alike = (same_own_step.state.exits has_left).saved in
        record {
          context = saved_alike.context;
          first = saved_continues first_slot after_one saved_alike.context invariant_after_one saved_alike.first;
          second =
              saved_continues second_slot after_other saved_alike.context invariant_after_other
              (ap (λ (contexts : Contexts). context_at contexts second_slot) (sym same_over_memory.shared.contexts) ∙ saved_alike.second);
        }
  ]

  -- both enclaves are at one point after the step
  same_point_after : AreAtOnePoint first_slot second_slot after_one after_other
  same_point_after =
      let continue_alike_after = continue_alike in
      let region_unchanged = same_region after_one.shared.table one.shared.table first_slot first_slot identity_kept in
      record {
        context = continue_alike_after.context;
        first = continue_alike_after.first;
        second = continue_alike_after.second;
        live = live_after;
        identity = ap (option_map identity_of) same_record_after;
        memory = record {
          size = same_size place.hart one ∙ point.memory.size ∙ sym (same_size other_place.hart other);
          -- an unchanged byte was equal before the step, and a changed byte is equal after the step
          bytes = λ index outside_region.
              let was_outside =
              ap (λ (block : Block). not (has block (ram_base + index))) (sym region_unchanged) ∙ outside_region in
              elim (changes index) [
                -- an unchanged byte was equal before the step
                | inl (one_unchanged, other_unchanged) ↦ one_unchanged ∙ point.memory.bytes index was_outside ∙ sym other_unchanged
                -- a changed byte has the same new value in both machines
                | inr changed_alike ↦ changed_alike
              ];
        };
      }

  -- the own step of the enclave is the same in both machines
  own_step : SameOwnStep place other_place one other
  own_step = record {
    outcome = same_own_step.outcome ∙ same_over_memory.outcome;
    changes = changes;
    -- if the enclave exits, then both hosts receive the same reason and the same value
    exits = λ not_running.
        let exit = same_own_step.state.exits not_running in
        record {
          reason = exit.reason;
          value = exit.value;
          first = exit.first;
          second = record {
            world = ap (λ (hart_state : HartState). hart_state.world) (sym same_hart_after) ∙ exit.second.world;
            host = exit.second.host;
            regs = ap (λ (hart_state : HartState). hart_state.hart.regs) (sym same_hart_after) ∙ exit.second.regs;
          };
        };
  }

-- ---- two lives

-- proves the law of whole lives, by induction on the list of moves
pub life_law : LifeLaw
life_law slot other_slot [] one other invariant_one invariant_other legal_one legal_other point are_moves = record { steps = tt; point = point }
-- a foreign event of the first machine keeps both enclaves at one point
life_law slot other_slot (InFirst event ∷ moves) one other invariant_one invariant_other legal_one legal_other point (is_foreign, are_later_moves) =
    let remaining =
    life_law slot other_slot moves (event_of event one).state other (event_invariant event one invariant_one) invariant_other
    (event_stored event one invariant_one legal_one) legal_other
    (foreign_event_keeps_point slot other_slot event one other invariant_one legal_one point is_foreign) are_later_moves in
    record { steps = remaining.steps; point = remaining.point }
-- a foreign event of the second machine keeps both enclaves at one point, by symmetry
life_law slot other_slot (InSecond event ∷ moves) one other invariant_one invariant_other legal_one legal_other point (is_foreign, are_later_moves) =
    let after = (event_of event other).state in
    let next =
    swapped other_slot slot after one (foreign_event_keeps_point other_slot slot event other one invariant_other legal_other
    (swapped slot other_slot one other point) is_foreign) in
    let remaining =
    life_law slot other_slot moves one after invariant_one (event_invariant event other invariant_other) legal_one
    (event_stored event other invariant_other legal_other) next are_later_moves in
    record { steps = remaining.steps; point = remaining.point }
-- an own step is the same in both machines
life_law slot other_slot (Own hart other_hart ∷ moves) one other invariant_one invariant_other legal_one legal_other point (is_own, are_later_moves) =
    let place = at slot hart in
    let other_place = at other_slot other_hart in
    let remaining =
    life_law slot other_slot moves (step_of hart one).state (step_of other_hart other).state (invariant_law hart one invariant_one)
    (invariant_law other_hart other invariant_other)
    (event_stored (StepOf hart) one invariant_one legal_one) (event_stored (StepOf other_hart) other invariant_other legal_other)
    (same_point_after place other_place one other invariant_one invariant_other point is_own) are_later_moves in
    record {
      steps = (own_step place other_place one other invariant_one invariant_other point is_own, remaining.steps);
      point = remaining.point;
    }

-- ---- the beginning of a life

-- proves that two enclaves with equal measured bytes begin at the same point
pub life_begins : LifeBeginsLaw
life_begins slot other_slot one other invariant_one invariant_other same_identity same_length =
    let first_enclave = same_identity.first in
    let second_enclave = same_identity.second in
    let memory = one.shared.memory in
    let other_memory = other.shared.memory in
    -- equal measured bytes give equal create arguments and equal bytes in the region
    let measured_parts_equal =
    measurement_law memory other_memory first_enclave.info second_enclave.info invariant_one.shared.valid.ram same_length
    (record_is_valid slot one invariant_one first_enclave)
    (record_is_valid other_slot other invariant_other second_enclave) same_identity.input in
    -- equal measured bytes give equal digests
    let digests_equal : first_enclave.info.measurement ≡ second_enclave.info.measurement =
    first_enclave.measurement ∙ same_digest memory other_memory (args_of first_enclave.info) (args_of second_enclave.info) same_identity.input
    ∙ sym second_enclave.measurement in
    -- both records are equal, because both enclaves are Fresh
    let same_info_record =
    equal_fresh_records first_enclave.info second_enclave.info measured_parts_equal.args digests_equal first_enclave.fresh second_enclave.fresh in
    let some_info : SlotInfo → Option SlotInfo = λ info. Some info in
    let some_first_context : SlotInfo → Option Context = λ info. Some (first_context info) in
    record {
      context = first_context first_enclave.info;
      first = saved_continues slot one (first_context first_enclave.info) invariant_one first_enclave.context;
      second =
          saved_continues other_slot other (first_context first_enclave.info) invariant_other
          (second_enclave.context ∙ ap some_first_context (sym same_info_record));
      live = ap (λ (maybe_info : Option SlotInfo). is_some maybe_info) first_enclave.is;
      identity = ap (option_map identity_of) (first_enclave.is ∙ ap some_info same_info_record ∙ sym second_enclave.is);
      memory = record {
        size = same_length;
        -- a byte in the region was measured, so both machines have the same byte there
        bytes = λ index outside_region.
            measured_parts_equal.bytes.bytes index (ap (λ (maybe_info : Option SlotInfo). not (has (region_of maybe_info) (ram_base + index)))
            (sym first_enclave.is)
            ∙ outside_region);
      };
    }
