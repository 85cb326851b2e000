-- Attestation: two enclaves with equal measured bytes take the same steps in their first run, under any hosts and in any slots. An enclave stays in
-- the state after create until a step enters or destroys the enclave.
use Rattle.std.proofs.Common.{◌≡◌, ◌<◌, ◌≤◌, ℕ, ◌+◌, Bool, true, false, List, [], length, Option, Some, None, IfSome, refl, sym, ◌∙◌, ap, ap₂, subst, inl, inr, arith}
use Rattle.std.proofs.lemmas.Bool.{cases_Bool, not-false}
use Rattle.std.specs.Prelude.{is_some, map, not}
use Rattle.rv_state.specs.CsrState.{at_reset}
use Rattle.rv_state.specs.declared.cause.Cause.TheVariants as causes
use Rattle.rv_memory.specs.declared.block.Block.{Block}
use Rattle.rv_enclaves.specs.Measurement.{args_of}
use Rattle.rv_enclaves.specs.Table.{is_running, runs}
use Rattle.rv_enclaves.specs.declared.create_args.CreateArgs.{CreateArgs}
use Rattle.rv_enclaves.specs.declared.slot_info.EnclaveState.TheVariants.{Fresh}
use Rattle.rv_enclaves.specs.SlotNumbers.{slot_count}
use Rattle.rv_enclaves.proofs.EqualMemory.{same_read}
use Rattle.rv_enclaves.proofs.Measurement.{measurement_law, same_digest, same_measurement, valid_inside}
use Rattle.rv_monitor.specs.Attestation.{AttestationLaw, IsAsCreated, IsEntry, KeepsAsCreated, BothEnter, ReentryLaw}
use Rattle.rv_monitor.specs.EnclaveSteps.{Place, SameEnclave, SameSaved, is_beyond, runs_at, step_at}
use Rattle.rv_monitor.specs.Entering.{HasEntered}
use Rattle.rv_monitor.specs.NumberedCalls.{entered_by_call, slots_with_state, switched_hart}
use Rattle.rv_monitor.specs.Integrity.{enters}
use Rattle.rv_monitor.specs.Prelude.{Context, CsrState, Destroy, EnclaveState, EnvironmentCallFromS, EqualOutside, HartState, IsValid, IsValidSlot, Running}
use Rattle.rv_monitor.specs.Prelude.{Shared, Slots, Trap, byte_at, bytes_of_block, is_inside, context_at, create_args_of, created, destroyed, first_context, has, is_live}
use Rattle.rv_monitor.specs.Prelude.{measured, new_slot, option_case, ram_base, recorded, region, region_of, running_slot, slot_at, step, with_state, write}
use Rattle.rv_monitor.proofs.Prelude.{Handled, HartInvariant, HartView, Invariant, SlotIsAccepted, MayCreate, MonitoredMachine, SlotInfo, at_other_slot, at_written_slot, eq-eqb}
use Rattle.rv_monitor.proofs.Prelude.{bare_machine, both_ways, cases_eq, and_from, confined, enclave_state_after, le-leb, lt-ltb, entered_slot, free_slot_from, get_or-set_at, handled, hart_state_at_start}
use Rattle.rv_monitor.proofs.Prelude.{hart_state_of, hart_view, left, length-map, reprogrammed, runs_on, step_of, a0}
use Rattle.rv_monitor.proofs.Beside.{runs_among}
use Rattle.rv_monitor.proofs.EnclaveMemory.{within_before, write_keeps_size, new_state_keeps_extent, slot_with_new_state}
use Rattle.rv_monitor.proofs.EnclaveStays.{equal_bytes_at_index}
use Rattle.rv_monitor.proofs.EnclaveSteps.{enclave_run_law}
use Rattle.rv_monitor.proofs.Entering.{enter_law}
use Rattle.rv_monitor.proofs.HandlerCases.{handler_cases}
use Rattle.rv_monitor.proofs.HartCases.{by_hart, is_trapping}
use Rattle.rv_monitor.proofs.Integrity.{integrity}
use Rattle.rv_monitor.proofs.InvariantLemmas.{invariant_law}
use Rattle.rv_monitor.proofs.Records.{new_state_keeps_identities}
use Rattle.rv_monitor.specs.Records.{identity_at, identity_of}
use Rattle.std.specs.Option.{option_map}
use Rattle.rv_monitor.proofs.StepInvariant.{step_size}
use Rattle.rv_monitor.proofs.TrapSteps.{hart_state_after, step_cases}
use Rattle.rv_monitor.specs.Prelude.{Enclave, Hart, is_world_of}
use Rattle.rv_hart.specs.GuestView.{below_m_hart}

-- ---- no step changes the size of memory

-- the trap handler does not change the size of the memory
handler_keeps_size : (hart_state : HartState) (shared : Shared) (trap : Trap)
    → length (handled hart_state shared trap).shared.memory ≡ length shared.memory
unfolding created destroyed measured entered_slot left
handler_keeps_size hart_state shared trap =
    -- only a destroy and a measure write to memory, and a write keeps the size
    handler_cases hart_state trap shared (λ result. length result.shared.memory ≡ length shared.memory) (record {
      answers = λ status result. refl;
      creates = λ requests no_refusal. refl;
      destroys = λ requests slot_accepted. write_keeps_size shared.memory _ _ (write shared.memory _ _) refl;
      measures = λ requests no_refusal. write_keeps_size shared.memory _ _ (write shared.memory _ _) refl;
      enters = λ call requests is_entry_call from_host slot_accepted. refl;
      leaves = refl;
      redirects = refl;
    })

-- a step does not change the size of the memory
pub same_size : (hart : ℕ) (machine : MonitoredMachine)
    → length (step_of hart machine).state.shared.memory ≡ length machine.shared.memory
same_size hart machine =
    by_hart hart machine (λ after. length after.state.shared.memory ≡ length machine.shared.memory) refl (λ in_range.
    let view : HartView = hart_view hart machine in
    step_cases view (λ after. length after.state.shared.memory ≡ length view.shared.memory)
    (λ no_trap. sym (step_size (bare_machine view) (step (bare_machine view)) (confined (bare_machine view))))
    (λ trap trapped. handler_keeps_size (hart_state_after view.hart_state trap) view.shared trap))

-- ---- create

-- a slot has an identity if and only if it has an enclave
pub identity_if_live : (maybe_info : Option SlotInfo) → is_some (option_map identity_of maybe_info) ≡ is_some maybe_info
identity_if_live None = refl
identity_if_live (Some info) = refl

-- the slot is free before the trap handler
module _ (slot : ℕ) (shared : Shared) (valid : IsValid shared.memory shared.table) (contexts : length shared.contexts ≡ slot_count)
    (slot_is_free : is_live shared.table slot ≡ false) where
  -- if the slot is live after the trap handler, then it has an enclave in the state after create
  abbrev AsCreatedIfLive : Handled → Type 0
  AsCreatedIfLive result = is_live result.shared.table slot ≡ true → IsAsCreated slot result.shared

  -- If the trap handler does not change whether the slot is live, then the slot stays free. A claim about the slot as live then has a false premise.
  slot_still_free : (after : Shared) → is_live after.table slot ≡ is_live shared.table slot
      → is_live after.table slot ≡ true → IsAsCreated slot after
  slot_still_free after same_liveness live_after = absurd (both_ways _ slot_is_free (sym same_liveness ∙ live_after))

  -- if the slot is live after a create, then it has the new enclave, which is in the state after create
  create_gives_as_created : (new : CreateArgs) → MayCreate shared new → is_live (created shared new).table slot ≡ true
      → IsAsCreated slot (created shared new)
  unfolding created
  create_gives_as_created new no_refusal live_after = elim (cases_eq slot (new_slot shared.table)) [
    -- the slot is the one that create filled: each field of the new record is the value that create wrote
    | inl slots_equal ↦
        let free = free_slot_from shared.table (new_slot shared.table) no_refusal.free in
        let slot_in_range = free.in_range in
        let info = recorded shared.memory new in
        rw slots_equal (record {
          info = info;
          is =
              at_written_slot shared.table (new_slot shared.table) (Some info) (omega (arith, slot_in_range, valid.count));
          fresh = refl;
          context =
              at_written_slot shared.contexts (new_slot shared.table) (Some (first_context info)) (omega (arith, slot_in_range, contexts));
          measurement = refl;
        })
    -- create filled another slot, so the slot is still free
    | inr distinct ↦
        slot_still_free (created shared new)
        (ap (λ (maybe_info : Option SlotInfo). is_some maybe_info) (at_other_slot shared.table (new_slot shared.table) slot _ distinct)) live_after
  ]

  -- no slot becomes live by a destroy
  destroy_makes_no_slot_live : (other_slot : ℕ) → SlotIsAccepted shared.table Destroy other_slot
      → is_live (destroyed shared other_slot).table slot ≡ true
      → IsAsCreated slot (destroyed shared other_slot)
  unfolding destroyed
  destroy_makes_no_slot_live other_slot slot_accepted live_after = elim (cases_eq slot other_slot) [
    -- a destroy of the free slot is refused
    | inl slots_equal ↦
        let was_live : is_live shared.table other_slot ≡ true =
        ap (λ (maybe_info : Option SlotInfo). is_some maybe_info) slot_accepted.is in
        absurd (both_ways _ slot_is_free (rw slots_equal was_live))
    -- a destroy of another slot leaves the slot free
    | inr slots_differ ↦
        slot_still_free (destroyed shared other_slot)
        (ap (λ (maybe_info : Option SlotInfo). is_some maybe_info) (at_other_slot shared.table other_slot slot None slots_differ)) live_after
  ]

  -- no slot becomes live by a change of the state of some slot
  state_change_keeps_slot_free : (other_slot : ℕ) (state : EnclaveState) (after : Shared)
      → after.table ≡ with_state shared.table other_slot state
      → is_live after.table slot ≡ true
      → IsAsCreated slot after
  state_change_keeps_slot_free other_slot state after table live_after =
      let same_liveness : is_some (identity_at (with_state shared.table other_slot state) slot) ≡ is_some (identity_at shared.table slot) =
      ap (λ (maybe_info : Option SlotInfo). is_some maybe_info) (new_state_keeps_identities shared.table slot other_slot state valid.count) in
      slot_still_free after (ap (λ (table : Slots). is_live table slot) table
      ∙ sym (identity_if_live (slot_at (with_state shared.table other_slot state) slot))
      ∙ same_liveness
      ∙ identity_if_live (slot_at shared.table slot)) live_after

  -- if the trap handler makes the slot live, then the enclave in the slot is in the state after create
  handler_gives_as_created : (hart_state : HartState) (trap : Trap) → AsCreatedIfLive (handled hart_state shared trap)
  unfolding measured entered_slot left
  -- only a create makes a free slot live
  handler_gives_as_created hart_state trap = handler_cases hart_state trap shared AsCreatedIfLive (record {
    answers = λ status result live. slot_still_free shared refl live;
    creates = λ requests no_refusal live. create_gives_as_created (create_args_of hart_state.hart.regs) no_refusal live;
    destroys = λ requests slot_accepted live. destroy_makes_no_slot_live (a0 hart_state) slot_accepted live;
    measures = λ requests no_refusal live. slot_still_free _ refl live;
    enters =
        λ call requests is_entry_call from_host slot_accepted live. state_change_keeps_slot_free (a0 hart_state) Running _ refl live;
    leaves =
        λ live. state_change_keeps_slot_free (running_slot hart_state.world) (enclave_state_after trap.cause hart_state.hart.regs) _ refl live;
    redirects = λ live. slot_still_free shared refl live;
  })

-- ---- until the first entry

-- if an address is from the base of a block to its end, then the test that the address is outside the block fails
not_outside_block : (block : Block) (byte : ℕ) → block.base ≤ byte → byte < block.base + block.size
    → not (has block byte) ≡ false
not_outside_block block byte from_base before_end =
    ap not (and_from _ _ (le-leb block.base byte from_base) (lt-ltb byte (block.base + block.size) before_end))

-- two memories with equal bytes at each address of a block have the same list of bytes for the block
equal_block_bytes : (memory other_memory : List ℕ) (block : Block) → length other_memory ≡ length memory
    → is_inside memory block.base block.size ≡ true
    → ((byte : ℕ) → has block byte ≡ true → byte_at other_memory byte ≡ byte_at memory byte)
    → bytes_of_block memory block ≡ bytes_of_block other_memory block
equal_block_bytes memory other_memory block same_length inside bytes_equal =
    ap (λ (maybe_bytes : Option (List ℕ)). option_case maybe_bytes [] (λ bytes. bytes))
    (same_read (λ byte. not (has block byte)) memory other_memory block.base block.size (record {
      size = sym same_length;
      bytes =
          λ index not_hidden. equal_bytes_at_index memory other_memory index (sym same_length)
          (bytes_equal (ram_base + index) (not-false (has block (ram_base + index)) not_hidden));
    }) inside (λ byte from_base before_end. not_outside_block block byte from_base before_end))

-- the enclave in the slot is in the state after create
module _ (slot : ℕ) (machine : MonitoredMachine) (invariant : Invariant machine) (as_created : IsAsCreated slot machine.shared) where
  -- the record of an enclave in the state after create is valid
  pub record_is_valid : IsValidSlot machine.shared.memory as_created.info
  record_is_valid =
      subst (λ (maybe_info : Option SlotInfo). IfSome maybe_info (IsValidSlot machine.shared.memory)) as_created.is
      (invariant.shared.valid.well_formed slot)

  -- an enclave in the state after create runs on no hart, because its state is Fresh
  pub runs_nowhere : (hart : ℕ) → runs_on slot hart machine ≡ false
  runs_nowhere hart = elim (cases_Bool (runs_on slot hart machine)) [
    | inr not_running ↦ not_running
    -- a hart can run only an enclave with the state Running
    | inl runs_on_hart ↦
        let running : runs machine.shared.table slot ≡ true =
        invariant.shared.running slot ∙ runs_among slot hart machine runs_on_hart in
        let idle : runs machine.shared.table slot ≡ false =
        ap (λ (maybe_info : Option SlotInfo). option_case maybe_info false (λ info. is_running info.state)) as_created.is
        ∙ ap is_running as_created.fresh in
        absurd (both_ways _ idle running)
  ]

  -- an enclave in the state after create stays in this state after each step that neither enters nor destroys it
  stays_as_created : (hart : ℕ) → enters slot (step_of hart machine).outcome.entered ≡ false
      → is_live (step_of hart machine).state.shared.table slot ≡ true
      → IsAsCreated slot (step_of hart machine).state.shared
  stays_as_created hart not_entered live_after =
      let live_before : is_live machine.shared.table slot ≡ true =
      ap (λ (maybe_info : Option SlotInfo). is_some maybe_info) as_created.is in
      -- by integrity, the step preserves the record, the region and the saved context of the enclave
      let preserved =
      (integrity hart machine invariant slot (runs_nowhere hart) live_before not_entered live_after).preserved in
      let region_bytes_equal =
      equal_block_bytes machine.shared.memory (step_of hart machine).state.shared.memory as_created.info.region (same_size hart machine)
      (valid_inside machine.shared.memory as_created.info.region record_is_valid.region)
      (λ byte in_region. preserved.bytes byte (ap (λ (maybe_info : Option SlotInfo). has (region_of maybe_info) byte) as_created.is ∙ in_region)) in
      record {
        info = as_created.info;
        is = preserved.slot ∙ as_created.is;
        fresh = as_created.fresh;
        context = preserved.context ∙ as_created.context;
        -- the measurement is still that of the record and of the region, whose bytes are unchanged
        measurement =
            as_created.measurement
            ∙ same_measurement machine.shared.memory (step_of hart machine).state.shared.memory (args_of as_created.info) region_bytes_equal;
      }

-- proves that each enclave that a step creates is in the state after create, and stays in this state until a step enters or destroys the enclave
pub as_created_law : (hart : ℕ) (machine : MonitoredMachine) → Invariant machine
    → KeepsAsCreated machine (step_of hart machine)
as_created_law hart machine invariant = record {
  creates = λ slot slot_is_free.
      by_hart hart machine (λ after. is_live after.state.shared.table slot ≡ true → IsAsCreated slot after.state.shared)
      (λ live_after. absurd (both_ways _ slot_is_free live_after)) (λ in_range.
      let view : HartView = hart_view hart machine in
      step_cases view (λ after. is_live after.state.shared.table slot ≡ true → IsAsCreated slot after.state.shared)
      (λ no_trap live_after. absurd (both_ways _ slot_is_free live_after))
      (λ trap trapped. handler_gives_as_created slot view.shared invariant.shared.valid invariant.shared.contexts.count slot_is_free
      (hart_state_after view.hart_state trap) trap));
  keeps = λ slot as_created. stays_as_created slot machine invariant as_created hart;
}

-- ---- the step that enters the enclave

-- the CSRs at reset, with the given timer line
abbrev reset_csrs_with_timer : Bool → CsrState
reset_csrs_with_timer timer = record at_reset { timer = timer }

-- the hart after the entry of an enclave, as S and U see the hart; `csrs` are the CSRs before the entry
abbrev hart_after_entry : CsrState → Slots → ℕ → Context → Hart
hart_after_entry csrs table slot context =
    let trap : Trap = record { cause = causes.Exception EnvironmentCallFromS; tval = 0 } in
    below_m_hart (switched_hart (record { regs = []; csrs = csrs; pc = 0; mode = context.mode }) trap context table (Enclave slot))

-- the hart after an entry depends on the hart before the entry only by its timer line
entry_depends_on_timer_line : (hart_state : HartState) (table_before table : Slots) (slot : ℕ) (context : Context)
    → HartInvariant table_before hart_state
    → hart_after_entry hart_state.hart.csrs table slot context ≡ hart_after_entry (reset_csrs_with_timer hart_state.hart.csrs.timer) [] 0 context
entry_depends_on_timer_line hart_state table_before table slot context hart_invariant =
    -- the invariant fixes MIE, MPRV, TVM, TW and TSR of mstatus; of the other CSRs, only the timer line reaches the hart after the entry
    let mie = hart_invariant.layout.mstatus_mie in
    let mprv = hart_invariant.layout.mprv in
    let tvm = hart_invariant.layout.tvm in
    let tw = hart_invariant.layout.tw in
    let tsr = hart_invariant.layout.tsr in
    rw (mie, mprv, tvm, tw, tsr) refl

-- a step of the host enters the enclave of the place, whose saved context is `context`
module _ (place : Place) (machine : MonitoredMachine) (context : Context) (invariant : Invariant machine)
    (has_context : context_at machine.shared.contexts place.slot ≡ Some context) (enters : IsEntry place machine) where
  -- the step of the host enters the enclave, which continues with its saved context
  entry : HasEntered place.hart place.slot machine (step_at place machine)
  entry = enter_law place.hart machine invariant place.slot enters.host enters.world

  -- the machine after the step is the machine after the entry by a call
  machine_after_entry : (step_at place machine).state ≡ entered_by_call place.hart machine place.slot entry.trap context
  machine_after_entry =
      let some_contexts_equal : Some entry.call.context ≡ Some context = sym entry.call.kept ∙ has_context in
      let contexts_equal : entry.call.context ≡ context = cc in
      entry.call.state ∙ ap (entered_by_call place.hart machine place.slot entry.trap) contexts_equal

  -- the enclave runs on the hart after the step
  runs_after_entry : runs_at place (step_at place machine).state ≡ true
  runs_after_entry = ap (is_world_of place.slot) enters.world ∙ eq-eqb place.slot place.slot refl

  -- the hart after the step is the hart after an entry, as S and U see it
  hart_after_step_is_entered : below_m_hart (hart_state_of place.hart (step_at place machine).state).hart
      ≡ hart_after_entry (reset_csrs_with_timer (hart_state_of place.hart machine).hart.csrs.timer) [] 0 context
  hart_after_step_is_entered =
      let table = slots_with_state machine.shared.table place.slot Running in
      let in_range = (is_trapping place.hart machine entry.trap entry.trapped).has in
      let same_length = length-map machine.hart_states (reprogrammed table) in
      ap (λ (machine : MonitoredMachine). below_m_hart (hart_state_of place.hart machine).hart) machine_after_entry
      ∙ ap (λ (hart_state : HartState). below_m_hart hart_state.hart)
      (get_or-set_at (map (reprogrammed table) machine.hart_states) place.hart place.hart _ (hart_state_at_start 0) refl
      (omega (arith, same_length, in_range)))
      ∙ entry_depends_on_timer_line (hart_state_of place.hart machine) machine.shared.table table place.slot context
      (invariant.hart_states place.hart in_range)

  -- the record of the enclave after the step is the old record with the state Running
  slot_is_running : slot_at (step_at place machine).state.shared.table place.slot
      ≡ option_case (slot_at machine.shared.table place.slot) None (λ info. Some (record info { state = Running }))
  slot_is_running =
      ap (λ (machine : MonitoredMachine). slot_at machine.shared.table place.slot) machine_after_entry
      ∙ slot_with_new_state machine.shared.table place.slot (slot_at machine.shared.table place.slot) Running invariant.shared.valid.count refl

-- two enclaves with equal saved states have the same state after their entries
same_entry : (place other_place : Place) (one other : MonitoredMachine) → Invariant one → Invariant other
    → SameSaved place.slot other_place.slot one.shared other.shared
    → BothEnter place other_place one other
    → SameEnclave place other_place (step_at place one).state (step_at other_place other).state
same_entry place other_place one other invariant_one invariant_other saved both_enter =
    let slot = place.slot in
    -- the entry changes only the state in the record, so the region and the window stay the same
    let extent_unchanged =
    new_state_keeps_extent one.shared.table slot (slot_at one.shared.table slot) Running invariant_one.shared.valid.count refl in
    let first_shared_is =
    ap (λ (machine : MonitoredMachine). machine.shared) (machine_after_entry place one saved.context invariant_one saved.first both_enter.first) in
    let second_shared_is =
    ap (λ (machine : MonitoredMachine). machine.shared) (machine_after_entry other_place other saved.context invariant_other saved.second
    both_enter.second) in
    -- no byte of memory changes in an entry, so bytes that were equal stay equal
    let bytes_equal : EqualOutside (is_beyond (slots_with_state one.shared.table slot Running) slot) one.shared.memory other.shared.memory =
    record {
      size = saved.memory.size;
      bytes =
          λ index byte_within. saved.memory.bytes index (within_before slot one.shared.table
          (slots_with_state one.shared.table slot Running) _ extent_unchanged byte_within);
    } in
    record {
      first = runs_after_entry place one saved.context invariant_one saved.first both_enter.first;
      second = runs_after_entry other_place other saved.context invariant_other saved.second both_enter.second;
      -- both harts after the entry follow from the same saved context and equal timer lines
      hart = hart_after_step_is_entered place one saved.context invariant_one saved.first both_enter.first
          ∙ ap (λ (timer : Bool). hart_after_entry (reset_csrs_with_timer timer) [] 0 saved.context) both_enter.timer
          ∙ sym (hart_after_step_is_entered other_place other saved.context invariant_other saved.second both_enter.second);
      slot = slot_is_running place one saved.context invariant_one saved.first both_enter.first
          ∙ ap (λ (maybe_info : Option SlotInfo). option_case maybe_info None (λ info. Some (record info { state = Running }))) saved.slot
          ∙ sym (slot_is_running other_place other saved.context invariant_other saved.second both_enter.second);
      memory =
          subst (λ (shared : Shared). EqualOutside (is_beyond shared.table slot) shared.memory (step_at other_place other).state.shared.memory)
          (sym first_shared_is)
          (subst (λ (shared : Shared). EqualOutside (is_beyond (slots_with_state one.shared.table slot Running) slot) one.shared.memory shared.memory)
          (sym second_shared_is) bytes_equal);
    }

-- proves the reentry law: two enclaves with equal saved states take the same steps from their entry on
pub reentry_law : ReentryLaw
reentry_law place other_place count one other invariant_one invariant_other saved both_enter are_high_steps =
    enclave_run_law place other_place count (step_at place one).state (step_at other_place other).state (invariant_law place.hart one invariant_one)
    (invariant_law other_place.hart other invariant_other)
    (same_entry place other_place one other invariant_one invariant_other saved both_enter) are_high_steps

-- ---- the law

-- two Fresh records are equal if their create arguments and their measurements are equal
pub equal_fresh_records : (one other : SlotInfo) → args_of one ≡ args_of other
    → one.measurement ≡ other.measurement → one.state ≡ Fresh
    → other.state ≡ Fresh
    → one ≡ other
equal_fresh_records one other args same_digests fresh other_fresh =
    let record_of : CreateArgs → List ℕ → SlotInfo = λ new measurement.
    record { region = new.region; window = new.window; entry = new.entry; measurement = measurement; state = Fresh } in
    ap (λ (state : EnclaveState). record one { state = state }) fresh ∙ ap₂ record_of args same_digests
    ∙ sym (ap (λ (state : EnclaveState). record other { state = state }) other_fresh)

-- proves the attestation law: two enclaves with equal measured bytes take the same steps in their first run
pub attestation_law : AttestationLaw
attestation_law place other_place count one other invariant_one invariant_other same_identity same_window both_enter are_high_steps =
    let slot = place.slot in
    let first_enclave = same_identity.first in
    let second_enclave = same_identity.second in
    let memory = one.shared.memory in
    let other_memory = other.shared.memory in
    -- equal measured bytes give equal create arguments and equal bytes in the region
    let measured_parts_equal =
    measurement_law memory other_memory first_enclave.info second_enclave.info invariant_one.shared.valid.ram same_window.size
    (record_is_valid slot one invariant_one first_enclave) (record_is_valid other_place.slot other invariant_other second_enclave)
    same_identity.input in
    let same_digests : first_enclave.info.measurement ≡ second_enclave.info.measurement =
    first_enclave.measurement ∙ same_digest memory other_memory (args_of first_enclave.info) (args_of second_enclave.info) same_identity.input
    ∙ sym second_enclave.measurement in
    -- equal measured bytes give equal create arguments and equal measurements, so both records are equal
    let records_equal =
    equal_fresh_records first_enclave.info second_enclave.info measured_parts_equal.args same_digests first_enclave.fresh second_enclave.fresh in
    let some_info : SlotInfo → Option SlotInfo = λ info. Some info in
    let some_first_context : SlotInfo → Option Context = λ info. Some (first_context info) in
    reentry_law place other_place count one other invariant_one invariant_other (record {
      context = first_context first_enclave.info;
      first = first_enclave.context;
      second = second_enclave.context ∙ ap some_first_context (sym records_equal);
      slot = first_enclave.is ∙ ap some_info records_equal ∙ sym second_enclave.is;
      memory = record {
        size = same_window.size;
        bytes = λ index not_hidden. elim (cases_Bool (has (region one.shared.table slot) (ram_base + index))) [
          -- the measured bytes contain the bytes of the region
          | inl in_region ↦
              let in_region_of_record : has first_enclave.info.region (ram_base + index) ≡ true =
              ap (λ (maybe_info : Option SlotInfo). has (region_of maybe_info) (ram_base + index)) (sym first_enclave.is) ∙ in_region in
              measured_parts_equal.bytes.bytes index (ap not in_region_of_record)
          -- the bytes of the window are equal by the premise
          | inr outside_region ↦ same_window.bytes index (rw outside_region at not_hidden)
        ];
      };
    }) both_enter are_high_steps
