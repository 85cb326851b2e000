-- The trap handler depends only on what it reads from memory and from the saved contexts. Let two shared states have equal tables, and be equal where
-- the trap handler reads. Then the results are equal, and bytes and contexts that were equal before are equal after.
use Rattle.std.proofs.Common.{◌≡◌, ℕ, ◌+◌, ◌==◌, Bool, true, false, List, length, replicate, Option, Some, None, refl, sym, ◌∙◌, ap, ap₂}
use Rattle.std.proofs.Common.{subst, inl, inr, arith}
use Rattle.std.specs.Prelude.{map, not, slice_index, slice_index_or, slice_set}
use Rattle.rv_enclaves.proofs.EqualMemory.{or_unchanged, write-alike}
use Rattle.rv_enclaves.proofs.SavedLists.{same_after_set}
use Rattle.rv_enclaves.specs.declared.create_args.CreateArgs.{CreateArgs}
use Rattle.rv_monitor.specs.Prelude.{EqualOutside, Call, Cause, Context, Contexts, Create, Outcome, Running, HartState, Shared, Slots}
use Rattle.rv_monitor.specs.Prelude.{StepOutcome, Trap, bytes_of_block, context_at, created, destroyed, exited_context, first_context}
use Rattle.rv_monitor.specs.Prelude.{saved_context, measured, measured_slot, measurement_at, measurement_of, new_slot, option_case}
use Rattle.rv_monitor.specs.Prelude.{create_args_of, ram_base, recorded, region, running_slot, step, with_context, with_slot, with_state, write}
use Rattle.rv_monitor.specs.declared.next.Next.{Next}
use Rattle.rv_monitor.specs.HandlerReads.{ReadsOnly}
use Rattle.rv_monitor.proofs.Prelude.{HandlerReadsLaw, Handled, MonitoredMachine, HartView, HartViewStepped, SameRead, SameWhereSame}
use Rattle.rv_monitor.proofs.Prelude.{SameHandling, a0, a1, returned_to_caller, requested_by, bare_machine, both_ways, cases_eq, entered_slot, eq-eqb, handled}
use Rattle.rv_monitor.proofs.Prelude.{is_entering, left, monitored_step, ne_eqb, returned, returned_to, hart_state_at_start, reprogrammed}
use Rattle.rv_monitor.proofs.Prelude.{hart_view, enclave_state_after, step_of, with_reprogrammed_hart}
use Rattle.rv_monitor.proofs.HartCases.{is_trapping}
use Rattle.rv_monitor.proofs.TrapSteps.{hart_state_after, trapped_step}
use Rattle.rv_monitor.proofs.HandlerCases.{Requests, handler_cases_of_both, entering, context_saved_by, shared_of}

-- after the same write to two memories of equal size, the memories have equal bytes at each index at which they had equal bytes
same_byte : (memory other_memory : List ℕ) (address : ℕ) (bytes : List ℕ) (index : ℕ)
    → length memory ≡ length other_memory
    → slice_index memory index ≡ slice_index other_memory index
    → slice_index (or_unchanged memory (write memory address bytes)) index ≡ slice_index
    (or_unchanged other_memory (write other_memory address bytes)) index
same_byte memory other_memory address bytes index same_length same_element =
    let not_at_index : ℕ → Bool = λ address. not (address == ram_base + index) in
    let equal_at_index : EqualOutside not_at_index memory other_memory = record {
      size = same_length;
      bytes = λ other_index not_hidden. elim (cases_eq other_index index) [
        -- the byte at the index is equal in both memories
        | inl indices_equal ↦ rw indices_equal same_element
        -- every other byte counts as hidden, so nothing is to show
        | inr indices_differ ↦
            let distinct_addresses : (ram_base + other_index == ram_base + index) ≡ false =
            ne_eqb (ram_base + other_index) (ram_base + index) (λ sums. indices_differ (omega arith)) in
            let is_hidden : not (ram_base + other_index == ram_base + index) ≡ true = rw distinct_addresses refl in
            absurd (both_ways _ not_hidden is_hidden)
      ];
    } in
    let same_address : (ram_base + index == ram_base + index) ≡ true =
    eq-eqb (ram_base + index) (ram_base + index) refl in
    (write-alike not_at_index memory other_memory address bytes equal_at_index).bytes index (rw same_address refl)

-- two shared states have the same table, memories of the same size, and lists of contexts of the same length
module _ (table : Slots) (memory other_memory : List ℕ) (contexts other_contexts : Contexts) (same_length : length memory ≡ length other_memory)
    (contexts_length : length contexts ≡ length other_contexts) where
  -- the shared state with the first memory and the first saved contexts
  abbrev first_shared : Shared
  first_shared = shared_of table memory contexts

  -- the shared state with the second memory and the second saved contexts
  abbrev second_shared : Shared
  second_shared = shared_of table other_memory other_contexts

  -- bytes and saved contexts that are equal before the trap handler are equal in the two shared states after the trap handler
  abbrev StaySame : Shared → Shared → Type 0
  StaySame one other = SameWhereSame first_shared second_shared one other

  -- bytes and contexts that are equal stay equal if nothing changes
  same_if_unchanged : StaySame first_shared second_shared
  same_if_unchanged = record { table = refl; bytes = λ index byte_equal. byte_equal; contexts = λ slot context_equal. context_equal }

  -- equal bytes and contexts stay equal after the same write to both memories
  same_after_write : (after : Slots) (address : ℕ) (bytes : List ℕ)
      → StaySame (shared_of after (or_unchanged memory (write memory address bytes)) contexts)
      (shared_of after (or_unchanged other_memory (write other_memory address bytes)) other_contexts)
  same_after_write after address bytes = record {
    table = refl;
    bytes = λ index byte_equal. same_byte memory other_memory address bytes index same_length byte_equal;
    contexts = λ slot context_equal. context_equal;
  }

  -- equal bytes and contexts stay equal after the same new context in both lists
  same_after_new_context : (after : Slots) (slot : ℕ) (maybe_context : Option Context)
      → StaySame (shared_of after memory (with_context contexts slot maybe_context))
      (shared_of after other_memory (with_context other_contexts slot maybe_context))
  same_after_new_context after slot maybe_context = record {
    table = refl;
    bytes = λ index byte_equal. byte_equal;
    contexts =
        λ other_slot context_equal. same_after_set contexts other_contexts slot other_slot maybe_context None contexts_length context_equal;
  }

  -- a create makes the same record from both memories, if the bytes of the region are equal
  same_record : (new : CreateArgs) → bytes_of_block memory new.region ≡ bytes_of_block other_memory new.region
      → recorded memory new ≡ recorded other_memory new
  unfolding measurement_of
  same_record new bytes = rw bytes refl

  -- equal bytes and contexts stay equal after a create, if the bytes of the region are equal
  same_after_create : (new : CreateArgs) → bytes_of_block memory new.region ≡ bytes_of_block other_memory new.region
      → StaySame (created first_shared new) (created second_shared new)
  unfolding created
  same_after_create new bytes =
      let records_equal = same_record new bytes in
      let slot = new_slot table in
      rw (← records_equal) (same_after_new_context (with_slot table slot (Some (recorded memory new))) slot
      (Some (first_context (recorded memory new))))

  -- equal bytes and contexts stay equal after a destroy
  same_after_destroy : (slot : ℕ) → StaySame (destroyed first_shared slot) (destroyed second_shared slot)
  unfolding destroyed
  same_after_destroy slot =
      let block = region table slot in
      let memory_stays_same = same_after_write (with_slot table slot None) block.base (replicate block.size 0) in
      let contexts_stay_same = same_after_new_context table slot None in
      record { table = refl; bytes = memory_stays_same.bytes; contexts = contexts_stay_same.contexts }

  -- equal bytes and contexts stay equal after a measure
  same_after_measure : (slot address : ℕ) → StaySame (measured first_shared slot address) (measured second_shared slot address)
  unfolding measured
  same_after_measure slot address = same_after_write table address (measurement_at table slot)

  -- the trap handler reads the same from both shared states
  module _ (hart_state : HartState) (trap : Trap) (same_read : SameRead hart_state trap.cause first_shared second_shared) where
    -- two results of the trap handler are equal, and equal bytes and contexts stay equal
    abbrev ResultsSame : Handled → Handled → Type 0
    ResultsSame one other = SameHandling first_shared second_shared one other

    -- a requested call is the call that the definition `requested_by` gives
    requested_call_is : (call : Call) → Requests hart_state trap.cause call
        → requested_by trap.cause hart_state ≡ Some call
    requested_call_is call requests = let is_call = requests.is_call in rw is_call requests.asked

    -- a return to the caller gives equal results
    caller_same : (one other : Shared) (status result : ℕ) → StaySame one other
        → ResultsSame (with_reprogrammed_hart (returned_to_caller hart_state one status result))
        (with_reprogrammed_hart (returned_to_caller hart_state other status result))
    caller_same one other status result stay_same =
        record {
          hart_state =
              ap (λ (table : Slots). reprogrammed table (returned_to_caller hart_state one status result).hart_state) stay_same.table;
          next = refl;
          shared = stay_same;
        }

    -- an entry gives equal results, if both saved contexts of the slot are equal
    same_entry : context_at contexts (a0 hart_state) ≡ context_at other_contexts (a0 hart_state)
        → ResultsSame (with_reprogrammed_hart (entering hart_state first_shared)) (with_reprogrammed_hart (entering hart_state second_shared))
    unfolding entered_slot
    same_entry contexts_equal =
        let saved_contexts_equal : saved_context contexts (a0 hart_state) ≡ saved_context other_contexts (a0 hart_state) =
        ap (λ (maybe_context : Option Context). option_case maybe_context exited_context (λ context. context)) contexts_equal in
        rw (← saved_contexts_equal)
        (record { hart_state = refl; next = refl; shared = same_after_new_context (with_state table (a0 hart_state) Running) (a0 hart_state) None })

    -- if a requested call enters an enclave, then the call that the definition `requested_by` gives enters an enclave
    entering_call : (call : Call) → is_entering (Some call) ≡ true → Requests hart_state trap.cause call
        → is_entering (requested_by trap.cause hart_state) ≡ true
    entering_call call is_entry_call requests = let call_is = requested_call_is call requests in rw call_is is_entry_call

    -- the trap handler gives equal results
    same_results : ResultsSame (handled hart_state first_shared trap) (handled hart_state second_shared trap)
    unfolding left
    same_results =
        -- each case gives equal results, because the trap handler reads equal bytes and equal contexts
        handler_cases_of_both hart_state trap table memory other_memory contexts other_contexts ResultsSame (record {
          answers = λ status result. caller_same first_shared second_shared status result same_if_unchanged;
          creates =
              λ requests no_refusal. caller_same _ _ 0 (new_slot table)
              (same_after_create (create_args_of hart_state.hart.regs) (same_read.measured (requested_call_is Create requests)));
          destroys = λ requests slot_accepted. caller_same _ _ 0 0 (same_after_destroy (a0 hart_state));
          measures = λ requests no_refusal. caller_same _ _ 0 0 (same_after_measure (measured_slot hart_state.world (a0 hart_state)) (a1 hart_state));
          enters =
              λ call requests is_entry_call from_host slot_accepted. same_entry (same_read.entered (entering_call call is_entry_call requests));
          leaves =
              let slot = running_slot hart_state.world in
              let after = with_state table slot (enclave_state_after trap.cause hart_state.hart.regs) in
              record { hart_state = refl; next = refl; shared = same_after_new_context after slot (Some (context_saved_by trap.cause hart_state)) };
          redirects = record { hart_state = refl; next = refl; shared = same_if_unchanged };
        }) same_length

-- proves that the trap handler depends only on what it reads, by case analysis
pub handler_reads_law : HandlerReadsLaw
handler_reads_law hart_state trap one other same_reads =
    let tables_equal = same_reads.table in
    let same_read_over_table : SameRead hart_state trap.cause one (shared_of one.table other.memory other.contexts) =
    record { table = refl; size = same_reads.size; slots = same_reads.slots; measured = same_reads.measured; entered = same_reads.entered } in
    let second_with = λ (table : Slots). shared_of table other.memory other.contexts in
    subst (λ (table : Slots). SameHandling one (second_with table) (handled hart_state one trap)
    (handled hart_state (second_with table) trap)) tables_equal
    (same_results one.table one.memory other.memory one.contexts other.contexts same_reads.size same_reads.slots hart_state trap same_read_over_table)

-- ---- the step

-- what the trap handler reads is the same for the hart state before the trap and for the hart state at the trap
reads_alike_at_trap : (cause : Cause) (hart_state : HartState) (trap : Trap) (one other : Shared)
    → SameRead hart_state cause one other
    → SameRead (hart_state_after hart_state trap) cause one other
reads_alike_at_trap cause hart_state trap one other same_reads = record {
  table = same_reads.table;
  size = same_reads.size;
  slots = same_reads.slots;
  measured = same_reads.measured;
  entered = same_reads.entered;
}

-- two steps of a view leave equal hart states and enter the same slot, and equal bytes and contexts stay equal
record SameHartStep (one other : Shared) (one_after other_after : HartViewStepped) : Type 0 where
  -- the hart states after the steps are equal
  hart_state : one_after.state.hart_state ≡ other_after.state.hart_state
  -- the steps enter the same slot, or none
  entered : one_after.outcome.entered ≡ other_after.outcome.entered
  -- bytes and saved contexts that are equal before the steps are equal after the steps
  shared : SameWhereSame one other one_after.state.shared other_after.state.shared

-- the returns from two equal results of the trap handler are equal
same_after_returns : (one other : Shared) (outcome other_outcome : StepOutcome) (result other_result : Handled)
    → SameHandling one other result other_result
    → SameHartStep one other (returned outcome result) (returned other_outcome other_result)
same_after_returns one other outcome other_outcome result other_result same_handling =
    let returned_by : HartState → Next → HartState =
    λ hart_state next. record hart_state { hart = returned_to hart_state.hart next.pc next.mode } in
    record {
      hart_state = ap₂ returned_by same_handling.hart_state same_handling.next;
      entered = ap (λ (next : Next). next.entered) same_handling.next;
      shared = same_handling.shared;
    }

-- two steps with the same trap are equal, if the trap handler reads the same in both
same_step : (hart_state : HartState) (one other : Shared) (trap : Trap)
    → (let first_view : HartView = record { hart_state = hart_state; shared = one } in
    let second_view : HartView = record { hart_state = hart_state; shared = other } in
    (monitored_step first_view).outcome.step.trap ≡ Some trap →
    (monitored_step second_view).outcome.step.trap ≡ Some trap → SameRead hart_state trap.cause one other
    → SameHartStep one other (monitored_step first_view) (monitored_step second_view))
same_step hart_state one other trap trapped second_trapped same_reads =
    let first_view : HartView = record { hart_state = hart_state; shared = one } in
    let second_view : HartView = record { hart_state = hart_state; shared = other } in
    let handled_alike =
    handler_reads_law (hart_state_after hart_state trap) trap one other (reads_alike_at_trap trap.cause hart_state trap one other same_reads) in
    rw (trapped_step first_view trap trapped, trapped_step second_view trap second_trapped)
    (same_after_returns one other (step (bare_machine first_view)).outcome (step (bare_machine second_view)).outcome _ _ handled_alike)

-- proves that the effect of a step with a trap depends only on what the trap handler reads
pub step_reads_law : (hart : ℕ) (machine : MonitoredMachine) → ReadsOnly hart machine (step_of hart machine)
step_reads_law hart machine other trap hart_states trapped second_trapped same_reads =
    let first_trapping = is_trapping hart machine trap trapped in
    let second_trapping = is_trapping hart other trap second_trapped in
    let hart_state : List HartState → HartState =
    λ hart_states. slice_index_or hart_states hart (hart_state_at_start 0) in
    let view_of : HartState → HartView = λ hart_state. record { hart_state = hart_state; shared = other.shared } in
    let same_hart_state = ap hart_state hart_states in
    let SameStepFrom : HartState → Type 0 =
    λ hart_state. SameHartStep machine.shared other.shared (monitored_step (hart_view hart machine)) (monitored_step (view_of hart_state)) in
    -- the second view has the first hart state, because the hart states of both machines are equal
    let second_view_traps =
    subst (λ (hart_state : HartState). (monitored_step (view_of hart_state)).outcome.step.trap ≡ Some trap)
    (sym same_hart_state) second_trapping.trapped in
    let view_steps =
    subst SameStepFrom same_hart_state
    (same_step (hart_state machine.hart_states) machine.shared other.shared trap first_trapping.trapped second_view_traps same_reads) in
    -- after a trap, all harts are reprogrammed for the new table, and the stepping hart gets its new state
    let states_after : List HartState → Slots → HartState → List HartState =
    λ hart_states slots hart_state. slice_set (map (reprogrammed slots) hart_states) hart hart_state in
    let tables_equal = view_steps.shared.table in
    let after_first = (monitored_step (hart_view hart machine)).state in
    let after_second = (monitored_step (hart_view hart other)).state in
    record {
      -- both machines trap, so the step of each is the step of its view, with all harts reprogrammed
      hart_states = ap (λ (machine : MonitoredMachine). machine.hart_states) first_trapping.state
          ∙ ap (λ (hart_states : List HartState). states_after hart_states after_first.shared.table after_first.hart_state) hart_states
          ∙ ap₂ (states_after other.hart_states) tables_equal view_steps.hart_state
          ∙ sym (ap (λ (machine : MonitoredMachine). machine.hart_states) second_trapping.state);
      entered =
          ap (λ (outcome : Outcome). outcome.entered) first_trapping.outcome ∙ view_steps.entered
          ∙ sym (ap (λ (outcome : Outcome). outcome.entered) second_trapping.outcome);
      shared =
          subst (λ (some_machine : MonitoredMachine). SameWhereSame machine.shared other.shared some_machine.shared (step_of hart other).state.shared)
          (sym first_trapping.state)
          (subst (λ (some_machine : MonitoredMachine). SameWhereSame machine.shared other.shared
          (monitored_step (hart_view hart machine)).state.shared some_machine.shared)
          (sym second_trapping.state)
          view_steps.shared);
    }
