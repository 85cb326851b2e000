-- A step depends on memory only by the bytes that it reads. Over two memories that are equal at these bytes, the steps have equal outcomes, and
-- change the same bytes to the same values.
use Rattle.std.proofs.Common.{◌≡◌, ◌≤◌, ℕ, ◌+◌, ◌-◌, Bool, true, false, List, [], length, replicate, Option, Some, None, refl, sym, ◌∙◌}
use Rattle.std.proofs.Common.{ap, ap₂, subst, inl, inr, arith}
use Rattle.std.proofs.lemmas.Bool.{or_right}
use Rattle.std.specs.Prelude.{slice_set}
use Rattle.rv_memory.specs.declared.touched.Touched.{Touched}
use Rattle.rv_memory.proofs.MemoryLaws.{index-above, index-below, length-write}
use Rattle.rv_enclaves.proofs.EqualMemory.{index-within, inside-bounds, or_unchanged, same_read, write-none, write-some}
use Rattle.rv_enclaves.proofs.Measurement.{valid_inside}
use Rattle.rv_enclaves.specs.declared.create_args.CreateArgs.{CreateArgs}
use Rattle.rv_monitor.specs.Reads.{ChangeAlike, in_span, reads_byte}
use Rattle.rv_monitor.specs.Prelude.{Contexts, Create, Enclave, EqualOutside, Hart, HartState, Host, Machine, Mode, Access, Fetch, Outcome, Read, Shared}
use Rattle.rv_monitor.specs.Prelude.{Slots, Span, StepOutcome, Stepped, Trap, World, bytes_in, bytes_of_block, create_args_of, created, data_mode, destroyed}
use Rattle.rv_monitor.specs.Prelude.{first_context, has, is_host, is_inside, is_offered, measured, measured_slot, measurement_at, measurement_of, new_slot}
use Rattle.rv_monitor.specs.Prelude.{option_case, ram_base, recorded, region, step, with_context, with_slot, write}
use Rattle.rv_monitor.specs.declared.next.Next.{Next}
use Rattle.rv_monitor.proofs.Prelude.{EqualOn, Handled, HartView, HartViewStepped, MayCreate, MayTouch, MonitoredMachine, MonitoredStepped}
use Rattle.rv_monitor.proofs.Prelude.{SameIn, SlotInfo, Stores, a0, a1, and_from, bare_machine, cases_Bool, cases_lt, confined, count_of, entered_slot, hart_state_of}
use Rattle.rv_monitor.proofs.Prelude.{handled, hart_states_reprogrammed, hart_view, le-leb, left, lt-ltb, monitored_step, reprogrammed, returned}
use Rattle.rv_monitor.proofs.Prelude.{returned_to, returned_to_caller, step_of, touches_permitted, unhandled, with_reprogrammed_hart}
use Rattle.rv_monitor.proofs.HandlerCases.{requested-is_offered, handler_cases_of_both, shared_of}
use Rattle.rv_monitor.proofs.HartCases.{machine_step_is, outside}
use Rattle.rv_monitor.proofs.EnclaveMemory.{write_keeps_size}
use Rattle.rv_monitor.proofs.TrapSteps.{same_outcome}

-- ---- changes of two memories

-- the same write changes two memories alike
pub writes_change_alike : (memory other_memory : List ℕ) (address : ℕ) (bytes : List ℕ)
    → length memory ≡ length other_memory
    → ChangeAlike memory other_memory (or_unchanged memory (write memory address bytes))
    (or_unchanged other_memory (write other_memory address bytes))
writes_change_alike memory other_memory address bytes same_length position =
    elim (cases_Bool (is_inside memory address (length bytes))) [
      -- both writes fail, because the memories have the same size
      | inr outside ↦
          let first_write = write-none memory address bytes outside in
          let second_write = write-none other_memory address bytes (rw (← same_length) outside) in
          rw (first_write, second_write) (inl (refl, refl))
      -- both writes succeed, and write the same bytes at the same indices
      | inl is_inside_memory ↦
          let first_write = write-some memory address bytes is_inside_memory in
          let second_write = write-some other_memory address bytes (rw (← same_length) is_inside_memory) in
          let (starts_in_ram, ends_in_ram) = inside-bounds memory address (length bytes) is_inside_memory in
          let start = address - ram_base in
          let fits : start + length bytes ≤ length memory = omega (arith, starts_in_ram, ends_in_ram) in
          let fits_other : start + length bytes ≤ length other_memory = omega (arith, starts_in_ram, ends_in_ram, same_length) in
          rw (first_write, second_write) (elim (cases_lt position start) [
            -- an index before the written bytes keeps its byte in both memories
            | inl before_start ↦
                inl (index-below memory start bytes position fits before_start, index-below other_memory start bytes position fits_other before_start)
            | inr from_start ↦ elim (cases_lt position (start + length bytes)) [
              -- an index within the written bytes gets the same byte in both memories
              | inl before_end ↦
                  inr
                  (index-within memory start bytes position fits from_start before_end
                  ∙ sym (index-within other_memory start bytes position fits_other from_start before_end))
              -- an index after the written bytes keeps its byte in both memories
              | inr after_end ↦
                  inl (index-above memory start bytes position fits after_end, index-above other_memory start bytes position fits_other after_end)
            ]
          ])
    ]

-- two memories that do not change are changed alike
unchanged : (memory other_memory : List ℕ) → ChangeAlike memory other_memory memory other_memory
unchanged memory other_memory index = inl (refl, refl)

-- if two memories change alike twice in turn, then they change alike over both changes
alike_twice : (memory other_memory middle other_middle after other_after : List ℕ)
    → ChangeAlike memory other_memory middle other_middle
    → ChangeAlike middle other_middle after other_after
    → ChangeAlike memory other_memory after other_after
alike_twice memory other_memory middle other_middle after other_after first_change second_change index = elim (second_change index) [
  -- the second change gives the byte the same value in both memories
  | inr bytes_equal ↦ inr bytes_equal
  -- the second change leaves the byte unchanged in both memories
  | inl (second_keeps, second_keeps_other) ↦ elim (first_change index) [
    | inl (first_keeps, first_keeps_other) ↦ inl (second_keeps ∙ first_keeps, second_keeps_other ∙ first_keeps_other)
    -- the first change gave the byte the same value in both memories
    | inr bytes_equal ↦ inr (second_keeps ∙ bytes_equal ∙ sym second_keeps_other)
  ]
]

-- two memories that are equal outside the hidden bytes are still equal outside these bytes after two changes that are alike
pub equal_after : (hidden : ℕ → Bool) (memory other_memory after other_after : List ℕ)
    → EqualOutside hidden memory other_memory
    → ChangeAlike memory other_memory after other_after → length after ≡ length other_after
    → EqualOutside hidden after other_after
equal_after hidden memory other_memory after other_after equal_outside changes same_length = record {
  size = same_length;
  bytes = λ index not_hidden. elim (changes index) [
    -- an unchanged byte was equal before the changes
    | inl (unchanged_in_one, unchanged_in_other) ↦ unchanged_in_one ∙ equal_outside.bytes index not_hidden ∙ sym unchanged_in_other
    -- a changed byte has the same new value in both memories
    | inr bytes_equal ↦ bytes_equal
  ];
}

-- equal stores change two memories alike
stored_alike : (stored : Option Span) (bytes memory other_memory after other_after : List ℕ)
    → length memory ≡ length other_memory
    → Stores bytes memory after stored
    → Stores bytes other_memory other_after stored
    → ChangeAlike memory other_memory after other_after
stored_alike None bytes memory other_memory after other_after same_length stores stores_other =
    rw (stores, stores_other) (unchanged memory other_memory)
stored_alike (Some span) bytes memory other_memory after other_after same_length (_, write_is) (_, other_write_is) =
    subst (λ (maybe_bytes : Option (List ℕ)). ChangeAlike memory other_memory (or_unchanged memory maybe_bytes) other_after) write_is
    (subst (λ (maybe_bytes : Option (List ℕ)). ChangeAlike memory other_memory (or_unchanged memory (write memory span.addr bytes))
    (or_unchanged other_memory maybe_bytes)) other_write_is
    (writes_change_alike memory other_memory span.addr bytes same_length))

-- a store does not change the size of the memory
stored_size : (stored : Option Span) (bytes memory after : List ℕ) → Stores bytes memory after stored
    → length after ≡ length memory
stored_size None bytes memory after stores = ap (λ (some_memory : List ℕ). length some_memory) stores
stored_size (Some span) bytes memory after (_, write_is) = length-write memory span.addr bytes after write_is

-- ---- the trap handler

-- The tables and the saved contexts of two shared states are equal. Their memories result from `memory` and `other_memory` by the same changes.
pub record SharedOver (memory other_memory : List ℕ) (one other : Shared) : Type 0 where
  -- the tables are equal
  pub table : one.table ≡ other.table
  -- the saved contexts are equal
  pub contexts : one.contexts ≡ other.contexts
  -- the memories have the same size
  pub size : length one.memory ≡ length other.memory
  -- each byte is unchanged from both original memories, or equal in both shared states
  pub changes : ChangeAlike memory other_memory one.memory other.memory

-- Two results of the trap handler are equal except for their memories. These result from `memory` and `other_memory` by the same changes.
record HandledOver (memory other_memory : List ℕ) (result other_result : Handled) : Type 0 where
  -- the hart states after the trap handler are equal
  hart_state : result.hart_state ≡ other_result.hart_state
  -- both results continue at the same pc in the same mode, and enter the same slot or none
  next : result.next ≡ other_result.next
  -- the shared states after the trap handler are equal, except for memories that change alike
  shared : SharedOver memory other_memory result.shared other_result.shared

-- create is offered only to the host
create_is_by_host : (world : World) → is_offered world Create ≡ true → is_host world ≡ true
create_is_by_host Host offered = refl
create_is_by_host (Enclave slot) offered = cc

-- the region of a create by the host has no hidden byte
abbrev pub MeasuresSeen : (ℕ → Bool) → World → Slots → Contexts → Type 0
MeasuresSeen hidden world table saved_contexts =
    is_host world ≡ true → (memory : List ℕ) (new : CreateArgs) → MayCreate (shared_of table memory saved_contexts) new → (index : ℕ)
    → has new.region (ram_base + index) ≡ true → hidden (ram_base + index) ≡ false

-- Two shared states differ only in their memories, which are equal outside the hidden bytes. A create measures no hidden byte.
module _ (hidden : ℕ → Bool) (hart_state : HartState) (trap : Trap) (table : Slots) (memory other_memory : List ℕ) (saved_contexts : Contexts)
    (equal_outside : EqualOutside hidden memory other_memory)
    (measures_seen : MeasuresSeen hidden hart_state.world table saved_contexts) where
  -- the shared state with the first memory
  abbrev first_shared : Shared
  first_shared = shared_of table memory saved_contexts

  -- the shared state with the second memory
  abbrev second_shared : Shared
  second_shared = shared_of table other_memory saved_contexts

  -- two results of the trap handler are equal, except for their memories, which changed alike
  abbrev DifferInMemory : Handled → Handled → Type 0
  DifferInMemory result other_result = HandledOver memory other_memory result other_result

  -- the two shared states are equal, except for their memories
  same_shared : SharedOver memory other_memory first_shared second_shared
  same_shared =
      record { table = refl; contexts = refl; size = equal_outside.size; changes = unchanged memory other_memory }

  -- a return to the caller satisfies `DifferInMemory`, if the shared states after the call satisfy `SharedOver`
  caller_over : (one other : Shared) (status result : ℕ) → SharedOver memory other_memory one other
      → DifferInMemory (with_reprogrammed_hart (returned_to_caller hart_state one status result))
      (with_reprogrammed_hart (returned_to_caller hart_state other status result))
  caller_over one other status result shared_same_over = record {
    hart_state =
        ap (λ (table : Slots). reprogrammed table (returned_to_caller hart_state one status result).hart_state) shared_same_over.table;
    next = refl;
    shared = shared_same_over;
  }

  -- the same write to both memories gives shared states that satisfy `SharedOver`
  put_over : (after : Slots) (contexts : Contexts) (address : ℕ) (bytes : List ℕ)
      → SharedOver memory other_memory (shared_of after (or_unchanged memory (write memory address bytes)) contexts)
      (shared_of after (or_unchanged other_memory (write other_memory address bytes)) contexts)
  put_over after contexts address bytes = record {
    table = refl;
    contexts = refl;
    size =
        write_keeps_size memory address bytes (write memory address bytes) refl ∙ equal_outside.size
        ∙ sym (write_keeps_size other_memory address bytes (write other_memory address bytes) refl);
    changes = writes_change_alike memory other_memory address bytes equal_outside.size;
  }

  -- the bytes of a region that the host creates are equal in both memories
  region_bytes_equal : (new : CreateArgs) → is_host hart_state.world ≡ true → MayCreate first_shared new
      → bytes_of_block memory new.region ≡ bytes_of_block other_memory new.region
  region_bytes_equal new host_runs no_refusal =
      let region_is_inside = valid_inside memory new.region no_refusal.well_formed in
      let (region_above_base, _) = inside-bounds memory new.region.base new.region.size region_is_inside in
      ap (λ (maybe_bytes : Option (List ℕ)). option_case maybe_bytes [] (λ bytes. bytes))
      (same_read hidden memory other_memory new.region.base new.region.size equal_outside region_is_inside (λ byte at_or_after_base before_end.
      let address_is : ram_base + (byte - ram_base) ≡ byte = omega (arith, region_above_base, at_or_after_base) in
      let in_region : has new.region byte ≡ true =
      and_from _ _ (le-leb new.region.base byte at_or_after_base) (lt-ltb byte (new.region.base + new.region.size) before_end) in
      ap hidden (sym address_is) ∙ measures_seen host_runs memory new no_refusal (byte - ram_base) (ap (has new.region) address_is ∙ in_region)))

  -- a create gives shared states that satisfy `SharedOver`, if the bytes of the region are equal
  created_over : (new : CreateArgs) → bytes_of_block memory new.region ≡ bytes_of_block other_memory new.region
      → SharedOver memory other_memory (created first_shared new) (created second_shared new)
  unfolding created measurement_of
  created_over new bytes =
      let same_record : recorded memory new ≡ recorded other_memory new = rw bytes refl in
      let slot = new_slot table in
      record {
        table = ap (λ (info : SlotInfo). with_slot table slot (Some info)) same_record;
        contexts =
            ap (λ (info : SlotInfo). with_context saved_contexts slot (Some (first_context info))) same_record;
        size = equal_outside.size;
        changes = unchanged memory other_memory;
      }

  -- a destroy gives shared states that satisfy `SharedOver`
  destroyed_over : (slot : ℕ) → SharedOver memory other_memory (destroyed first_shared slot) (destroyed second_shared slot)
  unfolding destroyed
  destroyed_over slot =
      let block = region table slot in
      put_over (with_slot table slot None) (with_context saved_contexts slot None) block.base (replicate block.size 0)

  -- a measure gives shared states that satisfy `SharedOver`
  measured_over : (slot address : ℕ)
      → SharedOver memory other_memory (measured first_shared slot address) (measured second_shared slot address)
  unfolding measured
  measured_over slot address = put_over table saved_contexts address (measurement_at table slot)

  -- the results of the trap handler satisfy `HandledOver`
  handled_over : HandledOver memory other_memory (handled hart_state first_shared trap) (handled hart_state second_shared trap)
  unfolding left entered_slot
  handled_over =
      handler_cases_of_both hart_state trap table memory other_memory saved_contexts saved_contexts DifferInMemory (record {
        answers = λ status result. caller_over first_shared second_shared status result same_shared;
        -- only the host creates, and the region of the new enclave has no hidden byte
        creates = λ is_request no_refusal.
            let (_, create_is_offered) = requested-is_offered hart_state.world hart_state.hart.regs Create is_request.asked in
            let host = create_is_by_host hart_state.world create_is_offered in
            caller_over _ _ 0 (new_slot table)
            (created_over (create_args_of hart_state.hart.regs) (region_bytes_equal (create_args_of hart_state.hart.regs) host no_refusal));
        -- a destroy and a measure write the same bytes to both memories
        destroys = λ is_request slot_accepted. caller_over _ _ 0 0 (destroyed_over (a0 hart_state));
        measures =
            λ is_request no_refusal. caller_over _ _ 0 0 (measured_over (measured_slot hart_state.world (a0 hart_state)) (a1 hart_state));
        -- an entry, an exit and a redirection change no byte
        enters = λ call is_request is_entry_call from_host slot_accepted.
            record {
              hart_state = refl;
              next = refl;
              shared =
                  record { table = refl; contexts = refl; size = equal_outside.size; changes = unchanged memory other_memory };
            };
        leaves =
            record {
              hart_state = refl;
              next = refl;
              shared =
                  record { table = refl; contexts = refl; size = equal_outside.size; changes = unchanged memory other_memory };
            };
        redirects = record { hart_state = refl; next = refl; shared = same_shared };
      }) equal_outside.size

-- ---- the step of one hart

-- two steps of a view have equal outcomes and hart states, and shared states that satisfy `SharedOver`
record StepOver (memory other_memory : List ℕ) (stepped other_stepped : HartViewStepped) : Type 0 where
  -- the outcomes are equal
  outcome : stepped.outcome ≡ other_stepped.outcome
  -- the hart states after the steps are equal
  hart_state : stepped.state.hart_state ≡ other_stepped.state.hart_state
  -- the shared states after the steps are equal, except for memories that change alike
  shared : SharedOver memory other_memory stepped.state.shared other_stepped.state.shared

-- the shared state with another memory
abbrev with_bytes : Shared → List ℕ → Shared
with_bytes shared memory = record shared { memory = memory }

-- the end of the step, with or without a trap, satisfies `StepOver`, if the bare steps changed the memories alike
ended_over : (hidden : ℕ → Bool) (outcome : StepOutcome) (maybe_trap : Option Trap) (hart_state : HartState) (shared : Shared)
    (memory other_memory after other_after : List ℕ)
    → EqualOutside hidden memory other_memory → length after ≡ length other_after
    → ChangeAlike memory other_memory after other_after
    → MeasuresSeen hidden hart_state.world shared.table shared.contexts
    → StepOver memory other_memory
    (option_case maybe_trap (unhandled outcome hart_state (with_bytes shared after))
    (λ trap. returned outcome (handled hart_state (with_bytes shared after) trap)))
    (option_case maybe_trap (unhandled outcome hart_state (with_bytes shared other_after))
    (λ trap. returned outcome (handled hart_state (with_bytes shared other_after) trap)))
-- without a trap, the bare steps are the whole steps
ended_over hidden outcome None hart_state shared memory other_memory after other_after equal_outside same_length changes measures_seen =
    record { outcome = refl; hart_state = refl; shared = record { table = refl; contexts = refl; size = same_length; changes = changes } }
-- with a trap, the trap handler changes both memories alike once more
ended_over hidden outcome (Some trap) hart_state shared memory other_memory after other_after equal_outside same_length changes measures_seen =
    let handler_results =
    handled_over hidden hart_state trap shared.table after other_after shared.contexts
    (equal_after hidden memory other_memory after other_after equal_outside changes same_length) measures_seen in
    let first_handled = handled hart_state (with_bytes shared after) trap in
    let second_handled = handled hart_state (with_bytes shared other_after) trap in
    let returned_by : HartState → Next → HartState =
    λ hart_state next. record hart_state { hart = returned_to hart_state.hart next.pc next.mode } in
    let shows : Next → Outcome = λ next. record { step = outcome; entered = next.entered } in
    -- the outcomes and the hart states follow from equal results of the trap handler
    record {
      outcome = ap shows handler_results.next;
      hart_state = ap₂ returned_by handler_results.hart_state handler_results.next;
      shared = record {
        table = handler_results.shared.table;
        contexts = handler_results.shared.contexts;
        size = handler_results.shared.size;
        changes =
            alike_twice memory other_memory after other_after first_handled.shared.memory second_handled.shared.memory changes
            handler_results.shared.changes;
      };
    }

-- the step reads no hidden byte
abbrev pub ReadsSeen : (ℕ → Bool) → Touched → Type 0
ReadsSeen hidden touched = (index : ℕ) → reads_byte touched (ram_base + index) ≡ true → hidden (ram_base + index) ≡ false

-- the view with this hart state and this shared state
abbrev view_of : HartState → Shared → HartView
view_of hart_state shared = record { hart_state = hart_state; shared = shared }

-- the bare step of the view
abbrev stepped : HartState → Shared → Stepped
stepped hart_state shared = step (record { hart = hart_state.hart; memory = shared.memory })

-- the result of the step from the outcome of the bare step: the trap handler follows if the bare step traps
abbrev after_bare : StepOutcome → HartState → Shared → HartViewStepped
after_bare outcome hart_state shared =
    option_case outcome.trap (unhandled outcome hart_state shared) (λ trap. returned outcome (handled hart_state shared trap))

-- A hart makes a step over two memories that are equal outside the hidden bytes. The step reads and measures no hidden byte.
module _ (hidden : ℕ → Bool) (hart_state : HartState) (shared : Shared) (other_memory : List ℕ)
    (equal_outside : EqualOutside hidden shared.memory other_memory)
    (reads_seen : ReadsSeen hidden (step (bare_machine (view_of hart_state shared))).outcome.touched)
    (measures_seen : MeasuresSeen hidden hart_state.world shared.table shared.contexts) where
  -- the bare machine before the step
  abbrev before : Machine
  before = bare_machine (view_of hart_state shared)

  -- an access of no hidden byte has equal bytes in both memories
  accessed_bytes_equal : (mode : Mode) (access : Access) (touched : Option Span) → MayTouch before mode access touched
      → ((index : ℕ) → in_span touched (ram_base + index) ≡ true → hidden (ram_base + index) ≡ false)
      → SameIn before.memory other_memory touched
  accessed_bytes_equal mode access None may_touch not_hidden = tt
  accessed_bytes_equal mode access (Some span) may_touch not_hidden =
      let (inside_memory, _) = may_touch in
      let (span_above_base, _) = inside-bounds shared.memory span.addr (bytes_in span.len) inside_memory in
      same_read hidden before.memory other_memory span.addr (bytes_in span.len) equal_outside inside_memory (λ byte at_or_after_base before_end.
      let address_is : ram_base + (byte - ram_base) ≡ byte = omega (arith, span_above_base, at_or_after_base) in
      let byte_in_span : in_span (Some span) byte ≡ true =
      and_from _ _ (le-leb span.addr byte at_or_after_base) (lt-ltb byte (span.addr + bytes_in span.len) before_end) in
      ap hidden (sym address_is) ∙ not_hidden (byte - ram_base) (ap (in_span (Some span)) address_is ∙ byte_in_span))

  -- all accesses of the step have equal bytes in both memories
  accesses_equal : EqualOn before.memory other_memory (step before).outcome.touched
  accesses_equal =
      let touches_permitted_bytes = touches_permitted before in
      let touched = (step before).outcome.touched in
      record {
        size = equal_outside.size;
        fetched =
            accessed_bytes_equal hart_state.hart.mode Fetch touched.fetched touches_permitted_bytes.fetched
            (λ index is_fetched. reads_seen index (rw is_fetched refl));
        loaded =
            accessed_bytes_equal (data_mode hart_state.hart) Read touched.loaded touches_permitted_bytes.loaded
            (λ index is_loaded. reads_seen index (or_right _ _ is_loaded));
      }

  -- the steps of the view over both memories satisfy `StepOver`
  step_over : StepOver shared.memory other_memory (monitored_step (view_of hart_state shared))
      (monitored_step (view_of hart_state (with_bytes shared other_memory)))
  unfolding monitored_step
  step_over =
      let first_bare = stepped hart_state shared in
      let second_bare = stepped hart_state (with_bytes shared other_memory) in
      let is_confined = confined before in
      -- the bare steps are alike, because they read no hidden byte
      let alike = is_confined.alike other_memory accesses_equal in
      -- equal stores change both memories alike
      let changes =
      stored_alike first_bare.outcome.touched.stored is_confined.bytes shared.memory other_memory first_bare.state.memory second_bare.state.memory
      equal_outside.size
      alike.here alike.there in
      -- a store keeps the size of the memory
      let same_length : length first_bare.state.memory ≡ length second_bare.state.memory =
      stored_size first_bare.outcome.touched.stored is_confined.bytes shared.memory first_bare.state.memory alike.here ∙ equal_outside.size
      ∙ sym (stored_size first_bare.outcome.touched.stored is_confined.bytes other_memory second_bare.state.memory alike.there) in
      -- the trap handler follows if the bare step traps
      let step_ends_over =
      ended_over hidden first_bare.outcome first_bare.outcome.trap
      (record hart_state { hart = first_bare.state.hart }) shared shared.memory other_memory first_bare.state.memory second_bare.state.memory
      equal_outside same_length changes measures_seen in
      let StepsOverFor : Hart → StepOutcome → Type 0 = λ hart outcome. StepOver shared.memory other_memory
      (after_bare first_bare.outcome (record hart_state { hart = first_bare.state.hart }) (with_bytes shared first_bare.state.memory))
      (after_bare outcome (record hart_state { hart = hart }) (with_bytes shared second_bare.state.memory)) in
      subst (λ hart. StepsOverFor hart second_bare.outcome) (sym alike.hart)
      (subst (λ outcome. StepsOverFor first_bare.state.hart outcome) (sym alike.outcome) step_ends_over)

-- ---- the step of the machine

-- the machine with another memory
abbrev pub over_bytes : MonitoredMachine → List ℕ → MonitoredMachine
over_bytes machine memory = record machine { shared = record machine.shared { memory = memory } }

-- two steps have equal outcomes and hart states, and shared states that satisfy `SharedOver`
pub record MachineOver (memory other_memory : List ℕ) (one other : MonitoredStepped) : Type 0 where
  -- the outcomes are equal
  pub outcome : one.outcome ≡ other.outcome
  -- the hart states after the steps are equal
  pub hart_states : one.state.hart_states ≡ other.state.hart_states
  -- the shared states after the steps are equal, except for memories that change alike
  pub shared : SharedOver memory other_memory one.state.shared other.state.shared

-- a step that reads and measures no hidden byte has the same effect over each memory that is equal outside the hidden bytes
pub machine_over : (hidden : ℕ → Bool) (hart : ℕ) (machine : MonitoredMachine) (other_memory : List ℕ)
    → EqualOutside hidden machine.shared.memory other_memory
    → ReadsSeen hidden (step_of hart machine).outcome.step.touched
    → MeasuresSeen hidden (hart_state_of hart machine).world machine.shared.table machine.shared.contexts
    → MachineOver machine.shared.memory other_memory (step_of hart machine) (step_of hart (over_bytes machine other_memory))
machine_over hidden hart machine other_memory equal_outside reads_seen measures_seen =
    elim (cases_lt hart (count_of machine)) [
      -- a step of a hart that the machine does not have changes nothing
      | inr past_last ↦
          rw (outside hart machine past_last, outside hart (over_bytes machine other_memory) past_last)
          (record {
            outcome = refl;
            hart_states = refl;
            shared =
                record { table = refl; contexts = refl; size = equal_outside.size; changes = unchanged machine.shared.memory other_memory };
          })
      | inl in_range ↦
          let first_step_is = machine_step_is hart machine in_range in
          let second_step_is = machine_step_is hart (over_bytes machine other_memory) in_range in
          let view = hart_view hart machine in
          -- the step of the machine reads what the bare step of the view reads
          let bare_outcome_is : (step_of hart machine).outcome.step ≡ (step (bare_machine view)).outcome =
          ap (λ (after : MonitoredStepped). after.outcome.step) first_step_is ∙ same_outcome view in
          let reads_bare = subst (λ (outcome : StepOutcome). ReadsSeen hidden outcome.touched) bare_outcome_is reads_seen in
          -- the steps of the view over both memories differ only in the memories
          let view_steps =
          step_over hidden (hart_state_of hart machine) machine.shared other_memory equal_outside reads_bare measures_seen in
          let first_after = monitored_step view in
          let second_after = monitored_step (hart_view hart (over_bytes machine other_memory)) in
          let states_after : Outcome → Slots → HartState → List HartState =
          λ outcome table hart_state. slice_set (hart_states_reprogrammed outcome.step.trap table machine.hart_states) hart hart_state in
          rw (first_step_is, second_step_is)
          (record {
            outcome = view_steps.outcome;
            -- the reprogrammed harts are equal, because the traps and the tables are equal
            hart_states =
                ap (λ (outcome : Outcome). states_after outcome first_after.state.shared.table first_after.state.hart_state) view_steps.outcome
                ∙ ap₂ (λ (table : Slots) (hart_state : HartState). states_after second_after.outcome table hart_state) view_steps.shared.table
                view_steps.hart_state;
            shared = view_steps.shared;
          })
    ]
