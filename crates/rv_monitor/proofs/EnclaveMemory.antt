-- A step of an enclave over two shared states with equal tables, whose memories have equal bytes in the region and the window of the enclave, has the
-- same result.
use Rattle.std.proofs.Common.{◌≡◌, ℕ, Bool, true, false, List, length, Option, Some, None, refl, sym, ◌∙◌, ap, ap₂, subst, inl, inr, arith}
use Rattle.std.proofs.lemmas.Bool.{not_from_true, or_cases, or_left, or_right}
use Rattle.std.specs.Prelude.{◌||◌, ◌⊎◌, not}
use Rattle.std.specs.List.{list_all}
use Rattle.rv_pmp.proofs.VerdictLemmas.{each_from_all}
use Rattle.rv_memory.proofs.MemoryLaws.{length-write}
use Rattle.rv_memory.specs.declared.block.Block.{Block}
use Rattle.rv_enclaves.proofs.EqualMemory.{IsSeen}
pub use Rattle.rv_enclaves.proofs.AccessLemmas.{world_is_enclave}
use Rattle.rv_enclaves.specs.Table.{region_of, window, window_of}
use Rattle.rv_enclaves.specs.SlotNumbers.{slot_count}
use Rattle.rv_monitor.specs.Prelude.{Access, EqualOutside, Call, Cause, Create, Destroy, Enclave, EnclaveState, Fetch, Hart, Host, Mode, Outcome, Read}
use Rattle.rv_monitor.specs.Prelude.{HartState, Shared, Slots, Span, StepOutcome, Stepped, Trap, World, Write, requested_call, bytes_from, bytes_in}
use Rattle.rv_monitor.specs.Prelude.{context_at, has, is_accessible, is_host, is_machine, is_offered, is_world_of, measured}
use Rattle.rv_monitor.specs.Prelude.{option_case, region, running_slot, slot_at, step, with_slot, write}
use Rattle.rv_monitor.specs.EnclaveSteps.{is_beyond}
use Rattle.rv_monitor.specs.declared.next.Next.{Next}
use Rattle.rv_monitor.proofs.Prelude.{Handled, HartViewInvariant, MayTouch, HartView, HartViewStepped}
use Rattle.rv_monitor.proofs.Prelude.{SameRead, SlotInfo, StepAlike, at_written_slot, requested_by, bare_machine}
use Rattle.rv_monitor.proofs.Prelude.{enclave_state_after, handled, is_call, is_entering, left, live_in_range, monitored_step, returned}
use Rattle.rv_monitor.proofs.Prelude.{returned_to, unhandled}
use Rattle.rv_monitor.proofs.BareStepNoninterference.{bare_step_alike}
use Rattle.rv_monitor.proofs.HandlerReads.{handler_reads_law}
use Rattle.rv_monitor.proofs.AccessControlLemmas.{below_M, access_control_law}
use Rattle.rv_monitor.proofs.HandlerCases.{requested-is_offered, handler_cases, entered-by-host}

-- two shared states have equal tables, equal contexts of `slot`, and equal bytes in the region and window of `slot`
pub record SharedFor (slot : ℕ) (one other : Shared) : Type 0 where
  -- the tables are equal
  pub table : one.table ≡ other.table
  -- the bytes of the region and of the window are equal
  pub memory : EqualOutside (is_beyond one.table slot) one.memory other.memory
  -- the saved contexts of `slot` are equal
  pub context : context_at one.contexts slot ≡ context_at other.contexts slot

-- ---- what is accessible to an enclave is in its region or its window

-- bytes that are accessible to an enclave are all in its region, or all in its window
accessible_in_region_or_window : (memory : List ℕ) (table : Slots) (slot : ℕ) (access : Access) (bytes : List ℕ)
    → is_accessible memory table (Enclave slot) access bytes ≡ true
    → (list_all (has (region table slot)) bytes ≡ true) ⊎ (list_all (has (window table slot)) bytes ≡ true)
unfolding is_accessible
-- an enclave may fetch only from its region
accessible_in_region_or_window memory table slot Fetch bytes accessible =
    elim (or_cases _ _ accessible) [ inl all_in_region ↦ inl all_in_region | inr contradiction ↦ cc ]
-- an enclave may read its region and its window
accessible_in_region_or_window memory table slot Read bytes accessible = elim (or_cases _ _ accessible) [
  | inl all_in_region ↦ inl all_in_region
  -- if the bytes are not all in the region, then they are all in the window
  | inr not_in_region ↦
      elim (or_cases _ _ not_in_region) [ inl all_in_window ↦ inr all_in_window | inr contradiction ↦ cc ]
]
-- an enclave may write its region and its window
accessible_in_region_or_window memory table slot Write bytes accessible = elim (or_cases _ _ accessible) [
  | inl all_in_region ↦ inl all_in_region
  -- if the bytes are not all in the region, then they are all in the window
  | inr not_in_region ↦
      elim (or_cases _ _ not_in_region) [ inl all_in_window ↦ inr all_in_window | inr contradiction ↦ cc ]
]

-- each byte that is accessible to an enclave is in its region or window
pub accessible_bytes_are_own : (memory : List ℕ) (table : Slots) (slot : ℕ) (access : Access) (start size : ℕ)
    → is_accessible memory table (Enclave slot) access (bytes_from start size) ≡ true
    → IsSeen (is_beyond table slot) start size
accessible_bytes_are_own memory table slot access start size is_accessible_to_slot byte from_start before_end =
    elim (accessible_in_region_or_window memory table slot access (bytes_from start size) is_accessible_to_slot) [
      | inl all_in_region ↦
          let in_region = each_from_all (has (region table slot)) start size all_in_region byte from_start before_end in
          not_from_true _ (or_left _ (has (window table slot) byte) in_region)
      | inr all_in_window ↦
          let in_window = each_from_all (has (window table slot)) start size all_in_window byte from_start before_end in
          not_from_true _ (or_right (has (region table slot) byte) _ in_window)
    ]

-- ---- the bare step

-- the hart of the view runs enclave `slot`
module _ (slot : ℕ) (view : HartView) (view_invariant : HartViewInvariant view) (runs_enclave : view.hart_state.world ≡ Enclave slot) where
  -- each byte of a permitted access of the enclave is in its region or window
  accesses_own : (mode : Mode) (access : Access) (span : Span) → is_machine mode ≡ false
      → MayTouch (bare_machine view) mode access (Some span)
      → IsSeen (is_beyond view.shared.table slot) span.addr (bytes_in span.len)
  accesses_own mode access span mode_below_m (inside_memory, permitted) =
      let accessible =
      sym (access_control_law view mode access span.addr span.len view_invariant (below_M mode mode_below_m) inside_memory) ∙ permitted in
      accessible_bytes_are_own view.shared.memory view.shared.table slot access span.addr (bytes_in span.len)
      (subst (λ (world : World). is_accessible view.shared.memory view.shared.table world access
      (bytes_from span.addr (bytes_in span.len)) ≡ true) runs_enclave accessible)

  -- the bare step of the enclave has the same result over each memory with equal bytes in its region and window
  enclave_bare_step_alike : (memory : List ℕ) → EqualOutside (is_beyond view.shared.table slot) view.shared.memory memory
      → StepAlike (is_beyond view.shared.table slot) (step (bare_machine view)) (step (record (bare_machine view) { memory = memory }))
  enclave_bare_step_alike = bare_step_alike (is_beyond view.shared.table slot) view view_invariant accesses_own

-- ---- the trap handler

-- a claim about a world that is both an enclave and the host holds, because there is no such world
pub not_host : (Claim : Type 0) (slot : ℕ) (world : World) → world ≡ Enclave slot → world ≡ Host → Claim
not_host Claim slot world runs host = let contradiction : Host ≡ Enclave slot = sym host ∙ runs in cc

-- a requested call is offered to the world that requests it
request_is_offered : (cause : Cause) (hart_state : HartState) (is_ecall : Bool) (call : Call) → is_call cause ≡ is_ecall
    → requested_by cause hart_state ≡ Some call
    → is_offered hart_state.world call ≡ true
request_is_offered cause hart_state true call is_call_is requested =
    let request_is : requested_call hart_state.world hart_state.hart.regs ≡ Some call = rw is_call_is at requested in
    let (_, call_is_offered) = requested-is_offered hart_state.world hart_state.hart.regs call request_is in
    call_is_offered
request_is_offered cause hart_state false call is_call_is requested =
    let contradiction : None ≡ Some call = rw is_call_is at requested in cc

-- create is offered to no enclave
pub create_not_offered : (Claim : Type 0) (slot : ℕ) (world : World) → world ≡ Enclave slot
    → is_offered world Create ≡ true → Claim
create_not_offered Claim slot world runs offered = let contradiction : false ≡ true = rw runs at offered in cc

-- destroy is offered to no enclave
pub destroy_not_offered : (Claim : Type 0) (slot : ℕ) (world : World) → world ≡ Enclave slot
    → is_offered world Destroy ≡ true → Claim
destroy_not_offered Claim slot world runs offered = let contradiction : false ≡ true = rw runs at offered in cc

-- no call that is offered to an enclave enters an enclave
entry_not_offered : (Claim : Type 0) (slot : ℕ) (cause : Cause) (hart_state : HartState) (maybe_call : Option Call)
    → hart_state.world ≡ Enclave slot
    → requested_by cause hart_state ≡ maybe_call
    → is_entering maybe_call ≡ true → Claim
entry_not_offered Claim slot cause hart_state None runs_enclave requested is_entry_call = cc
entry_not_offered Claim slot cause hart_state (Some call) runs_enclave requested is_entry_call =
    not_host Claim slot hart_state.world runs_enclave
    (entered-by-host hart_state.world call is_entry_call (request_is_offered cause hart_state (is_call cause) call refl requested))

-- `slot` has the same region and the same window in both tables
pub record KeepsExtent (slot : ℕ) (before after : Slots) : Type 0 where
  pub region : region after slot ≡ region before slot
  pub window : window after slot ≡ window before slot

-- a new state of `slot` changes neither the region nor the window of `slot`
pub new_state_keeps_extent : (table : Slots) (slot : ℕ) (maybe_info : Option SlotInfo) (state : EnclaveState)
    → length table ≡ slot_count
    → slot_at table slot ≡ maybe_info
    → KeepsExtent slot table (option_case maybe_info table
    (λ info. with_slot table slot (Some (record info { state = state }))))
new_state_keeps_extent table slot None state table_length slot_is = record { region = refl; window = refl }
new_state_keeps_extent table slot (Some info) state table_length slot_is =
    let slot_in_range = live_in_range table slot info table_length slot_is in
    let written_record =
    at_written_slot table slot (Some (record info { state = state })) (omega (arith, table_length, slot_in_range)) in
    record { region = ap region_of written_record ∙ sym (ap region_of slot_is); window = ap window_of written_record ∙ sym (ap window_of slot_is) }

-- a new state of `slot` changes only the state in the record of `slot`
pub slot_with_new_state : (table : Slots) (slot : ℕ) (maybe_info : Option SlotInfo) (state : EnclaveState)
    → length table ≡ slot_count
    → slot_at table slot ≡ maybe_info
    → slot_at (option_case maybe_info table (λ info. with_slot table slot (Some (record info { state = state })))) slot
    ≡ option_case maybe_info None (λ info. Some (record info { state = state }))
slot_with_new_state table slot None state table_length slot_is = slot_is
slot_with_new_state table slot (Some info) state table_length slot_is =
    let slot_in_range = live_in_range table slot info table_length slot_is in
    at_written_slot table slot (Some (record info { state = state })) (omega (arith, table_length, slot_in_range))

-- a write, successful or not, keeps the size of the memory
pub write_keeps_size : (memory : List ℕ) (address : ℕ) (bytes : List ℕ) (maybe_bytes : Option (List ℕ))
    → write memory address bytes ≡ maybe_bytes
    → length (option_case maybe_bytes memory (λ after. after)) ≡ length memory
write_keeps_size memory address bytes None write_is = refl
write_keeps_size memory address bytes (Some after) write_is = length-write memory address bytes after write_is

-- the hart runs enclave `slot`, and its step has this trap
module _ (slot : ℕ) (hart_state : HartState) (runs_enclave : hart_state.world ≡ Enclave slot) (trap : Trap) where
  -- the shared state has a table with all slots
  module _ (shared : Shared) (table_length : length shared.table ≡ slot_count) where
    -- the trap handler keeps the region and the window of `slot`, and the size of the memory
    abbrev KeepsExtentAndSize : Handled → Type 0
    KeepsExtentAndSize result =
        KeepsExtent slot shared.table result.shared.table × (length result.shared.memory ≡ length shared.memory)

    -- the trap handler on a hart that runs enclave `slot` keeps the region and window of `slot`, and the size of the memory
    pub handler_keeps_extent : KeepsExtentAndSize (handled hart_state shared trap)
    unfolding measured left
    handler_keeps_extent = handler_cases hart_state trap shared KeepsExtentAndSize (record {
      answers = λ status result. (record { region = refl; window = refl }, refl);
      -- an enclave may neither create, destroy nor enter, so these cases have a false premise
      creates =
          λ requests no_refusal.
          let (_, create_is_offered) = requested-is_offered hart_state.world hart_state.hart.regs Create requests.asked in
          create_not_offered _ slot hart_state.world runs_enclave create_is_offered;
      destroys =
          λ requests slot_accepted.
          let (_, destroy_is_offered) = requested-is_offered hart_state.world hart_state.hart.regs Destroy requests.asked in
          destroy_not_offered _ slot hart_state.world runs_enclave destroy_is_offered;
      measures =
          λ requests no_refusal. (record { region = refl; window = refl }, write_keeps_size shared.memory _ _ (write shared.memory _ _) refl);
      enters =
          λ call requests is_entry_call from_host slot_accepted. not_host _ slot hart_state.world runs_enclave from_host;
      -- an exit changes only the state in the record of `slot`
      leaves =
          let running_slot_is_slot : running_slot hart_state.world ≡ slot = rw runs_enclave refl in
          rw running_slot_is_slot (
            new_state_keeps_extent shared.table slot (slot_at shared.table slot)
                (enclave_state_after trap.cause hart_state.hart.regs) table_length refl,
            refl,
          );
      redirects = (record { region = refl; window = refl }, refl);
    })

  -- the trap handler on a hart that runs enclave `slot` reads the same from two shared states that are equal for `slot`
  same_handler_reads : (one other : Shared) → length one.contexts ≡ length other.contexts → SharedFor slot one other
      → SameRead hart_state trap.cause one other
  same_handler_reads one other same_context_count same_for_slot = record {
    table = same_for_slot.table;
    size = same_for_slot.memory.size;
    slots = same_context_count;
    measured =
        λ is_requested. create_not_offered _ slot hart_state.world runs_enclave
        (request_is_offered trap.cause hart_state (is_call trap.cause) Create refl is_requested);
    entered =
        λ enters. entry_not_offered _ slot trap.cause hart_state (requested_by trap.cause hart_state) runs_enclave refl enters;
  }

-- ---- the step

-- two steps have equal outcomes and equal hart states, and leave shared states that are equal for enclave `slot`
pub record OwnAlike (slot : ℕ) (one other : HartViewStepped) : Type 0 where
  -- the outcomes are equal
  pub outcome : one.outcome ≡ other.outcome
  -- the hart states after the steps are equal
  pub hart_state : one.state.hart_state ≡ other.state.hart_state
  -- the shared states after the steps satisfy `SharedFor`
  pub shared : SharedFor slot one.state.shared other.state.shared

-- a byte within the region or window of `slot` after a change was within them before, if `slot` keeps its region and window
pub within_before : (slot : ℕ) (before after : Slots) (byte : ℕ) → KeepsExtent slot before after
    → is_beyond after slot byte ≡ false
    → is_beyond before slot byte ≡ false
within_before slot before after byte keeps byte_within =
    ap₂ (λ (region window : Block). not (has region byte || has window byte)) (sym keeps.region) (sym keeps.window) ∙ byte_within

-- the end of the step, with or without a trap, is the same for both shared states
own_alike_after_trap : (slot : ℕ) (outcome : StepOutcome) (maybe_trap : Option Trap) (hart_state : HartState) (one other : Shared)
    → hart_state.world ≡ Enclave slot
    → length one.table ≡ slot_count → length one.contexts ≡ length other.contexts → SharedFor slot one other
    → OwnAlike slot (option_case maybe_trap (unhandled outcome hart_state one) (λ trap. returned outcome (handled hart_state one trap)))
    (option_case maybe_trap (unhandled outcome hart_state other) (λ trap. returned outcome (handled hart_state other trap)))
own_alike_after_trap slot outcome None hart_state one other runs_enclave table_length same_context_count same_for_slot = record {
  outcome = refl;
  hart_state = refl;
  shared = same_for_slot;
}
own_alike_after_trap slot outcome (Some trap) hart_state one other runs_enclave table_length same_context_count same_for_slot =
    -- the trap handler reads only what is equal in both shared states
    let handler_results =
    handler_reads_law hart_state trap one other (same_handler_reads slot hart_state runs_enclave trap one other same_context_count same_for_slot) in
    -- the trap handler keeps the region and the window, so a byte that is within them after the step was within them before
    let (extent_unchanged, size_unchanged) = handler_keeps_extent slot hart_state runs_enclave trap one table_length in
    let (_, other_size_unchanged) =
    handler_keeps_extent slot hart_state runs_enclave trap other (ap (λ (table : Slots). length table) (sym same_for_slot.table) ∙ table_length) in
    let returned_by : HartState → Next → HartState =
    λ hart_state next. record hart_state { hart = returned_to hart_state.hart next.pc next.mode } in
    let shows : Next → Outcome = λ next. record { step = outcome; entered = next.entered } in
    record {
      outcome = ap shows handler_results.next;
      hart_state = ap₂ returned_by handler_results.hart_state handler_results.next;
      -- bytes that were equal are equal after the trap handler, and the sizes of the memories are unchanged
      shared = record {
        table = handler_results.shared.table;
        memory = record {
          size = size_unchanged ∙ same_for_slot.memory.size ∙ sym other_size_unchanged;
          bytes =
              λ index not_hidden. handler_results.shared.bytes index
              (same_for_slot.memory.bytes index (within_before slot one.table _ _ extent_unchanged not_hidden));
        };
        context = handler_results.shared.contexts slot same_for_slot.context;
      };
    }

-- the view with this hart state and this shared state
abbrev view_of : HartState → Shared → HartView
view_of hart_state shared = record { hart_state = hart_state; shared = shared }

-- the bare step of the view
abbrev stepped : HartState → Shared → Stepped
stepped hart_state shared = step (record { hart = hart_state.hart; memory = shared.memory })

-- the shared state with the memory after the bare step
abbrev stored : HartState → Shared → Shared
stored hart_state shared = record shared { memory = (stepped hart_state shared).state.memory }

-- the view after the bare step, with the outcome of the bare step
abbrev after_bare : StepOutcome → HartState → Shared → HartViewStepped
after_bare outcome hart_state shared =
    option_case outcome.trap (unhandled outcome hart_state shared) (λ trap. returned outcome (handled hart_state shared trap))

-- a step of enclave `slot` has the same result on two shared states that are equal for `slot`
pub own_step_alike : (slot : ℕ) (hart_state : HartState) (one other : Shared) → HartViewInvariant (view_of hart_state one)
    → hart_state.world ≡ Enclave slot
    → length one.contexts ≡ length other.contexts → SharedFor slot one other
    → OwnAlike slot (monitored_step (view_of hart_state one)) (monitored_step (view_of hart_state other))
unfolding monitored_step
own_step_alike slot hart_state one other view_invariant_one runs_enclave same_context_count same_for_slot =
    let first_bare = stepped hart_state one in
    let second_bare = stepped hart_state other in
    -- the bare steps are alike, because the enclave accesses only its region and window
    let alike =
    enclave_bare_step_alike slot (view_of hart_state one) view_invariant_one runs_enclave other.memory same_for_slot.memory in
    let shared : SharedFor slot (stored hart_state one) (stored hart_state other) =
    record { table = same_for_slot.table; memory = alike.memory; context = same_for_slot.context } in
    -- the trap handler, if the bare steps trap, leaves both shared states equal for the enclave
    let ended =
    own_alike_after_trap slot first_bare.outcome first_bare.outcome.trap (record hart_state { hart = first_bare.state.hart }) (stored hart_state one)
    (stored hart_state other) runs_enclave
    view_invariant_one.valid.count same_context_count shared in
    let OwnAlikeFor : Hart → StepOutcome → Type 0 = λ hart outcome. OwnAlike slot
    (after_bare first_bare.outcome (record hart_state { hart = first_bare.state.hart }) (stored hart_state one))
    (after_bare outcome (record hart_state { hart = hart }) (stored hart_state other)) in
    subst (λ hart. OwnAlikeFor hart second_bare.outcome) (sym alike.hart)
    (subst (λ outcome. OwnAlikeFor first_bare.state.hart outcome) (sym alike.outcome) ended)

-- a world that passes the test `is_world_of slot` is not the host
pub enclave_world_is_not_host : (slot : ℕ) (world : World) → is_world_of slot world ≡ true → is_host world ≡ false
enclave_world_is_not_host slot Host runs_enclave = cc
enclave_world_is_not_host slot (Enclave other_slot) runs_enclave = refl
