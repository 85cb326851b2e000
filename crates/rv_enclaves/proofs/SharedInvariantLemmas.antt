-- Each call and each context switch preserves the invariant of the shared state (specs/SharedInvariant).
use Rattle.std.proofs.Common.{◌≡◌, ◌≢◌, ℕ, zero, suc, ◌+◌, ◌<◌, Bool, true, false, List, ◌∷◌, Option, Some, None, IfSome, length, refl, sym, ap, ◌∙◌, subst}
use Rattle.std.proofs.Common.{inl, inr, arith, length-set, replicate}
use Rattle.std.specs.Prelude.{◌==◌, ◌%◌, is_some}
use Rattle.std.specs.List.{list_any, find, range_with_len}
use Rattle.std.specs.Option.{is_none}
use Rattle.std.proofs.lemmas.Bool.{cases_eq, cases_Bool, cases_lt, cond-true, cond-false, and_parts, ne_eqb, eq-eqb, eqb-true}
use Rattle.std.proofs.lemmas.Bool.Decides.{nat_tests}
use Rattle.std.proofs.lemmas.List.{get_or_past}
use Rattle.rv_enclaves.specs.Create.{is_entry, with_enclave, measured_bytes}
use Rattle.sha2.proofs.Facts256.{length-sha256}
use Rattle.rv_enclaves.specs.Destroy.{without}
use Rattle.rv_enclaves.specs.Table.{free_slot}
use Rattle.rv_enclaves.specs.declared.call.Call.TheVariants as calls
use Rattle.rv_enclaves.proofs.Prelude.{AreApart, Block, Context, Enclave, EnclaveState, Host, SharedInvariant, CreateArgs, Running, Shared}
use Rattle.rv_enclaves.proofs.Prelude.{SlotInfo, Slots, World}
use Rattle.rv_enclaves.proofs.Prelude.{can_go_on, context_at, created, destroyed, first_context, has, is_held, is_valid_block, is_running}
use Rattle.rv_enclaves.proofs.Prelude.{is_window, is_world_of}
use Rattle.rv_enclaves.proofs.Prelude.{length-write, measured, measurement_at, measurement_of, new_slot, option_case, overlaps, recorded}
use Rattle.rv_enclaves.proofs.Prelude.{region, running_slot, runs}
use Rattle.rv_enclaves.proofs.Prelude.{slot_at, with_bytes_at, with_context, with_slot, with_state, write, zeroed}
use Rattle.rv_enclaves.specs.CallLaws.{CallsKeepLaw}
use Rattle.rv_enclaves.specs.SlotNumbers.{slot_count}
use Rattle.rv_enclaves.proofs.Refusals.{MayCreate, SlotIsAccepted, may_create, may_take, takes_rests}
use Rattle.rv_enclaves.proofs.Slots.{at_written_slot, at_other_slot, context_past, IsFree, free_from, state_past}
use Rattle.rv_enclaves.proofs.Valid.{FitsInSlot, valid_with, nothing_fits, own_fits, valid_by_size}

-- whether a record has the state Running
abbrev running_in : Option SlotInfo → Bool
running_in maybe_info = option_case maybe_info false (λ info. is_running info.state)

-- ---- a change of one slot and its context, and of a memory of the same size

-- `slot` gets a new record and a new saved context, or none. The memory changes but keeps its size. The worlds of the harts change to
-- `after_worlds`. The premises say that the record fits, and that the slot and the new worlds agree.
module _ (shared : Shared) (worlds after_worlds : List World) (slot : ℕ) (maybe_info : Option SlotInfo) (maybe_context : Option Context)
    (memory : List ℕ) (shared_invariant : SharedInvariant shared worlds) (slot_in_bounds : slot < slot_count)
    (same_length : length shared.memory ≡ length memory)
    (fits : FitsInSlot shared.memory shared.table slot maybe_info) (saved_if_held : is_some maybe_context ≡ is_held maybe_info)
    (can_continue : IfSome maybe_context (λ context. can_go_on context ≡ true))
    (runs_if_world : running_in maybe_info ≡ list_any (is_world_of slot) after_worlds)
    (others_unchanged : (other : ℕ) → other ≢ slot → list_any (is_world_of other) worlds ≡ list_any (is_world_of other) after_worlds)
    (worlds_apart : AreApart after_worlds) where
  -- `slot` of the new table has the new record
  new_slot_at : slot_at (with_slot shared.table slot maybe_info) slot ≡ maybe_info
  new_slot_at = at_written_slot shared.table slot maybe_info (omega (arith, shared_invariant.valid.count))

  -- `slot` of the new contexts has the new context
  new_context_at : context_at (with_context shared.contexts slot maybe_context) slot ≡ maybe_context
  new_context_at = at_written_slot shared.contexts slot maybe_context (omega (arith, shared_invariant.contexts.count))

  -- each other slot of the new table is unchanged
  other_slot_unchanged : (other : ℕ) → other ≢ slot → slot_at (with_slot shared.table slot maybe_info) other ≡ slot_at shared.table other
  other_slot_unchanged other is_other = at_other_slot shared.table slot other maybe_info is_other

  -- each other slot of the new contexts is unchanged
  other_context_unchanged : (other : ℕ) → other ≢ slot
      → context_at (with_context shared.contexts slot maybe_context) other ≡ context_at shared.contexts other
  other_context_unchanged other is_other = at_other_slot shared.contexts slot other maybe_context is_other

  -- after the change, a slot has a saved context if and only if its enclave is live and does not run
  saved_if_held_after : (each_slot : ℕ)
      → is_some (context_at (with_context shared.contexts slot maybe_context) each_slot)
      ≡ is_held (slot_at (with_slot shared.table slot maybe_info) each_slot)
  saved_if_held_after each_slot = elim (cases_eq each_slot slot) [
    | inl is_slot ↦
        rw is_slot (ap (λ (maybe_context : Option Context). is_some maybe_context) new_context_at ∙ saved_if_held ∙ ap is_held (sym new_slot_at))
    | inr is_other ↦
        ap (λ (maybe_context : Option Context). is_some maybe_context) (other_context_unchanged each_slot is_other)
        ∙ shared_invariant.contexts.kept each_slot
        ∙ ap is_held (sym (other_slot_unchanged each_slot is_other))
  ]

  -- after the change, a hart can continue with each saved context
  can_continue_after : (each_slot : ℕ)
      → IfSome (context_at (with_context shared.contexts slot maybe_context) each_slot) (λ context. can_go_on context ≡ true)
  can_continue_after each_slot =
      let CanContinue : Option Context → Type 0 = λ maybe_context. IfSome maybe_context (λ context. can_go_on context ≡ true) in
      elim (cases_eq each_slot slot) [
        | inl is_slot ↦ rw is_slot (subst CanContinue (sym new_context_at) can_continue)
        | inr is_other ↦ subst CanContinue (sym (other_context_unchanged each_slot is_other)) (shared_invariant.contexts.held each_slot)
      ]

  -- after the change, a slot is Running if and only if it is the world of some hart
  runs_if_world_after : (each_slot : ℕ) → runs (with_slot shared.table slot maybe_info) each_slot ≡ list_any (is_world_of each_slot) after_worlds
  runs_if_world_after each_slot = elim (cases_eq each_slot slot) [
    | inl is_slot ↦ rw is_slot (ap running_in new_slot_at ∙ runs_if_world)
    | inr is_other ↦
        ap running_in (other_slot_unchanged each_slot is_other) ∙ shared_invariant.running each_slot ∙ others_unchanged each_slot is_other
  ]

  -- a change of the record and the saved context of `slot` that agrees with the worlds preserves the invariant
  pub shared_invariant-with_slot : SharedInvariant
      (record { memory = memory; table = with_slot shared.table slot maybe_info; contexts = with_context shared.contexts slot maybe_context })
      after_worlds
  shared_invariant-with_slot = record {
    valid =
        valid_by_size shared.memory memory (with_slot shared.table slot maybe_info) same_length
        (valid_with shared.memory shared.table slot maybe_info shared_invariant.valid slot_in_bounds fits);
    contexts = record {
      count = length-set shared.contexts slot maybe_context ∙ shared_invariant.contexts.count;
      kept = saved_if_held_after;
      held = can_continue_after;
    };
    running = runs_if_world_after;
    apart = worlds_apart;
  }

-- a change of the memory that keeps its size preserves the invariant
pub sound_by_size : (shared : Shared) (worlds : List World) (memory : List ℕ) → SharedInvariant shared worlds → length shared.memory ≡ length memory
    → SharedInvariant (record shared { memory = memory }) worlds
sound_by_size shared worlds memory shared_invariant same_length = record {
  valid = valid_by_size shared.memory memory shared.table same_length shared_invariant.valid;
  contexts = record { count = shared_invariant.contexts.count; kept = shared_invariant.contexts.kept; held = shared_invariant.contexts.held };
  running = shared_invariant.running;
  apart = shared_invariant.apart;
}

-- ---- create

-- `slot` is a slot of the table, and is free
pub record IsFreeSlot (table : Slots) (slot : ℕ) : Type 0 where
  pub in_range : slot < slot_count
  pub free : slot_at table slot ≡ None

-- an optional value that passes the test `is_none` is None
is_None_from_test : {A : Type 0} (option : Option A) → is_none option ≡ true → option ≡ None
is_None_from_test None no_value = refl
is_None_from_test (Some x) no_value = cc

-- the number that a search of a range finds is in the range, and passes the test
found_number_passes : (test : ℕ → Bool) (start count number : ℕ) → find test (range_with_len start count) ≡ Some number
    → (number < start + count) × (test number ≡ true)
found_number_passes test start zero number search_finds = cc
found_number_passes test start (suc count) number search_finds = elim (cases_Bool (test start)) [
  -- the first number of the range passes the test: it is the number that the search finds
  | inl start_passes ↦
      let found_start : Some start ≡ Some number = sym (cond-true (test start) _ _ start_passes) ∙ search_finds in
      let start_is_number : start ≡ number = cc in
      (omega arith, rw start_is_number at start_passes)
  -- the first number fails the test: the search finds the number in the rest of the range
  | inr start_fails ↦
      let found_in_rest : find test (range_with_len (start + 1) count) ≡ Some number =
      sym (cond-false (test start) _ _ start_fails) ∙ search_finds in
      let (before_end, passes) = found_number_passes test (start + 1) count number found_in_rest in
      (omega (arith, before_end), passes)
]

-- the slot that `free_slot` finds is a slot of the table, and is free
pub free_slot_from : (table : Slots) (slot : ℕ) → free_slot table ≡ Some slot → IsFreeSlot table slot
unfolding free_slot
free_slot_from table slot free_slot_is =
    let (before_end, is_free) = found_number_passes (λ candidate. is_none (slot_at table candidate)) 0 slot_count slot free_slot_is in
    record { in_range = omega arith; free = is_None_from_test (slot_at table slot) is_free }

-- a measurement has 32 bytes
length_measurement : (memory : List ℕ) (new : CreateArgs) → length (measurement_of memory new) ≡ 32
unfolding measurement_of
length_measurement memory new = length-sha256 (measured_bytes memory new)

-- an entry that passes the check of create is a multiple of 4
entry_aligned : (new : CreateArgs) → is_entry new ≡ true → new.entry % 4 ≡ 0
unfolding is_entry
entry_aligned new entry_passes =
    let (is_multiple_of_4, _in_region) = and_parts (new.entry % 4 == 0) (has new.region new.entry) entry_passes in grind (arith, nat_tests)

-- an entry that passes the check of create is in the region
entry_inside : (new : CreateArgs) → is_entry new ≡ true → has new.region new.entry ≡ true
unfolding is_entry
entry_inside new entry_passes =
    let (_, in_region) = and_parts (new.entry % 4 == 0) (has new.region new.entry) entry_passes in in_region

-- the record of a create that passes every check fits into a free slot: it is valid, and apart from the other enclaves
new_fits : (shared : Shared) (new : CreateArgs) (slot : ℕ) → is_valid_block shared.memory new.region ≡ true
    → is_window shared.memory new.window ≡ true
    → is_entry new ≡ true → IsFree shared.table new → FitsInSlot shared.memory shared.table slot (Some (recorded shared.memory new))
new_fits shared new slot is_valid is_window_valid entry_valid free = record {
  well_formed = record {
    region = is_valid;
    window = is_window_valid;
    aligned = entry_aligned new entry_valid;
    entry = entry_inside new entry_valid;
    measured = length_measurement shared.memory new;
  };
  regions_apart = λ other is_other. (free.others other).regions;
  region_outside_windows = λ other is_other. (free.others other).window;
  window_outside_regions = λ other is_other. (free.others other).new_window_outside_region;
  own_blocks_apart = free.own_blocks_apart;
  region_free = free.region_free;
  window_free = free.window_free;
}

-- a hart can continue with the first context of an enclave
first_goes_on : (info : SlotInfo) → info.entry % 4 ≡ 0 → can_go_on (first_context info) ≡ true
unfolding first_context
first_goes_on info aligned = rw aligned refl

-- a create that passes every check preserves the invariant, if `slot` is the lowest free slot of the table
created_at_sound : (shared : Shared) (worlds : List World) (new : CreateArgs) (slot : ℕ) → SharedInvariant shared worlds
    → is_valid_block shared.memory new.region ≡ true → is_window shared.memory new.window ≡ true → overlaps shared.table new ≡ false
    → is_entry new ≡ true → free_slot shared.table ≡ Some slot
    → SharedInvariant (with_enclave shared slot (recorded shared.memory new)) worlds
created_at_sound shared worlds new slot shared_invariant is_valid is_window_valid no_overlap entry_valid free_slot_is =
    let is_free_slot = free_slot_from shared.table slot free_slot_is in
    let info = recorded shared.memory new in
    let not_among_worlds : false ≡ list_any (is_world_of slot) worlds = sym (ap running_in is_free_slot.free) ∙ shared_invariant.running slot in
    shared_invariant-with_slot shared worlds worlds slot (Some info) (Some (first_context info)) shared.memory
    shared_invariant is_free_slot.in_range refl
    (new_fits shared new slot is_valid is_window_valid entry_valid (free_from shared.table new no_overlap)) refl
    (first_goes_on info (entry_aligned new entry_valid)) not_among_worlds
    (λ other is_other. refl) shared_invariant.apart

-- a create that the monitor does not refuse preserves the invariant
pub created_sound : (shared : Shared) (worlds : List World) (new : CreateArgs) → MayCreate shared new → SharedInvariant shared worlds
    → SharedInvariant (created shared new) worlds
unfolding created
created_sound shared worlds new no_refusal shared_invariant =
    created_at_sound shared worlds new
    (new_slot shared.table) shared_invariant no_refusal.well_formed no_refusal.window no_refusal.apart no_refusal.entry no_refusal.free

-- ---- a live slot

-- a slot with an enclave is a slot of the table
pub live_in_range : (table : Slots) (slot : ℕ) (info : SlotInfo) → length table ≡ slot_count → slot_at table slot ≡ Some info → slot < slot_count
live_in_range table slot info table_length slot_is = elim (cases_lt slot slot_count) [
  | inl in_range ↦ in_range
  | inr past_last ↦
      let nothing : slot_at table slot ≡ None = get_or_past {X = Option SlotInfo} table slot None (omega (arith, table_length)) in
      let contradiction : None ≡ Some info = sym nothing ∙ slot_is in cc
]

-- the slot of a live enclave is a slot of the table
pub live_slot_in_range : (table : Slots) (slot : ℕ) (maybe_info : Option SlotInfo) → length table ≡ slot_count → slot_at table slot ≡ maybe_info
    → is_some maybe_info ≡ true
    → slot < slot_count
live_slot_in_range table slot None table_length slot_is live = cc
live_slot_in_range table slot (Some info) table_length slot_is live = live_in_range table slot info table_length slot_is

-- zeroing a block does not change the size of the memory
size_zeroed : (memory : List ℕ) (block : Block) (result : Option (List ℕ)) → write memory block.base (replicate block.size 0) ≡ result
    → length memory ≡ length (option_case result memory (λ after. after))
size_zeroed memory block None written = refl
size_zeroed memory block (Some after) written = sym (length-write memory block.base (replicate block.size 0) after written)

-- a write, successful or not, does not change the size of the memory
size_with_bytes : (memory : List ℕ) (address : ℕ) (bytes : List ℕ) (result : Option (List ℕ)) → write memory address bytes ≡ result
    → length memory ≡ length (option_case result memory (λ after. after))
size_with_bytes memory address bytes None written = refl
size_with_bytes memory address bytes (Some after) written = sym (length-write memory address bytes after written)

-- ---- destroy

-- the removal of an enclave that does not run preserves the invariant
removed_sound : (shared : Shared) (worlds : List World) (slot : ℕ) (info : SlotInfo) → SharedInvariant shared worlds
    → slot_at shared.table slot ≡ Some info
    → is_running info.state ≡ false → SharedInvariant (without shared slot (region shared.table slot)) worlds
removed_sound shared worlds slot info shared_invariant slot_is not_running =
    let not_among_worlds : false ≡ list_any (is_world_of slot) worlds =
    sym not_running ∙ sym (ap running_in slot_is) ∙ shared_invariant.running slot in
    let block = region shared.table slot in
    shared_invariant-with_slot shared worlds worlds slot None None (zeroed shared.memory block) shared_invariant
    (live_in_range shared.table slot info shared_invariant.valid.count slot_is)
    (size_zeroed shared.memory block (write shared.memory block.base (replicate block.size 0)) refl)
    (nothing_fits shared.memory shared.table slot) refl tt not_among_worlds (λ other is_other. refl) shared_invariant.apart

-- a destroy that the monitor does not refuse preserves the invariant
pub destroyed_sound : (shared : Shared) (worlds : List World) (slot : ℕ) → SlotIsAccepted shared.table calls.Destroy slot
    → SharedInvariant shared worlds
    → SharedInvariant (destroyed shared slot) worlds
unfolding destroyed
destroyed_sound shared worlds slot accepted shared_invariant =
    removed_sound shared worlds slot accepted.info shared_invariant accepted.is (takes_rests calls.Destroy accepted.info.state accepted.taken)

-- ---- measure

-- a measure preserves the invariant
pub measured_sound : (shared : Shared) (worlds : List World) (slot address : ℕ) → SharedInvariant shared worlds
    → SharedInvariant (measured shared slot address) worlds
unfolding measured
measured_sound shared worlds slot address shared_invariant =
    let bytes = measurement_at shared.table slot in
    sound_by_size shared worlds (with_bytes_at shared.memory address bytes) shared_invariant
    (size_with_bytes shared.memory address bytes (write shared.memory address bytes) refl)

-- ---- switches

-- a new state for a slot with an enclave replaces the state in the record of this enclave
with_state_is : (table : Slots) (slot : ℕ) (info : SlotInfo) (state : EnclaveState) → slot_at table slot ≡ Some info
    → with_state table slot state ≡ with_slot table slot (Some (record info { state = state }))
with_state_is table slot info state slot_is =
    ap (λ maybe_info. option_case maybe_info table (λ old_info. with_slot table slot (Some (record old_info { state = state })))) slot_is

-- `other_worlds` has the worlds of the other harts. The world of the hart that switches changes from the host to the enclave in `slot`, or back.
module _ (other_worlds : List World) where
  -- the switch from the host to the enclave in `slot` changes for no other enclave whether it is among the worlds
  other_worlds_unchanged : (other slot : ℕ) → other ≢ slot
      → list_any (is_world_of other) (Host ∷ other_worlds) ≡ list_any (is_world_of other) (Enclave slot ∷ other_worlds)
  other_worlds_unchanged other slot is_other =
      let slot_is_not_other : (slot == other) ≡ false = ne_eqb slot other (λ is_equal. is_other (sym is_equal)) in
      rw slot_is_not_other refl

  -- an enclave that runs on no other hart is not among the worlds of the other harts
  apart_from_others : (slot other : ℕ) → list_any (is_world_of slot) other_worlds ≡ false → is_world_of other (Enclave slot) ≡ true
      → list_any (is_world_of other) other_worlds ≡ false
  apart_from_others slot other not_running runs_enclave =
      let is_equal : slot ≡ other = eqb-true slot other runs_enclave in
      rw (← is_equal) not_running

  -- the entry of an enclave that does not run preserves the invariant, with this enclave as the new world of the hart
  pub entered_sound : (shared : Shared) (slot : ℕ) (info : SlotInfo) → SharedInvariant shared (Host ∷ other_worlds)
      → slot_at shared.table slot ≡ Some info
      → is_running info.state ≡ false
      → SharedInvariant (record shared { table = with_state shared.table slot Running; contexts = with_context shared.contexts slot None })
      (Enclave slot ∷ other_worlds)
  entered_sound shared slot info shared_invariant slot_is not_running =
      let slot_is_itself : (slot == slot) ≡ true = eq-eqb slot slot refl in
      let is_among_new_worlds : true ≡ list_any (is_world_of slot) (Enclave slot ∷ other_worlds) = rw slot_is_itself refl in
      let runs_on_no_other : list_any (is_world_of slot) other_worlds ≡ false =
      sym (shared_invariant.running slot) ∙ ap running_in slot_is ∙ not_running in
      -- no two of the other worlds are the same enclave
      let (_, other_worlds_apart) = shared_invariant.apart in
      rw (with_state_is shared.table slot info Running slot_is)
      (shared_invariant-with_slot shared (Host ∷ other_worlds) (Enclave slot ∷ other_worlds) slot (Some (record info { state = Running })) None
      shared.memory shared_invariant
      (live_in_range shared.table slot info shared_invariant.valid.count slot_is) refl
      (own_fits shared.memory shared.table slot info Running shared_invariant.valid slot_is) refl tt is_among_new_worlds
      (λ other is_other. other_worlds_unchanged other slot is_other)
      (λ other runs_other. apart_from_others slot other runs_on_no_other runs_other, other_worlds_apart))

  -- a slot that is Running has a record
  running_live : (maybe_info : Option SlotInfo) → running_in maybe_info ≡ true → (info : SlotInfo) × (maybe_info ≡ Some info)
  running_live None runs = cc
  running_live (Some info) runs = (info, refl)

  -- The exit of the running enclave preserves the invariant. If the host runs, the exit changes nothing.
  pub left_sound : (shared : Shared) (world : World) (state : EnclaveState) (saved : Context) → SharedInvariant shared (world ∷ other_worlds)
      → is_running state ≡ false → can_go_on saved ≡ true
      → (let slot = running_slot world in
      SharedInvariant (record shared { table = with_state shared.table slot state; contexts = with_context shared.contexts slot (Some saved) })
      (Host ∷ other_worlds))
  -- the host runs: neither the table nor the contexts change
  left_sound shared Host state saved shared_invariant not_running can_continue =
      rw (
        state_past shared.table state shared_invariant.valid.count,
        context_past shared.contexts
            (Some saved) shared_invariant.contexts.count,
      ) shared_invariant
  -- an enclave runs: it gets a new state and a saved context
  left_sound shared (Enclave slot) state saved shared_invariant not_running can_continue =
      let slot_is_itself : (slot == slot) ≡ true = eq-eqb slot slot refl in
      let (info, slot_is) = running_live (slot_at shared.table slot) (shared_invariant.running slot ∙ rw slot_is_itself refl) in
      let saved_is_held : true ≡ is_held (Some (record info { state = state })) = rw not_running refl in
      -- no other world is the enclave of the first world, and no two of the other worlds are the same enclave
      let (first_is_no_other, other_worlds_apart) = shared_invariant.apart in
      let runs_on_no_other : list_any (is_world_of slot) other_worlds ≡ false = first_is_no_other slot slot_is_itself in
      rw (with_state_is shared.table slot info state slot_is)
      (shared_invariant-with_slot shared (Enclave slot ∷ other_worlds) (Host ∷ other_worlds) slot (Some (record info { state = state })) (Some saved)
      shared.memory shared_invariant
      (live_in_range shared.table slot info shared_invariant.valid.count slot_is) refl
      (own_fits shared.memory shared.table slot info state shared_invariant.valid slot_is) saved_is_held can_continue
      (not_running ∙ sym runs_on_no_other) (λ other is_other. sym (other_worlds_unchanged other slot is_other))
      (λ other runs_other. let contradiction : false ≡ true = runs_other in cc, other_worlds_apart))

-- ---- the calls, not refused

-- proves that each call that the monitor does not refuse preserves the invariant
pub calls_keep : CallsKeepLaw
calls_keep shared worlds shared_invariant = record {
  creates = λ new not_refused. created_sound shared worlds new (may_create shared new not_refused) shared_invariant;
  destroys = λ slot not_refused. destroyed_sound shared worlds slot (may_take shared.table calls.Destroy slot not_refused) shared_invariant;
  measures = λ slot address. measured_sound shared worlds slot address shared_invariant;
}
