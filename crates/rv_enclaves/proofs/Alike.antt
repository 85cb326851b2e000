-- Create, destroy, measure and context switches preserve equivalence except `enclave`. If two shared states differ only in what is private to
-- `enclave`, then so do the shared states after the call.
use Rattle.std.proofs.Common.{◌≡◌, ◌≢◌, ℕ, ◌+◌, ◌<◌, ◌≤◌, Bool, true, false, List, length, replicate, Option, Some, None, IfSome, refl, sym, ◌∙◌, ap, subst}
use Rattle.std.proofs.Common.{inl, inr, arith}
use Rattle.std.specs.Prelude.{nat_le, nat_lt, is_some}
use Rattle.std.proofs.lemmas.Bool.{cases_Bool, cases_eq, both_ways, and_parts, and_from, leb-true, ltb-true, le-leb, lt-ltb}
use Rattle.std.proofs.lemmas.List.{same_lists, get_or_default}
use Rattle.std.proofs.lemmas.Grind.{same_number_lists}
use Rattle.rv_memory.specs.Memory.{read}
use Rattle.rv_enclaves.specs.SharedEquivExcept.{SameContexts}
use Rattle.rv_enclaves.specs.Create.{with_enclave}
use Rattle.rv_enclaves.specs.Destroy.{without}
use Rattle.rv_enclaves.specs.declared.call.Call.TheVariants as calls
use Rattle.rv_enclaves.specs.SlotNumbers.{slot_count}
use Rattle.rv_enclaves.proofs.Prelude.{EqualOutside, Block, Context, Contexts, EnclaveState, IsValidSlot, IsValid, CreateArgs, Shared}
use Rattle.rv_enclaves.proofs.Prelude.{SharedEquivExcept, SlotInfo}
use Rattle.rv_enclaves.proofs.Prelude.{Slots, context_at, created, destroyed, first_context, has, is_block_size, is_inside, is_valid_block, is_live, is_private}
use Rattle.rv_enclaves.proofs.Prelude.{measured, measurement_at, measurement_of, meets, new_slot, option_case, recorded, region, region_of, slot_at}
use Rattle.rv_enclaves.proofs.Prelude.{with_bytes_at, with_context, with_slot, with_state, zeroed}
use Rattle.rv_enclaves.proofs.EqualMemory.{IsSeen, inside-bounds, same_read, read-none, write-alike, zeros-alike}
use Rattle.rv_memory.proofs.BlockLaws.{meets_at}
use Rattle.rv_enclaves.proofs.SavedLists.{same_at_set, same_after_set, length_after}
use Rattle.rv_enclaves.proofs.Refusals.{MayCreate, SlotIsAccepted}
use Rattle.rv_enclaves.proofs.Slots.{at_other_slot, at_written_slot, free_from}
use Rattle.rv_enclaves.proofs.SharedInvariantLemmas.{free_slot_from, live_in_range}

-- ---- equivalence

-- a shared state is equivalent except `enclave` to itself
pub itself : (enclave : ℕ) (shared : Shared) → SharedEquivExcept enclave shared shared
itself enclave shared = record {
  table = refl;
  memory = record { size = refl; bytes = λ index not_hidden. refl };
  contexts = record { size = refl; others = λ slot is_other. refl };
  gone = λ dead. refl;
}

-- two equal shared states are equivalent except `enclave`
pub equal_agree : (enclave : ℕ) (one other : Shared) → one ≡ other → SharedEquivExcept enclave one other
equal_agree enclave one other equal = subst (SharedEquivExcept enclave one) equal (itself enclave one)

-- two lists of contexts that are equal except `enclave`, and also equal at `enclave`, are equal
same_contexts : (enclave : ℕ) (one_contexts other_contexts : Contexts) → SameContexts enclave one_contexts other_contexts
    → context_at one_contexts enclave ≡ context_at other_contexts enclave
    → one_contexts ≡ other_contexts
same_contexts enclave one_contexts other_contexts equal_elsewhere equal_at_enclave =
    same_lists one_contexts other_contexts equal_elsewhere.size (λ slot default in_bounds.
    let in_other_bounds : slot < length other_contexts = omega (arith, equal_elsewhere.size) in
    get_or_default one_contexts slot default None in_bounds
    ∙ elim (cases_eq slot enclave) [ inl is_enclave ↦ rw is_enclave equal_at_enclave | inr is_other ↦ equal_elsewhere.others slot is_other ]
    ∙ sym (get_or_default other_contexts slot default None in_other_bounds))

-- two lists of contexts that are equal except `enclave` stay equal except `enclave` after the same write to `slot`
contexts_with : (enclave : ℕ) (one_contexts other_contexts : Contexts) (slot : ℕ) (maybe_context : Option Context)
    → SameContexts enclave one_contexts other_contexts
    → SameContexts enclave (with_context one_contexts slot maybe_context) (with_context other_contexts slot maybe_context)
contexts_with enclave one_contexts other_contexts slot maybe_context equal_elsewhere = record {
  size = length_after one_contexts other_contexts slot maybe_context equal_elsewhere.size;
  others =
      λ other_slot is_other.
      same_after_set one_contexts other_contexts slot other_slot maybe_context None equal_elsewhere.size (equal_elsewhere.others other_slot is_other);
}

-- a block that does not overlap another block has none of the bytes of the other block
pub seen_block : (block hidden_block : Block) → meets block hidden_block ≡ false → IsSeen (has hidden_block) block.base block.size
seen_block block hidden_block apart address from_base before_end = elim (cases_Bool (has hidden_block address)) [
  | inr not_hidden ↦ not_hidden
  -- a hidden byte of the block would be in both blocks, which do not meet
  | inl is_hidden ↦
      let in_block : has block address ≡ true =
      and_from (nat_le block.base address) (nat_lt address (block.base + block.size)) (le-leb block.base address from_base)
      (lt-ltb address (block.base + block.size) before_end) in
      absurd (both_ways _ apart (meets_at block hidden_block address in_block is_hidden))
]

-- a read that reads no hidden byte returns the same bytes from both memories
read_alike : (hidden : ℕ → Bool) (one_memory other_memory : List ℕ) (address count : ℕ) → EqualOutside hidden one_memory other_memory
    → IsSeen hidden address count
    → read one_memory address count ≡ read other_memory address count
read_alike hidden one_memory other_memory address count equal_outside not_hidden = elim (cases_Bool (is_inside one_memory address count)) [
  -- the bytes are in RAM: both reads return them
  | inl inside ↦ same_read hidden one_memory other_memory address count equal_outside inside not_hidden
  -- the bytes are not all in RAM: both reads return None
  | inr outside ↦
      let same_length = equal_outside.size in
      read-none one_memory address count outside ∙ sym (read-none other_memory address count (rw (← same_length) outside))
]

-- ---- a live slot

-- Two shared states have the same table, in which `enclave` is live. Their memories are equal outside the region of `enclave`. Their saved
-- contexts are equal except that of `enclave`.
module _ (enclave : ℕ) (table : Slots) (one_memory other_memory : List ℕ) (one_contexts other_contexts : Contexts)
    (equal_outside : EqualOutside (is_private table enclave) one_memory other_memory)
    (same_saved_contexts : SameContexts enclave one_contexts other_contexts)
    (live : is_live table enclave ≡ true) where
  -- the shared state with `one_memory` and `one_contexts`
  abbrev one : Shared
  one = record { memory = one_memory; table = table; contexts = one_contexts }

  -- the shared state with `other_memory` and `other_contexts`
  abbrev other : Shared
  other = record { memory = other_memory; table = table; contexts = other_contexts }

  -- two shared states with a new table, in which `enclave` is live and has its old region, are equivalent except `enclave` if their memories and
  -- contexts are
  equiv_with_region : (after : Slots) (one_memory_after other_memory_after : List ℕ) (one_contexts_after other_contexts_after : Contexts)
      → region after enclave ≡ region table enclave
      → is_live after enclave ≡ true
      → EqualOutside (is_private table enclave) one_memory_after other_memory_after → SameContexts enclave one_contexts_after other_contexts_after
      → SharedEquivExcept enclave (record { memory = one_memory_after; table = after; contexts = one_contexts_after })
      (record { memory = other_memory_after; table = after; contexts = other_contexts_after })
  equiv_with_region after one_memory_after other_memory_after one_contexts_after other_contexts_after same_region live_after equal_after
      saved_after = record {
        table = refl;
        memory = subst (λ (block : Block). EqualOutside (has block) one_memory_after other_memory_after) (sym same_region) equal_after;
        contexts = saved_after;
        gone = λ dead. absurd (both_ways _ dead live_after);
      }

  -- two shared states with a new table, in which `enclave` has its old record, are equivalent except `enclave` if their memories and contexts are
  equiv_with_slot : (after : Slots) (one_memory_after other_memory_after : List ℕ) (one_contexts_after other_contexts_after : Contexts)
      → slot_at after enclave ≡ slot_at table enclave
      → EqualOutside (is_private table enclave) one_memory_after other_memory_after → SameContexts enclave one_contexts_after other_contexts_after
      → SharedEquivExcept enclave (record { memory = one_memory_after; table = after; contexts = one_contexts_after })
      (record { memory = other_memory_after; table = after; contexts = other_contexts_after })
  equiv_with_slot after one_memory_after other_memory_after one_contexts_after other_contexts_after same_slot =
      equiv_with_region after one_memory_after other_memory_after one_contexts_after other_contexts_after (ap region_of same_slot)
      (ap (λ (maybe_info : Option SlotInfo). is_some maybe_info) same_slot ∙ live)

  -- the two shared states are equivalent except `enclave`
  pub equiv_before : SharedEquivExcept enclave one other
  equiv_before = equiv_with_slot table one_memory other_memory one_contexts other_contexts refl equal_outside same_saved_contexts

  -- ---- create

  -- the measurement of a region that does not meet the region of `enclave` is equal in both memories
  measurement_alike : (new : CreateArgs) → meets new.region (region table enclave) ≡ false
      → measurement_of one_memory new ≡ measurement_of other_memory new
  unfolding measurement_of
  measurement_alike new apart =
      let same_bytes = read_alike (is_private table enclave) one_memory other_memory new.region.base new.region.size equal_outside
      (seen_block new.region (region table enclave) apart) in
      rw same_bytes refl

  -- the record of a new enclave whose region does not meet the region of `enclave` is equal in both shared states
  recorded_alike : (new : CreateArgs) → meets new.region (region table enclave) ≡ false → recorded one_memory new ≡ recorded other_memory new
  recorded_alike new apart = let same_digest = measurement_alike new apart in rw same_digest refl

  -- a free slot is not `enclave`, because `enclave` is live
  enclave_is_not_free_slot : (slot : ℕ) → slot_at table slot ≡ None → enclave ≢ slot
  enclave_is_not_free_slot slot slot_is_free is_enclave =
      let dead : is_live table enclave ≡ false = rw (is_enclave, slot_is_free) refl in
      both_ways _ dead live

  -- a new enclave in a free slot leaves the two shared states equivalent except `enclave`
  with_enclave_alike : (slot : ℕ) (info : SlotInfo) → slot_at table slot ≡ None
      → SharedEquivExcept enclave (with_enclave one slot info) (with_enclave other slot info)
  with_enclave_alike slot info slot_is_free =
      equiv_with_slot (with_slot table slot (Some info)) one_memory other_memory (with_context one_contexts slot (Some (first_context info)))
      (with_context other_contexts slot (Some (first_context info)))
      (at_other_slot table slot enclave (Some info) (enclave_is_not_free_slot slot slot_is_free)) equal_outside
      (contexts_with enclave one_contexts other_contexts slot (Some (first_context info)) same_saved_contexts)

  -- a create that the monitor does not refuse leaves two equivalent shared states equivalent except `enclave`
  pub created_alike : (new : CreateArgs) → MayCreate one new → SharedEquivExcept enclave (created one new) (created other new)
  unfolding created
  created_alike new no_refusal =
      let same_record = recorded_alike new ((free_from table new no_refusal.apart).others enclave).regions in
      rw (← same_record) (with_enclave_alike (new_slot table) (recorded one_memory new) (free_slot_from table (new_slot table) no_refusal.free).free)

  -- ---- destroy

  -- the removal of `enclave` itself leaves the two shared states equal
  equal_without_enclave : (block : Block) → region table enclave ≡ block → is_inside one_memory block.base block.size ≡ true
      → without one enclave block ≡ without other enclave block
  equal_without_enclave block region_is inside =
      let in_bounds = inside-bounds one_memory block.base block.size inside in
      let in_block : (address : ℕ) → is_private table enclave address ≡ true → (block.base ≤ address) × (address < block.base + block.size) =
      λ address is_private. let (not_below_base, below_end) =
      and_parts (nat_le block.base address) (nat_lt address (block.base + block.size))
      (sym (ap (λ (block : Block). has block address) region_is) ∙ is_private) in
      (leb-true _ _ not_below_base, ltb-true _ _ below_end) in
      let zeroed_alike : EqualOutside (λ address. false) (zeroed one_memory block) (zeroed other_memory block) =
      zeros-alike (is_private table enclave) (λ address. false) one_memory other_memory block.base block.size equal_outside in_bounds in_block in
      let same_memories : zeroed one_memory block ≡ zeroed other_memory block =
      same_number_lists _ _ zeroed_alike.size (λ offset in_bounds. zeroed_alike.bytes offset refl) in
      let same_contexts_after : with_context one_contexts enclave None ≡ with_context other_contexts enclave None =
      same_contexts enclave (with_context one_contexts enclave None) (with_context other_contexts enclave None)
      (contexts_with enclave one_contexts other_contexts enclave None same_saved_contexts)
      (same_at_set one_contexts other_contexts enclave None None same_saved_contexts.size) in
      rw (same_memories, same_contexts_after) refl

  -- the removal of any enclave leaves the two shared states equivalent except `enclave`
  without_alike : (slot : ℕ) → is_inside one_memory (region table slot).base (region table slot).size ≡ true
      → SharedEquivExcept enclave (without one slot (region table slot)) (without other slot (region table slot))
  without_alike slot inside = elim (cases_eq slot enclave) [
    -- `enclave` itself is removed: the shared states are equal after that
    | inl is_enclave ↦ rw is_enclave (equal_agree enclave _ _ (equal_without_enclave (region table enclave) refl (rw is_enclave at inside)))
    -- another enclave is removed: `enclave` keeps its record, and the same block is zeroed in both memories
    | inr is_other ↦
        let block = region table slot in
        equiv_with_slot (with_slot table slot None) (zeroed one_memory block) (zeroed other_memory block) (with_context one_contexts slot None)
        (with_context other_contexts slot None)
        (at_other_slot table slot enclave None (λ equal. is_other (sym equal)))
        (write-alike (is_private table enclave) one_memory other_memory block.base (replicate block.size 0) equal_outside)
        (contexts_with enclave one_contexts other_contexts slot None same_saved_contexts)
  ]

  -- the region of a valid record is inside memory
  region_inside : (maybe_info : Option SlotInfo) → IfSome maybe_info (IsValidSlot one_memory) → is_some maybe_info ≡ true
      → is_inside one_memory (region_of maybe_info).base (region_of maybe_info).size ≡ true
  unfolding is_valid_block
  region_inside None slot_valid is_present = cc
  region_inside (Some info) slot_valid is_present =
      let (size_is_permitted, aligned_and_inside) = and_parts (is_block_size info.region.size) _ slot_valid.region in
      let (base_is_aligned, region_is_inside) = and_parts _ _ aligned_and_inside in
      region_is_inside

  -- a destroy that the monitor does not refuse leaves two equivalent shared states equivalent except `enclave`
  pub destroyed_alike : (slot : ℕ) → IsValid one_memory table → SlotIsAccepted table calls.Destroy slot
      → SharedEquivExcept enclave (destroyed one slot) (destroyed other slot)
  unfolding destroyed
  destroyed_alike slot table_valid accepted =
      without_alike slot
      (region_inside (slot_at table slot) (table_valid.well_formed slot) (ap (λ (maybe_info : Option SlotInfo). is_some maybe_info) accepted.is))

  -- ---- measure

  -- a measure leaves two equivalent shared states equivalent except `enclave`
  pub measured_alike : (slot address : ℕ) → SharedEquivExcept enclave (measured one slot address) (measured other slot address)
  unfolding measured
  measured_alike slot address =
      let bytes = measurement_at table slot in
      equiv_with_slot table (with_bytes_at one_memory address bytes) (with_bytes_at other_memory address bytes) one_contexts other_contexts refl
      (write-alike (is_private table enclave) one_memory other_memory address bytes equal_outside) same_saved_contexts

  -- ---- a switch

  -- after a change of the state of `slot`, `enclave` is still live and has its old region
  same_region_and_live : length table ≡ slot_count → (slot : ℕ) (state : EnclaveState)
      → (region (with_state table slot state) enclave ≡ region table enclave) × (is_live (with_state table slot state) enclave ≡ true)
  same_region_and_live table_length slot state = same_for_record (slot_at table slot) refl
    where
      -- after a change of the state in the record of `slot`, `enclave` is still live and has its old region
      same_for_record : (maybe_info : Option SlotInfo) → slot_at table slot ≡ maybe_info
          → (let after = option_case maybe_info table (λ info. with_slot table slot (Some (record info { state = state }))) in
          (region after enclave ≡ region table enclave) × (is_live after enclave ≡ true))
      same_for_record None slot_is = (refl, live)
      same_for_record (Some info) slot_is =
          let new = Some (record info { state = state }) in
          elim (cases_eq enclave slot) [
            -- `enclave` is in `slot`: its record has a new state and the old region
            | inl is_slot ↦
                let new_record_at_slot =
                at_written_slot table slot new (omega (arith, table_length, live_in_range table slot info table_length slot_is)) in
                rw is_slot (
                  ap region_of new_record_at_slot ∙ sym (ap region_of slot_is),
                  ap (λ (maybe_info : Option SlotInfo). is_some maybe_info) new_record_at_slot,
                )
            -- `enclave` is in another slot: its record is unchanged
            | inr is_other ↦
                let unchanged = at_other_slot table slot enclave new is_other in
                (ap region_of unchanged, ap (λ (maybe_info : Option SlotInfo). is_some maybe_info) unchanged ∙ live)
          ]

  -- the same new state and saved context for `slot` leave two equivalent shared states equivalent except `enclave`
  pub switched_alike : length table ≡ slot_count → (slot : ℕ) (state : EnclaveState) (maybe_context : Option Context)
      → (let after = with_state table slot state in
      SharedEquivExcept enclave (record one { table = after; contexts = with_context one_contexts slot maybe_context })
      (record other { table = after; contexts = with_context other_contexts slot maybe_context }))
  switched_alike table_length slot state maybe_context =
      let (same_region, still_live) = same_region_and_live table_length slot state in
      equiv_with_region (with_state table slot state) one_memory other_memory (with_context one_contexts slot maybe_context)
      (with_context other_contexts slot maybe_context) same_region still_live equal_outside
      (contexts_with enclave one_contexts other_contexts slot maybe_context same_saved_contexts)
