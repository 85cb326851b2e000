-- A table stays valid if the record of one slot changes to a record that fits, or if the memory changes but keeps its size.
use Rattle.std.proofs.Common.{◌≡◌, ◌≢◌, ℕ, ◌+◌, ◌<◌, false, List, Option, Some, None, IfSome, length, refl, sym, ap, ◌∙◌, subst, inl, inr, arith, length-set}
use Rattle.std.specs.Prelude.{◌&&◌, nat_le, ◌==◌, ◌%◌, ◌||◌}
use Rattle.std.proofs.lemmas.Bool.{cases_eq}
use Rattle.rv_enclaves.proofs.Prelude.{Block, EnclaveState, IsValidSlot, IsValid, SlotInfo, Slots, is_block_size, is_valid_block, is_ram_size, is_window, meets}
use Rattle.rv_enclaves.proofs.Prelude.{monitor_block, ram_base, region, region_of, slot_at, window, window_of, with_slot}
use Rattle.rv_memory.proofs.BlockLaws.{meets_symmetric, meets_nothing, nothing_meets}
use Rattle.rv_enclaves.proofs.Slots.{at_written_slot, at_other_slot}
use Rattle.rv_enclaves.specs.SlotNumbers.{slot_count}

-- a record fits into `slot` if it is valid, and its region and window do not meet the blocks of other slots that they must not meet
pub record FitsInSlot (memory : List ℕ) (table : Slots) (slot : ℕ) (maybe_info : Option SlotInfo) : Type 0 where
  pub well_formed : IfSome maybe_info (IsValidSlot memory)
  -- its region shares no byte with the region of another slot
  pub regions_apart : (other : ℕ) → other ≢ slot → meets (region_of maybe_info) (region table other) ≡ false
  -- its region shares no byte with the window of another slot
  pub region_outside_windows : (other : ℕ) → other ≢ slot → meets (region_of maybe_info) (window table other) ≡ false
  -- its window shares no byte with the region of another slot
  pub window_outside_regions : (other : ℕ) → other ≢ slot → meets (window_of maybe_info) (region table other) ≡ false
  -- its region and its window share no byte
  pub own_blocks_apart : meets (region_of maybe_info) (window_of maybe_info) ≡ false
  -- its region shares no byte with the monitor's range
  pub region_free : meets monitor_block (region_of maybe_info) ≡ false
  -- its window shares no byte with the monitor's range
  pub window_free : meets monitor_block (window_of maybe_info) ≡ false

-- `slot` of a valid table gets a new record, or none, which fits
module _ (memory : List ℕ) (table : Slots) (slot : ℕ) (maybe_info : Option SlotInfo) (table_valid : IsValid memory table) (inside : slot < slot_count)
    (fits : FitsInSlot memory table slot maybe_info) where
  -- the table after the change: `slot` has the new record
  abbrev after : Slots
  after = with_slot table slot maybe_info

  -- `slot` of the new table has the new record
  new_record_at_slot : slot_at after slot ≡ maybe_info
  new_record_at_slot = at_written_slot table slot maybe_info (omega (arith, table_valid.count))

  -- each other slot of the new table is unchanged
  other_slot_unchanged : (other : ℕ) → other ≢ slot → slot_at after other ≡ slot_at table other
  other_slot_unchanged other is_other = at_other_slot table slot other maybe_info is_other

  -- the region of `slot` of the new table is the region of the new record
  new_region_at_slot : region after slot ≡ region_of maybe_info
  new_region_at_slot = ap region_of new_record_at_slot

  -- the window of `slot` of the new table is the window of the new record
  new_window_at_slot : window after slot ≡ window_of maybe_info
  new_window_at_slot = ap window_of new_record_at_slot

  -- the region of each other slot is unchanged
  other_region_unchanged : (other : ℕ) → other ≢ slot → region after other ≡ region table other
  other_region_unchanged other is_other = ap region_of (other_slot_unchanged other is_other)

  -- the window of each other slot is unchanged
  other_window_unchanged : (other : ℕ) → other ≢ slot → window after other ≡ window table other
  other_window_unchanged other is_other = ap window_of (other_slot_unchanged other is_other)

  -- each record of the new table is valid
  well_formed_after : (each_slot : ℕ) → IfSome (slot_at after each_slot) (IsValidSlot memory)
  well_formed_after each_slot = elim (cases_eq each_slot slot) [
    | inl is_slot ↦
        let Valid : Option SlotInfo → Type 0 = λ changed. IfSome changed (IsValidSlot memory) in
        rw is_slot (subst Valid (sym new_record_at_slot) fits.well_formed)
    | inr is_other ↦
        let Valid : Option SlotInfo → Type 0 = λ changed. IfSome changed (IsValidSlot memory) in
        subst Valid (sym (other_slot_unchanged each_slot is_other)) (table_valid.well_formed each_slot)
  ]

  -- no two regions of the new table meet
  regions_after : (left right : ℕ) → left ≢ right → meets (region after left) (region after right) ≡ false
  regions_after left right distinct = elim (cases_eq left slot) [
    -- the left region is the new region
    | inl left_is_slot ↦ elim (cases_eq right slot) [
      -- both are the region of `slot`, but the two slots are distinct
      | inl right_is_slot ↦ absurd (distinct (left_is_slot ∙ sym right_is_slot))
      -- the right region is unchanged, and the new region fits: it does not meet the regions of other slots
      | inr right_is_other ↦
          rw left_is_slot
          (ap (λ block. meets block (region after right)) new_region_at_slot
          ∙ ap (meets (region_of maybe_info)) (other_region_unchanged right right_is_other) ∙ fits.regions_apart right right_is_other)
    ]
    -- the left region is unchanged
    | inr left_is_other ↦ elim (cases_eq right slot) [
      -- the right region is the new region, which does not meet the regions of other slots
      | inl right_is_slot ↦
          rw right_is_slot
          (ap (λ block. meets block (region after slot)) (other_region_unchanged left left_is_other)
          ∙ ap (meets (region table left)) new_region_at_slot
          ∙ meets_symmetric (region table left) (region_of maybe_info) ∙ fits.regions_apart left left_is_other)
      -- both regions are unchanged, and do not meet in the old table
      | inr right_is_other ↦
          ap (λ block. meets block (region after right)) (other_region_unchanged left left_is_other)
          ∙ ap (meets (region table left)) (other_region_unchanged right right_is_other)
          ∙ table_valid.regions_apart left right distinct
    ]
  ]

  -- no region of the new table meets a window
  windows_after : (left right : ℕ) → meets (region after left) (window after right) ≡ false
  windows_after left right = elim (cases_eq left slot) [
    -- the region is the new region
    | inl left_is_slot ↦ elim (cases_eq right slot) [
      -- the window is the new window: the new region and the new window do not meet
      | inl right_is_slot ↦
          rw (left_is_slot, right_is_slot)
          (ap (λ block. meets block (window after slot)) new_region_at_slot ∙ ap (meets (region_of maybe_info)) new_window_at_slot
          ∙ fits.own_blocks_apart)
      -- the window is unchanged, and the new region does not meet the windows of other slots
      | inr right_is_other ↦
          rw left_is_slot
          (ap (λ block. meets block (window after right)) new_region_at_slot
          ∙ ap (meets (region_of maybe_info)) (other_window_unchanged right right_is_other) ∙ fits.region_outside_windows right right_is_other)
    ]
    -- the region is unchanged
    | inr left_is_other ↦ elim (cases_eq right slot) [
      -- the window is the new window, which does not meet the regions of other slots
      | inl right_is_slot ↦
          rw right_is_slot
          (ap (λ block. meets block (window after slot)) (other_region_unchanged left left_is_other)
          ∙ ap (meets (region table left)) new_window_at_slot
          ∙ meets_symmetric (region table left) (window_of maybe_info) ∙ fits.window_outside_regions left left_is_other)
      -- the region and the window are unchanged, and do not meet in the old table
      | inr right_is_other ↦
          ap (λ block. meets block (window after right)) (other_region_unchanged left left_is_other)
          ∙ ap (meets (region table left)) (other_window_unchanged right right_is_other)
          ∙ table_valid.windows_apart left right
    ]
  ]

  -- no region of the new table meets the monitor's range
  region_free_after : (other : ℕ) → meets monitor_block (region after other) ≡ false
  region_free_after other = elim (cases_eq other slot) [
    | inl is_slot ↦ rw is_slot (ap (meets monitor_block) new_region_at_slot ∙ fits.region_free)
    | inr is_other ↦ ap (meets monitor_block) (other_region_unchanged other is_other) ∙ table_valid.regions_free other
  ]

  -- no window of the new table meets the monitor's range
  window_free_after : (other : ℕ) → meets monitor_block (window after other) ≡ false
  window_free_after other = elim (cases_eq other slot) [
    | inl is_slot ↦ rw is_slot (ap (meets monitor_block) new_window_at_slot ∙ fits.window_free)
    | inr is_other ↦ ap (meets monitor_block) (other_window_unchanged other is_other) ∙ table_valid.windows_free other
  ]

  -- a valid table stays valid if `slot` gets a record that fits
  pub valid_with : IsValid memory (with_slot table slot maybe_info)
  valid_with = record {
    ram = table_valid.ram;
    count = length-set table slot maybe_info ∙ table_valid.count;
    well_formed = well_formed_after;
    regions_apart = regions_after;
    windows_apart = windows_after;
    regions_free = region_free_after;
    windows_free = window_free_after;
  }

-- the absence of a record fits into each slot
pub nothing_fits : (memory : List ℕ) (table : Slots) (slot : ℕ) → FitsInSlot memory table slot None
nothing_fits memory table slot = record {
  well_formed = tt;
  regions_apart = λ other is_other. nothing_meets (region table other);
  region_outside_windows = λ other is_other. nothing_meets (window table other);
  window_outside_regions = λ other is_other. nothing_meets (region table other);
  own_blocks_apart = refl;
  region_free = meets_nothing monitor_block;
  window_free = meets_nothing monitor_block;
}

-- the record of a live enclave fits into its own slot with any state
pub own_fits : (memory : List ℕ) (table : Slots) (slot : ℕ) (info : SlotInfo) (state : EnclaveState) → IsValid memory table
    → slot_at table slot ≡ Some info
    → FitsInSlot memory table slot (Some (record info { state = state }))
own_fits memory table slot info state table_valid slot_is =
    let region_is : region table slot ≡ info.region = ap region_of slot_is in
    let window_is : window table slot ≡ info.window = ap window_of slot_is in
    let Valid : Option SlotInfo → Type 0 = λ record_at_slot. IfSome record_at_slot (IsValidSlot memory) in
    let slot_valid = subst Valid slot_is (table_valid.well_formed slot) in
    record {
      well_formed = record {
        region = slot_valid.region;
        window = slot_valid.window;
        aligned = slot_valid.aligned;
        entry = slot_valid.entry;
        measured = slot_valid.measured;
      };
      regions_apart =
          λ other is_other. ap (λ block. meets block (region table other)) (sym region_is)
          ∙ table_valid.regions_apart slot other (λ equal. is_other (sym equal));
      region_outside_windows =
          λ other is_other. ap (λ block. meets block (window table other)) (sym region_is) ∙ table_valid.windows_apart slot other;
      window_outside_regions =
          λ other is_other. ap (λ block. meets block (region table other)) (sym window_is) ∙ meets_symmetric (window table slot) (region table other)
          ∙ table_valid.windows_apart other slot;
      own_blocks_apart = ap (λ block. meets block info.window) (sym region_is) ∙ ap (meets (region table slot)) (sym window_is)
          ∙ table_valid.windows_apart slot slot;
      region_free = ap (meets monitor_block) (sym region_is) ∙ table_valid.regions_free slot;
      window_free = ap (meets monitor_block) (sym window_is) ∙ table_valid.windows_free slot;
    }

-- ---- memory of the same size

-- whether a block is valid depends on the memory only by the size of the memory
pub well_formed_by_size : (old_memory new_memory : List ℕ) (block : Block) → length old_memory ≡ length new_memory
    → is_valid_block old_memory block ≡ is_valid_block new_memory block
unfolding is_valid_block
well_formed_by_size old_memory new_memory block same_length =
    ap (λ memory_length. is_block_size block.size
    && (block.base % block.size == 0 && (nat_le ram_base block.base && nat_le (block.base + block.size) (ram_base + memory_length)))) same_length

-- whether a window is valid depends on the memory only by the size of the memory
pub window_by_size : (old_memory new_memory : List ℕ) (block : Block) → length old_memory ≡ length new_memory
    → is_window old_memory block ≡ is_window new_memory block
unfolding is_window
window_by_size old_memory new_memory block same_length =
    ap (λ is_valid. block.base == 0 && block.size == 0 || is_valid) (well_formed_by_size old_memory new_memory block same_length)

-- a valid record stays valid in a memory of the same size
slot_by_size : (old_memory new_memory : List ℕ) (maybe_info : Option SlotInfo) → length old_memory ≡ length new_memory
    → IfSome maybe_info (IsValidSlot old_memory) → IfSome maybe_info (IsValidSlot new_memory)
slot_by_size old_memory new_memory None same_length slot_valid = tt
slot_by_size old_memory new_memory (Some info) same_length slot_valid = record {
  region = sym (well_formed_by_size old_memory new_memory info.region same_length) ∙ slot_valid.region;
  window = sym (window_by_size old_memory new_memory info.window same_length) ∙ slot_valid.window;
  aligned = slot_valid.aligned;
  entry = slot_valid.entry;
  measured = slot_valid.measured;
}

-- a valid table stays valid with a memory of the same size
pub valid_by_size : (old_memory new_memory : List ℕ) (table : Slots) → length old_memory ≡ length new_memory → IsValid old_memory table
    → IsValid new_memory table
valid_by_size old_memory new_memory table same_length table_valid = record {
  ram = sym (ap is_ram_size same_length) ∙ table_valid.ram;
  count = table_valid.count;
  well_formed = λ slot. slot_by_size old_memory new_memory (slot_at table slot) same_length (table_valid.well_formed slot);
  regions_apart = table_valid.regions_apart;
  windows_apart = table_valid.windows_apart;
  regions_free = table_valid.regions_free;
  windows_free = table_valid.windows_free;
}
