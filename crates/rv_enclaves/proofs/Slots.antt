-- Lemmas about a table after a change of one slot, and about the checks of a create that compare the new blocks with the table.
use Rattle.std.proofs.Common.{◌≡◌, ◌≢◌, ℕ, zero, suc, ◌<◌, Bool, false, List, [], ◌∷◌, Option, Some, None, length, refl, inl, inr, arith}
use Rattle.std.proofs.Common.{get_or-set_same, get_or-set_other}
use Rattle.std.proofs.lemmas.Bool.{cases_lt, lt-ltb, or_parts}
use Rattle.std.proofs.lemmas.List.{get_or_past, set_past}
use Rattle.std.specs.Prelude.{slice_index_or, slice_set}
use Rattle.std.specs.List.{list_any}
use Rattle.rv_memory.proofs.BlockLaws.{meets_nothing}
use Rattle.rv_enclaves.specs.Create.{collides}
use Rattle.rv_enclaves.specs.SlotNumbers.{slot_count, slot_numbered}
use Rattle.rv_enclaves.proofs.Prelude.{Context, Contexts, EnclaveState, with_context, with_state}
use Rattle.rv_enclaves.proofs.Prelude.{CreateArgs, SlotInfo, Slots, meets, monitor_block, overlaps, region_of, slot_at, window_of}

-- ---- lists of options

-- after a write to `slot` of a list, `slot` has the new entry
pub at_written_slot : {A : Type 0} (list : List (Option A)) (slot : ℕ) (content : Option A) → slot < length list
    → slice_index_or (slice_set list slot content) slot None ≡ content
at_written_slot {A} list slot content in_range = get_or-set_same {A = Option A} list slot content None in_range

-- after a write to `slot` of a list, each other slot has its old entry
pub at_other_slot : {A : Type 0} (list : List (Option A)) (slot other : ℕ) (content : Option A) → other ≢ slot
    → slice_index_or (slice_set list slot content) other None ≡ slice_index_or list other None
at_other_slot {A} list slot other content is_other = get_or-set_other {A = Option A} list slot other content None is_other

-- a new state for the number after the last slot leaves the table unchanged
pub state_past : (table : Slots) (state : EnclaveState) → length table ≡ slot_count → with_state table slot_count state ≡ table
state_past table state table_length =
    let no_entry : slot_at table slot_count ≡ None = get_or_past {X = Option SlotInfo} table slot_count None (omega (arith, table_length)) in
    rw no_entry refl

-- a new context for the number after the last slot leaves the contexts unchanged
pub context_past : (contexts : Contexts) (maybe_context : Option Context) → length contexts ≡ slot_count
    → with_context contexts slot_count maybe_context ≡ contexts
context_past contexts maybe_context contexts_length = set_past {X = Option Context} contexts slot_count maybe_context (omega (arith, contexts_length))

-- a number that is not the number of a slot has no record
pub none_past : (table : Slots) (number : ℕ) → length table ≡ slot_count → slot_numbered number ≡ None → slot_at table number ≡ None
none_past table number table_length not_a_slot = elim (cases_lt number slot_count) [
  | inl in_range ↦ let number_is = rw (lt-ltb number slot_count in_range) at not_a_slot in cc
  | inr past_last ↦ get_or_past {X = Option SlotInfo} table number None (omega (arith, table_length, past_last))
]

-- if a test holds for no entry of a list, then it fails for the entry at each index, and for None after the end of the list
pub none_at : {A : Type 0} (test : Option A → Bool) (contents : List (Option A)) (index : ℕ) → test None ≡ false → list_any test contents ≡ false
    → test (slice_index_or contents index None) ≡ false
none_at test [] index none_fails none_holds = none_fails
none_at test (content ∷ contents) zero none_fails none_holds =
    let (first_fails, others_fail) = or_parts (test content) (list_any test contents) none_holds in
    first_fails
none_at test (content ∷ contents) (suc index) none_fails none_holds =
    let (first_fails, others_fail) = or_parts (test content) (list_any test contents) none_holds in
    none_at test contents index none_fails others_fail

-- ---- the checks of create

-- the new region meets neither the region nor the window of an enclave, and the new window does not meet the region of the enclave
pub record AreApart (new : CreateArgs) (maybe_info : Option SlotInfo) : Type 0 where
  -- the new region and the region of the enclave share no byte
  pub regions : meets new.region (region_of maybe_info) ≡ false
  -- the new region and the window of the enclave share no byte
  pub window : meets new.region (window_of maybe_info) ≡ false
  -- the new window and the region of the enclave share no byte
  pub new_window_outside_region : meets new.window (region_of maybe_info) ≡ false

-- a create that does not collide with a slot is apart from the blocks of this slot
pub apart_from : (new : CreateArgs) (maybe_info : Option SlotInfo) → collides new maybe_info ≡ false → AreApart new maybe_info
apart_from new None no_collision = record {
  regions = meets_nothing new.region;
  window = meets_nothing new.region;
  new_window_outside_region = meets_nothing new.window;
}
apart_from new (Some info) no_collision =
    let (regions_apart, others_apart) = or_parts (meets new.region info.region) _ no_collision in
    let (outside_window, window_outside) = or_parts (meets new.region info.window) (meets new.window info.region) others_apart in
    record { regions = regions_apart; window = outside_window; new_window_outside_region = window_outside }

-- The blocks of a create are free. The new region and the new window share no byte with the monitor's range or with each other. They share no byte
-- with the blocks of an enclave, except that windows may share bytes.
pub record IsFree (table : Slots) (new : CreateArgs) : Type 0 where
  pub region_free : meets monitor_block new.region ≡ false
  pub window_free : meets monitor_block new.window ≡ false
  pub own_blocks_apart : meets new.region new.window ≡ false
  pub others : (slot : ℕ) → AreApart new (slot_at table slot)

-- a create that passes the check `overlaps` has free blocks
pub free_from : (table : Slots) (new : CreateArgs) → overlaps table new ≡ false → IsFree table new
unfolding overlaps
free_from table new no_overlap =
    let (region_free, rest_free) = or_parts (meets monitor_block new.region) _ no_overlap in
    let (window_free, rest_apart) = or_parts (meets monitor_block new.window) _ rest_free in
    let (own_apart, no_collision) = or_parts (meets new.region new.window) (list_any (collides new) table) rest_apart in
    record {
      region_free = region_free;
      window_free = window_free;
      own_blocks_apart = own_apart;
      others = λ slot. apart_from new (slot_at table slot) (none_at (collides new) table slot refl no_collision);
    }
