-- The table of enclaves: thirteen slots, each free or with the record of a live enclave; and its invariant. (Keystone, EuroSys 2020, in this
-- project's profile.)
use Rattle.std.specs.Prelude.{◌≡◌, ◌≢◌, ℕ, ◌%◌, ◌==◌, Bool, true, false, ◌&&◌, ◌||◌, List, length, replicate, Option, Some, None, IfSome, slice_set}
use Rattle.std.specs.Prelude.{slice_index_or, is_some}
use Rattle.std.specs.Option.{is_none}
use Rattle.std.specs.List.{range_with_len, find, list_any}
use Rattle.rv_word.specs.Cases.{option_case}
use Rattle.rv_memory.specs.Memory.{is_ram_size}
use Rattle.rv_memory.specs.Blocks.{has, meets, monitor_block, no_block}
use Rattle.rv_enclaves.specs.ValidBlocks.{is_valid_block}
use Rattle.rv_enclaves.specs.SlotNumbers.{slot_count}
use Rattle.rv_memory.specs.declared.block.Block.{Block}
use Rattle.rv_enclaves.specs.declared.slot_info.EnclaveState.{EnclaveState}
use Rattle.rv_enclaves.specs.declared.slot_info.EnclaveState.TheVariants.{Running}
use Rattle.rv_enclaves.specs.declared.slot_info.SlotInfo.{SlotInfo}
use Rattle.rv_enclaves.specs.declared.world.World.{World}
use Rattle.rv_enclaves.specs.declared.world.World.TheVariants.{Host, Enclave}

-- the enclave table: a record for each slot with a live enclave
abbrev pub Slots : Type 0
Slots = List (Option SlotInfo)

-- the table without a live enclave
abbrev pub no_slots : Slots
no_slots = replicate slot_count None

-- the record in a slot, or None if the slot has no live enclave or its number is past the last slot
abbrev pub slot_at : Slots → ℕ → Option SlotInfo
slot_at table slot = slice_index_or table slot None

-- the table with a new record in `slot`, or with none in `slot`
abbrev pub with_slot : Slots → ℕ → Option SlotInfo → Slots
with_slot table slot info = slice_set table slot info

-- the lowest slot without an enclave, if there is one
unfoldable pub free_slot : Slots → Option ℕ
free_slot table = find (λ slot. is_none (slot_at table slot)) (range_with_len 0 slot_count)

-- the region of a record; a slot without an enclave has the empty block
abbrev pub region_of : Option SlotInfo → Block
region_of None = no_block
region_of (Some info) = info.region

-- the window of a record; a slot without an enclave has the empty block
abbrev pub window_of : Option SlotInfo → Block
window_of None = no_block
window_of (Some info) = info.window

-- the region of `slot`, empty if no enclave is live there
abbrev pub region : Slots → ℕ → Block
region table slot = region_of (slot_at table slot)

-- the window of `slot`, empty if no enclave is live there
abbrev pub window : Slots → ℕ → Block
window table slot = window_of (slot_at table slot)

-- whether a slot has a live enclave
abbrev pub is_live : Slots → ℕ → Bool
is_live table slot = is_some (slot_at table slot)

-- whether an address is in the region of some live enclave
abbrev pub is_in_region : Slots → ℕ → Bool
is_in_region table byte = list_any (λ slot. has (region table slot) byte) (range_with_len 0 slot_count)

-- ---- the state of an enclave

-- whether the state is Running
abbrev pub is_running : EnclaveState → Bool
is_running Running = true
is_running _ = false

-- whether an enclave in `slot` is live and Running
abbrev pub runs : Slots → ℕ → Bool
runs table slot = option_case (slot_at table slot) false (λ info. is_running info.state)

-- the table with a new state for the enclave in `slot`, or the same table if `slot` has no enclave
abbrev pub with_state : Slots → ℕ → EnclaveState → Slots
with_state table slot state =
    option_case (slot_at table slot) table (λ info. with_slot table slot (Some (record info { state = state })))

-- whether the world is the host
abbrev pub is_host : World → Bool
is_host Host = true
is_host (Enclave slot) = false

-- whether the world is the enclave in `slot`
abbrev pub is_world_of : ℕ → World → Bool
is_world_of slot Host = false
is_world_of slot (Enclave running) = running == slot

-- the slot of the enclave that runs; for the host, a number that is not the number of a slot
abbrev pub running_slot : World → ℕ
running_slot Host = slot_count
running_slot (Enclave slot) = slot

-- ---- the invariant

-- whether a block may be a window: a valid block, or the empty block, which means no window
unfoldable pub is_window : List ℕ → Block → Bool
is_window memory block = block.base == 0 && block.size == 0 || is_valid_block memory block

-- a live enclave has a valid region, a window or none, an entry point in its region that is a multiple of 4, and a measurement of 32 bytes
pub record IsValidSlot (memory : List ℕ) (info : SlotInfo) : Type 0 where
  pub region : is_valid_block memory info.region ≡ true
  pub window : is_window memory info.window ≡ true
  -- the entry point is a multiple of 4 in the region
  pub aligned : info.entry % 4 ≡ 0
  pub entry : has info.region info.entry ≡ true
  pub measured : length info.measurement ≡ 32

-- a valid table: its records are valid, and its regions share no byte with each other, with a window or with the monitor's range
pub record IsValid (memory : List ℕ) (table : Slots) : Type 0 where
  -- the RAM has a permitted size
  pub ram : is_ram_size (length memory) ≡ true
  -- the table has thirteen slots
  pub count : length table ≡ slot_count
  -- each record is valid
  pub well_formed : (slot : ℕ) → IfSome (slot_at table slot) (IsValidSlot memory)
  -- no two regions share a byte
  pub regions_apart : (other slot : ℕ) → other ≢ slot → meets (region table other) (region table slot) ≡ false
  -- no region shares a byte with a window
  pub windows_apart : (other slot : ℕ) → meets (region table other) (window table slot) ≡ false
  -- no region shares a byte with the monitor's range
  pub regions_free : (slot : ℕ) → meets monitor_block (region table slot) ≡ false
  -- no window shares a byte with the monitor's range
  pub windows_free : (slot : ℕ) → meets monitor_block (window table slot) ≡ false
