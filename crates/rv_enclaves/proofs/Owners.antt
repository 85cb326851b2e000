-- Each PMP entry of the monitor's layout covers exactly the bytes of its block. The regions of a valid table share no byte with each other, with a
-- window or with the monitor's range.
use Rattle.std.proofs.Common.{◌≡◌, ◌≢◌, ℕ, ◌+◌, ◌-◌, ◌^◌, ◌<◌, ◌≤◌, Bool, true, false, List, length, Option, Some, None, IfSome, refl, sym, ◌∙◌, ap, ap₂, inl}
use Rattle.std.proofs.Common.{inr, arith, lit<, lit≤}
use Rattle.std.specs.Prelude.{◌%◌, ◌==◌, ◌&&◌, nat_le, nat_lt}
use Rattle.std.proofs.Math.Nat.{div-eq_of_lt}
use Rattle.std.proofs.lemmas.List.FromFn.{get_or-map-range_with_len}
use Rattle.std.proofs.lemmas.Bool.{cases_eq, cond-true, cond-false, eqb-true, eq-eqb, ne_eqb, lt-ltb, leb-true, cases_Bool, and_parts, or_cases}
use Rattle.std.proofs.lemmas.Bool.Decides.{nat_tests}
use Rattle.rv_pmp.specs.Cfg.{matching_of}
use Rattle.rv_pmp.specs.Entries.{addr_of, addr_before}
use Rattle.rv_pmp.specs.Covers.{matches, napot_size, ones_at_end}
use Rattle.rv_pmp.proofs.VerdictLemmas.{some_from_any}
use Rattle.rv_memory.specs.Blocks.{no_block}
use Rattle.rv_enclaves.specs.Layout.{Entry, napot, no_permission}
use Rattle.rv_enclaves.specs.SlotNumbers.{slot_count}
use Rattle.rv_enclaves.proofs.Prelude.{Block, Enclave, Host, IsValidSlot, IsValid, SlotInfo, Slots, World, cfg_of, covers, entry_at, has, host_entry}
use Rattle.rv_enclaves.proofs.Prelude.{is_block_size, is_host, is_valid_block, is_window, is_world_of, layout, monitor_block, ram_base, region}
use Rattle.rv_enclaves.proofs.Prelude.{region_entry, region_of, slot_at, window, window_entry, window_entry_of, window_of}
use Rattle.rv_memory.proofs.BlockLaws.{apart_at, apart_from}
use Rattle.rv_enclaves.proofs.Napots.{napot_addr, napot_matches}

-- ---- blocks

-- a block of size 0 has no byte
empty_has : (base size address : ℕ) → size ≡ 0 → (nat_le base address && nat_lt address (base + size)) ≡ false
empty_has base size address empty = grind (arith, nat_tests, empty)

-- the empty block has no byte
pub has_nothing : (address : ℕ) → has no_block address ≡ false
has_nothing address = empty_has 0 0 address refl

-- no byte is in two regions, in a region and a window, or in the monitor's range and a region or window
pub record IsApart (table : Slots) : Type 0 where
  pub regions_apart : (other slot address : ℕ) → other ≢ slot → has (region table other) address ≡ true → has (region table slot) address ≡ false
  pub windows_apart : (other slot address : ℕ) → has (region table other) address ≡ true → has (window table slot) address ≡ false
  pub regions_free : (slot address : ℕ) → has (region table slot) address ≡ true → has monitor_block address ≡ false
  pub windows_free : (slot address : ℕ) → has (window table slot) address ≡ true → has monitor_block address ≡ false

-- the regions of a valid table share no byte with each other, with a window or with the monitor's range
pub apart : (memory : List ℕ) (table : Slots) → IsValid memory table → IsApart table
apart memory table table_valid = record {
  regions_apart =
      λ other slot address is_other. apart_at (region table other) (region table slot) address (table_valid.regions_apart other slot is_other);
  windows_apart = λ other slot address. apart_at (region table other) (window table slot) address (table_valid.windows_apart other slot);
  regions_free = λ slot address. apart_from monitor_block (region table slot) address (table_valid.regions_free slot);
  windows_free = λ slot address. apart_from monitor_block (window table slot) address (table_valid.windows_free slot);
}

-- ---- the bytes that an entry for a block covers

-- the size of a block is a power of two from 2 ^ 12 on, the base is a multiple of the size, and the block is inside memory
pub record IsBlock (memory : List ℕ) (base size : ℕ) : Type 0 where
  -- the size is a power of two from 2 ^ 12 to 2 ^ 31
  pub power : (exponent : ℕ) × (12 ≤ exponent) × (exponent < 32) × (size ≡ 2 ^ exponent)
  pub aligned : base % size ≡ 0
  -- the block is inside memory
  pub from_ram_base : ram_base ≤ base
  pub to_ram_end : base + size ≤ ram_base + length memory

-- a block that passes the test `is_valid_block` has the properties `IsBlock`
pub valid_block : (memory : List ℕ) (block : Block) → is_valid_block memory block ≡ true → IsBlock memory block.base block.size
unfolding is_valid_block
valid_block memory block is_valid =
    let (size_test, aligned_and_inside_test) = and_parts (is_block_size block.size) _ is_valid in
    let (aligned_test, inside_test) = and_parts (block.base % block.size == 0) _ aligned_and_inside_test in
    let (base_in_ram, end_in_ram) = and_parts (nat_le ram_base block.base) _ inside_test in
    let (exponent, exponent_at_least_12, exponent_in_range, size_is_power) = some_from_any (λ exponent. block.size == 2 ^ exponent) 12 20 size_test in
    record {
      power = (exponent, exponent_at_least_12, omega (arith, exponent_in_range), eqb-true _ _ size_is_power);
      aligned = eqb-true _ _ aligned_test;
      from_ram_base = leb-true _ _ base_in_ram;
      to_ram_end = leb-true _ _ end_in_ram;
    }

-- the NAPOT entry for a valid block matches exactly the bytes of the block
block_covers : (memory : List ℕ) (block : Block) (previous address : ℕ) → length memory ≤ 0x1000000 → is_valid_block memory block ≡ true
    → matches (matching_of 0x18) previous (napot_addr block.base block.size) address ≡ has block address
block_covers memory block previous address ram_size is_valid =
    let block_valid = valid_block memory block is_valid in
    let (exponent, exponent_at_least_12, exponent_below_32, size_is_power) = block_valid.power in
    let exponent_from_3 : exponent ≡ (exponent - 3) + 3 = omega arith in
    let power : block.size ≡ 2 ^ ((exponent - 3) + 3) = size_is_power ∙ ap (λ exponent. 2 ^ exponent) exponent_from_3 in
    napot_matches block.base block.size (exponent - 3) previous address (omega arith) power block_valid.aligned
    (omega (arith, block_valid.to_ram_end))

-- the PMP entry of a slot matches exactly the bytes of the slot's region
region_covers : (memory : List ℕ) (world : World) (slot : ℕ) (maybe_info : Option SlotInfo) (previous address : ℕ) → length memory ≤ 0x1000000
    → IfSome maybe_info (IsValidSlot memory)
    → matches (matching_of (region_entry world slot maybe_info).cfg) previous (region_entry world slot maybe_info).addr address
    ≡ has (region_of maybe_info) address
region_covers memory world slot None previous address ram_size slot_valid = sym (has_nothing address)
region_covers memory world slot (Some info) previous address ram_size slot_valid =
    let covered = block_covers memory info.region previous address ram_size slot_valid.region in
    elim (cases_Bool (is_world_of slot world)) [
      | inl runs_enclave ↦ rw runs_enclave covered
      | inr runs_other ↦ rw runs_other covered
    ]

-- a window with at least one byte is a valid block
nonempty_window_is_block : (memory : List ℕ) (block : Block) → is_window memory block ≡ true → block.size ≢ 0 → is_valid_block memory block ≡ true
unfolding is_window
nonempty_window_is_block memory block is_window_valid nonempty = elim (or_cases (block.base == 0 && block.size == 0) _ is_window_valid) [
  | inl is_empty ↦
      let (base_is_0, size_is_0) = and_parts (block.base == 0) _ is_empty in
      absurd (nonempty (eqb-true _ _ size_is_0))
  | inr well_formed ↦ well_formed
]

-- the PMP entry of a window matches exactly the bytes of the window
window_covers : (memory : List ℕ) (maybe_info : Option SlotInfo) (previous address : ℕ) → length memory ≤ 0x1000000
    → IfSome maybe_info (IsValidSlot memory)
    → matches (matching_of (window_entry_of maybe_info).cfg) previous (window_entry_of maybe_info).addr address ≡ has (window_of maybe_info) address
window_covers memory None previous address ram_size slot_valid = sym (has_nothing address)
window_covers memory (Some info) previous address ram_size slot_valid = elim (cases_eq info.window.size 0) [
  | inl window_empty ↦ rw (eq-eqb _ _ window_empty) (sym (empty_has info.window.base info.window.size address window_empty))
  | inr window_nonempty ↦
      rw (ne_eqb _ _ window_nonempty)
      (block_covers memory info.window previous address ram_size (nonempty_window_is_block memory info.window slot_valid.window window_nonempty))
]

-- ---- the entries of the layout

-- the cfg byte of an entry of the layout is the cfg byte that `entry_at` gives for the number of the entry
pub cfg_of-layout : (table : Slots) (world : World) (entry : ℕ) → entry < 16 → cfg_of (layout table world) entry ≡ (entry_at table world entry).cfg
unfolding layout
cfg_of-layout table world entry in_range =
    get_or-map-range_with_len (λ number. (entry_at table world number).cfg) 0 16 entry entry 0 in_range (omega arith)

-- the pmpaddr value of an entry of the layout is the pmpaddr value that `entry_at` gives for the number of the entry
addr_of-layout : (table : Slots) (world : World) (entry : ℕ) → entry < 16 → addr_of (layout table world) entry ≡ (entry_at table world entry).addr
unfolding layout
addr_of-layout table world entry in_range =
    get_or-map-range_with_len (λ number. (entry_at table world number).addr) 0 16 entry entry 0 in_range (omega arith)

-- an entry of the layout covers the bytes that the entry from `entry_at` with the same number matches
covers-layout : (table : Slots) (world : World) (entry address : ℕ) → entry < 16
    → covers (layout table world) entry address
    ≡ matches (matching_of (entry_at table world entry).cfg) (addr_before (layout table world) entry) (entry_at table world entry).addr address
unfolding covers
covers-layout table world entry address in_range =
    ap₂ (λ cfg addr. matches (matching_of cfg) (addr_before (layout table world) entry) addr address) (cfg_of-layout table world entry in_range)
    (addr_of-layout table world entry in_range)

-- entry `slot` + 1 of the layout is the entry for the region of `slot`
pub entry_at-slot : (table : Slots) (world : World) (slot : ℕ) → slot < slot_count
    → entry_at table world (slot + 1) ≡ region_entry world slot (slot_at table slot)
unfolding entry_at
entry_at-slot table world slot in_range =
    let slot_number : slot + 1 - 1 ≡ slot = omega arith in
    cond-false _ _ _ (ne_eqb (slot + 1) 0 (λ is_zero. omega arith))
    ∙ cond-true _ _ _ (lt-ltb (slot + 1) 14 (omega arith))
    ∙ ap (λ number. region_entry world number (slot_at table number)) slot_number

-- entry 0 of the layout is the entry for the monitor's range, without permissions
pub entry_at-monitor : (table : Slots) (world : World) → entry_at table world 0 ≡ napot no_permission monitor_block
unfolding entry_at
entry_at-monitor table world = refl

-- entry 14 of the layout is the entry for the window of the world
pub entry_at-window : (table : Slots) (world : World) → entry_at table world 14 ≡ window_entry table world
unfolding entry_at
entry_at-window table world = refl

-- entry 15 of the layout covers all addresses while the host runs, and is off while an enclave runs
pub entry_at-host : (table : Slots) (world : World) → entry_at table world 15 ≡ host_entry world
unfolding entry_at
entry_at-host table world = refl

-- the window of the world: the window of the running enclave, or the empty block for the host
abbrev pub world_window : Slots → World → Block
world_window table Host = no_block
world_window table (Enclave slot) = window table slot

-- the PMP entry for the window of a world matches exactly the bytes of this window
window_owned : (memory : List ℕ) (table : Slots) (world : World) (previous address : ℕ) → length memory ≤ 0x1000000 → IsValid memory table
    → matches (matching_of (window_entry table world).cfg) previous (window_entry table world).addr address ≡ has (world_window table world) address
window_owned memory table Host previous address ram_size table_valid = sym (has_nothing address)
window_owned memory table (Enclave slot) previous address ram_size table_valid =
    window_covers memory (slot_at table slot) previous address ram_size (table_valid.well_formed slot)

-- a NAPOT entry whose pmpaddr value has only ones matches 2 ^ 35 bytes
all_ones_size : napot_size 0xffffffff ≡ 2 ^ 35
unfolding ones_at_end
all_ones_size = refl

-- PMP entry 15 matches each byte below 2 ^ 35 while the host runs, and no byte while an enclave runs
host_owned : (world : World) (previous address : ℕ) → address < 2 ^ 35
    → matches (matching_of (host_entry world).cfg) previous (host_entry world).addr address ≡ is_host world
host_owned (Enclave slot) previous address address_below = refl
host_owned Host previous address address_below =
    rw all_ones_size (eq-eqb _ _ (div-eq_of_lt address_below))

-- the address of a byte, and the PMP layout of a valid table and a world
module _ (memory : List ℕ) (table : Slots) (world : World) (ram_size : length memory ≤ 0x1000000) (table_valid : IsValid memory table)
    (address : ℕ) where
  -- if the entry from `entry_at` matches the byte if and only if `owned` holds, then so does the entry of the layout with the same number
  covers_if_matches : (entry : ℕ) (value : Entry) (owned : Bool) → entry < 16 → entry_at table world entry ≡ value
      → ((previous : ℕ) → matches (matching_of value.cfg) previous value.addr address ≡ owned) → covers (layout table world) entry address ≡ owned
  covers_if_matches entry value owned in_range entry_at_is matches_if_owned =
      covers-layout table world entry address in_range
      ∙ ap (λ (value : Entry). matches (matching_of value.cfg) (addr_before (layout table world) entry) value.addr address) entry_at_is
      ∙ matches_if_owned (addr_before (layout table world) entry)

  -- entry 0 of the layout covers exactly the bytes of the monitor's range
  pub covers_monitor : covers (layout table world) 0 address ≡ has monitor_block address
  covers_monitor =
      covers_if_matches 0 _ _ (lit< tt) (entry_at-monitor table world)
      (λ previous. napot_matches ram_base 0x10000 13 previous address (lit< tt) refl refl (lit≤ tt))

  -- entry `slot` + 1 of the layout covers exactly the bytes of the region of `slot`
  pub covers_slot : (slot : ℕ) → slot < slot_count → covers (layout table world) (slot + 1) address ≡ has (region table slot) address
  covers_slot slot in_range =
      covers_if_matches (slot + 1) _ _ (omega arith) (entry_at-slot table world slot in_range)
      (λ previous. region_covers memory world slot (slot_at table slot) previous address ram_size (table_valid.well_formed slot))

  -- entry 14 of the layout covers exactly the bytes of the world's window
  pub covers_window : covers (layout table world) 14 address ≡ has (world_window table world) address
  covers_window =
      covers_if_matches 14 _ _ (lit< tt) (entry_at-window table world)
      (λ previous. window_owned memory table world previous address ram_size table_valid)

  -- entry 15 of the layout covers every byte while the host runs, and no byte while an enclave runs
  pub covers_host : address < 2 ^ 35 → covers (layout table world) 15 address ≡ is_host world
  covers_host address_below =
      covers_if_matches 15 _ _ (lit< tt) (entry_at-host table world) (λ previous. host_owned world previous address address_below)
