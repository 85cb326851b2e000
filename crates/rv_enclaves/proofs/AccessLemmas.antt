-- Access control: under the PMP layout of the monitor, S and U are permitted an access if and only if the accessed bytes are accessible to the
-- running world.
use Rattle.std.proofs.Common.{◌≡◌, ◌≢◌, ℕ, ◌+◌, ◌-◌, ◌<◌, ◌≤◌, ◌⊎◌, ◌==◌, Bool, true, false, not, ◌&&◌, List, Option, Some, None, refl, sym, ◌∙◌, ap, inl}
use Rattle.std.proofs.Common.{inr, arith, lit<, length}
use Rattle.std.specs.Prelude.{nat_le, ◌%◌}
use Rattle.std.proofs.lemmas.List.{get_or_past}
use Rattle.std.specs.List.{list_any, list_all}
use Rattle.std.proofs.lemmas.Bool.{cases_lt, cases_eq, cases_Bool, eqb-true, eq-eqb, ne_eqb, both_ways, false≢true, or_left, or_right, or_cases, and_from}
use Rattle.std.proofs.lemmas.Bool.{and_parts, not-true, le-leb, leb-true, ltb-true, false_from_ne_true}
use Rattle.rv_pmp.specs.declared.mode.Mode.TheVariants.{U}
use Rattle.rv_pmp.specs.Cfg.{has_permission, grants}
use Rattle.rv_pmp.specs.Verdicts.{match_verdict, no_match_verdict}
use Rattle.rv_pmp.proofs.VerdictLemmas.{any_at, any_none, all_each, each_from_all, none_from_any, IsFirst, verdict_of_match}
use Rattle.rv_enclaves.proofs.Prelude.{Access, Enclave, Entries, Fetch, Host, IsValid, M, Mode, Read, S, SlotInfo, Slots, World, Write, bytes_from, bytes_in}
use Rattle.rv_enclaves.proofs.Prelude.{cfg_of, covers, has, host_entry, is_host, is_inside, is_ram_size, is_world_of, layout, monitor_block, permits}
use Rattle.rv_enclaves.proofs.Prelude.{ram_base, region, region_entry, region_of, slot_at, verdict, window, window_entry, window_entry_of, window_of}
use Rattle.rv_enclaves.proofs.Scans.{same_any, same_all, verdict_cases}
use Rattle.rv_enclaves.specs.Table.{is_in_region}
use Rattle.rv_enclaves.specs.Layout.{Entry, no_permission as nothing_cfg, all as all_cfg, read_write}
use Rattle.rv_enclaves.specs.AccessibleMemory.{is_accessible, host_has, LayoutAccessLaw, ApartLaw}
use Rattle.rv_enclaves.specs.SlotNumbers.{slot_count}
use Rattle.rv_word.specs.declared.width.Width.{Width}
use Rattle.rv_word.specs.declared.width.Width.TheVariants.{Byte, Half, Word}
use Rattle.rv_enclaves.proofs.Napots.{equal_if_equivalent}
use Rattle.rv_enclaves.proofs.Owners.{cfg_of-layout, entry_at-monitor, entry_at-slot, entry_at-window, entry_at-host, world_window, covers_monitor}
use Rattle.rv_enclaves.proofs.Owners.{covers_slot, covers_window, covers_host, has_nothing, IsApart, apart}
use Rattle.rv_enclaves.proofs.EqualMemory.{inside-bounds}

-- ---- verdicts in S and U

-- below mode M, an access without a matching PMP entry is denied
no_match_refuses : (mode : Mode) → mode ≢ M → permits (no_match_verdict mode) ≡ false
no_match_refuses U mode_below_m = refl
no_match_refuses S mode_below_m = refl
no_match_refuses M mode_below_m = absurd (mode_below_m refl)

-- below mode M, a PMP entry grants an access if and only if its cfg byte has the permission
grants-below_M : (mode : Mode) (access : Access) (cfg : ℕ) → mode ≢ M → grants mode access cfg ≡ has_permission access cfg
grants-below_M U access cfg mode_below_m = refl
grants-below_M S access cfg mode_below_m = refl
grants-below_M M access cfg mode_below_m = absurd (mode_below_m refl)

-- a matching PMP entry permits an access if and only if the entry covers all bytes of the access and grants the access
permits-match_verdict : (entries : Entries) (mode : Mode) (access : Access) (entry : ℕ) (covers_all : Bool)
    → permits (match_verdict entries mode access entry covers_all) ≡ (covers_all && grants mode access (cfg_of entries entry))
permits-match_verdict entries mode access entry false = refl
permits-match_verdict entries mode access entry true = elim (cases_Bool (grants mode access (cfg_of entries entry))) [
  | inl granted ↦ rw granted refl
  | inr refused ↦ rw refused refl
]

-- ---- the permissions of each entry's cfg byte

-- A cfg byte without permissions permits no access. Each case holds by computation.
no_permission_refuses : (access : Access) → has_permission access nothing_cfg ≡ false
no_permission_refuses Fetch = refl
no_permission_refuses Read = refl
no_permission_refuses Write = refl

-- A cfg byte that switches its entry off permits no access. Each case holds by computation.
off_refuses : (access : Access) → has_permission access 0 ≡ false
off_refuses Fetch = refl
off_refuses Read = refl
off_refuses Write = refl

-- a cfg byte with R, W and X permits every access
rwx_permits : (access : Access) → has_permission access all_cfg ≡ true
rwx_permits Fetch = refl
rwx_permits Read = refl
rwx_permits Write = refl

-- the PMP entry of a slot gives a permission only to the enclave in this slot
region_permits_only_enclave : (world : World) (slot : ℕ) (maybe_info : Option SlotInfo) (access : Access)
    → has_permission access (region_entry world slot maybe_info).cfg ≡ true
    → is_world_of slot world ≡ true
region_permits_only_enclave world slot None access permission = absurd (both_ways _ (off_refuses access) permission)
region_permits_only_enclave world slot (Some info) access permission = elim (cases_Bool (is_world_of slot world)) [
  | inl runs_enclave ↦ runs_enclave
  | inr runs_other ↦
      let no_permission_given = rw runs_other at permission in
      absurd (both_ways _ (no_permission_refuses access) no_permission_given)
]

-- the PMP entry of a slot whose region has a byte gives every permission to the enclave in this slot
region_permits_enclave : (world : World) (slot : ℕ) (maybe_info : Option SlotInfo) (access : Access) (address : ℕ) → is_world_of slot world ≡ true
    → has (region_of maybe_info) address ≡ true
    → has_permission access (region_entry world slot maybe_info).cfg ≡ true
region_permits_enclave world slot None access address runs_enclave in_region = absurd (both_ways _ (has_nothing address) in_region)
region_permits_enclave world slot (Some info) access address runs_enclave in_region = rw runs_enclave (rwx_permits access)

-- a cfg byte with R and W permits loads and stores
read_or_write : (access : Access) → access ≢ Fetch → has_permission access read_write ≡ true
read_or_write Fetch no_fetch = absurd (no_fetch refl)
read_or_write Read no_fetch = refl
read_or_write Write no_fetch = refl

-- PMP entry 15 permits every access while the host runs
host_entry_permits_host : (world : World) (access : Access) → is_host world ≡ true → has_permission access (host_entry world).cfg ≡ true
host_entry_permits_host Host access host_runs = rwx_permits access
host_entry_permits_host (Enclave slot) access host_runs = absurd (false≢true host_runs)

-- if PMP entry 15 permits some access, then the host runs
host_entry_permits_only_host : (world : World) (access : Access) → has_permission access (host_entry world).cfg ≡ true → is_host world ≡ true
host_entry_permits_only_host Host access permission = refl
host_entry_permits_only_host (Enclave slot) access permission = absurd (both_ways _ (off_refuses access) permission)

-- the PMP entry of a window permits no fetch
window_permits_no_fetch : (maybe_info : Option SlotInfo) → has_permission Fetch (window_entry_of maybe_info).cfg ≡ false
window_permits_no_fetch None = refl
window_permits_no_fetch (Some info) = elim (cases_Bool (info.window.size == 0)) [
  | inl window_empty ↦ rw window_empty refl
  | inr window_nonempty ↦ rw window_nonempty refl
]

-- the PMP entry of a window that has a byte permits loads and stores
window_permits_loads_and_stores : (maybe_info : Option SlotInfo) (access : Access) (address : ℕ) → access ≢ Fetch
    → has (window_of maybe_info) address ≡ true
    → has_permission access (window_entry_of maybe_info).cfg ≡ true
window_permits_loads_and_stores None access address no_fetch in_window = absurd (both_ways _ (has_nothing address) in_window)
window_permits_loads_and_stores (Some info) access address no_fetch in_window =
    let (not_below_base, below_end) = and_parts _ _ in_window in
    let from_base = leb-true info.window.base address not_below_base in
    let before_end = ltb-true address (info.window.base + info.window.size) below_end in
    let window_nonempty = ne_eqb info.window.size 0 (λ size_is_0. omega arith) in
    rw window_nonempty (read_or_write access no_fetch)

-- ---- accessible memory, by world

-- a world that passes the test `is_world_of slot` is the enclave in this slot
pub world_is_enclave : (slot : ℕ) (world : World) → is_world_of slot world ≡ true → world ≡ Enclave slot
world_is_enclave slot Host runs_enclave = absurd (false≢true runs_enclave)
world_is_enclave slot (Enclave running) runs_enclave = ap Enclave (eqb-true running slot runs_enclave)

-- the bytes of a region are accessible to the enclave of this region
region_is_accessible : (memory : List ℕ) (table : Slots) (world : World) (access : Access) (bytes : List ℕ) (slot : ℕ) → is_world_of slot world ≡ true
    → list_all (has (region table slot)) bytes ≡ true → is_accessible memory table world access bytes ≡ true
unfolding is_accessible
region_is_accessible memory table world access bytes slot runs_enclave all_in_region =
    rw (world_is_enclave slot world runs_enclave) (or_left _ _ all_in_region)

-- the bytes of a window are accessible to the enclave of this window, if PMP entry 14 has the permission for the access
window_is_accessible : (memory : List ℕ) (table : Slots) (world : World) (access : Access) (bytes : List ℕ)
    → has_permission access (window_entry table world).cfg ≡ true → list_all (has (world_window table world)) bytes ≡ true
    → is_accessible memory table world access bytes ≡ true
unfolding is_accessible
window_is_accessible memory table Host access bytes permission all_in_window = absurd (both_ways _ (off_refuses access) permission)
window_is_accessible memory table (Enclave slot) Fetch bytes permission all_in_window =
    absurd (both_ways _ (window_permits_no_fetch (slot_at table slot)) permission)
window_is_accessible memory table (Enclave slot) Read bytes permission all_in_window = or_right _ _ (or_left _ _ all_in_window)
window_is_accessible memory table (Enclave slot) Write bytes permission all_in_window = or_right _ _ (or_left _ _ all_in_window)

-- bytes that belong to the host are accessible to the host
host_bytes_are_accessible : (memory : List ℕ) (table : Slots) (world : World) (access : Access) (bytes : List ℕ) → is_host world ≡ true
    → list_all (host_has memory table) bytes ≡ true → is_accessible memory table world access bytes ≡ true
unfolding is_accessible
host_bytes_are_accessible memory table Host access bytes host_runs all_of_host = or_left _ _ all_of_host
host_bytes_are_accessible memory table (Enclave slot) access bytes host_runs all_of_host = absurd (false≢true host_runs)

-- accessible bytes are all in the region of the running enclave, all in its window, or all bytes of the host
accessible_cases : (memory : List ℕ) (table : Slots) (world : World) (access : Access) (bytes : List ℕ)
    → is_accessible memory table world access bytes ≡ true →
    ((is_host world ≡ true) × (list_all (host_has memory table) bytes ≡ true))
    ⊎ ((slot : ℕ) × (world ≡ Enclave slot)
    × ((list_all (has (region table slot)) bytes ≡ true) ⊎ ((access ≢ Fetch) × (list_all (has (window table slot)) bytes ≡ true))))
unfolding is_accessible
-- the host reaches its own bytes
accessible_cases memory table Host access bytes accessible =
    elim (or_cases _ _ accessible) [ inl all_of_host ↦ inl (refl, all_of_host) | inr contradiction ↦ absurd (false≢true contradiction) ]
-- an enclave fetches only from its region
accessible_cases memory table (Enclave slot) Fetch bytes accessible =
    elim (or_cases _ _ accessible) [ inl all_in_region ↦ inr (slot, refl, inl all_in_region) | inr contradiction ↦ absurd (false≢true contradiction) ]
-- an enclave loads from its region or its window, and stores there
accessible_cases memory table (Enclave slot) Read bytes accessible = elim (or_cases _ _ accessible) [
  | inl all_in_region ↦ inr (slot, refl, inl all_in_region)
  | inr not_in_region ↦
      elim (or_cases _ _ not_in_region) [
        | inl all_in_window ↦ inr (slot, refl, inr (λ is_fetch. cc, all_in_window))
        | inr contradiction ↦ absurd (false≢true contradiction)
      ]
]
accessible_cases memory table (Enclave slot) Write bytes accessible = elim (or_cases _ _ accessible) [
  | inl all_in_region ↦ inr (slot, refl, inl all_in_region)
  | inr not_in_region ↦
      elim (or_cases _ _ not_in_region) [
        | inl all_in_window ↦ inr (slot, refl, inr (λ is_fetch. cc, all_in_window))
        | inr contradiction ↦ absurd (false≢true contradiction)
      ]
]

-- one byte at an address between the two ends of RAM is inside memory
inside_from : (memory : List ℕ) (address : ℕ) → ram_base ≤ address → address < ram_base + length memory → is_inside memory address 1 ≡ true
inside_from memory address from_ram_base before_ram_end =
    and_from _ _ (le-leb ram_base address from_ram_base) (le-leb (address + 1) (ram_base + length memory) (omega arith))

-- the number of a PMP entry is 0 (the monitor's range), `slot` + 1 (a slot's region), 14 (the window) or 15 (the rest of memory)
pub entry_cases : (entry : ℕ) → entry < 16 → (entry ≡ 0) ⊎ (((slot : ℕ) × (slot < slot_count) × (entry ≡ slot + 1)) ⊎ ((entry ≡ 14) ⊎ (entry ≡ 15)))
entry_cases entry in_range = elim (cases_eq entry 0) [
  | inl is_monitor ↦ inl is_monitor
  | inr not_monitor ↦ elim (cases_lt entry 14) [
    | inl before_window ↦ inr (inl (entry - 1, omega arith, omega arith))
    | inr from_window ↦ elim (cases_eq entry 14) [ inl is_window ↦ inr (inr (inl is_window)) | inr is_host_entry ↦ inr (inr (inr (omega arith))) ]
  ]
]

-- the host has no window
no_window : (table : Slots) (world : World) (address : ℕ) → is_host world ≡ true → has (world_window table world) address ≡ false
no_window table Host address host_runs = has_nothing address
no_window table (Enclave slot) address host_runs = absurd (false≢true host_runs)

-- a slot whose region has a byte is one of the slots of the table
slot_in_range : (memory : List ℕ) (table : Slots) (world : World) (slot address : ℕ) → IsValid memory table
    → has (region table slot) address ≡ true → slot < slot_count
slot_in_range memory table world slot address table_valid in_region = elim (cases_lt slot slot_count) [
  | inl in_range ↦ in_range
  | inr past_last ↦
      let nothing : slot_at table slot ≡ None = get_or_past table slot None (omega (arith, table_valid.count)) in
      absurd (both_ways _ (has_nothing address) (sym (ap (λ maybe_info. has (region_of maybe_info) address) nothing) ∙ in_region))
]

-- bytes that are accessible to a world are in no region of another enclave
pub accessible_apart : (memory : List ℕ) (table : Slots) (world : World) (access : Access) (start size slot : ℕ) → IsValid memory table
    → is_world_of slot world ≡ false
    → is_accessible memory table world access (bytes_from start size) ≡ true → (address : ℕ) → start ≤ address → address < start + size
    → has (region table slot) address ≡ false
accessible_apart memory table world access start size slot table_valid runs_other accessible address from_start before_end =
    let apart_bytes = apart memory table table_valid in
    elim (accessible_cases memory table world access (bytes_from start size) accessible) [
      -- the host runs: its bytes are in no region
      | inl (host_runs, all_of_host) ↦
          -- a byte of the host is in RAM, outside the monitor's range and in no region
          let (in_ram, outside_blocks) =
          and_parts (is_inside memory address 1) _ (each_from_all (host_has memory table) start size all_of_host address from_start before_end) in
          let (outside_monitor, in_no_region) = and_parts (not (has monitor_block address)) (not (is_in_region table address)) outside_blocks in
          false_from_ne_true _ (λ in_its_region. both_ways _
          (none_from_any (λ other. has (region table other) address) 0 slot_count (not-true _ in_no_region) slot (omega arith)
          (slot_in_range memory table world slot address table_valid in_its_region))
          in_its_region)
      -- an enclave runs: its region and its window share no byte with another region
      | inr (running, world_is, all_in_block) ↦
          let other_enclave : running ≢ slot = λ is_equal. both_ways _ runs_other (rw world_is (eq-eqb running slot is_equal)) in
          elim all_in_block [
            | inl all_in_region ↦
                apart_bytes.regions_apart running slot address other_enclave
                (each_from_all (has (region table running)) start size all_in_region address from_start before_end)
            | inr (no_fetch, all_in_window) ↦
                false_from_ne_true _
                (λ in_its_region. both_ways _ (apart_bytes.windows_apart slot running address in_its_region)
                (each_from_all (has (window table running)) start size all_in_window address from_start before_end))
          ]
    ]

-- ---- permitted accesses are accessible

-- A world accesses `size` bytes from the address `start` on, in mode S or U. The bytes are in RAM, and the table is valid. The hart has the PMP
-- layout of the table and the world.
module _ (memory : List ℕ) (table : Slots) (world : World) (mode : Mode) (access : Access) (start size : ℕ) (ram_size : length memory ≤ 0x1000000)
    (table_valid : IsValid memory table) (mode_below_m : mode ≢ M) (has_bytes : 0 < size)
    (inside : (ram_base ≤ start) × (start + size ≤ ram_base + length memory)) where
  -- the PMP entries of the layout for the table and the world
  abbrev entries : Entries
  entries = layout table world

  -- the regions share no byte with each other or with a window
  apart_bytes : IsApart table
  apart_bytes = apart memory table table_valid

  -- the addresses of the bytes of the access
  abbrev bytes : List ℕ
  bytes = bytes_from start size

  -- PMP entry `slot` + 1 matches all bytes of the access if and only if all these bytes are in the region of this slot
  all_slot : (slot : ℕ) → slot < slot_count → list_all (covers entries (slot + 1)) bytes ≡ list_all (has (region table slot)) bytes
  all_slot slot slot_in_bounds =
      same_all _ _ start size (λ address from_start before_end. covers_slot memory table world ram_size table_valid address slot slot_in_bounds)

  -- PMP entry `slot` + 1 matches some byte of the access if and only if some byte is in the region of this slot
  any_slot : (slot : ℕ) → slot < slot_count → list_any (covers entries (slot + 1)) bytes ≡ list_any (has (region table slot)) bytes
  any_slot slot slot_in_bounds =
      same_any _ _ start size (λ address from_start before_end. covers_slot memory table world ram_size table_valid address slot slot_in_bounds)

  -- PMP entry 0 matches some byte of the access if and only if some byte is in the monitor's range
  any_monitor : list_any (covers entries 0) bytes ≡ list_any (has monitor_block) bytes
  any_monitor = same_any _ _ start size (λ address from_start before_end. covers_monitor memory table world ram_size table_valid address)

  -- PMP entry 14 matches all bytes of the access if and only if all these bytes are in the window of the world
  all_window : list_all (covers entries 14) bytes ≡ list_all (has (world_window table world)) bytes
  all_window = same_all _ _ start size (λ address from_start before_end. covers_window memory table world ram_size table_valid address)

  -- PMP entry 14 matches some byte of the access if and only if some byte is in the window of the world
  any_window : list_any (covers entries 14) bytes ≡ list_any (has (world_window table world)) bytes
  any_window = same_any _ _ start size (λ address from_start before_end. covers_window memory table world ram_size table_valid address)

  -- an entry of the layout grants the access if and only if its cfg byte has the permission
  grants_if_cfg : (entry : ℕ) (cfg : ℕ) → cfg_of entries entry ≡ cfg → grants mode access (cfg_of entries entry) ≡ has_permission access cfg
  grants_if_cfg entry cfg cfg_of_is = grants-below_M mode access _ mode_below_m ∙ ap (has_permission access) cfg_of_is

  -- the cfg byte of PMP entry `slot` + 1 is the cfg byte for the region of this slot
  cfg_of-slot : (slot : ℕ) → slot < slot_count → cfg_of entries (slot + 1) ≡ (region_entry world slot (slot_at table slot)).cfg
  cfg_of-slot slot slot_in_bounds =
      cfg_of-layout table world (slot + 1) (omega arith) ∙ ap (λ (entry : Entry). entry.cfg) (entry_at-slot table world slot slot_in_bounds)

  -- the cfg byte of PMP entry 0 has no permission
  cfg_of-monitor : cfg_of entries 0 ≡ nothing_cfg
  cfg_of-monitor = cfg_of-layout table world 0 (lit< tt) ∙ ap (λ (entry : Entry). entry.cfg) (entry_at-monitor table world)

  -- the cfg byte of PMP entry 14 is the cfg byte for the window of the world
  cfg_of-window : cfg_of entries 14 ≡ (window_entry table world).cfg
  cfg_of-window = cfg_of-layout table world 14 (lit< tt) ∙ ap (λ (entry : Entry). entry.cfg) (entry_at-window table world)

  -- the cfg byte of PMP entry 15 is the cfg byte of the entry for the host
  cfg_of-host : cfg_of entries 15 ≡ (host_entry world).cfg
  cfg_of-host = cfg_of-layout table world 15 (lit< tt) ∙ ap (λ (entry : Entry). entry.cfg) (entry_at-host table world)

  -- bytes that no PMP entry before entry 15 covers belong to the host
  uncovered_is_host : ((entry : ℕ) → entry < 15 → list_any (covers entries entry) bytes ≡ false) → list_all (host_has memory table) bytes ≡ true
  uncovered_is_host none_covers = all_each (host_has memory table) start size (λ address from_start before_end.
      let not_in_monitor = none_from_any (has monitor_block) start size (sym any_monitor ∙ none_covers 0 (lit< tt)) address from_start before_end in
      let in_no_region =
      any_none (λ slot. has (region table slot) address) 0 slot_count
      (λ slot _from_0 slot_in_bounds.
      none_from_any (has (region table slot)) start size
      (sym (any_slot slot slot_in_bounds) ∙ none_covers (slot + 1) (omega arith)) address from_start before_end) in
      let (from_ram_base, to_ram_end) = inside in
      let in_ram : is_inside memory address 1 ≡ true = inside_from memory address (omega (arith, from_ram_base)) (omega (arith, to_ram_end)) in
      and_from _ _ in_ram (and_from _ _ (ap not not_in_monitor) (ap not in_no_region)))

  -- if the first matching PMP entry covers all bytes of the access and grants the access, then these bytes are accessible to the world
  accessible_if_granted : (entry : ℕ) → IsFirst (λ lower. list_any (covers entries lower) bytes) 0 16 entry
      → list_all (covers entries entry) bytes ≡ true
      → grants mode access (cfg_of entries entry) ≡ true → is_accessible memory table world access bytes ≡ true
  accessible_if_granted entry first_match covered permission = elim (entry_cases entry first_match.high) [
    -- entry 0 has no permission
    | inl is_monitor ↦
        let granted_by_entry = rw is_monitor at permission in
        absurd (both_ways _ (no_permission_refuses access) (sym (grants_if_cfg 0 _ cfg_of-monitor) ∙ granted_by_entry))
    | inr not_monitor ↦ elim not_monitor [
      -- the entry of a region has permissions only while the enclave of this region runs
      | inl (slot, slot_in_bounds, is_slot_entry) ↦
          let covered_by_entry = rw is_slot_entry at covered in
          let granted_by_entry = rw is_slot_entry at permission in
          region_is_accessible memory table world access bytes slot
          (region_permits_only_enclave world slot (slot_at table slot) access
          (sym (grants_if_cfg (slot + 1) _ (cfg_of-slot slot slot_in_bounds)) ∙ granted_by_entry))
          (sym (all_slot slot slot_in_bounds) ∙ covered_by_entry)
      | inr from_window ↦ elim from_window [
        -- entry 14 covers the window of the running enclave
        | inl is_window ↦
            let covered_by_entry = rw is_window at covered in
            let granted_by_entry = rw is_window at permission in
            window_is_accessible memory table world access bytes (sym (grants_if_cfg 14 _ cfg_of-window) ∙ granted_by_entry)
            (sym all_window ∙ covered_by_entry)
        -- entry 15 has permissions only while the host runs, and no lower entry covers a byte of the access
        | inr is_host_entry ↦
            let granted_by_entry = rw is_host_entry at permission in
            host_bytes_are_accessible memory table world access bytes
            (host_entry_permits_only_host world access (sym (grants_if_cfg 15 _ cfg_of-host) ∙ granted_by_entry))
            (uncovered_is_host (λ lower is_lower. first_match.first lower (omega arith) (omega arith)))
      ]
    ]
  ]

  -- if the layout permits an access, then the accessed bytes are accessible to the world
  accessible_if_permitted : permits (verdict entries mode access bytes) ≡ true → is_accessible memory table world access bytes ≡ true
  accessible_if_permitted permitted = elim (verdict_cases entries mode access bytes) [
    | inl (entry, verdict_is, first_match) ↦
        let covers_all = list_all (covers entries entry) bytes in
        let (covered, granted) =
        and_parts covers_all (grants mode access (cfg_of entries entry))
        (sym (permits-match_verdict entries mode access entry covers_all) ∙ ap permits (sym verdict_is) ∙ permitted) in
        accessible_if_granted entry first_match covered granted
    | inr none_matches ↦ absurd (both_ways _ (no_match_refuses mode mode_below_m) (ap permits (sym none_matches) ∙ permitted))
  ]

  -- if a PMP entry covers all bytes of the access and grants the access, and no lower entry covers any of these bytes, then the layout permits the
  -- access
  permitted_if_granted : (entry : ℕ) → entry < 16 → list_all (covers entries entry) bytes ≡ true → grants mode access (cfg_of entries entry) ≡ true
      → ((lower : ℕ) → lower < entry → list_any (covers entries lower) bytes ≡ false) → permits (verdict entries mode access bytes) ≡ true
  permitted_if_granted entry in_range covered permission none_lower_matches =
      let matches_some =
      any_at (covers entries entry) start size start (omega arith) (omega arith)
      (each_from_all (covers entries entry) start size covered start (omega arith) (omega arith)) in
      ap permits (verdict_of_match entries mode access bytes entry in_range matches_some none_lower_matches)
      ∙ permits-match_verdict entries mode access entry _
      ∙ and_from _ _ covered permission

  -- entry 15 of the layout permits the host to access the bytes that belong to the host
  permitted_by_host : is_host world ≡ true → list_all (host_has memory table) bytes ≡ true → permits (verdict entries mode access bytes) ≡ true
  permitted_by_host host_runs all_of_host =
      -- each accessed byte of the host is in RAM, and outside the monitor's range and all regions
      let outside_blocks : (address : ℕ) → start ≤ address → address < start + size
      → (not (has monitor_block address) && not (is_in_region table address)) ≡ true = λ address from_start before_end.
      let (_, outside) =
      and_parts (is_inside memory address 1) _ (each_from_all (host_has memory table) start size all_of_host address from_start before_end) in
      outside in
      let each_outside_monitor : (address : ℕ) → start ≤ address → address < start + size → has monitor_block address ≡ false =
      λ address from_start before_end.
      let (outside_monitor, _) =
      and_parts (not (has monitor_block address)) (not (is_in_region table address)) (outside_blocks address from_start before_end) in
      not-true _ outside_monitor in
      let each_in_no_region : (address : ℕ) → start ≤ address → address < start + size → is_in_region table address ≡ false =
      λ address from_start before_end.
      let (_, in_no_region) =
      and_parts (not (has monitor_block address)) (not (is_in_region table address)) (outside_blocks address from_start before_end) in
      not-true _ in_no_region in
      let (_, to_ram_end) = inside in
      -- entry 15 covers every byte and grants the access, and each lower entry covers none of the bytes
      permitted_if_granted 15 (lit< tt)
      (all_each (covers entries 15) start size
      (λ address from_start before_end.
      covers_host memory table world ram_size table_valid address (omega (arith, to_ram_end, ram_size)) ∙ host_runs))
      (grants_if_cfg 15 _ cfg_of-host ∙ host_entry_permits_host world access host_runs)
      (λ lower is_lower. elim (entry_cases lower (omega arith)) [
        -- entry 0 covers only bytes of the monitor's range
        | inl is_monitor ↦ rw is_monitor (any_monitor ∙ any_none (has monitor_block) start size each_outside_monitor)
        | inr not_monitor ↦ elim not_monitor [
          -- the entry of a slot covers only bytes of the region of this slot
          | inl (other, other_in_bounds, is_other_entry) ↦
              rw is_other_entry (any_slot other other_in_bounds ∙ any_none (has (region table other)) start size (λ address from_start before_end.
              none_from_any (λ slot. has (region table slot) address) 0 slot_count (each_in_no_region address from_start before_end) other
              (omega arith) (omega (arith, other_in_bounds))))
          | inr from_window ↦ elim from_window [
            -- entry 14 covers no byte, because the host has no window
            | inl is_window ↦
                rw is_window
                (any_window ∙ any_none (has (world_window table world)) start size
                (λ address from_start before_end. no_window table world address host_runs))
            -- entry 15 is not lower than itself
            | inr is_host_entry ↦ absurd (omega arith)
          ]
        ]
      ])

  -- the PMP entry of a region permits its enclave every access to the bytes of this region
  permitted_by_region : (slot : ℕ) → world ≡ Enclave slot → list_all (has (region table slot)) bytes ≡ true
      → permits (verdict entries mode access bytes) ≡ true
  permitted_by_region slot world_is_slot all_in_region =
      let each_in_region = each_from_all (has (region table slot)) start size all_in_region in
      let first_in_range = each_in_region start (omega arith) (omega arith) in
      let in_range = slot_in_range memory table world slot start table_valid first_in_range in
      let runs_enclave : is_world_of slot world ≡ true = rw world_is_slot (eq-eqb slot slot refl) in
      -- the region shares no byte with the monitor's range or another region, which are the only blocks of lower entries
      permitted_if_granted (slot + 1) (omega arith)
      (all_slot slot in_range ∙ all_in_region)
      (grants_if_cfg (slot + 1) _ (cfg_of-slot slot in_range)
      ∙ region_permits_enclave world slot (slot_at table slot) access start runs_enclave first_in_range)
      (λ lower is_lower. elim (entry_cases lower (omega arith)) [
        -- entry 0 covers only bytes of the monitor's range, which shares no byte with a region
        | inl is_monitor ↦
            rw is_monitor
            (any_monitor
            ∙ any_none (has monitor_block) start size
            (λ address from_start before_end. apart_bytes.regions_free slot address (each_in_region address from_start before_end)))
        | inr not_monitor ↦ elim not_monitor [
          -- the entry of another slot covers only bytes of its region, which shares no byte with the region of `slot`
          | inl (other, other_in_bounds, is_other_entry) ↦
              let other_slot : slot ≢ other = omega (arith, is_other_entry) in
              rw is_other_entry
              (any_slot other other_in_bounds
              ∙ any_none (has (region table other)) start size
              (λ address from_start before_end.
              apart_bytes.regions_apart slot other address other_slot (each_in_region address from_start before_end)))
          -- entries 14 and 15 are not lower
          | inr from_window ↦ absurd (elim from_window [ inl is_window ↦ omega arith | inr is_host_entry ↦ omega arith ])
        ]
      ])

  -- PMP entry 14 permits the enclave to load and store the bytes of its window
  permitted_by_window : (slot : ℕ) → world ≡ Enclave slot → access ≢ Fetch → list_all (has (window table slot)) bytes ≡ true
      → permits (verdict entries mode access bytes) ≡ true
  permitted_by_window slot world_is_slot no_fetch all_in_window =
      let each_in_window = each_from_all (has (window table slot)) start size all_in_window in
      let first_in_range = each_in_window start (omega arith) (omega arith) in
      -- the window shares no byte with the monitor's range or a region, which are the only blocks of lower entries
      permitted_if_granted 14 (lit< tt)
      (all_window ∙ rw world_is_slot all_in_window)
      (grants_if_cfg 14 _ cfg_of-window
      ∙ rw world_is_slot (window_permits_loads_and_stores (slot_at table slot) access start no_fetch first_in_range))
      (λ lower is_lower. elim (entry_cases lower (omega arith)) [
        -- entry 0 covers only bytes of the monitor's range, which shares no byte with a window
        | inl is_monitor ↦
            rw is_monitor
            (any_monitor
            ∙ any_none (has monitor_block) start size
            (λ address from_start before_end. apart_bytes.windows_free slot address (each_in_window address from_start before_end)))
        | inr not_monitor ↦ elim not_monitor [
          -- the entry of a slot covers only bytes of its region, which shares no byte with the window
          | inl (other, other_in_bounds, is_other_entry) ↦
              rw is_other_entry (any_slot other other_in_bounds ∙ any_none (has (region table other)) start size (λ address from_start before_end.
              false_from_ne_true _
              (λ region. both_ways _ (apart_bytes.windows_apart other slot address region) (each_in_window address from_start before_end))))
          -- entries 14 and 15 are not lower
          | inr from_window ↦ absurd (elim from_window [ inl is_window ↦ omega arith | inr is_host_entry ↦ omega arith ])
        ]
      ])

  -- if the accessed bytes are accessible to the world, then the layout permits the access
  permitted_if_accessible : is_accessible memory table world access bytes ≡ true → permits (verdict entries mode access bytes) ≡ true
  permitted_if_accessible accessible = elim (accessible_cases memory table world access bytes accessible) [
    | inl (host_runs, all_of_host) ↦ permitted_by_host host_runs all_of_host
    | inr (slot, world_is, all_in_block) ↦ elim all_in_block [
      | inl all_in_region ↦ permitted_by_region slot world_is all_in_region
      | inr (no_fetch, all_in_window) ↦ permitted_by_window slot world_is no_fetch all_in_window
    ]
  ]

  -- the layout permits an access in S or U if and only if the accessed bytes are accessible to the world
  pub permitted_iff_accessible : permits (verdict entries mode access bytes) ≡ is_accessible memory table world access bytes
  permitted_iff_accessible = equal_if_equivalent _ _ accessible_if_permitted permitted_if_accessible

  -- if the layout permits a world an access, then no accessed byte is in the region of another enclave
  pub permitted_apart : (slot : ℕ) → is_world_of slot world ≡ false → permits (verdict entries mode access bytes) ≡ true → (address : ℕ)
      → start ≤ address
      → address < start + size → has (region table slot) address ≡ false
  permitted_apart slot runs_other permitted =
      accessible_apart memory table world access start size slot table_valid runs_other (accessible_if_permitted permitted)

-- ---- the laws

-- every width has at least one byte
pub some_bytes : (width : Width) → 0 < bytes_in width
some_bytes Byte = lit< tt
some_bytes Half = lit< tt
some_bytes Word = lit< tt

-- a RAM of a permitted size has at most 16 MiB
pub small_ram : (memory : List ℕ) → is_ram_size (length memory) ≡ true → length memory ≤ 0x1000000
small_ram memory ram_size =
    let (at_least_64_kib, at_most_16_mib) =
    and_parts (length memory % 65536 == 0 && nat_le 65536 (length memory)) (nat_le (length memory) 16777216) ram_size in
    leb-true (length memory) 16777216 at_most_16_mib

-- proves that the layout permits exactly the accessible accesses
pub reach_law : LayoutAccessLaw
reach_law memory slots world mode access address width table_valid mode_below_m inside =
    permitted_iff_accessible memory slots world mode access address (bytes_in width)
    (small_ram memory table_valid.ram) table_valid mode_below_m (some_bytes width)
    (inside-bounds memory address (bytes_in width) inside)

-- proves that no permitted access of S or U has a byte in the region of another enclave
pub apart_law : ApartLaw
apart_law memory slots world mode access address width slot byte table_valid mode_below_m inside runs_other permitted from_start before_end =
    let outside_other_regions =
    permitted_apart memory slots world mode access address (bytes_in width) (small_ram memory table_valid.ram) table_valid mode_below_m
    (some_bytes width)
    (inside-bounds memory address (bytes_in width) inside) in
    outside_other_regions slot runs_other permitted byte from_start before_end
