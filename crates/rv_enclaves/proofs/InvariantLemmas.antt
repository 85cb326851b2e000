-- The PMP entries that the code writes are the entries of the layout, and the PMP stores them unchanged.
use Rattle.std.proofs.Common.{◌≡◌, ℕ, ◌-◌, ◌<◌, ◌==◌, Bool, true, false, List, Option, Some, None, refl, ◌∙◌, ap, ap₂, inl, inr, arith, length, map}
use Rattle.std.proofs.Common.{slice_index}
use Rattle.std.specs.Prelude.{if◌then◌else◌, nat_lt}
use Rattle.std.proofs.lemmas.List.FromFn.{fill_by_all}
use Rattle.std.proofs.lemmas.Bool.{cases_Bool}
use Rattle.rv_pmp.specs.Cfg.{is_locked, stored_cfg}
use Rattle.rv_pmp.specs.Locks.{with_entries}
use Rattle.std.proofs.lemmas.List.{length-map, get_or-map}
use Rattle.rv_enclaves.specs.Layout.{no_permission, napot, mie_of}
use Rattle.rv_state.specs.Bits.{kept_bits}
use Rattle.rv_state.specs.CsrTable.{enabled_of}
use Rattle.rv_enclaves.proofs.Prelude.{Enclave, Entries, Host, SlotInfo, Slots, World, entry_at, host_entry, is_world_of, layout, monitor_block, region_entry}
use Rattle.rv_enclaves.proofs.Prelude.{slot_at, window_entry, window_entry_of}

-- a cfg byte that the monitor uses is stored unchanged, and does not lock its entry
pub record IsPlain (cfg : ℕ) : Type 0 where
  pub stored : stored_cfg cfg ≡ cfg
  pub unlocked : is_locked cfg ≡ false

-- the cfg byte of a region is stored unchanged and unlocked
region_is_plain : (world : World) (slot : ℕ) (maybe_info : Option SlotInfo) → IsPlain (region_entry world slot maybe_info).cfg
unfolding stored_cfg
region_is_plain world slot None = record { stored = refl; unlocked = refl }
region_is_plain world slot (Some info) = elim (cases_Bool (is_world_of slot world)) [
  | inl runs_enclave ↦ rw runs_enclave (record { stored = refl; unlocked = refl })
  | inr runs_other ↦ rw runs_other (record { stored = refl; unlocked = refl })
]

-- the cfg byte of a window is stored unchanged and unlocked
window_of_is_plain : (maybe_info : Option SlotInfo) → IsPlain (window_entry_of maybe_info).cfg
unfolding stored_cfg
window_of_is_plain None = record { stored = refl; unlocked = refl }
window_of_is_plain (Some info) = elim (cases_Bool (info.window.size == 0)) [
  | inl window_empty ↦ rw window_empty (record { stored = refl; unlocked = refl })
  | inr window_nonempty ↦ rw window_nonempty (record { stored = refl; unlocked = refl })
]

-- the cfg byte of entry 14 is stored unchanged and unlocked
window_is_plain : (table : Slots) (world : World) → IsPlain (window_entry table world).cfg
unfolding stored_cfg
window_is_plain table Host = record { stored = refl; unlocked = refl }
window_is_plain table (Enclave slot) = window_of_is_plain (slot_at table slot)

-- the cfg byte of entry 15 is stored unchanged and unlocked
host_is_plain : (world : World) → IsPlain (host_entry world).cfg
unfolding stored_cfg
host_is_plain Host = record { stored = refl; unlocked = refl }
host_is_plain (Enclave slot) = record { stored = refl; unlocked = refl }

-- the cfg byte of each kind of entry of the layout (monitor, region, window, host) is stored unchanged and unlocked
each_kind_is_plain : (is_monitor is_region is_window : Bool) (table : Slots) (world : World) (slot : ℕ)
    → IsPlain
    (if is_monitor then napot no_permission monitor_block else
    (if is_region then region_entry world slot (slot_at table slot) else (if is_window then window_entry table world else host_entry world))).cfg
unfolding stored_cfg
each_kind_is_plain true is_region is_window table world slot = record { stored = refl; unlocked = refl }
each_kind_is_plain false true is_window table world slot = region_is_plain world slot (slot_at table slot)
each_kind_is_plain false false true table world slot = window_is_plain table world
each_kind_is_plain false false false table world slot = host_is_plain world

-- no entry of the layout is locked or has a reserved combination of permissions
pub entry_is_plain : (table : Slots) (world : World) (number : ℕ) → IsPlain (entry_at table world number).cfg
unfolding entry_at
entry_is_plain table world number = each_kind_is_plain (number == 0) (nat_lt number 14) (number == 14) table world (number - 1)

-- two lists of PMP entries are equal if their cfg bytes and their addresses are equal
entries_are : (entries other : Entries) → entries.cfgs ≡ other.cfgs → entries.addrs ≡ other.addrs → entries ≡ other
entries_are entries other same_cfgs same_addrs =
    let with_lists : List ℕ → List ℕ → Entries = λ cfgs addrs. record { cfgs = cfgs; addrs = addrs } in
    ap₂ with_lists same_cfgs same_addrs

-- PMP entries with the layout's cfg byte and address at each number are the PMP entries of the layout
pub layout_from_each : (table : Slots) (world : World) (cfgs addrs : List ℕ) → length cfgs ≡ 16 → length addrs ≡ 16
    → ((number : ℕ) → number < 16 → slice_index cfgs number ≡ (entry_at table world number).cfg)
    → ((number : ℕ) → number < 16 → slice_index addrs number ≡ (entry_at table world number).addr) → with_entries cfgs addrs ≡ layout table world
unfolding layout
layout_from_each table world cfgs addrs sixteen_cfgs sixteen_addrs each_cfg each_addr =
    entries_are (with_entries cfgs addrs) (layout table world)
    (fill_by_all (λ number. (entry_at table world number).cfg) (map stored_cfg cfgs) 16 0 (length-map cfgs stored_cfg ∙ sixteen_cfgs)
    (λ number in_range. get_or-map stored_cfg cfgs number 0 0 (omega (arith, in_range, sixteen_cfgs)) ∙ ap stored_cfg (each_cfg number in_range)
    ∙ (entry_is_plain table world number).stored))
    (fill_by_all (λ number. (entry_at table world number).addr) addrs 16 0 sixteen_addrs each_addr)

-- mie stores the monitor's value unchanged
pub mie_stored : (world : World) → enabled_of (mie_of world) ≡ mie_of world
unfolding kept_bits
mie_stored Host = refl
mie_stored (Enclave slot) = refl
