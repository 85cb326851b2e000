-- The sixteen PMP entries for a table and a world, with their cfg and pmpaddr values, and the value of mie: RISC-V Privileged Architecture
-- 20211203, sections 3.7.1 and 3.1.9, in this project's profile.
use Rattle.std.specs.Prelude.{ℕ, ◌+◌, ◌-◌, ◌/◌, ◌==◌, nat_lt, if◌then◌else◌, map, Option, Some, None}
use Rattle.std.specs.List.{range_with_len}
use Rattle.rv_pmp.specs.Entries.{Entries}
use Rattle.rv_memory.specs.Blocks.{monitor_block}
use Rattle.rv_enclaves.specs.Table.{Slots, slot_at, is_world_of}
use Rattle.rv_memory.specs.declared.block.Block.{Block}
use Rattle.rv_enclaves.specs.declared.slot_info.SlotInfo.{SlotInfo}
use Rattle.rv_enclaves.specs.declared.world.World.{World}
use Rattle.rv_enclaves.specs.declared.world.World.TheVariants.{Host, Enclave}

-- one PMP entry: its cfg byte and its pmpaddr value
pub record Entry : Type 0 where
  pub cfg : ℕ
  pub addr : ℕ

-- a PMP entry that is off and matches no address
abbrev pub unused : Entry
unused = record { cfg = 0x00; addr = 0x00000000 }

-- the NAPOT entry that covers a valid block, with this cfg byte
abbrev pub napot : ℕ → Block → Entry
napot cfg block = record { cfg = cfg; addr = block.base / 4 + (block.size / 8 - 1) }

-- the cfg byte of a NAPOT entry without permissions
abbrev pub no_permission : ℕ
no_permission = 0x18

-- the cfg byte of a NAPOT entry with R and W
abbrev pub read_write : ℕ
read_write = 0x1B

-- the cfg byte of a NAPOT entry with R, W and X
abbrev pub all : ℕ
all = 0x1F

-- the PMP entry for the region of `slot`, which grants every access while the enclave in `slot` runs, and no access otherwise
abbrev pub region_entry : World → ℕ → Option SlotInfo → Entry
region_entry world slot None = unused
region_entry world slot (Some info) = napot (if is_world_of slot world then all else no_permission) info.region

-- the PMP entry for the window of a record, which grants loads and stores, and is off if there is no window
abbrev pub window_entry_of : Option SlotInfo → Entry
window_entry_of None = unused
window_entry_of (Some info) = if info.window.size == 0 then unused else napot read_write info.window

-- PMP entry 14, for the window of the enclave that runs. It is off for the host.
abbrev pub window_entry : Slots → World → Entry
window_entry table Host = unused
window_entry table (Enclave slot) = window_entry_of (slot_at table slot)

-- PMP entry 15, which grants every access while the host runs, and is off while an enclave runs
abbrev pub host_entry : World → Entry
host_entry Host = record { cfg = all; addr = 0xFFFFFFFF }
host_entry (Enclave slot) = unused

-- The PMP entry with a number. Entry 0 covers the monitor's range, entry `slot` + 1 the region of `slot`, entry 14 the window of the enclave that
-- runs, and entry 15 all addresses.
unfoldable pub entry_at : Slots → World → ℕ → Entry
entry_at table world entry =
    if entry == 0 then napot no_permission monitor_block
    else (if nat_lt entry 14 then region_entry world (entry - 1) (slot_at table (entry - 1))
    else (if entry == 14 then window_entry table world
    else host_entry world))

-- the layout: the sixteen PMP entries for a table and a world, as a list of cfg bytes and a list of pmpaddr values
unfoldable pub layout : Slots → World → Entries
layout table world = record {
  cfgs = map (λ entry. (entry_at table world entry).cfg) (range_with_len 0 16);
  addrs = map (λ entry. (entry_at table world entry).addr) (range_with_len 0 16);
}

-- the value of mie for a world: MTIE is set while an enclave runs
abbrev pub mie_of : World → ℕ
mie_of Host = 0x00000000
mie_of (Enclave slot) = 0x00000080
