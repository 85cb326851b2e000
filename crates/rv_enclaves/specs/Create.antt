-- The call create: the host passes a region, a window and an entry point. The enclave gets the lowest free slot, unless a refusal applies.
-- (Keystone, EuroSys 2020, in this project's profile; the measurement is SHA-256 of FIPS 180-4.)
use Rattle.std.specs.Prelude.{ℕ, ◌%◌, ◌==◌, Bool, false, not, ◌&&◌, ◌||◌, List, [], ◌∷◌, ◌++◌, if◌then◌else◌, Option, Some, None}
use Rattle.std.specs.List.{list_any}
use Rattle.std.specs.Option.{is_none}
use Rattle.sha2.specs.Sha256.{sha256}
use Rattle.rv_word.specs.Cases.{option_case}
use Rattle.rv_memory.specs.Memory.{read, bytes_of}
use Rattle.rv_state.specs.Registers.{register}
use Rattle.rv_memory.specs.Blocks.{has, meets, no_block, monitor_block}
use Rattle.rv_enclaves.specs.ValidBlocks.{is_valid_block}
use Rattle.rv_enclaves.specs.Contexts.{first_context, with_context}
use Rattle.rv_enclaves.specs.SlotNumbers.{slot_count}
use Rattle.rv_enclaves.specs.Table.{Slots, free_slot, with_slot, is_window}
use Rattle.rv_memory.specs.declared.block.Block.{Block}
use Rattle.rv_enclaves.specs.declared.create_args.CreateArgs.{CreateArgs}
use Rattle.rv_enclaves.specs.declared.refusal.Refusal.{Refusal}
use Rattle.rv_enclaves.specs.declared.refusal.Refusal.TheVariants.{BadRegion, BadWindow, Overlap, BadEntry, NoSlot}
use Rattle.rv_enclaves.specs.declared.shared.Shared.{Shared}
use Rattle.rv_enclaves.specs.declared.slot_info.SlotInfo.{SlotInfo}
use Rattle.rv_enclaves.specs.declared.slot_info.EnclaveState.TheVariants.{Fresh}

-- the arguments of create: a0 and a1 name the region, a2 and a3 the window (a size of 0 means no window), and a4 is the entry point
abbrev pub create_args_of : List ℕ → CreateArgs
create_args_of regs = record {
  region = record { base = register regs 10; size = register regs 11 };
  window = if register regs 13 == 0 then no_block else record { base = register regs 12; size = register regs 13 };
  entry = register regs 14;
}

-- whether the new region meets the region or the window of a live enclave, or the new window meets its region; two windows may share bytes
abbrev pub collides : CreateArgs → Option SlotInfo → Bool
collides new None = false
collides new (Some info) =
    meets new.region info.region || (meets new.region info.window || meets new.window info.region)

-- whether the new region or window meets the monitor's range, the other of the two, or a live enclave in bytes that may not be shared
unfoldable pub overlaps : Slots → CreateArgs → Bool
overlaps table new =
    meets monitor_block new.region || (meets monitor_block new.window || (meets new.region new.window
    || list_any (collides new) table))

-- whether the entry point is a multiple of 4 and is in the region
unfoldable pub is_entry : CreateArgs → Bool
is_entry new = new.entry % 4 == 0 && has new.region new.entry

-- the bytes of a block, or [] if the block is not inside memory, which the refusal BadRegion excludes
abbrev pub bytes_of_block : List ℕ → Block → List ℕ
bytes_of_block memory block = option_case (read memory block.base block.size) [] (λ bytes. bytes)

-- the first part of the measured bytes: base, size, window base, window size and entry point, four bytes each, the lowest byte first
abbrev pub heading : CreateArgs → List ℕ
heading new =
    bytes_of 4 new.region.base ++ bytes_of 4 new.region.size ++ bytes_of 4 new.window.base ++ bytes_of 4 new.window.size ++ bytes_of 4 new.entry

-- the measured bytes, which are the input of SHA-256: the five arguments, and the bytes of the region
abbrev pub measured_bytes : List ℕ → CreateArgs → List ℕ
measured_bytes memory new = heading new ++ bytes_of_block memory new.region

-- the measurement: the SHA-256 digest of the measured bytes
unfoldable pub measurement_of : List ℕ → CreateArgs → List ℕ
measurement_of memory new = sha256 (measured_bytes memory new)

-- the record of a new enclave, which is Fresh and measured
abbrev pub recorded : List ℕ → CreateArgs → SlotInfo
recorded memory new = record {
  region = new.region;
  window = new.window;
  entry = new.entry;
  measurement = measurement_of memory new;
  state = Fresh;
}

-- the shared state with the record of a new enclave and its first context in `slot`
abbrev pub with_enclave : Shared → ℕ → SlotInfo → Shared
with_enclave shared slot info = record shared {
  table = with_slot shared.table slot (Some info);
  contexts = with_context shared.contexts slot (Some (first_context info));
}

-- the conditions that refuse a create, in the order in which they are checked
unfoldable pub create_refusals : Shared → CreateArgs → List (Bool × Refusal)
create_refusals shared new =
    (not (is_valid_block shared.memory new.region), BadRegion)
    ∷ (not (is_window shared.memory new.window), BadWindow)
    ∷ (overlaps shared.table new, Overlap)
    ∷ (not (is_entry new), BadEntry)
    ∷ (is_none (free_slot shared.table), NoSlot)
    ∷ []

-- the lowest free slot, or the number of slots if there is none, which the refusal NoSlot excludes
abbrev pub new_slot : Slots → ℕ
new_slot table = option_case (free_slot table) slot_count (λ slot. slot)

-- the shared state after a create that is not refused; no byte of memory changes
unfoldable pub created : Shared → CreateArgs → Shared
created shared new = with_enclave shared (new_slot shared.table) (recorded shared.memory new)
