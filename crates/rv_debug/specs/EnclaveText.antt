-- The reply lines that show the live enclaves: ASCII, ISO/IEC 646, each ended by a line feed. (This project's own replies.)
use Rattle.std.specs.Prelude.{ℕ, List, [], ◌++◌, Option, Some, None, codes, decimal}
use Rattle.std.specs.List.{flat_map, range_with_len}
use Rattle.rv_enclaves.specs.SlotNumbers.{slot_count}
use Rattle.rv_enclaves.specs.declared.slot_info.EnclaveState.{EnclaveState}
use Rattle.rv_enclaves.specs.declared.slot_info.EnclaveState.TheVariants.{Fresh, Running, Stopped, Exited}
use Rattle.rv_enclaves.specs.declared.slot_info.SlotInfo.{SlotInfo}
use Rattle.rv_debug.specs.Prelude.{Block, Slots, hex2, hex8, slot_at}

-- a reply shows the state of an enclave by its name
abbrev pub state_text : EnclaveState → List ℕ
state_text Fresh = codes "Fresh"
state_text Running = codes "Running"
state_text Stopped = codes "Stopped"
state_text Exited = codes "Exited"

-- a reply shows a block by its first address and its size, in eight hexadecimal digits each
abbrev pub block_text : Block → List ℕ
block_text block = codes " " ++ hex8 block.base ++ codes " " ++ hex8 block.size

-- a reply shows a live enclave as `enclave K STATE b s wb ws e m`: base and size of its region and of its window, its entry, and its measurement
unfoldable pub enclave_text : ℕ → SlotInfo → List ℕ
enclave_text slot info =
    codes "enclave " ++ decimal slot ++ codes " " ++ state_text info.state
    ++ block_text info.region ++ block_text info.window ++ codes " " ++ hex8 info.entry
    ++ codes " " ++ flat_map hex2 info.measurement ++ codes "\n"

-- the line of a slot: a free slot has no line
abbrev pub slot_text : ℕ → Option SlotInfo → List ℕ
slot_text slot None = []
slot_text slot (Some info) = enclave_text slot info

-- the lines of the table: one for each live slot, in ascending order
unfoldable pub table_text : Slots → List ℕ
table_text slots = flat_map (λ slot. slot_text slot (slot_at slots slot)) (range_with_len 0 slot_count)
