-- Examples, by computation: the PMP entries after a create and after a run, and the scrambled private state of an ended enclave. (This project's
-- profile; the values of pmpcfg and pmpaddr: RISC-V Privileged Architecture 20211203, section 3.7.1.)
use Rattle.std.specs.Prelude.{◌≡◌, ℕ, List, [], ◌∷◌, ◌++◌, replicate, refl, Some}
use Rattle.rv_pmp.specs.Locks.{cfg_word}
use Rattle.rv_memory.specs.Memory.{read, write}
use Rattle.rv_enclaves.specs.Contexts.{no_contexts, exited_context, with_context}
use Rattle.rv_enclaves.specs.Layout.{layout, entry_at}
use Rattle.rv_enclaves.specs.Scramble.{scrambled_shared}
use Rattle.rv_enclaves.specs.Table.{no_slots, with_slot}
use Rattle.rv_enclaves.specs.declared.shared.Shared.{Shared}
use Rattle.rv_enclaves.specs.declared.slot_info.EnclaveState.TheVariants.{Fresh, Exited}
use Rattle.rv_enclaves.specs.declared.slot_info.SlotInfo.{SlotInfo}
use Rattle.rv_enclaves.specs.declared.world.World.TheVariants.{Host, Enclave}

-- the record of an enclave with a region and a window
abbrev example : SlotInfo
example = record {
  region = record { base = 0x80020000; size = 0x1000 };
  window = record { base = 0x80030000; size = 0x1000 };
  entry = 0x80020000;
  measurement = [];
  state = Fresh;
}

-- the entries while the host runs: the monitor's range, the region of slot 0 without permissions, and everything
pub entries_at_rest : layout (with_slot no_slots 0 (Some example)) Host
    ≡ record { cfgs = 0x18 ∷ 0x18 ∷ replicate 13 0 ++ 0x1F ∷ []; addrs = 0x20001FFF ∷ 0x200081FF ∷ replicate 13 0 ++ 0xFFFFFFFF ∷ [] }
unfolding layout entry_at
entries_at_rest = refl

-- the entries while the enclave of slot 0 runs: its region with R, W and X, and its window with R and W
pub entries_within : layout (with_slot no_slots 0 (Some example)) (Enclave 0)
    ≡ record { cfgs = 0x18 ∷ 0x1F ∷ replicate 12 0 ++ 0x1B ∷ 0 ∷ []; addrs = 0x20001FFF ∷ 0x200081FF ∷ replicate 12 0 ++ 0x2000C1FF ∷ 0 ∷ [] }
unfolding layout entry_at
entries_within = refl

-- the first pmpcfg register while the host runs
pub words_at_rest : cfg_word (layout (with_slot no_slots 0 (Some example)) Host) 0 ≡ 0x00001818
unfolding layout entry_at
words_at_rest = refl

-- the last pmpcfg register while the enclave runs: R and W for the window in entry 14
pub last_word_within : cfg_word (layout (with_slot no_slots 0 (Some example)) (Enclave 0)) 3 ≡ 0x001B0000
unfolding layout entry_at
last_word_within = refl

-- A shared state with an ended enclave in slot 3. Its region is bytes 1 and 2 of a memory of four bytes, and x1 to x31 of its saved context are
-- `word`.
abbrev ended : List ℕ → ℕ → Shared
ended memory word = record {
  memory = memory;
  table = with_slot no_slots 3 (Some (record example { region = record { base = 0x80000001; size = 2 }; state = Exited }));
  contexts = with_context no_contexts 3 (Some (record exited_context { regs = 0 ∷ replicate 31 word }));
}

-- scrambling complements bytes 1 and 2 and the registers x1 to x31 of slot 3
pub ended_scrambled : scrambled_shared (ended (0x11 ∷ 0x22 ∷ 0x33 ∷ 0x44 ∷ []) 0) 3 ≡ ended (0x11 ∷ 0xDD ∷ 0xCC ∷ 0x44 ∷ []) 0xFFFFFFFF
unfolding scrambled_shared read write
ended_scrambled = refl
