-- The call measure: it writes the 32 bytes of a recorded measurement, if the caller may store each of them. (Keystone, EuroSys 2020, in this
-- project's profile; permission to store: RISC-V Privileged Architecture 20211203, section 3.7.1.)
use Rattle.std.specs.Prelude.{ℕ, Bool, not, ◌&&◌, List, [], ◌∷◌}
use Rattle.std.specs.List.{range_with_len, list_all}
use Rattle.rv_word.specs.Cases.{option_case}
use Rattle.rv_pmp.specs.Entries.{Entries}
use Rattle.rv_pmp.specs.Verdicts.{bytes_from, permits, verdict}
use Rattle.rv_pmp.specs.declared.access.Access.TheVariants.{Write}
use Rattle.rv_pmp.specs.declared.mode.Mode.TheVariants.{S}
use Rattle.rv_memory.specs.Memory.{is_inside, write}
use Rattle.rv_enclaves.specs.Table.{Slots, slot_at, is_live}
use Rattle.rv_enclaves.specs.declared.refusal.Refusal.{Refusal}
use Rattle.rv_enclaves.specs.declared.refusal.Refusal.TheVariants.{NoEnclave, BadAddress}
use Rattle.rv_enclaves.specs.declared.shared.Shared.{Shared}
use Rattle.rv_enclaves.specs.declared.world.World.{World}
use Rattle.rv_enclaves.specs.declared.world.World.TheVariants.{Host, Enclave}

-- the slot that a measure is about: the slot that the host names, or the slot of the calling enclave
abbrev pub measured_slot : World → ℕ → ℕ
measured_slot Host named = named
measured_slot (Enclave slot) named = slot

-- whether S-mode may store one byte at an address: the address is in RAM, and the PMP permits the store
abbrev pub may_store : List ℕ → Entries → ℕ → Bool
may_store memory entries address =
    is_inside memory address 1 && permits (verdict entries S Write (bytes_from address 1))

-- Whether S-mode may store the 32 bytes of a measurement. Each byte is checked separately, and all bytes are checked before any byte is written.
unfoldable pub may_store_all : List ℕ → Entries → ℕ → Bool
may_store_all memory entries address = list_all (may_store memory entries) (range_with_len address 32)

-- the memory with the bytes stored at an address, or the same memory if some of these bytes are outside memory
abbrev pub with_bytes_at : List ℕ → ℕ → List ℕ → List ℕ
with_bytes_at memory address bytes = option_case (write memory address bytes) memory (λ after. after)

-- the recorded measurement of the enclave of a slot, or [] if no enclave is live there, which the refusal NoEnclave excludes
abbrev pub measurement_at : Slots → ℕ → List ℕ
measurement_at slots slot = option_case (slot_at slots slot) [] (λ info. info.measurement)

-- the conditions that refuse a measure, in the order in which they are checked
unfoldable pub measure_refusals : Shared → Entries → ℕ → ℕ → List (Bool × Refusal)
measure_refusals shared entries slot address =
    (not (is_live shared.table slot), NoEnclave)
    ∷ (not (may_store_all shared.memory entries address), BadAddress)
    ∷ []

-- the shared state after a measure that is not refused
unfoldable pub measured : Shared → ℕ → ℕ → Shared
measured shared slot address = record shared { memory = with_bytes_at shared.memory address (measurement_at shared.table slot) }
