-- The bytes to which S may store, computed in numbers from the records of the enclaves. A measure succeeds only if S may store each of the 32 bytes.
-- (A law about this project's own monitor; physical memory protection: RISC-V Privileged Architecture 20211203, section 3.7.1.)
use Rattle.std.specs.List.{list_any, range_with_len}
use Rattle.std.specs.Prelude.{ℕ, ◌≡◌, ◌<◌, ◌≤◌, ◌+◌, Bool, false, not, ◌&&◌, ◌||◌, nat_le, nat_lt, length}
use Rattle.rv_pmp.specs.Verdicts.{bytes_from, permits, verdict}
use Rattle.rv_pmp.specs.declared.access.Access.TheVariants.{Write}
use Rattle.rv_enclaves.specs.CallNumbers.{record_at}
use Rattle.rv_enclaves.specs.declared.world.World.TheVariants.{Enclave, Host}
use Rattle.rv_debug.specs.Prelude.{Block, Invariant, MonitoredMachine, S, Slots, count_of, hart_state_of, option_case}

-- whether the address of a byte is in the block
abbrev pub is_within : Block → ℕ → Bool
is_within block byte = nat_le block.base byte && nat_lt byte (block.base + block.size)

-- whether the host may store a byte: its address is not below 80010000, where the monitor's range ends, and is in the region of none of the 13 slots
abbrev pub host_stores : Slots → ℕ → Bool
host_stores slots byte =
    nat_le 0x80010000 byte
    && not (list_any (λ slot. option_case (record_at slots slot) false (λ info. is_within info.region byte)) (range_with_len 0 13))

-- whether the enclave in `slot` may store a byte: its address is in the region or in the window of the enclave
abbrev pub enclave_stores : Slots → ℕ → ℕ → Bool
enclave_stores slots slot byte = option_case (record_at slots slot) false (λ info. is_within info.region byte || is_within info.window byte)

-- whether the PMP entries of a hart permit S-mode to store one byte
abbrev pub permits_store : ℕ → MonitoredMachine → ℕ → Bool
permits_store hart machine byte = permits (verdict (hart_state_of hart machine).hart.csrs.pmp S Write (bytes_from byte 1))

-- In every reachable state, the PMP of a hart permits S to store exactly the bytes of the memory that `host_stores` or `enclave_stores` give.
pub record StorePermissionLaw : Type 0 where
  pub host : (hart byte : ℕ) (machine : MonitoredMachine) → Invariant machine → hart < count_of machine → 0x80000000 ≤ byte
      → byte + 1 ≤ 0x80000000 + length machine.shared.memory → (hart_state_of hart machine).world ≡ Host
      → permits_store hart machine byte ≡ host_stores machine.shared.table byte
  pub enclave : (hart byte slot : ℕ) (machine : MonitoredMachine) → Invariant machine → hart < count_of machine → 0x80000000 ≤ byte
      → byte + 1 ≤ 0x80000000 + length machine.shared.memory → (hart_state_of hart machine).world ≡ Enclave slot
      → permits_store hart machine byte ≡ enclave_stores machine.shared.table slot byte
