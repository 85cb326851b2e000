-- The record of a live enclave keeps its region, window, entry and measurement. No step changes these parts, neither a step of the enclave nor a step
-- that enters the enclave. (A law about the monitor's definitions, not a rule of a standard.)
use Rattle.std.specs.Prelude.{◌≡◌, ℕ, true, Option}
use Rattle.std.specs.Option.{option_map}
use Rattle.rv_enclaves.specs.declared.slot_info.SlotInfo.{SlotInfo}
use Rattle.rv_enclaves.specs.declared.slot_info.EnclaveState.TheVariants.{Fresh}
use Rattle.rv_monitor.specs.Prelude.{Slots, is_live, slot_at}
use Rattle.rv_monitor.specs.MonitoredMachine.{MonitoredMachine}
use Rattle.rv_monitor.specs.Step.{MonitoredStepped}

-- the region, window, entry and measurement: the record without the state
abbrev pub identity_of : SlotInfo → SlotInfo
identity_of info = record info { state = Fresh }

-- the region, window, entry and measurement of `slot`, if it has an enclave
abbrev pub identity_at : Slots → ℕ → Option SlotInfo
identity_at table slot = option_map identity_of (slot_at table slot)

-- a step keeps the identity of every enclave that is live before it and after it
abbrev pub PreservesRecords : MonitoredMachine → MonitoredStepped → Type 0
PreservesRecords before after =
    (slot : ℕ) → is_live before.shared.table slot ≡ true → is_live after.state.shared.table slot ≡ true
    → identity_at after.state.shared.table slot ≡ identity_at before.shared.table slot
