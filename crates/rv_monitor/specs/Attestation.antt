-- Attestation: the measurement identifies what an enclave does. Two enclaves with the same measured bytes take the same steps from their first
-- entry on, under any hosts and tables and in any slots. (Laws about the monitor's definitions; Keystone, EuroSys 2020, in this project's profile.)
use Rattle.std.specs.Prelude.{◌≡◌, ℕ, true, false, Some}
use Rattle.rv_enclaves.specs.Create.{measured_bytes}
use Rattle.rv_enclaves.specs.Measurement.{args_of}
use Rattle.rv_enclaves.specs.declared.slot_info.SlotInfo.{SlotInfo}
use Rattle.rv_enclaves.specs.declared.slot_info.EnclaveState.TheVariants.{Fresh}
use Rattle.rv_monitor.specs.Prelude.{Enclave, Host, Shared, context_at, first_context, is_live, measurement_of, slot_at}
use Rattle.rv_monitor.specs.Declassification.{SameWindow}
use Rattle.rv_monitor.specs.EnclaveSteps.{AreHighSteps, Place, SameEnclaveRun, SameSaved, step_at}
use Rattle.rv_monitor.specs.Integrity.{enters}
use Rattle.rv_monitor.specs.MonitoredMachine.{MonitoredMachine, Invariant, hart_state_of}
use Rattle.rv_monitor.specs.Step.{MonitoredStepped}

-- ---- an enclave between create and its first entry

-- The enclave in slot k is in the state after create. The state in its record is Fresh, and its saved context is its first context. Its measurement
-- is the measurement of its record and of the bytes in its region.
pub record IsAsCreated (k : ℕ) (shared : Shared) : Type 0 where
  -- the record of slot k
  pub info : SlotInfo
  pub is : slot_at shared.table k ≡ Some info
  -- the enclave has not run yet
  pub fresh : info.state ≡ Fresh
  -- the saved context of the slot is the one with which the enclave begins
  pub context : context_at shared.contexts k ≡ Some (first_context info)
  -- the measurement in the record is the measurement of the present bytes of the region
  pub measurement : info.measurement ≡ measurement_of shared.memory (args_of info)

-- Each enclave that the step creates is in the state after create. Each enclave in the state after create stays so, unless the step enters or
-- destroys the enclave.
pub record KeepsAsCreated (before : MonitoredMachine) (after : MonitoredStepped) : Type 0 where
  -- an enclave that the step creates is in the state after create
  pub creates : (slot : ℕ) → is_live before.shared.table slot ≡ false → is_live after.state.shared.table slot ≡ true
      → IsAsCreated slot after.state.shared
  -- an enclave in the state after create stays in this state, unless the step enters or destroys it
  pub keeps : (slot : ℕ) → IsAsCreated slot before.shared → enters slot after.outcome.entered ≡ false
      → is_live after.state.shared.table slot ≡ true
      → IsAsCreated slot after.state.shared

-- ---- the entry

-- the next step of the hart is a step of the host that enters the enclave
pub record IsEntry (place : Place) (machine : MonitoredMachine) : Type 0 where
  pub host : (hart_state_of place.hart machine).world ≡ Host
  pub world : (hart_state_of place.hart (step_at place machine).state).world ≡ Enclave place.slot

-- both machines enter an enclave next, with equal timer lines
pub record BothEnter (p q : Place) (one other : MonitoredMachine) : Type 0 where
  pub first : IsEntry p one
  pub second : IsEntry q other
  pub timer : (hart_state_of p.hart one).hart.csrs.timer ≡ (hart_state_of q.hart other).hart.csrs.timer

-- two enclaves with equal saved states take the same steps from their entry on, as long as they run
abbrev pub ReentryLaw : Type 0
ReentryLaw =
    (place other_place : Place) (count : ℕ) (one other : MonitoredMachine) → Invariant one → Invariant other
    → SameSaved place.slot other_place.slot one.shared other.shared
    → BothEnter place other_place one other → AreHighSteps place count (step_at place one).state
    → SameEnclaveRun place other_place count (step_at place one).state (step_at other_place other).state

-- ---- the first run of the enclave

-- both enclaves are in the state after create, from equal measured bytes
pub record SameIdentity (slot other_slot : ℕ) (one other : Shared) : Type 0 where
  pub first : IsAsCreated slot one
  pub second : IsAsCreated other_slot other
  -- the bytes that the two measurements cover are equal
  pub input : measured_bytes one.memory (args_of first.info) ≡ measured_bytes other.memory (args_of second.info)

-- Let two machines have an enclave of the same identity, with equal bytes in its window and the same timer line, and let both enter it. The slots
-- and the harts may differ. The enclave then takes the same steps in both machines, as long as the enclave runs.
abbrev pub AttestationLaw : Type 0
AttestationLaw =
    (place other_place : Place) (count : ℕ) (one other : MonitoredMachine) → Invariant one → Invariant other
    → SameIdentity place.slot other_place.slot one.shared other.shared
    → SameWindow place.slot one other → BothEnter place other_place one other
    → AreHighSteps place count (step_at place one).state
    → SameEnclaveRun place other_place count (step_at place one).state (step_at other_place other).state
