-- Integrity of a step: a step preserves every live enclave that the stepping hart does not run, unless the step enters or ends the enclave. The
-- record of the enclave, the bytes of its region and its saved context are unchanged. If the enclave runs on another hart, then this hart keeps
-- everything except the PMP entries and mie. (A law about the monitor's definitions, not a rule of a standard.)
use Rattle.std.specs.Prelude.{ℕ, ◌≡◌, ◌==◌, Bool, true, false, Option, Some, None}
use Rattle.rv_monitor.specs.Prelude.{Shared, byte_at, context_at, has, is_live, region, slot_at}
use Rattle.rv_monitor.specs.EquivExcept.{runs_on}
use Rattle.rv_monitor.specs.MonitoredMachine.{MonitoredMachine, hart_state_of, reprogrammed}
use Rattle.rv_monitor.specs.Step.{MonitoredStepped}

-- whether a step entered the slot; the second argument is the slot that the step entered, if any
abbrev pub enters : ℕ → Option ℕ → Bool
enters slot None = false
enters slot (Some entered) = entered == slot

-- the record of the slot, the bytes of its region and its saved context are unchanged
pub record IsPreserved (slot_number : ℕ) (before after : Shared) : Type 0 where
  pub slot : slot_at after.table slot_number ≡ slot_at before.table slot_number
  -- each byte of the region is unchanged
  pub bytes : (byte : ℕ) → has (region before.table slot_number) byte ≡ true
      → byte_at after.memory byte ≡ byte_at before.memory byte
  pub context : context_at after.contexts slot_number ≡ context_at before.contexts slot_number

-- The enclave is preserved. If the enclave runs on a hart, then this hart keeps everything except the PMP entries and mie, which are those of the
-- table and its world.
pub record IsUntouched (slot : ℕ) (before after : MonitoredMachine) : Type 0 where
  pub preserved : IsPreserved slot before.shared after.shared
  -- the hart that runs the enclave keeps its state, except for the PMP entries and mie
  pub hart_state : (hart : ℕ) → runs_on slot hart before ≡ true
      → hart_state_of hart after ≡ reprogrammed after.shared.table (hart_state_of hart before)

-- A step leaves a live enclave untouched if the stepping hart does not run the enclave, the step does not enter the enclave, and the enclave stays
-- live.
abbrev pub PreservesOthers : ℕ → MonitoredMachine → MonitoredStepped → Type 0
PreservesOthers hart before after =
    (slot : ℕ) → runs_on slot hart before ≡ false → is_live before.shared.table slot ≡ true
    → enters slot after.outcome.entered ≡ false → is_live after.state.shared.table slot ≡ true
    → IsUntouched slot before after.state

-- the step does not enter the enclave, and the enclave is live after the step
pub record KeepsRunning (slot : ℕ) (after : MonitoredStepped) : Type 0 where
  -- the step does not enter the slot
  pub passes : enters slot after.outcome.entered ≡ false
  pub live : is_live after.state.shared.table slot ≡ true

-- every enclave that runs on a hart other than the one that steps is not entered and stays live
abbrev pub KeepsOthersRunning : ℕ → MonitoredMachine → MonitoredStepped → Type 0
KeepsOthersRunning hart before after =
    (slot slot_hart : ℕ) → runs_on slot slot_hart before ≡ true → runs_on slot hart before ≡ false → KeepsRunning slot after
