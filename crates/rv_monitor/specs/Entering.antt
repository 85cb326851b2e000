-- A step that enters an enclave, by run or resume, gives the hart exactly the saved context of the enclave. (A law about the monitor's
-- definitions; Keystone, EuroSys 2020, in this project's profile.)
use Rattle.std.specs.Prelude.{◌≡◌, ℕ, Some}
use Rattle.rv_monitor.specs.Prelude.{Enclave, Host, Trap}
use Rattle.rv_monitor.specs.MonitoredMachine.{MonitoredMachine, hart_state_of}
use Rattle.rv_monitor.specs.NumberedCalls.{EntersByCall}
use Rattle.rv_monitor.specs.Step.{MonitoredStepped}

-- the step traps, `slot` had a saved context, and the step leaves the machine that a call leaves which enters `slot`
pub record HasEntered (hart slot : ℕ) (before : MonitoredMachine) (after : MonitoredStepped) : Type 0 where
  pub trap : Trap
  pub trapped : after.outcome.step.trap ≡ Some trap
  -- the step leaves the machine in which the hart continues with the saved context of `slot`
  pub call : EntersByCall hart before after trap slot

-- each step of the hart that runs the host before the step and enclave `slot` after the step enters `slot` with its saved context
abbrev pub EntersOnly : ℕ → MonitoredMachine → MonitoredStepped → Type 0
EntersOnly hart before after =
    (slot : ℕ) → (hart_state_of hart before).world ≡ Host → (hart_state_of hart after.state).world ≡ Enclave slot → HasEntered hart slot before after
