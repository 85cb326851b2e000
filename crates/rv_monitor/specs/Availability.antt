-- Availability for the host. If the timer line is set on the hart of an enclave, the next step exits to the host, with 2 in a0 and 0 in a1. (A law
-- about the monitor's definitions; Keystone, EuroSys 2020, in this project's profile; interrupts: RISC-V Privileged Architecture 20211203, sections
-- 3.1.6.1 and 3.1.9.)
use Rattle.std.specs.Prelude.{◌≡◌, ℕ, true, Some, None}
use Rattle.rv_state.specs.declared.cause.Cause.TheVariants as causes
use Rattle.rv_state.specs.declared.cause.Interrupt.TheVariants.{MachineTimer}
use Rattle.rv_monitor.specs.Prelude.{Context, Destroy, Enclave, Host, Trap, first_refusal, state_refusals, with_return_values}
use Rattle.rv_monitor.specs.MonitoredMachine.{MonitoredMachine, hart_state_of}
use Rattle.rv_monitor.specs.NumberedCalls.{HandsOver, by_interrupt}
use Rattle.rv_monitor.specs.Step.{MonitoredStepped}

-- the trap of a machine timer interrupt, with 0 in mtval
abbrev pub timer_trap : Trap
timer_trap = record { cause = causes.Interrupt MachineTimer; tval = 0 }

-- the step takes the timer interrupt: the enclave stops, the host returns with 2 and 0 in a0 and a1, and may destroy the enclave
pub record ExitsByTimer (hart slot : ℕ) (host : Context) (before : MonitoredMachine) (after : MonitoredStepped) : Type 0 where
  pub trapped : after.outcome.step.trap ≡ Some timer_trap
  pub left : HandsOver hart before after slot timer_trap host (by_interrupt (hart_state_of hart before).hart)
  -- the host receives 2 in a0 and 0 in a1
  pub result : (hart_state_of hart after.state).hart.regs ≡ with_return_values host.regs 2 0
  pub world : (hart_state_of hart after.state).world ≡ Host
  -- a destroy of the enclave is not refused
  pub destroyable : first_refusal (state_refusals after.state.shared.table Destroy slot) ≡ None

-- if the timer line of a hart that runs an enclave is set, then the next step of the hart exits to the host whose context the hart saved
abbrev pub TimerExits : ℕ → MonitoredMachine → MonitoredStepped → Type 0
TimerExits hart before after =
    (slot : ℕ) (host : Context) → (hart_state_of hart before).world ≡ Enclave slot → (hart_state_of hart before).host_context ≡ Some host
    → (hart_state_of hart before).hart.csrs.timer ≡ true → ExitsByTimer hart slot host before after
