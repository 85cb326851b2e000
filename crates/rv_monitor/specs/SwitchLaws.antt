-- The effect of a step on the world and on the host's saved context. The world continues, the host enters an enclave, or an enclave exits and
-- the host is restored. (A law about the monitor's definitions; Keystone, EuroSys 2020, in this project's profile.)
use Rattle.std.specs.Prelude.{◌≡◌, ℕ, ◌==◌, ◌⊎◌, List, Some, None, if◌then◌else◌}
use Rattle.rv_state.specs.declared.cause.Cause.TheVariants as causes
use Rattle.rv_monitor.specs.Prelude.{Cause, Context, Enclave, Exit, Hart, Host, S, Trap, call_number, register, with_return_values}
use Rattle.rv_monitor.specs.Switches.{saved}
use Rattle.rv_monitor.specs.TrapReturns.{past_ecall}
use Rattle.rv_monitor.specs.MonitoredMachine.{HartView}
use Rattle.rv_monitor.specs.Step.{HartViewStepped}

-- the world continues: the hart has the same world and the same saved context of the host
pub record Stays (before : HartView) (after : HartViewStepped) : Type 0 where
  pub world : after.state.hart_state.world ≡ before.hart_state.world
  pub host : after.state.hart_state.host_context ≡ before.hart_state.host_context
  pub entered : after.outcome.entered ≡ None

-- the host enters an enclave: the saved context of the host has the registers of the hart, mode S, and the address after the ecall
pub record Enters (before : HartView) (after : HartViewStepped) : Type 0 where
  pub slot : ℕ
  -- the host runs before the step, and the enclave runs after the step
  pub from_host : before.hart_state.world ≡ Host
  pub world : after.state.hart_state.world ≡ Enclave slot
  -- the hart saves the context of the host, which will continue in S after its ecall
  pub host : after.state.hart_state.host_context ≡ Some (saved before.hart_state.hart (past_ecall before.hart_state.hart) S)
  pub entered : after.outcome.entered ≡ Some slot

-- the value that the host receives in a0 when an enclave exits: 0 after the call exit, 1 after stop, and 2 after a timer interrupt
abbrev pub reason : Cause → List ℕ → ℕ
reason (causes.Interrupt interrupt) regs = 2
reason (causes.Exception exception) regs = if register regs 16 == call_number Exit then 0 else 1

-- the value that the host receives in a1 when an enclave exits: the a0 of the enclave after stop and exit, and 0 after a timer interrupt
abbrev pub value : Cause → List ℕ → ℕ
value (causes.Interrupt interrupt) regs = 0
value (causes.Exception exception) regs = register regs 10

-- the context with which the hart would continue, if the monitor saved it now
abbrev pub continuation : Hart → Context
continuation hart = saved hart hart.pc hart.mode

-- an enclave exits: the monitor restores the host, except for a0 and a1
pub record Leaves (before : HartView) (after : HartViewStepped) : Type 0 where
  pub slot : ℕ
  -- the saved context of the host before the step
  pub host : Context
  pub trap : Trap
  -- an enclave runs before the step
  pub from_enclave : before.hart_state.world ≡ Enclave slot
  pub kept : before.hart_state.host_context ≡ Some host
  pub trapped : after.outcome.step.trap ≡ Some trap
  -- the host runs after the step
  pub world : after.state.hart_state.world ≡ Host
  -- the hart continues with the saved context of the host, except for the reason in a0 and the value in a1
  pub again : continuation after.state.hart_state.hart
      ≡ record host {
        regs =
            with_return_values host.regs (reason trap.cause before.hart_state.hart.regs) (value trap.cause before.hart_state.hart.regs);
      }
  -- the hart no longer saves the context of the host
  pub forgotten : after.state.hart_state.host_context ≡ None
  pub entered : after.outcome.entered ≡ None

-- each step continues its world, enters an enclave from the host, or exits an enclave to the host
abbrev pub StaysOrSwitches : HartView → HartViewStepped → Type 0
StaysOrSwitches before after = Stays before after ⊎ (Enters before after ⊎ Leaves before after)
