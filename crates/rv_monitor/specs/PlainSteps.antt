-- Steps that are no call of the monitor. An instruction that does not trap has the effect that it has on the hart without the monitor. For the host
-- no interrupt is taken, whether or not the timer line is set, and every exception goes to its own mode S. (A law about the monitor's definitions;
-- Keystone, EuroSys 2020, in this project's profile; trap entry to mode S: RISC-V Privileged Architecture 20211203, sections 3.1.6.1 and 4.1.7 to
-- 4.1.9.)
use Rattle.std.specs.Prelude.{◌≡◌, ◌≢◌, ◌<◌, ℕ, true, slice_set, Some, None}
use Rattle.rv_state.specs.declared.cause.Cause.TheVariants as causes
use Rattle.rv_state.specs.declared.cause.Interrupt.{Interrupt}
use Rattle.rv_monitor.specs.Prelude.{Host, Stepped, Trap, step}
use Rattle.rv_monitor.specs.Exits.{is_redirected, redirected_machine}
use Rattle.rv_monitor.specs.MonitoredMachine.{MonitoredMachine, count_of, hart_state_of}
use Rattle.rv_monitor.specs.Step.{MonitoredStepped}

-- ---- any world

-- the step of the hart without the monitor
abbrev pub plain_step : ℕ → MonitoredMachine → Stepped
plain_step hart machine = step (record { hart = (hart_state_of hart machine).hart; memory = machine.shared.memory })

-- the machine after a step without a trap: only the hart and the memory change, as in the plain step
abbrev pub plainly_stepped : ℕ → MonitoredMachine → MonitoredMachine
plainly_stepped hart before =
    let after = plain_step hart before in
    record {
      hart_states = slice_set before.hart_states hart (record (hart_state_of hart before) { hart = after.state.hart });
      shared = record before.shared { memory = after.state.memory };
    }

-- The trap and the accesses of the step are those of the plain step. Without a trap, the machine after the step is also that of the plain step.
pub record IsPlain (hart : ℕ) (before : MonitoredMachine) (after : MonitoredStepped) : Type 0 where
  -- the trap and the accesses are those of the plain step
  pub outcome : after.outcome.step ≡ (plain_step hart before).outcome
  -- without a trap, the machine after the step is that of the plain step, and the step enters no enclave
  pub quiet : after.outcome.step.trap ≡ None
      → (after.state ≡ plainly_stepped hart before) × (after.outcome.entered ≡ None)

-- a step of a hart of the machine is the step of the same hart without the monitor; only a trap adds the effect of the trap handler
abbrev pub StepsPlainly : ℕ → MonitoredMachine → MonitoredStepped → Type 0
StepsPlainly hart before after = hart < count_of before → IsPlain hart before after

-- ---- the host

-- a step of the host takes no interrupt, and redirects each exception that is not a call to mode S
pub record ContinuesHost (hart : ℕ) (before : MonitoredMachine) (after : MonitoredStepped) : Type 0 where
  -- no trap of the step is an interrupt
  pub uninterrupted : (trap : Trap) (interrupt : Interrupt) → after.outcome.step.trap ≡ Some trap
      → trap.cause ≢ causes.Interrupt interrupt
  -- an exception that is not an ecall from S continues at stvec, and enters no enclave
  pub redirects : (trap : Trap) → after.outcome.step.trap ≡ Some trap → is_redirected trap.cause ≡ true
      → (after.state ≡ redirected_machine hart before trap) × (after.outcome.entered ≡ None)

-- a step of the host takes no interrupt, and redirects its exceptions
abbrev pub HostContinues : ℕ → MonitoredMachine → MonitoredStepped → Type 0
HostContinues hart before after = (hart_state_of hart before).world ≡ Host → ContinuesHost hart before after
