-- An enclave exits only by its own ecall from S that requests stop or exit, or by the timer interrupt. Every other exception of an enclave is
-- redirected to its own mode S, and nothing else changes. (A law about the monitor's definitions; Keystone, EuroSys 2020, in this project's
-- profile; trap entry to mode S: RISC-V Privileged Architecture 20211203, sections 3.1.6.1 and 4.1.7 to 4.1.9.)
use Rattle.std.specs.Prelude.{◌≡◌, ℕ, Bool, true, false, Option, Some, None}
use Rattle.rv_state.specs.Causes.{cause_code}
use Rattle.rv_state.specs.declared.cause.Cause.TheVariants as causes
use Rattle.rv_state.specs.declared.cause.Interrupt.{Interrupt}
use Rattle.rv_state.specs.declared.cause.Interrupt.TheVariants.{MachineTimer}
use Rattle.rv_monitor.specs.Prelude.{Call, Cause, CsrState, Enclave, EnvironmentCallFromS, Exit, Hart, HartState, M, Mode, S, Stop, Trap, U, aligned_to_4}
use Rattle.rv_monitor.specs.Prelude.{is_host, requested_call}
use Rattle.rv_monitor.specs.TrapReturns.{passed_csrs}
use Rattle.rv_monitor.specs.MonitoredMachine.{MonitoredMachine, hart_state_of, with_hart_state}
use Rattle.rv_monitor.specs.Step.{MonitoredStepped}

-- ---- the traps by which an enclave exits

-- the calls that exit an enclave: stop and exit
abbrev pub is_exit_call : Option Call → Bool
is_exit_call (Some Stop) = true
is_exit_call (Some Exit) = true
is_exit_call _ = false

-- an interrupt, or an ecall from S whose a7 and a6 request stop or exit
abbrev pub causes_exit : HartState → Cause → Bool
causes_exit hart_state (causes.Interrupt interrupt) = true
causes_exit hart_state (causes.Exception EnvironmentCallFromS) =
    is_exit_call (requested_call hart_state.world hart_state.hart.regs)
causes_exit hart_state (causes.Exception exception) = false

-- ---- redirection to mode S

-- whether the cause of a trap is an exception other than an ecall from S
abbrev pub is_redirected : Cause → Bool
is_redirected (causes.Exception EnvironmentCallFromS) = false
is_redirected (causes.Exception exception) = true
is_redirected (causes.Interrupt interrupt) = false

-- the value of SPP for the mode of a trap: 1 for S, and 0 for U
abbrev pub spp_of : Mode → Bool
spp_of U = false
spp_of S = true
spp_of M = false

-- the CSRs after a trap to S-mode, with the pc, the cause and the value of the exception, and the mode in which the exception occurred
abbrev pub redirected_csrs : Hart → Trap → CsrState
redirected_csrs hart trap =
    let passed = passed_csrs hart.csrs trap (aligned_to_4 hart.csrs.stvec) in
    record passed {
      mstatus = record passed.mstatus { spie = hart.csrs.mstatus.sie; sie = false; spp = spp_of hart.mode };
      sepc = aligned_to_4 hart.pc;
      scause = cause_code trap.cause;
      stval = trap.tval;
    }

-- the hart after a redirected trap: it continues in S at the base of stvec, with its registers
abbrev pub redirected_hart : Hart → Trap → Hart
redirected_hart hart trap =
    record { regs = hart.regs; csrs = redirected_csrs hart trap; pc = aligned_to_4 hart.csrs.stvec; mode = S }

-- the machine after a redirected trap: only the hart that trapped changes
abbrev pub redirected_machine : ℕ → MonitoredMachine → Trap → MonitoredMachine
redirected_machine hart before trap =
    let hart_state = hart_state_of hart before in
    with_hart_state hart (record hart_state { hart = redirected_hart hart_state.hart trap }) before

-- ---- the law

-- after a step of a hart that runs an enclave, the hart runs this enclave, or the host after stop, exit or a timer interrupt
pub record ExitsOnlyBy (hart slot : ℕ) (before : MonitoredMachine) (after : MonitoredStepped) : Type 0 where
  -- without a trap, the enclave continues
  pub quiet : after.outcome.step.trap ≡ None → (hart_state_of hart after.state).world ≡ Enclave slot
  -- with a trap, the enclave exits if and only if the cause is one that exits
  pub exits : (trap : Trap) → after.outcome.step.trap ≡ Some trap
      → is_host (hart_state_of hart after.state).world ≡ causes_exit (hart_state_of hart before) trap.cause
  -- each interrupt is the timer interrupt, and the timer line is set
  pub timer : (trap : Trap) (interrupt : Interrupt) → after.outcome.step.trap ≡ Some trap
      → trap.cause ≡ causes.Interrupt interrupt
      → (interrupt ≡ MachineTimer) × ((hart_state_of hart before).hart.csrs.timer ≡ true)
  -- every other exception is redirected
  pub redirects : (trap : Trap) → after.outcome.step.trap ≡ Some trap → is_redirected trap.cause ≡ true
      → (after.state ≡ redirected_machine hart before trap) × (after.outcome.entered ≡ None)

-- an enclave that runs on the hart that steps exits only by stop, by exit or by a timer interrupt
abbrev pub ExitsOnRequest : ℕ → MonitoredMachine → MonitoredStepped → Type 0
ExitsOnRequest hart before after =
    (slot : ℕ) → (hart_state_of hart before).world ≡ Enclave slot → ExitsOnlyBy hart slot before after
