-- The return to the host. Take the step with which the host of a hart enters an enclave and the step with which the enclave exits, with any steps
-- of the harts in between. The host then continues after its ecall as it was before the first step, except for a0 and a1. (A law about the
-- monitor's definitions; Keystone, EuroSys 2020, in this project's profile.)
use Rattle.std.specs.Prelude.{◌≡◌, ℕ, true, false, List, [], ◌∷◌, Some}
use Rattle.rv_monitor.specs.Prelude.{S, Trap, is_host, with_return_values}
use Rattle.rv_monitor.specs.HartLaws.{sched}
use Rattle.rv_monitor.specs.Switches.{saved}
use Rattle.rv_monitor.specs.TrapReturns.{past_ecall}
use Rattle.rv_monitor.specs.MonitoredMachine.{MonitoredMachine, HartView, Invariant, HostContextIsLegal, hart_state_of, hart_view}
use Rattle.rv_monitor.specs.Step.{HartViewStepped, monitored_step, step_of}
use Rattle.rv_monitor.specs.SwitchLaws.{continuation, reason, value}

-- an enclave runs on the hart before, between and after these steps
abbrev pub RunsThrough : ℕ → List ℕ → MonitoredMachine → Type 0
RunsThrough hart [] machine = is_host (hart_state_of hart machine).world ≡ false
RunsThrough hart (stepping_hart ∷ harts) machine =
    (is_host (hart_state_of hart machine).world ≡ false) × RunsThrough hart harts (step_of stepping_hart machine).state

-- the last step ends in a trap, and the host continues after its ecall as it was before the first step, except for a0 and a1
pub record HostIsRestored (before last : HartView) (after : HartViewStepped) : Type 0 where
  pub trap : Trap
  pub trapped : after.outcome.step.trap ≡ Some trap
  -- the hart continues after the ecall of the first step, with the registers of that time except a0 and a1
  pub again : continuation after.state.hart_state.hart ≡ record (saved before.hart_state.hart (past_ecall before.hart_state.hart) S) {
    regs =
        with_return_values before.hart_state.hart.regs (reason trap.cause last.hart_state.hart.regs) (value trap.cause last.hart_state.hart.regs);
  }

-- The host runs on a hart whose step enters an enclave. An enclave runs on this hart through steps of the harts in any order. After the next step of
-- the hart the host runs. The S-mode registers of the context that the first step saved are as a hart stores them.
abbrev pub ReturnLaw : Type 0
ReturnLaw =
    (hart : ℕ) (harts : List ℕ) (machine : MonitoredMachine) → Invariant machine → HostContextIsLegal
    (hart_state_of hart (step_of hart machine).state)
    → is_host (hart_state_of hart machine).world ≡ true → RunsThrough hart harts (step_of hart machine).state
    → (let last = hart_view hart (sched harts (step_of hart machine).state).state in
    is_host (monitored_step last).state.hart_state.world ≡ true → HostIsRestored (hart_view hart machine) last (monitored_step last))
