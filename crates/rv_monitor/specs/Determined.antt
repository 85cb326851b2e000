-- Five laws determine each step: a result that obeys the five laws is the result of the step. (A law about the laws, not a rule of a standard.)
use Rattle.std.specs.Prelude.{◌≡◌, ◌<◌, ℕ}
use Rattle.rv_monitor.specs.Exits.{ExitsOnRequest}
use Rattle.rv_monitor.specs.MonitoredMachine.{Invariant, MonitoredMachine, count_of}
use Rattle.rv_monitor.specs.NumberedCalls.{AnswersCalls, InterruptsEnclave}
use Rattle.rv_monitor.specs.PlainSteps.{HostContinues, StepsPlainly}
use Rattle.rv_monitor.specs.Step.{MonitoredStepped, step_of}

-- the result of the step obeys the five laws, which cover each case: no trap, an interrupt, an ecall from S, and another exception
pub record ObeysCases (hart : ℕ) (before : MonitoredMachine) (after : MonitoredStepped) : Type 0 where
  pub plain : StepsPlainly hart before after
  pub answers : AnswersCalls hart before after
  pub interrupts : InterruptsEnclave hart before after
  pub exits : ExitsOnRequest hart before after
  pub host : HostContinues hart before after

-- a result that obeys the five laws is the result of the step
abbrev pub DeterminedLaw : Type 0
DeterminedLaw =
    (hart : ℕ) (machine : MonitoredMachine) (after : MonitoredStepped) → Invariant machine → hart < count_of machine → ObeysCases hart machine after
    → after ≡ step_of hart machine
