-- The return to the host. Take the step with which the host enters an enclave and the one with which the enclave exits, in one command or with
-- any commands in between. The host then continues after its ecall as it was before the first step, except for a0 and a1. (A law of this
-- project's own debugger and monitor; Keystone, EuroSys 2020, in this project's profile.)
use Rattle.std.specs.Prelude.{ℕ, ◌≡◌, true, List, [], ◌∷◌, ◌++◌, IsSomeAnd}
use Rattle.rv_monitor.specs.Returns.{HostIsRestored, RunsThrough}
use Rattle.rv_debug.specs.Prelude.{Command, HostContextIsLegal, MonitoredMachine, HartView, is_host, monitored_step, sched, hart_state_of}
use Rattle.rv_debug.specs.Prelude.{hart_view, step_of}
use Rattle.rv_debug.specs.Execute.{execute}
use Rattle.rv_debug.specs.BenchState.{BenchState}
use Rattle.rv_debug.specs.Effects.{effect, harts_stepped}
use Rattle.rv_debug.specs.Targets.{TargetInvariant, machine_in}

-- The host's saved context has legal values. The list of harts consists of `before`, the hart itself and `after`. An enclave runs on the hart during
-- the steps of `before`, up to the exit state. The step of the hart in this state is the exit, and the host runs after it.
pub record LeavesWithin (hart : ℕ) (harts : List ℕ) (machine : MonitoredMachine) (exit : HartView) : Type 0 where
  pub stored : HostContextIsLegal (hart_state_of hart machine)
  pub before : List ℕ
  pub after : List ℕ
  pub steps_are : harts ≡ before ++ hart ∷ after
  pub runs : RunsThrough hart before machine
  pub exit_is : exit ≡ hart_view hart (sched before machine).state
  pub host : is_host (monitored_step exit).state.hart_state.world ≡ true

-- The list has the steps of a command that are not yet executed. `after` is the bench at the end of the command, and further commands follow. The
-- enclave exits in the last of all these commands, and runs on the hart through the earlier ones.
abbrev pub LeavesLater : ℕ → List ℕ → MonitoredMachine → BenchState → List Command → HartView → Type 0
LeavesLater hart harts machine after [] exit = LeavesWithin hart harts machine exit
LeavesLater hart harts machine after (command ∷ commands) exit =
    RunsThrough hart harts machine × IsSomeAnd (machine_in after.target) (λ next.
    LeavesLater hart (harts_stepped (effect after command)) next (execute after command).state commands exit)

-- The steps of the first command are those of `before`, a step of this hart, and those of `after`. The step of this hart enters an enclave from the
-- entry state, in which the host runs. The enclave exits in the first command or in a later command.
pub record EntersAndLeaves (hart : ℕ) (bench : BenchState) (first_command : Command) (later_commands : List Command) (machine : MonitoredMachine)
    (entry exit : HartView) : Type 0 where
  pub before : List ℕ
  pub after : List ℕ
  pub steps_are : harts_stepped (effect bench first_command) ≡ before ++ hart ∷ after
  pub entry_is : entry ≡ hart_view hart (sched before machine).state
  pub host : is_host entry.hart_state.world ≡ true
  pub leaves : LeavesLater hart after (step_of hart (sched before machine).state).state (execute bench first_command).state later_commands exit

-- The commands in between may step either hart, set registers, raise and lower the timer line, and poke any byte.
abbrev pub ReturnLaw : Type 0
ReturnLaw =
    (hart : ℕ) (bench : BenchState) (first_command : Command) (later_commands : List Command) (entry exit : HartView) → TargetInvariant bench.target
    → IsSomeAnd (machine_in bench.target) (λ machine. EntersAndLeaves hart bench first_command later_commands machine entry exit)
    → HostIsRestored entry exit (monitored_step exit)
