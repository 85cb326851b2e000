-- Noninterference with declassification for commands: what an enclave has and does has no influence on what others observe of the replies,
-- except for what it hands over. The commands may run it, to its exit and beyond. (Laws of this project's own debugger and monitor;
-- declassification: Sabelfeld and Sands, JCS 2009.)
use Rattle.std.specs.Prelude.{ℕ, ◌≡◌, ◌⊎◌, Bool, true, false, List, [], ◌∷◌, IfSome}
use Rattle.rv_enclaves.specs.Table.{is_live, runs}
use Rattle.rv_monitor.specs.Declassification.{AreMoves, AreRelated, Both, First, Move, SameWindow, Second}
use Rattle.rv_monitor.specs.Events.{LineOf, StepOf}
use Rattle.rv_debug.specs.Prelude.{Bare, Command, Csr, Done, Monitored, MonitoredMachine, Run, SetReg, Step, Stop, Target}
use Rattle.rv_debug.specs.BenchState.{BenchState}
use Rattle.rv_debug.specs.BothBenches.{BenchesEquivExcept, RunsOnNoHart, RunsOnNoneIn, is_entered}
use Rattle.rv_debug.specs.Effects.{effect, harts_stepped, steps_of}
use Rattle.rv_debug.specs.Execute.{csr_reply, execute}
use Rattle.rv_debug.specs.Isolation.{after_commands}
use Rattle.rv_debug.specs.Noninterference.{AvoidsEnclave, PokesInto, harts_named}
use Rattle.rv_debug.specs.Observed.{guest_target, is_selected, observed}
use Rattle.rv_debug.specs.Selected.{Selected}
use Rattle.rv_debug.specs.Targets.{TargetInvariant, machine_in}

-- ---- two benches that are equivalent except for an enclave, whether it runs or not

-- The selected hart is the same, and the machines are related. A bare machine has no enclave.
pub record SelectedAreRelated (enclave : ℕ) (one other : Selected) : Type 0 where
  pub hart : one.hart ≡ other.hart
  pub state : AreRelated enclave one.state other.state

-- two targets are bare and equal, or monitored and related for `enclave`
abbrev pub TargetsAreRelated : ℕ → Target → Target → Type 0
TargetsAreRelated enclave (Bare one) (Bare other) = one ≡ other
TargetsAreRelated enclave (Monitored one) (Monitored other) = SelectedAreRelated enclave one other
TargetsAreRelated enclave _ _ = ⊥

-- two benches have related targets, the same breakpoints and the same watchpoints
pub record BenchesAreRelated (enclave : ℕ) (one other : BenchState) : Type 0 where
  pub target : TargetsAreRelated enclave one.target other.target
  pub breaks : one.breaks ≡ other.breaks
  pub watches : one.watches ≡ other.watches

-- ---- the steps of two commands

-- no move changes a timer line
abbrev pub are_steps : List Move → Bool
are_steps [] = true
are_steps (Both (LineOf hart raised) ∷ moves) = false
are_steps (_ ∷ moves) = are_steps moves

-- `first_steps` has the harts that step in the first machine
abbrev pub first_steps : List Move → List ℕ
first_steps [] = []
first_steps (First hart ∷ moves) = hart ∷ first_steps moves
first_steps (Second hart ∷ moves) = first_steps moves
first_steps (Both (StepOf hart) ∷ moves) = hart ∷ first_steps moves
first_steps (Both (LineOf hart raised) ∷ moves) = first_steps moves

-- `second_steps` has the harts that step in the second machine
abbrev pub second_steps : List Move → List ℕ
second_steps [] = []
second_steps (First hart ∷ moves) = second_steps moves
second_steps (Second hart ∷ moves) = hart ∷ second_steps moves
second_steps (Both (StepOf hart) ∷ moves) = hart ∷ second_steps moves
second_steps (Both (LineOf hart raised) ∷ moves) = second_steps moves

-- Steps of two machines are those of a list of moves: the enclave takes any number of steps in each, and hands over the same at each exit.
pub record StepsAreMoves (enclave : ℕ) (one other : MonitoredMachine) (harts others : List ℕ) : Type 0 where
  pub moves : List Move
  pub steps : are_steps moves ≡ true
  -- in the first machine, the moves are steps of `harts`, and in the second machine steps of `others`
  pub first : first_steps moves ≡ harts
  pub second : second_steps moves ≡ others
  -- the moves are permitted in the two machines
  pub are : AreMoves enclave moves one other

-- the steps of a command in two monitored benches are those of a list of moves; bare benches have no condition
abbrev pub HandsOverAlike : ℕ → BenchState → BenchState → Command → Type 0
HandsOverAlike enclave bench other_bench command =
    IfSome (machine_in bench.target) (λ one. IfSome (machine_in other_bench.target) (λ other.
    StepsAreMoves enclave one other (harts_stepped (effect bench command)) (harts_stepped (effect other_bench command))))

-- `stop_of` is the reason for which the steps of a command end
abbrev pub stop_of : BenchState → Command → Stop
stop_of bench (Step count) = (steps_of bench.target [] [] count).ran.stop
stop_of bench (Run count) = (steps_of bench.target bench.breaks bench.watches count).ran.stop
stop_of bench _ = Done

-- ---- a command of each bench

-- the command sets a register of a hart on which `enclave` runs
abbrev pub SetsOwnRegister : ℕ → BenchState → Command → Type 0
SetsOwnRegister enclave bench (SetReg number value) = is_selected enclave bench.target ≡ true
SetsOwnRegister enclave bench _ = ⊥

-- The command `here` of the first bench and the command `there` of the second are equal. In both benches the enclave hands over the same at each exit,
-- and the steps of the command end for the same reason.
pub record IsSameCommand (enclave : ℕ) (first second : BenchState) (here there : Command) : Type 0 where
  pub same : here ≡ there
  pub steps : HandsOverAlike enclave first second here
  pub stop : stop_of first here ≡ stop_of second here

-- the bytes of the window are equal, if the enclave runs
abbrev pub WindowsAreEqual : ℕ → BenchState → BenchState → Type 0
WindowsAreEqual enclave bench other_bench =
    IfSome (machine_in bench.target) (λ one. IfSome (machine_in other_bench.target) (λ other.
    runs one.shared.table enclave ≡ true → SameWindow enclave one other))

-- The command `here` of the first bench and the command `there` of the second are equal. In the first bench the command steps no hart on which the
-- enclave runs, and does not enter the enclave.
pub record IsSameLowCommand (enclave : ℕ) (first second : BenchState) (here there : Command) : Type 0 where
  pub same : here ≡ there
  pub window : WindowsAreEqual enclave first second
  -- the enclave runs on none of the harts that the command may step
  pub none : RunsOnNoneIn enclave (harts_named first.target here) first.target
  -- the command does not enter the enclave
  pub past : is_entered enclave (execute first here).entered ≡ false

-- Both benches execute the same command, which hands over the same or is low. Or each bench pokes a secret into the region of the enclave, or sets a
-- register of the hart on which the enclave runs to a secret.
abbrev pub CommandsAlike : ℕ → BenchState → BenchState → Command → Command → Type 0
CommandsAlike enclave bench other_bench command other_command =
    (IsSameCommand enclave bench other_bench command other_command ⊎ IsSameLowCommand enclave bench other_bench command other_command)
    ⊎ ((PokesInto enclave bench command × PokesInto enclave other_bench other_command)
    ⊎ (SetsOwnRegister enclave bench command × SetsOwnRegister enclave other_bench other_command))

-- the observations are equal, and the benches are related again
pub record ObservedAlike (enclave : ℕ) (bench other_bench : BenchState) (command other_command : Command) : Type 0 where
  pub observed : observed enclave bench command ≡ observed enclave other_bench other_command
  pub state : BenchesAreRelated enclave (execute bench command).state (execute other_bench other_command).state

-- two commands that are alike have equal observations on related benches, and leave them related
abbrev pub CommandDeclassificationLaw : Type 0
CommandDeclassificationLaw =
    (enclave : ℕ) (bench other_bench : BenchState) (command other_command : Command) → TargetInvariant bench.target
    → TargetInvariant other_bench.target
    → BenchesAreRelated enclave bench other_bench → CommandsAlike enclave bench other_bench command other_command
    → ObservedAlike enclave bench other_bench command other_command

-- ---- a command that executes no step of the enclave

-- both benches execute equal steps of the command, and the windows are equal afterwards
pub record IsLowCommand (enclave : ℕ) (bench other_bench : BenchState) (command : Command) : Type 0 where
  pub same : IsSameCommand enclave bench other_bench command command
  pub window : WindowsAreEqual enclave (execute bench command).state (execute other_bench command).state

-- A command steps no hart on which the enclave runs, and does not enter it in the first bench. The condition on its steps then holds.
abbrev pub LowCommandLaw : Type 0
LowCommandLaw =
    (enclave : ℕ) (first second : BenchState) (command : Command) → TargetInvariant first.target → TargetInvariant second.target
    → BenchesAreRelated enclave first second → WindowsAreEqual enclave first second
    → RunsOnNoneIn enclave (harts_named first.target command) first.target
    → is_entered enclave (execute first command).entered ≡ false → IsLowCommand enclave first second command

-- ---- lists of commands

-- two lists of commands, one for each bench, are alike command by command
abbrev pub AllCommandsAlike : ℕ → BenchState → BenchState → List Command → List Command → Type 0
AllCommandsAlike enclave bench other_bench [] [] = Unit {0}
AllCommandsAlike enclave bench other_bench (command ∷ commands) (other_command ∷ other_commands) =
    CommandsAlike enclave bench other_bench command other_command
    × AllCommandsAlike enclave (execute bench command).state (execute other_bench other_command).state commands other_commands
AllCommandsAlike enclave bench other_bench _ _ = ⊥

-- `all_observed` has the observations of commands, one after another
abbrev pub all_observed : ℕ → BenchState → List Command → List (List ℕ)
all_observed enclave bench [] = []
all_observed enclave bench (command ∷ commands) = observed enclave bench command ∷ all_observed enclave (execute bench command).state commands

-- all observations of two lists of commands are equal, and the benches are related after them
pub record AllObservedAlike (enclave : ℕ) (bench other_bench : BenchState) (commands other_commands : List Command) : Type 0 where
  pub observed : all_observed enclave bench commands ≡ all_observed enclave other_bench other_commands
  pub state : BenchesAreRelated enclave (after_commands bench commands) (after_commands other_bench other_commands)

-- two lists of commands that are alike have equal observations on related benches, and leave them related
abbrev pub ListDeclassificationLaw : Type 0
ListDeclassificationLaw =
    (enclave : ℕ) (bench other_bench : BenchState) (commands other_commands : List Command) → TargetInvariant bench.target
    → TargetInvariant other_bench.target
    → BenchesAreRelated enclave bench other_bench → AllCommandsAlike enclave bench other_bench commands other_commands
    → AllObservedAlike enclave bench other_bench commands other_commands

-- ---- the observation of a command that has nothing to do with the enclave

-- `enclave` does not run
abbrev pub DoesNotRun : ℕ → Target → Type 0
DoesNotRun enclave target = IfSome (machine_in target) (λ machine. runs machine.shared.table enclave ≡ false)

-- the observation of the command is its whole reply; for `csr` the observation is the reply in the guest view
abbrev pub IsObserved : ℕ → BenchState → Command → Type 0
IsObserved enclave bench (Csr number) = observed enclave bench (Csr number) ≡ csr_reply (guest_target bench.target) number
IsObserved enclave bench command = observed enclave bench command ≡ (execute bench command).reply

-- The whole reply is observed if the enclave does not run, and the command neither enters it nor accesses a byte of its region.
abbrev pub ObservationLaw : Type 0
ObservationLaw =
    (enclave : ℕ) (bench : BenchState) (command : Command) → TargetInvariant bench.target → DoesNotRun enclave bench.target
    → AvoidsEnclave enclave bench command
    → IsObserved enclave bench command

-- ---- after the enclave has ended

-- `enclave` is not live
abbrev pub EnclaveHasEnded : ℕ → Target → Type 0
EnclaveHasEnded enclave target = IfSome (machine_in target) (λ machine. is_live machine.shared.table enclave ≡ false)

-- the two benches are related for the slot of each number, so that no secret is left
abbrev pub AreRelatedForAll : BenchState → BenchState → Type 0
AreRelatedForAll first second = (k : ℕ) → BenchesAreRelated k first second

-- After an enclave has ended, related benches are related for every slot. The same command then satisfies the condition on its steps for every slot,
-- even if it runs another enclave, and the benches are related for every slot again.
pub record EndedLaw : Type 0 where
  pub ended : (enclave : ℕ) (bench other_bench : BenchState) → TargetInvariant bench.target → BenchesAreRelated enclave bench other_bench
      → EnclaveHasEnded enclave bench.target
      → AreRelatedForAll bench other_bench
  pub same : (slot : ℕ) (bench other_bench : BenchState) (command : Command) → TargetInvariant bench.target → TargetInvariant other_bench.target
      → AreRelatedForAll bench other_bench → IsSameCommand slot bench other_bench command command
  pub again : (bench other_bench : BenchState) (command : Command) → TargetInvariant bench.target → TargetInvariant other_bench.target
      → AreRelatedForAll bench other_bench → AreRelatedForAll (execute bench command).state (execute other_bench command).state

-- ---- where the relation begins

-- A bench is related to itself. Benches that are equivalent except for an enclave are related, if it runs on no hart.
pub record BenchRelationLaw : Type 0 where
  pub itself : (enclave : ℕ) (bench : BenchState) → BenchesAreRelated enclave bench bench
  pub begins : (enclave : ℕ) (first second : BenchState)
      → BenchesEquivExcept enclave first second → RunsOnNoHart enclave first.target → BenchesAreRelated enclave first second
