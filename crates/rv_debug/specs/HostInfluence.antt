-- The host's influence on an enclave, for commands. Two benches with unlike hosts, tables, memories and schedules have an enclave at the same point
-- of its life, and execute unlike commands. Its own steps are then the same in both, as long as the bytes of its window that they read are equal. (A
-- law about this project's own debugger and monitor.)
use Rattle.std.specs.Prelude.{ℕ, ◌≡◌, false, List, [], ◌∷◌, IfSome, IsSomeAnd}
use Rattle.rv_monitor.specs.Events.{StepOf}
use Rattle.rv_monitor.specs.LegalMachine.{IsLegalMachine}
use Rattle.rv_monitor.specs.Life.{AreAtOnePoint, IsForeign, IsOwnStep, SameOwnStep, at}
use Rattle.rv_debug.specs.Prelude.{Command, MonitoredMachine, Target, has, region, runs_on, step_of}
use Rattle.rv_debug.specs.BenchState.{BenchState}
use Rattle.rv_debug.specs.CommandEvents.{Action, Occurs, SetsByte, SetsRegister, actions_of, after_action}
use Rattle.rv_debug.specs.Execute.{execute}
use Rattle.rv_debug.specs.Isolation.{after_commands}
use Rattle.rv_debug.specs.Targets.{TargetInvariant, machine_in}

-- ---- what the others do

-- An event of the others, a write of a register of a hart that does not run the enclave, or a write of a byte outside its region. The byte may be in
-- its window.
abbrev pub IsForeignAction : ℕ → Action → MonitoredMachine → Type 0
IsForeignAction slot (Occurs event) machine = IsForeign slot event machine
IsForeignAction slot (SetsRegister hart number value) machine = runs_on slot hart machine ≡ false
IsForeignAction slot (SetsByte address byte) machine = has (region machine.shared.table slot) address ≡ false

-- ---- two lives

-- a move is an action in the first machine, an action in the second, or a step of the enclave on a hart of each
pub data BenchMove : Type 0 where
  InFirst : Action → BenchMove
  InSecond : Action → BenchMove
  InBoth : ℕ → ℕ → BenchMove

-- the move is a foreign action in its machine, or a step of the enclave in both machines
abbrev pub IsBenchMove : ℕ → ℕ → BenchMove → MonitoredMachine → MonitoredMachine → Type 0
IsBenchMove enclave other_enclave (InFirst action) one other = IsForeignAction enclave action one
IsBenchMove enclave other_enclave (InSecond action) one other = IsForeignAction other_enclave action other
IsBenchMove enclave other_enclave (InBoth hart other_hart) one other = IsOwnStep (at enclave hart) (at other_enclave other_hart) one other

-- `moved_first` is the first machine after a move
abbrev pub moved_first : BenchMove → MonitoredMachine → MonitoredMachine
moved_first (InFirst action) machine = after_action action machine
moved_first (InSecond action) machine = machine
moved_first (InBoth hart other_hart) machine = (step_of hart machine).state

-- `moved_second` is the second machine after a move
abbrev pub moved_second : BenchMove → MonitoredMachine → MonitoredMachine
moved_second (InFirst action) machine = machine
moved_second (InSecond action) machine = after_action action machine
moved_second (InBoth hart other_hart) machine = (step_of other_hart machine).state

-- each move in the list is permitted in the two machines that the moves before it lead to
abbrev pub AreBenchMoves : ℕ → ℕ → List BenchMove → MonitoredMachine → MonitoredMachine → Type 0
AreBenchMoves enclave other_enclave [] one other = Unit {0}
AreBenchMoves enclave other_enclave (move ∷ moves) one other =
    IsBenchMove enclave other_enclave move one other × AreBenchMoves enclave other_enclave moves (moved_first move one) (moved_second move other)

-- `first_actions` has the actions in the first machine
abbrev pub first_actions : List BenchMove → List Action
first_actions [] = []
first_actions (InFirst action ∷ moves) = action ∷ first_actions moves
first_actions (InSecond action ∷ moves) = first_actions moves
first_actions (InBoth hart other_hart ∷ moves) = Occurs (StepOf hart) ∷ first_actions moves

-- `second_actions` has the actions of the moves in the second machine
abbrev pub second_actions : List BenchMove → List Action
second_actions [] = []
second_actions (InFirst action ∷ moves) = second_actions moves
second_actions (InSecond action ∷ moves) = action ∷ second_actions moves
second_actions (InBoth hart other_hart ∷ moves) = Occurs (StepOf other_hart) ∷ second_actions moves

-- every step of the enclave is equal in both machines
abbrev pub EnclaveStepsAreSame : ℕ → ℕ → List BenchMove → MonitoredMachine → MonitoredMachine → Type 0
EnclaveStepsAreSame enclave other_enclave [] one other = Unit {0}
EnclaveStepsAreSame enclave other_enclave (InFirst action ∷ moves) one other =
    EnclaveStepsAreSame enclave other_enclave moves (after_action action one) other
EnclaveStepsAreSame enclave other_enclave (InSecond action ∷ moves) one other =
    EnclaveStepsAreSame enclave other_enclave moves one (after_action action other)
EnclaveStepsAreSame enclave other_enclave (InBoth hart other_hart ∷ moves) one other =
    SameOwnStep (at enclave hart) (at other_enclave other_hart) one other
    × EnclaveStepsAreSame enclave other_enclave moves (step_of hart one).state (step_of other_hart other).state

-- ---- two lists of commands

-- The slots `enclave` of the first machine and `other_enclave` of the second have enclaves at one point of their lives. The commands of each bench
-- have the actions of `moves` in this machine, and these moves are permitted.
pub record IsSameLife (enclave other_enclave : ℕ) (bench other_bench : BenchState) (commands other_commands : List Command)
    (one other : MonitoredMachine) : Type 0 where
  pub point : AreAtOnePoint enclave other_enclave one other
  pub moves : List BenchMove
  pub first_commands : first_actions moves ≡ actions_of bench commands
  pub second_commands : second_actions moves ≡ actions_of other_bench other_commands
  pub moves_permitted : AreBenchMoves enclave other_enclave moves one other

-- the two enclaves make equal steps, and are at one point of their lives after the commands
pub record HasSameLife (enclave other_enclave : ℕ) (moves : List BenchMove) (one other : MonitoredMachine) (after other_after : Target) : Type 0 where
  pub steps : EnclaveStepsAreSame enclave other_enclave moves one other
  pub point : IsSomeAnd (machine_in after) (λ machine. IsSomeAnd (machine_in other_after) (AreAtOnePoint enclave other_enclave machine))

-- pc and the S-mode registers of a monitored machine have legal values
abbrev pub IsLegalTarget : Target → Type 0
IsLegalTarget target = IfSome (machine_in target) IsLegalMachine

-- commands of other worlds influence an enclave only by its window and its entry, and legal targets stay legal
pub record HostInfluenceLaw : Type 0 where
  pub same : (enclave other_enclave : ℕ) (first second : BenchState) (commands other_commands : List Command)
      → TargetInvariant first.target → TargetInvariant second.target
      → IsLegalTarget first.target → IsLegalTarget second.target
      → IfSome (machine_in first.target) (λ one. IfSome (machine_in second.target) (λ other.
      (life : IsSameLife enclave other_enclave first second commands other_commands one other)
      → HasSameLife enclave other_enclave life.moves one other (after_commands first commands).target
      (after_commands second other_commands).target))
  pub legal : (bench : BenchState) (command : Command) → TargetInvariant bench.target → IsLegalTarget bench.target
      → IsLegalTarget (execute bench command).state.target
