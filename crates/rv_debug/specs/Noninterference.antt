-- Noninterference of commands: two benches that are equivalent except for an enclave execute the same commands, which avoid the hart on which it
-- runs. Until a command enters the enclave, the replies are equal and the benches stay equivalent. (Laws of this project's own debugger and monitor.)
use Rattle.std.specs.Prelude.{ℕ, ◌≡◌, suc, true, false, List, [], ◌∷◌, take}
use Rattle.rv_debug.specs.Prelude.{All, BothWhy, Command, Entered, NotBlind, Poke, Run, Sched, Step, Target, harts_in, has}
use Rattle.rv_debug.specs.Execute.{Executed, execute}
use Rattle.rv_debug.specs.BenchState.{BenchState}
use Rattle.rv_debug.specs.Isolation.{after_commands}
use Rattle.rv_debug.specs.Targets.{TargetInvariant, is_live_in, selected_of}
use Rattle.rv_debug.specs.BothBenches.{BenchesEquivExcept, BothExecuted, AvoidsHart, RunsOnNoHart, RunsOnNoneIn, is_blind, is_entered, region_in}

-- the benches are equivalent except for `enclave`, and equal once its enclave has ended
pub record RemainEquiv (enclave : ℕ) (bench other_bench : BenchState) : Type 0 where
  pub but : BenchesEquivExcept enclave bench other_bench
  pub gone : is_live_in enclave bench.target ≡ false → bench ≡ other_bench

-- ---- one command

-- the replies and the entered slots are equal, and the benches are equivalent again
pub record CommandAlike (enclave : ℕ) (one other : Executed) : Type 0 where
  pub reply : one.reply ≡ other.reply
  pub entered : one.entered ≡ other.entered
  pub state : RemainEquiv enclave one.state other.state

-- the command enters `enclave` in both or in neither; if in neither, both executions are alike
pub record ExecuteAlike (enclave : ℕ) (one other : Executed) : Type 0 where
  pub entered : is_entered enclave one.entered ≡ is_entered enclave other.entered
  pub passed : is_entered enclave one.entered ≡ false → CommandAlike enclave one other

-- on two equivalent benches, a blind command that avoids the hart of the enclave is executed alike
abbrev pub NoninterferenceLaw : Type 0
NoninterferenceLaw =
    (enclave : ℕ) (bench other_bench : BenchState) (command : Command) → TargetInvariant bench.target → TargetInvariant other_bench.target
    → BenchesEquivExcept enclave bench other_bench → is_blind enclave bench command ≡ true → AvoidsHart enclave bench command
    → ExecuteAlike enclave (execute bench command) (execute other_bench command)

-- `harts_named` has the harts that a command may step
abbrev pub harts_named : Target → Command → List ℕ
harts_named target (Step count) = selected_of target ∷ []
harts_named target (Run count) = selected_of target ∷ []
harts_named target (Sched schedule) = harts_in schedule
harts_named target _ = []

-- the command enters `enclave` in both or in neither; if in neither, the benches are equivalent again
pub record StateAlike (enclave : ℕ) (one other : Executed) : Type 0 where
  pub entered : is_entered enclave one.entered ≡ is_entered enclave other.entered
  pub state : is_entered enclave one.entered ≡ false → RemainEquiv enclave one.state other.state

-- The benches stay equivalent if the command steps no hart that runs the enclave. It may show such a hart, so the replies may differ.
abbrev pub EquivalenceLaw : Type 0
EquivalenceLaw =
    (enclave : ℕ) (bench other_bench : BenchState) (command : Command) → TargetInvariant bench.target → TargetInvariant other_bench.target
    → BenchesEquivExcept enclave bench other_bench → is_blind enclave bench command ≡ true
    → RunsOnNoneIn enclave (harts_named bench.target command) bench.target
    → StateAlike enclave (execute bench command) (execute other_bench command)

-- a command avoids `enclave`: it accesses no byte of its region, and does not enter it
pub record AvoidsEnclave (enclave : ℕ) (bench : BenchState) (command : Command) : Type 0 where
  pub blind : is_blind enclave bench command ≡ true
  -- the command does not enter the enclave
  pub past : is_entered enclave (execute bench command).entered ≡ false

-- while `enclave` runs on no hart, the command avoids its hart; if the command does not enter the enclave, the enclave runs on no hart afterwards
pub record StaysOnNoHart (enclave : ℕ) (bench : BenchState) (command : Command) : Type 0 where
  -- the command avoids the hart of the enclave
  pub by : AvoidsHart enclave bench command
  pub not_running : is_entered enclave (execute bench command).entered ≡ false → RunsOnNoHart enclave (execute bench command).state.target

-- if `enclave` runs on no hart, it runs on no hart after each command that does not enter it
abbrev pub RunsOnNoHartLaw : Type 0
RunsOnNoHartLaw = (enclave : ℕ) (bench : BenchState) (command : Command) → TargetInvariant bench.target
    → RunsOnNoHart enclave bench.target → StaysOnNoHart enclave bench command

-- a byte is poked into the region of `enclave`
abbrev pub PokesInto : ℕ → BenchState → Command → Type 0
PokesInto enclave bench (Poke address byte) = has (region_in enclave bench.target) address ≡ true
PokesInto enclave bench _ = ⊥

-- Two equivalent benches each execute a poke of any byte to any address in the region of `enclave`. The benches are equivalent again, and the replies
-- are equal.
abbrev pub PokeLaw : Type 0
PokeLaw =
    (enclave : ℕ) (bench other_bench : BenchState) (command other_command : Command) → TargetInvariant bench.target
    → TargetInvariant other_bench.target
    → BenchesEquivExcept enclave bench other_bench → PokesInto enclave bench command → PokesInto enclave other_bench other_command
    → CommandAlike enclave (execute bench command) (execute other_bench other_command)

-- the replies of both benches to a command are equal, and the benches remain equivalent
pub record BothRepliesAlike (enclave : ℕ) (after : BothExecuted) : Type 0 where
  pub reply : after.first_reply ≡ after.second_reply
  pub state : RemainEquiv enclave after.first after.second

-- the command enters `enclave` in both benches
pub record BothEntered (enclave : ℕ) (bench other_bench : BenchState) (command : Command) : Type 0 where
  pub in_first : is_entered enclave (execute bench command).entered ≡ true
  pub in_second : is_entered enclave (execute other_bench command).entered ≡ true

-- the command accesses a byte of `enclave`'s region in both benches
pub record NeitherDid (enclave : ℕ) (bench other_bench : BenchState) (command : Command) : Type 0 where
  pub in_first : is_blind enclave bench command ≡ false
  pub in_second : is_blind enclave other_bench command ≡ false

-- both benches are alike in what the reason requires for which the list of commands goes on or ends
abbrev pub AlikeBy : ℕ → BenchState → BenchState → Command → BothExecuted → BothWhy → Type 0
AlikeBy enclave bench other_bench command after All = BothRepliesAlike enclave after
AlikeBy enclave bench other_bench command after Entered = BothEntered enclave bench other_bench command
AlikeBy enclave bench other_bench command after NotBlind = NeitherDid enclave bench other_bench command

-- if both benches are equivalent and the command avoids the hart, what both executions show is equal
abbrev pub StayAlike : ℕ → BenchState → BenchState → Command → BothExecuted → Type 0
StayAlike enclave bench other_bench command after =
    BenchesEquivExcept enclave bench other_bench → AvoidsHart enclave bench command → AlikeBy enclave bench other_bench command after after.why

-- ---- a list of commands

-- the replies to commands, one after another
abbrev pub replies_to : BenchState → List Command → List (List ℕ)
replies_to bench [] = []
replies_to bench (command ∷ commands) = (execute bench command).reply ∷ replies_to (execute bench command).state commands

-- each of these commands avoids the hart of `enclave`, up to the first that enters it
abbrev pub CommandsAvoidHart : ℕ → BenchState → List Command → Type 0
CommandsAvoidHart enclave bench [] = Unit {0}
CommandsAvoidHart enclave bench (command ∷ commands) =
    AvoidsHart enclave bench command
    × (is_entered enclave (execute bench command).entered ≡ false → CommandsAvoidHart enclave (execute bench command).state commands)

-- the replies to all commands are equal, and the benches are equivalent after them
pub record AllAlike (enclave : ℕ) (bench other_bench : BenchState) (commands : List Command) : Type 0 where
  pub replies : replies_to bench commands ≡ replies_to other_bench commands
  pub state : RemainEquiv enclave (after_commands bench commands) (after_commands other_bench commands)

-- all executed commands are alike, except the last if it entered `enclave`
abbrev pub DoneAlike : ℕ → BenchState → BenchState → List Command → ℕ → BothWhy → Type 0
DoneAlike enclave bench other_bench commands ran All = AllAlike enclave bench other_bench (take ran commands)
DoneAlike enclave bench other_bench commands ran NotBlind = AllAlike enclave bench other_bench (take ran commands)
DoneAlike enclave bench other_bench commands ran Entered =
    (before : ℕ) × (ran ≡ suc before) × AllAlike enclave bench other_bench (take before commands)
