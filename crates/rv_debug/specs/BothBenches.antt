-- Two benches that execute the same commands: their equivalence, the commands that are blind to an enclave, and the replies of both. (This
-- project's own debugger and monitor.)
use Rattle.std.specs.Prelude.{ℕ, ◌≡◌, suc, ◌==◌, Bool, true, false, not, ◌&&◌, ◌||◌, if◌then◌else◌, List, [], ◌∷◌, Result, Ok}
use Rattle.std.specs.Prelude.{Err, IfSome}
use Rattle.std.specs.Int.{bit_at}
use Rattle.std.specs.List.{range_with_len}
use Rattle.rv_monitor.specs.Scrambled.{scrambled as scrambled_of}
use Rattle.rv_enclaves.specs.Scramble.{can_scramble as can_scramble_of}
use Rattle.rv_debug.specs.Prelude.{EquivExcept, All, Bare, Blank, Block, BothWhy, Command, CommandFault, Csr, Entered, Monitored, NotBlind}
use Rattle.rv_debug.specs.Prelude.{Reg, Regs, Run, RunsOnNone, Sched, Step, Target, bytes_named, meets, no_block, option_case, parse_of}
use Rattle.rv_debug.specs.Prelude.{region, runs_on}
use Rattle.rv_debug.specs.Execute.{Executed, execute}
use Rattle.rv_debug.specs.BenchState.{BenchState}
use Rattle.rv_debug.specs.Selected.{Selected}
use Rattle.rv_debug.specs.ReplyText.{command_fault_text}
use Rattle.rv_debug.specs.Targets.{selected_at, selected_of, harts_of, machine_in}
use Rattle.rv_debug.specs.declared.both.BothLine.{BothLine}
use Rattle.rv_debug.specs.declared.both.BothLine.TheVariants.{Faulty, Given}

-- ---- equivalence of two benches

-- The selected hart is the same, and the machines are equivalent except for `enclave`, wherever it runs. They are equal except for the bytes of its
-- region, its context, and the hart on which it runs, if it runs. A bare machine has no enclave.
pub record SelectedEquivExcept (enclave : ℕ) (one other : Selected) : Type 0 where
  pub hart : one.hart ≡ other.hart
  pub state : EquivExcept enclave one.state other.state

-- two targets are bare and equal, or monitored and equivalent except for `enclave`
abbrev pub TargetsEquivExcept : ℕ → Target → Target → Type 0
TargetsEquivExcept enclave (Bare one) (Bare other) = one ≡ other
TargetsEquivExcept enclave (Monitored one) (Monitored other) = SelectedEquivExcept enclave one other
TargetsEquivExcept enclave _ _ = ⊥

-- two benches have targets that are equivalent except for `enclave`, the same breakpoints and the same watchpoints
pub record BenchesEquivExcept (enclave : ℕ) (one other : BenchState) : Type 0 where
  pub target : TargetsEquivExcept enclave one.target other.target
  pub breaks : one.breaks ≡ other.breaks
  pub watches : one.watches ≡ other.watches

-- ---- what a command shows, and what it enters

-- `region_in` is the region of `enclave`, which is empty if its enclave is not live
abbrev pub region_in : ℕ → Target → Block
region_in enclave target = option_case (machine_in target) no_block (λ machine. region machine.shared.table enclave)

-- whether a command is blind to `enclave`: it is not a `mem`, `dis` or `poke` of a byte in the region of `enclave`
unfoldable pub is_blind : ℕ → BenchState → Command → Bool
is_blind enclave bench command = not (meets (bytes_named command) (region_in enclave bench.target))

-- the harts that a command steps, or whose registers, pc, mode or world it shows; `sched` shows the pc, mode and world of each hart
abbrev pub harts_shown : Target → Command → List ℕ
harts_shown target (Step count) = selected_of target ∷ []
harts_shown target (Run count) = selected_of target ∷ []
harts_shown target (Reg number) = selected_of target ∷ []
harts_shown target Regs = selected_of target ∷ []
harts_shown target (Csr number) = selected_of target ∷ []
harts_shown target (Sched schedule) = range_with_len 0 (harts_of target)
harts_shown target _ = []

-- `enclave` runs on none of these harts
abbrev pub RunsOnNoneIn : ℕ → List ℕ → Target → Type 0
RunsOnNoneIn enclave harts target = IfSome (machine_in target) (RunsOnNone enclave harts)

-- `enclave` runs on no hart
abbrev pub RunsOnNoHart : ℕ → Target → Type 0
RunsOnNoHart enclave target = IfSome (machine_in target) (λ machine. (hart : ℕ) → runs_on enclave hart machine ≡ false)

-- the command neither steps nor shows a hart on which the enclave runs
abbrev pub AvoidsHart : ℕ → BenchState → Command → Type 0
AvoidsHart enclave bench command = RunsOnNoneIn enclave (harts_shown bench.target command) bench.target

-- whether a step entered `enclave`: the bit of this slot is set in the entered slots
abbrev pub is_entered : ℕ → ℕ → Bool
is_entered enclave slots = bit_at slots enclave == 1

-- ---- one command for both

-- `BothExecuted` has both benches after a command, their replies, and whether commands end here
pub record BothExecuted : Type 0 where
  pub first : BenchState
  pub second : BenchState
  pub first_reply : List ℕ
  pub second_reply : List ℕ
  pub why : BothWhy

-- both benches execute the command; a command that enters `enclave` in either bench is the last
abbrev pub both_do : ℕ → Executed → Executed → BothExecuted
both_do enclave first second = record {
  first = first.state;
  second = second.state;
  first_reply = first.reply;
  second_reply = second.reply;
  why = if is_entered enclave first.entered || is_entered enclave second.entered then Entered else All;
}

-- both benches execute a command that is blind in both, and neither executes any other command
unfoldable pub both_execute : ℕ → BenchState → BenchState → Command → BothExecuted
both_execute enclave first second command =
    if is_blind enclave first command && is_blind enclave second command then both_do enclave (execute first command) (execute second command)
    else record { first = first; second = second; first_reply = []; second_reply = []; why = NotBlind }

-- ---- one line for both

-- whether a line has no command, because it is blank
abbrev pub has_no_command : Command → Bool
has_no_command Blank = true
has_no_command _ = false

-- `BothLineExecuted` has both benches after a line, the replies, and the result of the line
pub record BothLineExecuted : Type 0 where
  pub first : BenchState
  pub second : BenchState
  pub first_reply : List ℕ
  pub second_reply : List ℕ
  pub line : BothLine

-- both benches execute the command of the line; a line with an error has one reply, and changes neither bench
abbrev pub both_line_executed : ℕ → BenchState → BenchState → Result Command CommandFault → BothLineExecuted
both_line_executed enclave first second (Ok command) =
    let after = both_execute enclave first second command in
    record {
      first = after.first;
      second = after.second;
      first_reply = after.first_reply;
      second_reply = after.second_reply;
      line = Given after.why (has_no_command command);
    }
both_line_executed enclave first second (Err fault) =
    record { first = first; second = second; first_reply = command_fault_text fault; second_reply = []; line = Faulty }

-- both benches execute the command of one line
abbrev pub both_execute_line : ℕ → BenchState → BenchState → List ℕ → BothLineExecuted
both_execute_line enclave first second line = both_line_executed enclave first second (parse_of line)

-- ---- a second, equivalent bench

-- whether the slot `enclave` of a target has a live enclave that does not run
abbrev pub can_scramble_in : ℕ → Target → Bool
can_scramble_in enclave target = option_case (machine_in target) false (λ machine. can_scramble_of machine.shared.table enclave)

-- whether the slot `enclave` of a bench has a live enclave that does not run
abbrev pub can_scramble : ℕ → BenchState → Bool
can_scramble enclave bench = can_scramble_in enclave bench.target

-- the bench with each byte of the region and each saved register of the slot complemented; a bare machine is unchanged
abbrev pub scrambled_in : ℕ → Target → Target
scrambled_in enclave (Bare machine) = Bare machine
scrambled_in enclave (Monitored selected) = selected_at selected.hart (scrambled_of selected.state enclave)

-- `scrambled` is the bench with its target scrambled in slot `enclave`
abbrev pub scrambled : ℕ → BenchState → BenchState
scrambled enclave bench = record bench { target = scrambled_in enclave bench.target }

-- ---- a list of commands for both

-- `BothRan` has both benches after commands, how many commands were executed, and why the commands ended
pub record BothRan : Type 0 where
  pub first : BenchState
  pub second : BenchState
  pub ran : ℕ
  pub why : BothWhy

-- the result of a list of commands, with one more command executed before them
abbrev pub one_more_ran : BothRan → BothRan
one_more_ran rest = record { first = rest.first; second = rest.second; ran = suc rest.ran; why = rest.why }

-- the result of a list of commands from the result `after` of its first command and the result `rest` of the others, which count only for `All`
abbrev pub go_on : BothWhy → BothExecuted → BothRan → BothRan
go_on All after rest = one_more_ran rest
go_on Entered after rest = record { first = after.first; second = after.second; ran = 1; why = Entered }
go_on NotBlind after rest = record { first = after.first; second = after.second; ran = 0; why = NotBlind }

-- both benches execute the commands in turn, up to the first that is not blind, and up to and including one that enters `enclave`
unfoldable pub both_run : ℕ → BenchState → BenchState → List Command → BothRan
both_run enclave first second [] = record { first = first; second = second; ran = 0; why = All }
both_run enclave first second (command ∷ commands) =
    let after = both_execute enclave first second command in
    go_on after.why after (both_run enclave after.first after.second commands)
