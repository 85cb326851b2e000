-- Commands as lists of actions on the monitored machine: events, and the debugger's writes of a register or a byte. Every list of events is that of
-- a list of commands. A law about lists of events is therefore one about commands. (This project's own commands.)
use Rattle.std.specs.List.{list_all}
use Rattle.std.specs.Prelude.{ℕ, ◌≡◌, Bool, true, nat_lt, List, [], ◌∷◌, ◌++◌, map, Some, IfSome}
use Rattle.rv_monitor.specs.Events.{Event, LineOf, StepOf, event_of, events}
use Rattle.rv_debug.specs.Prelude.{Command, Hart, MonitoredMachine, Step, Target, Timer, count_of, option_case, with_memory, with_reg, write}
use Rattle.rv_debug.specs.BenchState.{BenchState}
use Rattle.rv_debug.specs.Effects.{Effect, Nothing, OneByte, Register, Steps, TimerLine, effect}
use Rattle.rv_debug.specs.Execute.{execute}
use Rattle.rv_debug.specs.Isolation.{after_commands}
use Rattle.rv_debug.specs.Targets.{machine_in, selected_of}

-- an action on the monitored machine: an event, a write of a register of a hart, or a write of a byte
pub data Action : Type 0 where
  Occurs : Event → Action
  SetsRegister : (hart number value : ℕ) → Action
  SetsByte : (address byte : ℕ) → Action

-- ---- the machine after actions

-- the machine after one action; a write of a byte outside RAM has no effect
abbrev pub after_action : Action → MonitoredMachine → MonitoredMachine
after_action (Occurs event) machine = (event_of event machine).state
after_action (SetsRegister hart number value) machine = with_reg hart machine number value
after_action (SetsByte address byte) machine = option_case (write machine.shared.memory address (byte ∷ [])) machine (with_memory machine)

-- `after_actions` is the machine after each action in the list, in turn
abbrev pub after_actions : List Action → MonitoredMachine → MonitoredMachine
after_actions [] machine = machine
after_actions (action ∷ actions) machine = after_actions actions (after_action action machine)

-- ---- the actions of commands

-- the actions of one effect on a target; a write of a register or of a timer line is a write of the selected hart
abbrev pub actions_by : Target → Effect → List Action
actions_by target Nothing = []
actions_by target (Steps harts selected) = map (λ hart. Occurs (StepOf hart)) harts
actions_by target (Register number value) = SetsRegister (selected_of target) number value ∷ []
actions_by target (TimerLine raised) = Occurs (LineOf (selected_of target) raised) ∷ []
actions_by target (OneByte address byte) = SetsByte address byte ∷ []

-- `actions_of` has the actions of the commands in the list, one after another
abbrev pub actions_of : BenchState → List Command → List Action
actions_of bench [] = []
actions_of bench (command ∷ commands) = actions_by bench.target (effect bench command) ++ actions_of (execute bench command).state commands

-- ---- the commands of events

-- `commands_for` has two commands for each event: `hart`, and then `step 1` or `timer`
abbrev pub commands_for : List Event → List Command
commands_for [] = []
commands_for (StepOf hart ∷ list) = Hart hart ∷ Step 1 ∷ commands_for list
commands_for (LineOf hart raised ∷ list) = Hart hart ∷ Timer raised ∷ commands_for list

-- `hart_of_event` is the hart of an event: the hart that steps, or the hart whose timer line changes
abbrev pub hart_of_event : Event → ℕ
hart_of_event (StepOf hart) = hart
hart_of_event (LineOf hart raised) = hart

-- whether each event of a list has a hart whose number is below `count`
abbrev pub are_of_harts : ℕ → List Event → Bool
are_of_harts count list = list_all (λ event. nat_lt (hart_of_event event) count) list

-- commands act on the machine by their actions only, and commands can bring about every list of events
pub record CommandEventsLaw : Type 0 where
  -- the machine after the commands is the machine after their actions
  pub acts : (bench : BenchState) (commands : List Command) → IfSome (machine_in bench.target) (λ machine.
      machine_in (after_commands bench commands).target ≡ Some (after_actions (actions_of bench commands) machine))
  -- commands whose actions are events lead to the machine after these events
  pub occurs : (bench : BenchState) (commands : List Command) (list : List Event) → IfSome (machine_in bench.target) (λ machine.
      actions_of bench commands ≡ map Occurs list → machine_in (after_commands bench commands).target ≡ Some (events list machine).state)
  -- every list of events of harts that exist is the list of the actions of some commands
  pub every : (bench : BenchState) (list : List Event) → IfSome (machine_in bench.target) (λ machine.
      are_of_harts (count_of machine) list ≡ true → actions_of bench (commands_for list) ≡ map Occurs list)
