-- The machine after commands is that after their actions, and every list of events is that of commands.
use Rattle.std.proofs.Common.{◌≡◌, ℕ, Bool, true, List, [], ◌∷◌, ◌++◌, Option, Some, None, IfSome, refl, sym, ◌∙◌, ap, subst}
use Rattle.std.specs.Prelude.{if◌then◌else◌, map, nat_lt}
use Rattle.std.proofs.lemmas.List.{length-set}
use Rattle.rv_monitor.specs.Events.{Event, LineOf, StepOf, events}
use Rattle.rv_debug.specs.Prelude.{Bare, Command, Hart, Monitored, MonitoredMachine, Step, Target, Timer, count_of, hart_state_of, option_case, sched}
use Rattle.rv_debug.specs.Prelude.{step_of, timer_line_set, with_memory, with_timer, write}
use Rattle.rv_debug.specs.CommandEvents.{Action, CommandEventsLaw, Occurs, actions_by, actions_of, after_action, after_actions, are_of_harts}
use Rattle.rv_debug.specs.CommandEvents.{commands_for}
use Rattle.rv_debug.proofs.Prelude.{BenchState, Effect, Nothing, OneByte, Register, Selected, Steps, TimerLine, after_commands, and_parts, done}
use Rattle.rv_debug.proofs.Prelude.{effect, execute, lowest_accessed, machine_in, run, scheduled_steps, selected_at, step_count}
use Rattle.rv_debug.proofs.EffectsInvariant.{poke_of}
use Rattle.rv_debug.proofs.ScheduledSteps.{schedule_is_sched}

-- ---- one command

-- the actions of a list of steps lead to the machine after the steps
steps_act : (harts : List ℕ) (machine : MonitoredMachine) → after_actions (map (λ hart. Occurs (StepOf hart)) harts) machine
    ≡ (sched harts machine).state
steps_act [] machine = refl
steps_act (hart ∷ harts) machine = steps_act harts (step_of hart machine).state

-- the machine after a poke is that after the write of its byte
poke_acts : (selected : Selected) (memory : Option (List ℕ))
    → machine_in (poke_of (Monitored selected) memory) ≡ Some (option_case memory selected.state (with_memory selected.state))
poke_acts selected None = refl
poke_acts selected (Some memory) = refl

-- the effect of a command on a monitored machine is that of its actions
pub effect_acts : (selected : Selected) (change : Effect)
    → machine_in (done (Monitored selected) change) ≡ Some (after_actions (actions_by (Monitored selected) change) selected.state)
effect_acts selected Nothing = refl
effect_acts selected (Steps harts last) =
    let some : MonitoredMachine → Option MonitoredMachine = λ machine. Some machine in
    ap machine_in (schedule_is_sched harts selected _ last) ∙ ap some (sym (steps_act harts selected.state))
effect_acts selected (Register number value) = refl
effect_acts selected (TimerLine raised) = refl
effect_acts selected (OneByte address byte) = poke_acts selected (write selected.state.shared.memory address (byte ∷ []))

-- ---- a list of commands

-- the machine after two lists of actions is the machine after the second, from the machine after the first
acts_in_turn : (earlier later : List Action) (machine : MonitoredMachine)
    → after_actions (earlier ++ later) machine ≡ after_actions later (after_actions earlier machine)
acts_in_turn [] later machine = refl
acts_in_turn (action ∷ earlier) later machine = acts_in_turn earlier later (after_action action machine)

-- `bench_over` is the bench over a target, with the given breakpoints and watchpoints
abbrev bench_over : List ℕ → List ℕ → Target → BenchState
bench_over breaks watches target = record { target = target; breaks = breaks; watches = watches }

-- the actions of commands lead the machine of a target, if it has one, to its state after the commands
commands_act : (target : Target) (breaks watches : List ℕ) (commands : List Command) → IfSome (machine_in target) (λ machine.
    let bench = bench_over breaks watches target in
    machine_in (after_commands bench commands).target ≡ Some (after_actions (actions_of bench commands) machine))
unfolding execute
commands_act (Bare bare_machine) breaks watches commands = tt
commands_act (Monitored selected) breaks watches [] = refl
commands_act (Monitored selected) breaks watches (command ∷ commands) =
    let bench = bench_over breaks watches (Monitored selected) in
    let next = (execute bench command).state in
    let actions = actions_by bench.target (effect bench command) in
    let some : MonitoredMachine → Option MonitoredMachine = λ machine. Some machine in
    let remaining_act = commands_act next.target next.breaks next.watches commands in
    subst (λ (maybe_machine : Option MonitoredMachine). IfSome maybe_machine (λ machine. machine_in (after_commands next commands).target
    ≡ Some (after_actions (actions_of next commands) machine))) (effect_acts selected (effect bench command)) remaining_act
    ∙ ap some (sym (acts_in_turn actions (actions_of next commands) selected.state))

-- ---- events

-- actions that are events lead to the machine after the events
events_act : (list : List Event) (machine : MonitoredMachine) → after_actions (map Occurs list) machine ≡ (events list machine).state
events_act [] machine = refl
events_act (StepOf hart ∷ list) machine = events_act list (step_of hart machine).state
events_act (LineOf hart raised ∷ list) machine = events_act list (with_timer hart machine raised)

-- commands whose actions are events lead to the machine after these events
commands_act_as_events : (bench : BenchState) (commands : List Command) (list : List Event) → IfSome (machine_in bench.target) (λ machine.
    actions_of bench commands ≡ map Occurs list → machine_in (after_commands bench commands).target ≡ Some (events list machine).state)
commands_act_as_events bench commands list =
    in_machine (machine_in bench.target) (commands_act bench.target bench.breaks bench.watches commands) where
      -- `some` is the machine as an option
      some : MonitoredMachine → Option MonitoredMachine
      some machine = Some machine

      -- the commands lead a monitored machine to the state after their events, where `maybe_machine` is `None` for a bare machine
      in_machine : (maybe_machine : Option MonitoredMachine)
          → IfSome maybe_machine
          (λ machine. machine_in (after_commands bench commands).target ≡ Some (after_actions (actions_of bench commands) machine))
          → IfSome maybe_machine (λ machine. actions_of bench commands ≡ map Occurs list
          → machine_in (after_commands bench commands).target ≡ Some (events list machine).state)
      in_machine None acts = tt
      in_machine (Some machine) acts = λ actions_are. acts ∙ ap (λ (actions : List Action). some (after_actions actions machine)) actions_are
          ∙ ap some (events_act list machine)

-- ---- the commands of events

-- benches with these breakpoints and watchpoints
module _ (breaks watches : List ℕ) where
  -- the selection of a hart is no action
  selection_is_no_action : (selected : Selected) (hart : ℕ) (remaining : List Command) → nat_lt hart (count_of selected.state) ≡ true
      → actions_of (bench_over breaks watches (Monitored selected)) (Hart hart ∷ remaining)
      ≡ actions_of (bench_over breaks watches (selected_at hart selected.state)) remaining
  unfolding execute scheduled_steps
  selection_is_no_action selected hart remaining hart_exists =
      let actions_after : Effect → List Action = λ change.
      actions_by (Monitored selected) change ++ actions_of (bench_over breaks watches (done (Monitored selected) change)) remaining in
      ap (λ (exists : Bool). actions_after (if exists then Steps [] hart else Nothing)) hart_exists

  -- The commands for a list of events have the events as actions, if the harts of the events exist. The proof is by induction over the list: each
  -- event gives the commands `hart` and then `step 1` or `timer`.
  commands_for_events : (list : List Event) (selected : Selected) → are_of_harts (count_of selected.state) list ≡ true
      → actions_of (bench_over breaks watches (Monitored selected)) (commands_for list) ≡ map Occurs list
  unfolding execute scheduled_steps run lowest_accessed
  commands_for_events [] selected harts_exist = refl
  -- a step of a hart: `hart` selects the hart, and `step 1` executes the step
  commands_for_events (StepOf hart ∷ list) selected harts_exist =
      let (hart_exists, rest_exist) = and_parts _ _ harts_exist in
      let after = (step_of hart selected.state).state in
      let remaining_exist = ap (λ (count : ℕ). are_of_harts count list) (step_count hart selected.state) ∙ rest_exist in
      selection_is_no_action selected hart (Step 1 ∷ commands_for list) hart_exists
      ∙ ap (λ (actions : List Action). Occurs (StepOf hart) ∷ actions)
      (commands_for_events list (record { hart = hart; state = after }) remaining_exist)
  -- a change of a timer line: `hart` selects the hart, and `timer` changes the line
  commands_for_events (LineOf hart raised ∷ list) selected harts_exist =
      let (hart_exists, rest_exist) = and_parts _ _ harts_exist in
      let after = with_timer hart selected.state raised in
      let same_count : count_of after ≡ count_of selected.state =
      length-set selected.state.hart_states hart (timer_line_set raised (hart_state_of hart selected.state)) in
      let remaining_exist = ap (λ (count : ℕ). are_of_harts count list) same_count ∙ rest_exist in
      selection_is_no_action selected hart (Timer raised ∷ commands_for list) hart_exists
      ∙ ap (λ (actions : List Action). Occurs (LineOf hart raised) ∷ actions)
      (commands_for_events list (record { hart = hart; state = after }) remaining_exist)

-- the commands for events have the events as actions, for each target
commands_for_events_of : (target : Target) (breaks watches : List ℕ) (list : List Event) → IfSome (machine_in target) (λ machine.
    are_of_harts (count_of machine) list ≡ true → actions_of (bench_over breaks watches target) (commands_for list) ≡ map Occurs list)
commands_for_events_of (Bare bare_machine) breaks watches list = tt
commands_for_events_of (Monitored selected) breaks watches list = commands_for_events breaks watches list selected

-- proves that commands act on the machine by their actions only
pub acts : (bench : BenchState) (commands : List Command) → IfSome (machine_in bench.target) (λ machine.
    machine_in (after_commands bench commands).target ≡ Some (after_actions (actions_of bench commands) machine))
acts bench commands = commands_act bench.target bench.breaks bench.watches commands

-- proves the law of commands and events
pub command_events : CommandEventsLaw
command_events = record {
  acts = acts;
  occurs = commands_act_as_events;
  every = λ bench list. commands_for_events_of bench.target bench.breaks bench.watches list;
}
