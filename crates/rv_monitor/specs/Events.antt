-- Laws for lists of events: steps of the harts and changes of their timer lines, in any order. They hold against an attacker that chooses which
-- hart steps next, and when its timer interrupt becomes pending. (Laws about the monitor's definitions, not rules of a standard.)
use Rattle.std.specs.Prelude.{◌≡◌, ℕ, Bool, false, true, List, [], ◌∷◌}
use Rattle.rv_monitor.specs.Prelude.{is_live}
use Rattle.rv_monitor.specs.Debugger.{with_timer}
use Rattle.rv_monitor.specs.EquivExcept.{EquivExcept, runs_on}
use Rattle.rv_monitor.specs.HartLaws.{Scheduled, first_then}
use Rattle.rv_monitor.specs.Integrity.{IsPreserved, enters}
use Rattle.rv_monitor.specs.MonitoredMachine.{MonitoredMachine, Invariant, hart_state_of, reprogrammed, timer_line_set}
use Rattle.rv_monitor.specs.Step.{MonitoredStepped, not_stepped, step_of}

-- a step of a hart, or the timer line of a hart is set or cleared
pub data Event : Type 0 where
  StepOf : ℕ → Event
  LineOf : ℕ → Bool → Event

-- the result of one event; a change of a timer line has the outcome of no step
abbrev pub event_of : Event → MonitoredMachine → MonitoredStepped
event_of (StepOf hart) machine = step_of hart machine
event_of (LineOf hart raised) machine = record (not_stepped machine) { state = with_timer hart machine raised }

-- the state after each event in the list, in turn, and the outcome of each
abbrev pub events : List Event → MonitoredMachine → Scheduled
events [] machine = record { state = machine; outcomes = [] }
events (event ∷ rest_events) machine =
    first_then (event_of event machine).outcome (events rest_events (event_of event machine).state)

-- every list of events preserves the invariant
abbrev pub EventInvariantLaw : Type 0
EventInvariantLaw =
    (list : List Event) (machine : MonitoredMachine) → Invariant machine → Invariant (events list machine).state

-- ---- noninterference

-- a low step, or a change of any timer line, also that of the hart on which the enclave runs
abbrev pub IsLowEvent : ℕ → Event → MonitoredMachine → Type 0
IsLowEvent enclave (StepOf hart) machine = runs_on enclave hart machine ≡ false
IsLowEvent enclave (LineOf hart raised) machine = Unit {0}

-- before each event in the list, the event is a low step or a change of a timer line
abbrev pub AreLowEvents : ℕ → List Event → MonitoredMachine → Type 0
AreLowEvents enclave [] machine = Unit {0}
AreLowEvents enclave (event ∷ rest_events) machine =
    IsLowEvent enclave event machine × AreLowEvents enclave rest_events (event_of event machine).state

-- the outcomes are the same, and the final states are equivalent except for `enclave`
pub record EventsAlike (enclave : ℕ) (list : List Event) (one other : MonitoredMachine) : Type 0 where
  pub outcomes : (events list one).outcomes ≡ (events list other).outcomes
  pub state : EquivExcept enclave (events list one).state (events list other).state

-- if two machines are equivalent except for `enclave`, low events have the same outcomes on both and leave them equivalent except for `enclave`
abbrev pub EventLaw : Type 0
EventLaw =
    (enclave : ℕ) (list : List Event) (one other : MonitoredMachine) → Invariant one → Invariant other → EquivExcept enclave one other
    → AreLowEvents enclave list one
    → EventsAlike enclave list one other

-- ---- integrity

-- a low step that does not enter the enclave, or a change of any timer line
abbrev pub IsUndisturbing : ℕ → Event → MonitoredMachine → Type 0
IsUndisturbing slot (StepOf hart) machine =
    (runs_on slot hart machine ≡ false) × (enters slot (step_of hart machine).outcome.entered ≡ false)
IsUndisturbing slot (LineOf hart raised) machine = Unit {0}

-- the enclave is live before, between and after the events, and no event disturbs the enclave
abbrev pub AreUndisturbing : ℕ → List Event → MonitoredMachine → Type 0
AreUndisturbing slot [] machine = is_live machine.shared.table slot ≡ true
AreUndisturbing slot (event ∷ rest_events) machine =
    (is_live machine.shared.table slot ≡ true) × IsUndisturbing slot event machine × AreUndisturbing slot rest_events (event_of event machine).state

-- the enclave is untouched as in IsUntouched, except for the timer line of the hart on which the enclave runs
pub record IsUntouchedButLine (slot : ℕ) (before after : MonitoredMachine) : Type 0 where
  pub preserved : IsPreserved slot before.shared after.shared
  pub hart_state : (hart : ℕ) → runs_on slot hart before ≡ true
      → timer_line_set false (hart_state_of hart after) ≡ timer_line_set false (reprogrammed after.shared.table (hart_state_of hart before))

-- every list of events preserves each enclave that it leaves undisturbed
abbrev pub EventIntegrityLaw : Type 0
EventIntegrityLaw =
    (slot : ℕ) (list : List Event) (machine : MonitoredMachine) → Invariant machine → AreUndisturbing slot list machine
    → IsUntouchedButLine slot machine (events list machine).state

-- no event is a step of a hart on which the enclave runs
abbrev pub StepsNone : ℕ → List Event → MonitoredMachine → Type 0
StepsNone slot [] machine = Unit {0}
StepsNone slot (StepOf hart ∷ rest_events) machine =
    (runs_on slot hart machine ≡ false) × StepsNone slot rest_events machine
StepsNone slot (LineOf hart raised ∷ rest_events) machine = StepsNone slot rest_events machine

-- an enclave that runs on a hart is left undisturbed by every list of steps of the other harts and of changes of any timer line
abbrev pub RunningEventLaw : Type 0
RunningEventLaw =
    (slot slot_hart : ℕ) (list : List Event) (machine : MonitoredMachine) → Invariant machine → runs_on slot slot_hart machine ≡ true
    → StepsNone slot list machine
    → AreUndisturbing slot list machine
