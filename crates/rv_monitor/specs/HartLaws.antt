-- Laws for steps of the harts in any order. (Laws about the monitor's definitions, not rules of a standard.)
use Rattle.std.specs.Prelude.{◌≡◌, ◌⊎◌, ℕ, false, true, List, [], ◌∷◌}
use Rattle.rv_monitor.specs.Prelude.{Outcome, byte_at, is_live}
use Rattle.rv_monitor.specs.EquivExcept.{EquivExcept, runs_on}
use Rattle.rv_monitor.specs.Changes.{IsChanged}
use Rattle.rv_monitor.specs.Integrity.{enters, IsUntouched}
use Rattle.rv_monitor.specs.MonitoredMachine.{MonitoredMachine, Invariant, hart_view}
use Rattle.rv_monitor.specs.Step.{hart_view_after, step_of}

-- the state after one step of each hart in the list, in turn, and the outcome of each step
pub record Scheduled : Type 0 where
  pub state : MonitoredMachine
  pub outcomes : List Outcome

-- the result of many steps, with the outcome of an earlier step put before the others
abbrev pub first_then : Outcome → Scheduled → Scheduled
first_then outcome rest = record { state = rest.state; outcomes = outcome ∷ rest.outcomes }

-- the final state and the outcomes of steps of the harts in the list, in turn
abbrev pub sched : List ℕ → MonitoredMachine → Scheduled
sched [] machine = record { state = machine; outcomes = [] }
sched (hart ∷ harts) machine = first_then (step_of hart machine).outcome (sched harts (step_of hart machine).state)

-- every order of steps preserves the invariant
abbrev pub SchedInvariantLaw : Type 0
SchedInvariantLaw =
    (harts : List ℕ) (machine : MonitoredMachine) → Invariant machine → Invariant (sched harts machine).state

-- ---- low steps

-- all steps are low steps of `enclave`: the enclave does not run on the hart that steps
abbrev pub AreLowSteps : ℕ → List ℕ → MonitoredMachine → Type 0
AreLowSteps enclave [] machine = Unit {0}
AreLowSteps enclave (hart ∷ harts) machine =
    (runs_on enclave hart machine ≡ false) × AreLowSteps enclave harts (step_of hart machine).state

-- the enclave runs on none of these harts
abbrev pub RunsOnNone : ℕ → List ℕ → MonitoredMachine → Type 0
RunsOnNone enclave [] machine = Unit {0}
RunsOnNone enclave (hart ∷ harts) machine = (runs_on enclave hart machine ≡ false) × RunsOnNone enclave harts machine

-- no step except the last one enters the enclave
abbrev pub IsNotEnteredBefore : ℕ → List ℕ → MonitoredMachine → Type 0
IsNotEnteredBefore enclave [] machine = Unit {0}
IsNotEnteredBefore enclave (hart ∷ []) machine = Unit {0}
IsNotEnteredBefore enclave (hart ∷ next_hart ∷ harts) machine =
    (enters enclave (step_of hart machine).outcome.entered ≡ false) × IsNotEnteredBefore enclave (next_hart ∷ harts) (step_of hart machine).state

-- a hart runs the enclave after a step only if the hart ran the enclave before, or the step entered the enclave
abbrev pub EntryLaw : Type 0
EntryLaw =
    (enclave hart other_hart : ℕ) (machine : MonitoredMachine) → runs_on enclave other_hart machine ≡ false
    → enters enclave (step_of hart machine).outcome.entered ≡ false
    → runs_on enclave other_hart (step_of hart machine).state ≡ false

-- steps of harts that did not run the enclave at first are low steps, up to and including the step that enters the enclave
abbrev pub LowStepsLaw : Type 0
LowStepsLaw =
    (enclave : ℕ) (harts : List ℕ) (machine : MonitoredMachine) → RunsOnNone enclave harts machine → IsNotEnteredBefore enclave harts machine
    → AreLowSteps enclave harts machine

-- ---- noninterference

-- The outcomes are the same, and the final machines are equivalent except `enclave`. The steps are low steps in the other machine too.
pub record SchedAlike (enclave : ℕ) (harts : List ℕ) (one other : MonitoredMachine) : Type 0 where
  pub outcomes : (sched harts one).outcomes ≡ (sched harts other).outcomes
  pub state : EquivExcept enclave (sched harts one).state (sched harts other).state
  -- the steps are low steps in the other machine too
  pub low_steps : AreLowSteps enclave harts other

-- if two machines are equivalent except for `enclave`, low steps in any order have the same outcomes on both and leave them equivalent except for
-- `enclave`
abbrev pub SchedLaw : Type 0
SchedLaw =
    (enclave : ℕ) (harts : List ℕ) (one other : MonitoredMachine) → Invariant one → Invariant other → EquivExcept enclave one other
    → AreLowSteps enclave harts one
    → SchedAlike enclave harts one other

-- ---- integrity

-- A list of steps leaves an enclave undisturbed. The enclave is live before, between and after the steps, and each step is a low step that does not
-- enter the enclave.
abbrev pub IsUndisturbed : ℕ → List ℕ → MonitoredMachine → Type 0
IsUndisturbed slot [] machine = is_live machine.shared.table slot ≡ true
IsUndisturbed slot (hart ∷ harts) machine =
    (is_live machine.shared.table slot ≡ true) × (runs_on slot hart machine ≡ false) × (enters slot (step_of hart machine).outcome.entered ≡ false)
    × IsUndisturbed slot harts (step_of hart machine).state

-- steps in any order preserve each enclave that they leave undisturbed
abbrev pub SchedIntegrityLaw : Type 0
SchedIntegrityLaw =
    (slot : ℕ) (harts : List ℕ) (machine : MonitoredMachine) → Invariant machine → IsUndisturbed slot harts machine
    → IsUntouched slot machine (sched harts machine).state

-- an enclave that runs on a hart is undisturbed by every order of steps of the other harts
abbrev pub RunningLaw : Type 0
RunningLaw =
    (slot own : ℕ) (harts : List ℕ) (machine : MonitoredMachine) → Invariant machine → runs_on slot own machine ≡ true → RunsOnNone slot harts machine
    → IsUndisturbed slot harts machine

-- ---- which bytes change

-- one of the steps changed the byte, as a step of its hart may
abbrev pub IsChangedInOrder : List ℕ → MonitoredMachine → ℕ → Type 0
IsChangedInOrder [] machine byte = ⊥
IsChangedInOrder (hart ∷ harts) machine byte =
    IsChanged (hart_view hart machine) (hart_view_after hart (step_of hart machine)) byte ⊎ IsChangedInOrder harts (step_of hart machine).state byte

-- steps in any order change only bytes that one of the steps may change
abbrev pub SchedChangeLaw : Type 0
SchedChangeLaw =
    (harts : List ℕ) (machine : MonitoredMachine) (byte : ℕ) → Invariant machine
    → byte_at (sched harts machine).state.shared.memory byte ≡ byte_at machine.shared.memory byte ⊎ IsChangedInOrder harts machine byte
