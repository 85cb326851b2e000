-- Integrity over the whole life of an enclave: how other worlds can influence the enclave. Two machines with unlike hosts, tables, memories and
-- schedules have an enclave at the same point of its life. Its own steps are then the same in both, as long as the bytes of its window that they read
-- are equal. In each machine the other worlds may step in any order, enter the enclave, and let the timer interrupt the enclave between any two of
-- its steps. (Laws about the monitor's definitions, not rules of a standard.)
use Rattle.std.specs.Prelude.{◌≡◌, ◌⊎◌, ℕ, true, false, not, List, [], ◌∷◌, length, Some}
use Rattle.rv_enclaves.specs.Table.{runs}
use Rattle.rv_monitor.specs.Prelude.{Context, EqualOutside, context_at, has, is_live, region}
use Rattle.rv_monitor.specs.Attestation.{SameIdentity}
use Rattle.rv_monitor.specs.EnclaveSteps.{HasReturned, Place, runs_at, step_at}
use Rattle.rv_monitor.specs.EquivExcept.{runs_on}
use Rattle.rv_monitor.specs.Events.{Event, LineOf, StepOf, event_of}
use Rattle.rv_monitor.specs.MonitoredMachine.{MonitoredMachine, Invariant, hart_state_of}
use Rattle.rv_monitor.specs.Reads.{ChangeAlike, SameWindowRead}
use Rattle.rv_monitor.specs.Records.{identity_at}
use Rattle.rv_monitor.specs.Step.{step_of}
use Rattle.rv_monitor.specs.LegalMachine.{IsLegalMachine}
use Rattle.rv_monitor.specs.SwitchLaws.{continuation}

-- ---- a point in the life of an enclave

-- the enclave continues with this context: it is the context of the hart while the enclave runs, and the saved context otherwise
pub record ContinuesWith (slot : ℕ) (context : Context) (machine : MonitoredMachine) : Type 0 where
  -- while the enclave runs on a hart, the hart continues with this context
  pub running : (hart : ℕ) → runs_on slot hart machine ≡ true → continuation (hart_state_of hart machine).hart ≡ context
  -- while the enclave runs on no hart, this context is its saved context
  pub resting : runs machine.shared.table slot ≡ false → context_at machine.shared.contexts slot ≡ Some context

-- Two enclaves continue with the same context. They have the same region, window, entry and measurement, and the same bytes in the region. Whether
-- they run, on which harts, and the bytes of their windows may differ.
pub record AreAtOnePoint (slot other_slot : ℕ) (one other : MonitoredMachine) : Type 0 where
  -- the context with which both enclaves continue
  pub context : Context
  -- both enclaves continue with this context
  pub first : ContinuesWith slot context one
  pub second : ContinuesWith other_slot context other
  -- the first enclave is live, and so is the second one, because the identities are equal
  pub live : is_live one.shared.table slot ≡ true
  -- the region, the window, the entry and the measurement are equal
  pub identity : identity_at one.shared.table slot ≡ identity_at other.shared.table other_slot
  -- the bytes of the region are equal
  pub memory : EqualOutside (λ byte. not (has (region one.shared.table slot) byte)) one.shared.memory other.shared.memory

-- ---- events that are foreign to the enclave

-- The event is foreign to enclave k. It is a step of another world, which may enter the enclave but not destroy it. Or it is the timer interrupt,
-- which takes the enclave off its hart, or a change of any timer line.
abbrev pub IsForeign : ℕ → Event → MonitoredMachine → Type 0
IsForeign k (StepOf hart) machine =
    ((runs_on k hart machine ≡ false) ⊎ ((hart_state_of hart machine).hart.csrs.timer ≡ true))
    × (is_live (step_of hart machine).state.shared.table k ≡ true)
IsForeign k (LineOf hart raised) machine = Unit {0}

-- ---- own steps of the enclave

-- The step is an own step of the enclave. The enclave runs in both machines, and no timer line is set on its harts. The bytes of its window that the
-- step reads are equal.
pub record IsOwnStep (place other_place : Place) (one other : MonitoredMachine) : Type 0 where
  -- both enclaves run
  pub first : runs_at place one ≡ true
  pub second : runs_at other_place other ≡ true
  -- the timer line of the first enclave's hart is clear
  pub line : (hart_state_of place.hart one).hart.csrs.timer ≡ false
  -- the timer line of the second enclave's hart is clear
  pub line_too : (hart_state_of other_place.hart other).hart.csrs.timer ≡ false
  -- the bytes of the window that the step reads are equal
  pub window : SameWindowRead place.slot place.hart one other

-- both hosts received the same reason and value
pub record BothReturned (place other_place : Place) (one other : MonitoredMachine) : Type 0 where
  -- the reason and the value that both hosts received in a0 and a1
  pub reason : ℕ
  pub value : ℕ
  pub first : HasReturned reason value place.hart one
  pub second : HasReturned reason value other_place.hart other

-- The own step is the same in both machines: the outcomes are equal, and every byte that changes in one machine is equal in both after the step. If
-- the enclave exits, then both hosts receive the same.
pub record SameOwnStep (place other_place : Place) (one other : MonitoredMachine) : Type 0 where
  pub outcome : (step_at place one).outcome ≡ (step_at other_place other).outcome
  -- each byte is unchanged in both machines, or equal in both after the step
  pub changes : ChangeAlike one.shared.memory other.shared.memory (step_at place one).state.shared.memory
      (step_at other_place other).state.shared.memory
  -- if the enclave exits, then both hosts received the same reason and the same value
  pub exits : runs_at place (step_at place one).state ≡ false
      → BothReturned place other_place (step_at place one).state (step_at other_place other).state

-- ---- two lives

-- an event of the first machine, an event of the second, or a step of the enclave on a hart of each
pub data LifeMove : Type 0 where
  InFirst : Event → LifeMove
  InSecond : Event → LifeMove
  Own : ℕ → ℕ → LifeMove

-- the place of a slot and a hart
abbrev pub at : ℕ → ℕ → Place
at slot hart = record { slot = slot; hart = hart }

-- the move is a foreign event of its machine, or a step of the enclave in both machines
abbrev pub IsLifeMove : ℕ → ℕ → LifeMove → MonitoredMachine → MonitoredMachine → Type 0
IsLifeMove slot other_slot (InFirst event) one other = IsForeign slot event one
IsLifeMove slot other_slot (InSecond event) one other = IsForeign other_slot event other
IsLifeMove slot other_slot (Own hart other_hart) one other = IsOwnStep (at slot hart) (at other_slot other_hart) one other

-- the first machine after a move
abbrev pub one_after : LifeMove → MonitoredMachine → MonitoredMachine
one_after (InFirst event) machine = (event_of event machine).state
one_after (InSecond event) machine = machine
one_after (Own hart other_hart) machine = (step_of hart machine).state

-- the second machine after a move
abbrev pub other_after : LifeMove → MonitoredMachine → MonitoredMachine
other_after (InFirst event) machine = machine
other_after (InSecond event) machine = (event_of event machine).state
other_after (Own hart other_hart) machine = (step_of other_hart machine).state

-- each move in the list is permitted in the two machines that the moves before it lead to
abbrev pub AreLifeMoves : ℕ → ℕ → List LifeMove → MonitoredMachine → MonitoredMachine → Type 0
AreLifeMoves slot other_slot [] one other = Unit {0}
AreLifeMoves slot other_slot (move ∷ moves) one other =
    IsLifeMove slot other_slot move one other × AreLifeMoves slot other_slot moves (one_after move one) (other_after move other)

-- every own step in the list of moves is the same in both machines
abbrev pub OwnStepsAreSame : ℕ → ℕ → List LifeMove → MonitoredMachine → MonitoredMachine → Type 0
OwnStepsAreSame slot other_slot [] one other = Unit {0}
OwnStepsAreSame slot other_slot (InFirst event ∷ moves) one other =
    OwnStepsAreSame slot other_slot moves (event_of event one).state other
OwnStepsAreSame slot other_slot (InSecond event ∷ moves) one other =
    OwnStepsAreSame slot other_slot moves one (event_of event other).state
OwnStepsAreSame slot other_slot (Own hart other_hart ∷ moves) one other =
    SameOwnStep (at slot hart) (at other_slot other_hart) one other
    × OwnStepsAreSame slot other_slot moves (step_of hart one).state (step_of other_hart other).state

-- the first machine after all moves
abbrev pub one_end : List LifeMove → MonitoredMachine → MonitoredMachine
one_end [] machine = machine
one_end (move ∷ moves) machine = one_end moves (one_after move machine)

-- the second machine after all moves
abbrev pub other_end : List LifeMove → MonitoredMachine → MonitoredMachine
other_end [] machine = machine
other_end (move ∷ moves) machine = other_end moves (other_after move machine)

-- all steps of the enclave are the same in both machines, and the moves end with both enclaves at one point
pub record LiveAlike (slot other_slot : ℕ) (moves : List LifeMove) (one other : MonitoredMachine) : Type 0 where
  pub steps : OwnStepsAreSame slot other_slot moves one other
  pub point : AreAtOnePoint slot other_slot (one_end moves one) (other_end moves other)

-- ---- the laws

-- two enclaves at one point of their lives take the same steps, whatever the other worlds do in between
abbrev pub LifeLaw : Type 0
LifeLaw =
    (slot other_slot : ℕ) (moves : List LifeMove) (one other : MonitoredMachine) → Invariant one → Invariant other → IsLegalMachine one
    → IsLegalMachine other
    → AreAtOnePoint slot other_slot one other → AreLifeMoves slot other_slot moves one other
    → LiveAlike slot other_slot moves one other

-- two enclaves with equal measured bytes begin at the same point: the measurement identifies what an enclave does in its whole life
abbrev pub LifeBeginsLaw : Type 0
LifeBeginsLaw =
    (slot other_slot : ℕ) (one other : MonitoredMachine) → Invariant one → Invariant other → SameIdentity slot other_slot one.shared other.shared
    → length one.shared.memory ≡ length other.shared.memory → AreAtOnePoint slot other_slot one other
