-- Steps of an enclave depend only on its record, the bytes of its region and its window, its registers and its timer line. The number of its slot,
-- its hart, the rest of the table, the host, the other enclaves and the other harts have no influence. (Laws about the monitor's definitions, not
-- rules of a standard.)
use Rattle.std.specs.Prelude.{◌≡◌, ℕ, zero, suc, Bool, true, false, not, ◌||◌, List, Some, replicate}
use Rattle.rv_hart.specs.GuestView.{below_m_hart}
use Rattle.rv_enclaves.specs.Table.{window}
use Rattle.rv_monitor.specs.Prelude.{Context, EqualOutside, Host, Shared, Slots, context_at, has, region, slot_at, with_return_values}
use Rattle.rv_monitor.specs.EquivExcept.{runs_on}
use Rattle.rv_monitor.specs.HartLaws.{sched}
use Rattle.rv_monitor.specs.MonitoredMachine.{MonitoredMachine, Invariant, hart_state_of}
use Rattle.rv_monitor.specs.Step.{MonitoredStepped, step_of}

-- whether a byte is in neither the region nor the window of the slot
abbrev pub is_beyond : Slots → ℕ → ℕ → Bool
is_beyond slots k byte = not (has (region slots k) byte || has (window slots k) byte)

-- the slot of an enclave, and a hart
pub record Place : Type 0 where
  pub slot : ℕ
  pub hart : ℕ

-- whether the enclave of the slot runs on the hart
abbrev pub runs_at : Place → MonitoredMachine → Bool
runs_at place machine = runs_on place.slot place.hart machine

-- a step of the hart of the place
abbrev pub step_at : Place → MonitoredMachine → MonitoredStepped
step_at place machine = step_of place.hart machine

-- Two enclaves run and have the same state. Each hart is compared without the PMP entries, mie and the other registers of mode M, which no enclave
-- reads.
pub record SameEnclave (place other_place : Place) (one other : MonitoredMachine) : Type 0 where
  -- each enclave runs on the hart of its place
  pub first : runs_at place one ≡ true
  pub second : runs_at other_place other ≡ true
  -- both harts are equal, as modes S and U see them
  pub hart : below_m_hart (hart_state_of place.hart one).hart ≡ below_m_hart (hart_state_of other_place.hart other).hart
  -- the records of both enclaves are equal
  pub slot : slot_at one.shared.table place.slot ≡ slot_at other.shared.table other_place.slot
  -- the bytes of the region and of the window are equal
  pub memory : EqualOutside (is_beyond one.shared.table place.slot) one.shared.memory other.shared.memory

-- ---- the exit

-- two enclaves that do not run have equal records, equal saved contexts, and equal bytes in the region and the window
pub record SameSaved (i j : ℕ) (one other : Shared) : Type 0 where
  -- the saved context of both enclaves
  pub context : Context
  pub first : context_at one.contexts i ≡ Some context
  pub second : context_at other.contexts j ≡ Some context
  -- the records of both enclaves are equal
  pub slot : slot_at one.table i ≡ slot_at other.table j
  -- the bytes of the region and of the window are equal
  pub memory : EqualOutside (is_beyond one.table i) one.memory other.memory

-- the hart runs the host, which received a reason and a value in a0 and a1
pub record HasReturned (reason value hart : ℕ) (machine : MonitoredMachine) : Type 0 where
  pub world : (hart_state_of hart machine).world ≡ Host
  -- the registers of the host before it receives the reason and the value
  pub host : List ℕ
  -- a0 has the reason, a1 has the value, and the host keeps its other registers
  pub regs : (hart_state_of hart machine).hart.regs ≡ with_return_values host reason value

-- both enclaves exited: the hosts received equal values, and the saved states of the enclaves are equal
pub record SameExit (place other_place : Place) (one other : MonitoredMachine) : Type 0 where
  -- the reason and the value that both hosts received in a0 and a1
  pub reason : ℕ
  pub value : ℕ
  pub first : HasReturned reason value place.hart one
  pub second : HasReturned reason value other_place.hart other
  -- the saved states of both enclaves are equal
  pub saved : SameSaved place.slot other_place.slot one.shared other.shared

-- ---- one step

-- both enclaves still run and have the same state again, or both exited
pub record SameAfter (place other_place : Place) (one other : MonitoredMachine) : Type 0 where
  -- if the first enclave still runs, then both enclaves have the same state
  pub runs : runs_at place one ≡ true → SameEnclave place other_place one other
  -- if the first enclave does not run, then both enclaves exited alike
  pub exits : runs_at place one ≡ false → SameExit place other_place one other

-- two steps have equal outcomes, and leave the enclaves in the same state or both exited
pub record SameEnclaveStep (place other_place : Place) (one other : MonitoredStepped) : Type 0 where
  pub outcome : one.outcome ≡ other.outcome
  pub state : SameAfter place other_place one.state other.state

-- a step of the enclave that runs on the hart is the same in every machine in which an enclave has the same state
abbrev pub DependsOnEnclave : ℕ → MonitoredMachine → MonitoredStepped → Type 0
DependsOnEnclave hart before after =
    (slot : ℕ) (other_place : Place) (other : MonitoredMachine) → Invariant other
    → (let place : Place = record {
      slot = slot;
      hart = hart;
    } in SameEnclave place other_place before other → SameEnclaveStep place other_place after (step_at other_place other))

-- ---- many steps of the enclave in a row

-- the enclave runs on its hart before each of `count` steps of this hart
abbrev pub AreHighSteps : Place → ℕ → MonitoredMachine → Type 0
AreHighSteps place zero machine = Unit {0}
AreHighSteps place (suc count) machine =
    (runs_at place machine ≡ true) × AreHighSteps place count (step_at place machine).state

-- `count` steps of each hart have equal outcomes, and leave the enclaves in the same state or both exited
pub record SameEnclaveRun (place other_place : Place) (count : ℕ) (one other : MonitoredMachine) : Type 0 where
  -- the outcomes of all steps are equal
  pub outcomes : (sched (replicate count place.hart) one).outcomes ≡ (sched (replicate count other_place.hart) other).outcomes
  -- after the last step the enclaves have the same state, or both exited
  pub state : SameAfter place other_place (sched (replicate count place.hart) one).state (sched (replicate count other_place.hart) other).state

-- if two enclaves have the same state, then many steps of one enclave are the same as many steps of the other
abbrev pub EnclaveRunLaw : Type 0
EnclaveRunLaw =
    (place other_place : Place) (count : ℕ) (one other : MonitoredMachine) → Invariant one → Invariant other → SameEnclave place other_place one other
    → AreHighSteps place count one → SameEnclaveRun place other_place count one other
