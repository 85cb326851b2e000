-- Noninterference with declassification: the content and the steps of an enclave influence no other world, except by what the enclave hands over.
-- The law is stated over a list of moves of two machines. The enclave may take any number of steps in either machine, between steps of the other
-- harts. (Laws about the monitor's definitions, not rules of a standard; declassification: Sabelfeld and Sands, JCS 2009.)
use Rattle.std.specs.Prelude.{◌≡◌, ◌⊎◌, ℕ, Bool, true, false, not, ◌&&◌, ◌||◌, List, [], ◌∷◌, Some}
use Rattle.rv_enclaves.specs.Contexts.{no_supervisor}
use Rattle.rv_enclaves.specs.SharedEquivExcept.{SameContexts}
use Rattle.rv_enclaves.specs.Table.{runs, window}
use Rattle.rv_state.specs.declared.cause.Cause.TheVariants as causes
use Rattle.rv_monitor.specs.Prelude.{Cause, CsrState, EqualOutside, Hart, HartState, Host, Slots, Trap, has, is_live, region, register, with_s_context}
use Rattle.rv_monitor.specs.Debugger.{with_timer}
use Rattle.rv_monitor.specs.EquivExcept.{EquivExcept, HartStatesEquivExcept, runs_on}
use Rattle.rv_monitor.specs.Events.{Event, LineOf, StepOf, event_of}
use Rattle.rv_monitor.specs.GuestView.{guest_state, guest_view}
use Rattle.rv_monitor.specs.MonitoredMachine.{MonitoredMachine, Invariant, count_of, hart_state_of}
use Rattle.rv_monitor.specs.Reads.{SameWindowRead}
use Rattle.rv_monitor.specs.Step.{step_of}

-- ---- two machines that are equivalent except for an enclave

-- two machines are equivalent except `enclave` in the guest view
abbrev pub EquivToGuests : ℕ → MonitoredMachine → MonitoredMachine → Type 0
EquivToGuests enclave one other = EquivExcept enclave (guest_view one) (guest_view other)

-- the CSRs that no context switch replaces: those of M-mode and the counters
abbrev pub unswitched : CsrState → CsrState
unswitched csrs = record (with_s_context csrs no_supervisor) { pmp = record { cfgs = []; addrs = [] }; mie = 0 }

-- two hart states have the same saved context of the host, and equal CSRs that no context switch replaces
pub record SameHost (one other : HartState) : Type 0 where
  pub host : one.host_context ≡ other.host_context
  -- the CSRs that no context switch replaces are equal
  pub rest : unswitched one.hart.csrs ≡ unswitched other.hart.csrs

-- a hart has the same saved context of the host in both machines, in the guest view
abbrev pub SameHostOn : ℕ → MonitoredMachine → MonitoredMachine → Type 0
SameHostOn hart one other = SameHost (guest_state (hart_state_of hart one)) (guest_state (hart_state_of hart other))

-- the bytes that may differ: those in the region of `enclave`, and those in its window while the enclave runs
abbrev pub may_differ : Slots → ℕ → ℕ → Bool
may_differ table enclave byte = has (region table enclave) byte || (runs table enclave && has (window table enclave) byte)

-- Two machines are equivalent except `enclave` in the guest view, and except for the window of `enclave` while `enclave` runs. The saved contexts
-- of the host on the hart of `enclave` are equal.
pub record AreRelated (enclave : ℕ) (one other : MonitoredMachine) : Type 0 where
  -- both machines have the same number of harts
  pub harts : count_of one ≡ count_of other
  -- the states of each hart are equivalent except `enclave`, in the guest view
  pub hart_states : (hart : ℕ) → HartStatesEquivExcept enclave (guest_state (hart_state_of hart one)) (guest_state (hart_state_of hart other))
  -- the saved host context of the hart on which `enclave` runs is equal in both machines
  pub hosts : (hart : ℕ) → runs_on enclave hart one ≡ true → SameHostOn hart one other
  pub table : one.shared.table ≡ other.shared.table
  -- the memories are equal outside the region of `enclave`, and outside the window while `enclave` runs
  pub memory : EqualOutside (may_differ one.shared.table enclave) one.shared.memory other.shared.memory
  -- the saved contexts of all other slots are equal
  pub contexts : SameContexts enclave one.shared.contexts other.shared.contexts
  -- if `enclave` is not live, then the shared states are equal
  pub gone : is_live one.shared.table enclave ≡ false → one.shared ≡ other.shared

-- ---- what the enclave hands over

-- the bytes in the window of `enclave` are equal in both machines
abbrev pub SameWindow : ℕ → MonitoredMachine → MonitoredMachine → Type 0
SameWindow enclave one other =
    EqualOutside (λ byte. not (has (window one.shared.table enclave) byte)) one.shared.memory other.shared.memory

-- two harts have equal a0, and equal a6, which says how the enclave exits
pub record SameHandover (one other : Hart) : Type 0 where
  pub a0 : register one.regs 10 ≡ register other.regs 10
  pub a6 : register one.regs 16 ≡ register other.regs 16

-- Two harts hand over equal registers by this cause. An interrupt hands over no register.
abbrev pub SameHandoverBy : Cause → Hart → Hart → Type 0
SameHandoverBy (causes.Interrupt interrupt) one other = Unit {0}
SameHandoverBy (causes.Exception exception) one other = SameHandover one other

-- `enclave` exits from both machines by the same trap, and hands over equal registers and an equal window
pub record ExitsAlike (enclave hart : ℕ) (one other : MonitoredMachine) : Type 0 where
  pub runs : runs_on enclave hart one ≡ true
  -- the bytes in the window of `enclave` are equal in both machines
  pub window : SameWindow enclave one other
  pub trap : Trap
  -- the registers that the trap hands over to the host are equal
  pub handover : SameHandoverBy trap.cause (hart_state_of hart one).hart (hart_state_of hart other).hart
  -- the step traps alike in both machines
  pub first : (step_of hart one).outcome.step.trap ≡ Some trap
  pub second : (step_of hart other).outcome.step.trap ≡ Some trap
  -- the hart runs the host after the step, in both machines
  pub first_exits : (hart_state_of hart (step_of hart one).state).world ≡ Host
  pub second_exits : (hart_state_of hart (step_of hart other).state).world ≡ Host

-- ---- moves of two machines

-- a step of a hart in the first machine or in the second, or an event of both: a step of a hart, or a change of its timer line
pub data Move : Type 0 where
  First : ℕ → Move
  Second : ℕ → Move
  Both : Event → Move

-- the step is a step of the enclave that does not exit
pub record IsInside (enclave hart : ℕ) (machine : MonitoredMachine) : Type 0 where
  -- `enclave` runs on the hart before and after the step
  pub before : runs_on enclave hart machine ≡ true
  pub after : runs_on enclave hart (step_of hart machine).state ≡ true

-- The step is a low step. If the enclave runs on another hart, then the bytes of its window that the step reads are equal in both machines.
pub record IsLowStep (enclave hart : ℕ) (one other : MonitoredMachine) : Type 0 where
  pub low : runs_on enclave hart one ≡ false
  -- while `enclave` runs, the step reads equal bytes of its window in both machines
  pub window : runs one.shared.table enclave ≡ true → SameWindowRead enclave hart one other

-- A move of one machine alone is a step of the enclave that does not exit. A move of both machines is a low step, an exit of the enclave that hands
-- over equal registers, or a change of any timer line.
abbrev pub IsMove : ℕ → Move → MonitoredMachine → MonitoredMachine → Type 0
IsMove enclave (First hart) one other = IsInside enclave hart one
IsMove enclave (Second hart) one other = IsInside enclave hart other
IsMove enclave (Both (StepOf hart)) one other = IsLowStep enclave hart one other ⊎ ExitsAlike enclave hart one other
IsMove enclave (Both (LineOf hart raised)) one other = Unit {0}

-- the first machine after a move; a move of the second machine alone does not change it
abbrev pub first_after : Move → MonitoredMachine → MonitoredMachine
first_after (First hart) machine = (step_of hart machine).state
first_after (Second hart) machine = machine
first_after (Both event) machine = (event_of event machine).state

-- the second machine after a move; a move of the first machine alone does not change it
abbrev pub second_after : Move → MonitoredMachine → MonitoredMachine
second_after (First hart) machine = machine
second_after (Second hart) machine = (step_of hart machine).state
second_after (Both event) machine = (event_of event machine).state

-- each move in the list is permitted in the two machines that the moves before it lead to
abbrev pub AreMoves : ℕ → List Move → MonitoredMachine → MonitoredMachine → Type 0
AreMoves enclave [] one other = Unit {0}
AreMoves enclave (move ∷ moves) one other =
    IsMove enclave move one other × AreMoves enclave moves (first_after move one) (second_after move other)

-- every low step has equal outcomes
abbrev pub LowOutcomesEqual : ℕ → List Move → MonitoredMachine → MonitoredMachine → Type 0
LowOutcomesEqual enclave [] one other = Unit {0}
LowOutcomesEqual enclave (First hart ∷ moves) one other = LowOutcomesEqual enclave moves (step_of hart one).state other
LowOutcomesEqual enclave (Second hart ∷ moves) one other = LowOutcomesEqual enclave moves one (step_of hart other).state
LowOutcomesEqual enclave (Both (StepOf hart) ∷ moves) one other =
    (runs_on enclave hart one ≡ false → (step_of hart one).outcome ≡ (step_of hart other).outcome)
    × LowOutcomesEqual enclave moves (step_of hart one).state (step_of hart other).state
LowOutcomesEqual enclave (Both (LineOf hart raised) ∷ moves) one other =
    LowOutcomesEqual enclave moves (with_timer hart one raised) (with_timer hart other raised)

-- the first machine after all moves
abbrev pub first_end : List Move → MonitoredMachine → MonitoredMachine
first_end [] machine = machine
first_end (move ∷ moves) machine = first_end moves (first_after move machine)

-- the second machine after all moves
abbrev pub second_end : List Move → MonitoredMachine → MonitoredMachine
second_end [] machine = machine
second_end (move ∷ moves) machine = second_end moves (second_after move machine)

-- ---- the law

-- each low step has equal outcomes in both machines, and the machines are related after the moves
pub record MovedAlike (enclave : ℕ) (moves : List Move) (one other : MonitoredMachine) : Type 0 where
  pub outcomes : LowOutcomesEqual enclave moves one other
  pub state : AreRelated enclave (first_end moves one) (second_end moves other)

-- permitted moves of two related machines have equal outcomes of low steps, and lead to related machines
abbrev pub DeclassificationLaw : Type 0
DeclassificationLaw =
    (enclave : ℕ) (moves : List Move) (one other : MonitoredMachine) → Invariant one → Invariant other → AreRelated enclave one other
    → AreMoves enclave moves one other → MovedAlike enclave moves one other

-- Two machines that are equivalent except for an enclave are equivalent except for this enclave in the guest view. Machines that are equivalent in
-- the guest view are related, if the enclave runs on no hart. Related machines are equivalent in the guest view, if the enclave does not run.
pub record RelationLaw : Type 0 where
  -- machines that are equivalent except `enclave` are equivalent except `enclave` in the guest view
  pub guests : (enclave : ℕ) (one other : MonitoredMachine) → EquivExcept enclave one other
      → EquivToGuests enclave one other
  -- machines that are equivalent except `enclave` in the guest view are related, if `enclave` runs on no hart
  pub begins : (enclave : ℕ) (one other : MonitoredMachine) → EquivToGuests enclave one other
      → ((hart : ℕ) → runs_on enclave hart one ≡ false)
      → AreRelated enclave one other
  -- related machines are equivalent except `enclave` in the guest view, if `enclave` does not run
  pub ends : (enclave : ℕ) (one other : MonitoredMachine) → AreRelated enclave one other
      → runs one.shared.table enclave ≡ false
      → EquivToGuests enclave one other
