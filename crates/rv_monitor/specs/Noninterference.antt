-- Noninterference: a step depends on nothing that is private to an enclave that is not the world of its hart, wherever that enclave runs.
-- (A law about the monitor's definitions, not a rule of a standard.)
use Rattle.std.specs.Prelude.{◌≡◌, ℕ, Bool, false, List}
use Rattle.rv_monitor.specs.Prelude.{EqualOutside, SharedInvariant, HartState, Shared, SharedEquivExcept, Machine, Stepped, Trap, World, is_private}
use Rattle.rv_monitor.specs.Prelude.{is_world_of, step}
use Rattle.rv_monitor.specs.EquivExcept.{EquivExcept, HartStatesEquivExcept, runs_on}
use Rattle.rv_monitor.specs.MonitoredMachine.{MonitoredMachine, HartView, Invariant, HartViewInvariant}
use Rattle.rv_monitor.specs.Step.{MonitoredStepped, handled, returned_to, step_of}
use Rattle.rv_monitor.specs.Switches.{Handled}

-- ---- the trap handler

-- the state of the hart as it continues after the trap handler
abbrev pub continuing_from : Handled → HartState
continuing_from result =
    record result.hart_state { hart = returned_to result.hart_state.hart result.next.pc result.next.mode }

-- Two results of the trap handler enter the same slot and are equivalent except `enclave`. If this slot is `enclave`, then the hart states need not
-- be equal.
pub record HandledAlike (enclave : ℕ) (one other : Handled) : Type 0 where
  pub entered : one.next.entered ≡ other.next.entered
  pub hart_state : HartStatesEquivExcept enclave (continuing_from one) (continuing_from other)
  pub shared : SharedEquivExcept enclave one.shared other.shared

-- the trap handler of a world other than `enclave` has equivalent results on two shared states that are equivalent except `enclave`
abbrev pub HandlerLaw : Type 0
HandlerLaw =
    (enclave : ℕ) (worlds : List World) (hart_state : HartState) (one other : Shared) (trap : Trap) → SharedInvariant one worlds
    → SharedInvariant other worlds
    → is_world_of enclave hart_state.world ≡ false → SharedEquivExcept enclave one other
    → HandledAlike enclave (handled hart_state one trap) (handled hart_state other trap)

-- ---- the bare step

-- the hart and the memory of a view, as a machine without the monitor
abbrev pub bare_machine : HartView → Machine
bare_machine state = record { hart = state.hart_state.hart; memory = state.shared.memory }

-- two bare steps end in the same hart, have the same outcome, and leave memories that are equal outside the hidden bytes
pub record StepAlike (hidden : ℕ → Bool) (one other : Stepped) : Type 0 where
  pub hart : other.state.hart ≡ one.state.hart
  pub outcome : other.outcome ≡ one.outcome
  pub memory : EqualOutside hidden one.state.memory other.state.memory

-- a bare step depends on no byte in the region of an enclave other than the running world
abbrev pub BareLaw : Type 0
BareLaw =
    (enclave : ℕ) (view : HartView) (memory : List ℕ) → HartViewInvariant view → is_world_of enclave view.hart_state.world ≡ false
    → EqualOutside (is_private view.shared.table enclave) view.shared.memory memory
    → StepAlike (is_private view.shared.table enclave) (step (bare_machine view)) (step (record (bare_machine view) { memory = memory }))

-- ---- the monitored step

-- two steps have equal outcomes, and end in machines that are equivalent except `enclave`
pub record SteppedAlike (enclave : ℕ) (one other : MonitoredStepped) : Type 0 where
  pub outcome : one.outcome ≡ other.outcome
  pub state : EquivExcept enclave one.state other.state

-- The outcome and the new state of a step depend on no enclave other than the world of the stepping hart. On every machine that is equivalent except
-- for such an enclave, the step has the same effect. The step may be the one that enters the enclave.
abbrev pub StepNoninterference : ℕ → MonitoredMachine → MonitoredStepped → Type 0
StepNoninterference hart before after =
    (enclave : ℕ) (other : MonitoredMachine) → Invariant other → EquivExcept enclave before other → runs_on enclave hart before ≡ false
    → SteppedAlike enclave after (step_of hart other)
