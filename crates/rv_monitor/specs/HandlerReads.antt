-- The reads of the trap handler from memory and from the saved contexts. Create reads the bytes of the region, and run and resume read the
-- context of the slot. Measure depends on no byte, only on its addresses. (A law about the monitor's definitions, not a rule of a standard.)
use Rattle.std.specs.Prelude.{◌≡◌, ℕ, Bool, true, false, length, slice_index, Option, Some, None, if◌then◌else◌}
use Rattle.rv_state.specs.declared.cause.Cause.TheVariants as causes
use Rattle.rv_monitor.specs.Prelude.{Call, Cause, Create, EnvironmentCallFromS, Resume, Run, HartState, Shared, Trap, requested_call, bytes_of_block}
use Rattle.rv_monitor.specs.Prelude.{context_at, create_args_of}
use Rattle.rv_monitor.specs.CallRefusals.{a0}
use Rattle.rv_monitor.specs.MonitoredMachine.{MonitoredMachine, hart_state_of}
use Rattle.rv_monitor.specs.Step.{MonitoredStepped, handled, step_of}
use Rattle.rv_monitor.specs.Switches.{Handled}

-- whether the cause of a trap is an ecall from S
abbrev pub is_call : Cause → Bool
is_call (causes.Exception EnvironmentCallFromS) = true
is_call _ = false

-- the call that a trap requests: the call of the registers after an ecall from S, and none after another trap
abbrev pub requested_by : Cause → HartState → Option Call
requested_by cause hart_state =
    if is_call cause then requested_call hart_state.world hart_state.hart.regs else None

-- whether a call enters an enclave
abbrev pub is_entering : Option Call → Bool
is_entering (Some Run) = true
is_entering (Some Resume) = true
is_entering _ = false

-- two shared states have the same table and memories of the same size, and are equal in everything else that the trap handler reads
pub record SameRead (hart_state : HartState) (cause : Cause) (one other : Shared) : Type 0 where
  -- the tables of slots are equal
  pub table : one.table ≡ other.table
  pub size : length one.memory ≡ length other.memory
  -- both states have the same number of saved contexts
  pub slots : length one.contexts ≡ length other.contexts
  -- the bytes of the region that a requested create would measure are equal
  pub measured : requested_by cause hart_state ≡ Some Create
      → bytes_of_block one.memory (create_args_of hart_state.hart.regs).region
      ≡ bytes_of_block other.memory (create_args_of hart_state.hart.regs).region
  -- the saved context of the slot that a requested run or resume would enter is equal
  pub entered : is_entering (requested_by cause hart_state) ≡ true
      → context_at one.contexts (a0 hart_state) ≡ context_at other.contexts (a0 hart_state)

-- the tables are equal after the trap, and each byte and each context that is equal before is equal after
pub record SameWhereSame (one other one_after other_after : Shared) : Type 0 where
  pub table : one_after.table ≡ other_after.table
  -- each byte that is equal before the trap is equal after the trap
  pub bytes : (index : ℕ) → slice_index one.memory index ≡ slice_index other.memory index
      → slice_index one_after.memory index ≡ slice_index other_after.memory index
  -- each saved context that is equal before the trap is equal after the trap
  pub contexts : (slot : ℕ) → context_at one.contexts slot ≡ context_at other.contexts slot
      → context_at one_after.contexts slot ≡ context_at other_after.contexts slot

-- two results of the trap handler have equal harts, and each byte and each context that is equal before is equal after
pub record SameHandling (one other : Shared) (one_left other_left : Handled) : Type 0 where
  pub hart_state : one_left.hart_state ≡ other_left.hart_state
  -- both harts continue at the same pc in the same mode
  pub next : one_left.next ≡ other_left.next
  pub shared : SameWhereSame one other one_left.shared other_left.shared

-- the trap handler has the same result on two shared states that are equal in everything that it reads
abbrev pub HandlerReadsLaw : Type 0
HandlerReadsLaw =
    (hart_state : HartState) (trap : Trap) (one other : Shared) → SameRead hart_state trap.cause one other
    → SameHandling one other (handled hart_state one trap) (handled hart_state other trap)

-- ---- the step

-- two steps leave the same hart states and enter the same slot, and each byte and each context that is equal before is equal after
pub record SameStep (one other : MonitoredMachine) (one_after other_after : MonitoredStepped) : Type 0 where
  pub hart_states : one_after.state.hart_states ≡ other_after.state.hart_states
  pub entered : one_after.outcome.entered ≡ other_after.outcome.entered
  pub shared : SameWhereSame one.shared other.shared one_after.state.shared other_after.state.shared

-- The step has the same effect on every machine that traps in the same way, if two conditions hold. The hart states are the same. Everything that
-- the trap handler reads is the same.
abbrev pub ReadsOnly : ℕ → MonitoredMachine → MonitoredStepped → Type 0
ReadsOnly hart before after =
    (other : MonitoredMachine) (trap : Trap) → before.hart_states ≡ other.hart_states → after.outcome.step.trap ≡ Some trap
    → (step_of hart other).outcome.step.trap ≡ Some trap
    → SameRead (hart_state_of hart before) trap.cause before.shared other.shared
    → SameStep before other after (step_of hart other)
