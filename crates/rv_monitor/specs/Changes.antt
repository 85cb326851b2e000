-- The bytes of memory that a step changes. (A law about the monitor's definitions, not a rule of a standard.)
-- - The bytes that its instruction stored, each accessible to the world that runs.
-- - The region of an enclave that a destroy ends.
-- - The 32 bytes that a measure writes, each accessible to the caller.
use Rattle.std.specs.Prelude.{◌≡◌, ◌⊎◌, ℕ, ◌+◌, ◌<◌, ◌≤◌, true, false, List, Option, Some, None}
use Rattle.rv_monitor.specs.Prelude.{Destroy, Measure, Shared, Slots, Span, Trap, World, Write, requested_call, byte_at, bytes_from, bytes_in}
use Rattle.rv_monitor.specs.Prelude.{first_refusal, has, is_accessible, is_live, layout, measure_refusals, measured_slot, region, register}
use Rattle.rv_monitor.specs.HandlerReads.{is_call}
use Rattle.rv_monitor.specs.MonitoredMachine.{HartView}
use Rattle.rv_monitor.specs.Step.{HartViewStepped}

-- the instruction stored the byte, and the store was accessible to its world
pub record IsStoredAccessible (world : World) (shared : Shared) (stored : Option Span) (byte : ℕ) : Type 0 where
  -- the addresses to which the instruction stored
  pub span : Span
  pub is : stored ≡ Some span
  -- the byte is one of these addresses
  pub low : span.addr ≤ byte
  pub high : byte < span.addr + bytes_in span.len
  -- these addresses are accessible to the world for a store
  pub accessible : is_accessible shared.memory shared.table world Write (bytes_from span.addr (bytes_in span.len)) ≡ true

-- a destroy ended the enclave in the slot of a0 (x10), and the byte is in the region of this enclave
pub record IsCleared (world : World) (regs : List ℕ) (before after : Slots) (byte : ℕ) : Type 0 where
  -- the world requests destroy
  pub asked : requested_call world regs ≡ Some Destroy
  -- the enclave is live before the step and not live after the step
  pub live : is_live before (register regs 10) ≡ true
  pub gone : is_live after (register regs 10) ≡ false
  -- the byte is in the region of the enclave
  pub own : has (region before (register regs 10)) byte ≡ true

-- a measure that is not refused wrote the byte; the byte is one of the 32 bytes from a1 on, and the caller may store to the byte
pub record IsMeasured (world : World) (regs : List ℕ) (shared : Shared) (byte : ℕ) : Type 0 where
  -- the world requests measure
  pub asked : requested_call world regs ≡ Some Measure
  -- no refusal applies to the measure
  pub done : first_refusal (measure_refusals shared (layout shared.table world) (measured_slot world (register regs 10)) (register regs 11)) ≡ None
  -- the byte is one of the 32 bytes from a1 on
  pub low : register regs 11 ≤ byte
  pub high : byte < register regs 11 + 32
  -- the byte is accessible to the world for a store
  pub accessible : is_accessible shared.memory shared.table world Write (bytes_from byte 1) ≡ true

-- a byte that the trap handler changed
abbrev pub ByMonitor : World → List ℕ → Shared → Shared → ℕ → Type 0
ByMonitor world regs before after byte =
    IsCleared world regs before.table after.table byte ⊎ IsMeasured world regs before byte

-- the step trapped by an ecall from S, and the trap handler changed the byte
pub record ByCall (before : HartView) (after : HartViewStepped) (byte : ℕ) : Type 0 where
  pub trap : Trap
  pub trapped : after.outcome.step.trap ≡ Some trap
  pub is : is_call trap.cause ≡ true
  -- a destroy cleared the byte, or a measure wrote the byte
  pub change : ByMonitor before.hart_state.world before.hart_state.hart.regs before.shared after.state.shared byte

-- a byte that a step changed
abbrev pub IsChanged : HartView → HartViewStepped → ℕ → Type 0
IsChanged before after byte =
    IsStoredAccessible before.hart_state.world before.shared after.outcome.step.touched.stored byte ⊎ ByCall before after byte

-- each byte is unchanged, or is a byte that the step may change
abbrev pub ChangesAccessible : HartView → HartViewStepped → Type 0
ChangesAccessible before after =
    (byte : ℕ) → byte_at after.state.shared.memory byte ≡ byte_at before.shared.memory byte ⊎ IsChanged before after byte
