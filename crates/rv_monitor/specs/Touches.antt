-- The accesses of a step's instruction: the word at pc that is fetched, and the bytes that it loads or stores, each accessible to the world that
-- runs. (A law about the monitor's definitions, not a rule of a standard.)
use Rattle.std.specs.Prelude.{◌≡◌, ◌⊎◌, Bool, true, false, Option, Some, None}
use Rattle.rv_state.specs.declared.cause.Cause.TheVariants as causes
use Rattle.rv_monitor.specs.Prelude.{Access, Cause, Exception, Fetch, InstructionAccessFault, Read, Span, StepOutcome, Trap, Word, Write}
use Rattle.rv_monitor.specs.Prelude.{bytes_from, bytes_in, is_accessible, span}
use Rattle.rv_monitor.specs.MonitoredMachine.{HartView}
use Rattle.rv_monitor.specs.Step.{HartViewStepped}

-- whether an exception comes from an instruction that the step fetched; only an instruction access fault does not
abbrev pub is_after_fetch : Exception → Bool
is_after_fetch InstructionAccessFault = false
is_after_fetch _ = true

-- whether a trap is an exception of an instruction that was fetched
abbrev pub is_of_instruction : Cause → Bool
is_of_instruction (causes.Interrupt interrupt) = false
is_of_instruction (causes.Exception exception) = is_after_fetch exception

-- whether a step executed an instruction, which may have raised an exception
abbrev pub executes : Option Trap → Bool
executes None = true
executes (Some trap) = is_of_instruction trap.cause

-- the bytes of a span, if there is one, are accessible to the world that runs
abbrev pub SpanIsAccessible : HartView → Access → Option Span → Type 0
SpanIsAccessible view access None = Unit {0}
SpanIsAccessible view access (Some span) =
    is_accessible view.shared.memory view.shared.table view.hart_state.world access (bytes_from span.addr (bytes_in span.len)) ≡ true

-- the word at pc is fetched, or no instruction was executed; and every accessed byte is accessible
pub record IsTouchedAccessible (before : HartView) (outcome : StepOutcome) : Type 0 where
  -- the step fetched the word at pc, or executed no instruction
  pub at_pc : (outcome.touched.fetched ≡ span before.hart_state.hart.pc Word) ⊎ ((outcome.touched.fetched ≡ None) × (executes outcome.trap ≡ false))
  pub fetched : SpanIsAccessible before Fetch outcome.touched.fetched
  pub loaded : SpanIsAccessible before Read outcome.touched.loaded
  pub stored : SpanIsAccessible before Write outcome.touched.stored

-- the accesses of a step are permitted to the world that ran before it
abbrev pub TouchesAccessible : HartView → HartViewStepped → Type 0
TouchesAccessible before after = IsTouchedAccessible before after.outcome.step
