-- The bytes that a step reads, and two memories that change alike. (Not a rule of a standard; the laws about the whole life of an enclave are about
-- them.)
use Rattle.std.specs.Prelude.{◌≡◌, ◌⊎◌, ℕ, Bool, false, not, ◌&&◌, ◌||◌, List, Option, Some, None, slice_index}
use Rattle.rv_enclaves.specs.Table.{window}
use Rattle.rv_memory.specs.declared.touched.Touched.{Touched}
use Rattle.rv_memory.specs.declared.block.Block.{Block}
use Rattle.rv_monitor.specs.Prelude.{EqualOutside, Span, bytes_in, has}
use Rattle.rv_monitor.specs.MonitoredMachine.{MonitoredMachine}
use Rattle.rv_monitor.specs.Step.{step_of}

-- the bytes of a span as a block: its address, and its length in bytes
abbrev pub block_of : Span → Block
block_of span = record { base = span.addr; size = bytes_in span.len }

-- whether the byte is in the span; no byte is in an absent span
abbrev pub in_span : Option Span → ℕ → Bool
in_span None byte = false
in_span (Some span) byte = has (block_of span) byte

-- whether an instruction fetched or loaded a byte
abbrev pub reads_byte : Touched → ℕ → Bool
reads_byte touched byte = in_span touched.fetched byte || in_span touched.loaded byte

-- the bytes of the window of the slot that the step of a hart reads in the first machine are equal in the second machine
abbrev pub SameWindowRead : ℕ → ℕ → MonitoredMachine → MonitoredMachine → Type 0
SameWindowRead slot hart one other =
    EqualOutside (λ byte. not (has (window one.shared.table slot) byte && reads_byte (step_of hart one).outcome.step.touched byte))
    one.shared.memory other.shared.memory

-- two memories, and both memories after a change: each byte is unchanged in both, or is equal in both after the change
abbrev pub ChangeAlike : List ℕ → List ℕ → List ℕ → List ℕ → Type 0
ChangeAlike memory other_memory after other_after =
    (index : ℕ) → ((slice_index after index ≡ slice_index memory index) × (slice_index other_after index ≡ slice_index other_memory index)) ⊎
    (slice_index after index ≡ slice_index other_after index)
