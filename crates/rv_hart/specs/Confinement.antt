-- Confinement of a step: it depends only on the bytes of memory that it fetched and loaded, and changes only those that it stored. (A theorem
-- about the step, not a rule of a standard. An access that is refused in one memory is refused in every other memory of the same size.)
use Rattle.std.specs.Prelude.{◌≡◌, ℕ, List, length, Option, Some, None}
use Rattle.rv_word.specs.Widths.{bytes_in}
use Rattle.rv_memory.specs.Memory.{read, write}
use Rattle.rv_memory.specs.declared.touched.Span.{Span}
use Rattle.rv_memory.specs.declared.touched.Touched.{Touched}
use Rattle.rv_hart.specs.Machine.{Machine, Stepped}
use Rattle.rv_hart.specs.Step.{step}

-- two memories have the same bytes in a span, if there is one
abbrev pub SameIn : List ℕ → List ℕ → Option Span → Type 0
SameIn memory other_memory None = Unit {0}
SameIn memory other_memory (Some span) = read memory span.addr (bytes_in span.len) ≡ read other_memory span.addr (bytes_in span.len)

-- two memories have the same size, and the same bytes where a step reads
pub record EqualOn (memory other_memory : List ℕ) (touched : Touched) : Type 0 where
  -- the memories have the same size
  pub size : length memory ≡ length other_memory
  -- the memories have the same bytes where the step fetches
  pub fetched : SameIn memory other_memory touched.fetched
  -- the memories have the same bytes where the step loads
  pub loaded : SameIn memory other_memory touched.loaded

-- a store of these bytes in a span turns one memory into another; without a span, the memories are equal
abbrev pub Stores : List ℕ → List ℕ → List ℕ → Option Span → Type 0
Stores bytes old new None = new ≡ old
Stores bytes old new (Some span) = (length bytes ≡ bytes_in span.len) × (write old span.addr bytes ≡ Some new)

-- two steps from two memories end in the same hart, have the same outcome, and store the same bytes
pub record EndAlike (memory other_memory bytes : List ℕ) (first second : Stepped) : Type 0 where
  -- the steps end in the same hart
  pub hart : second.state.hart ≡ first.state.hart
  -- the steps have the same outcome
  pub outcome : second.outcome ≡ first.outcome
  -- the first step stores these bytes, or nothing
  pub here : Stores bytes memory first.state.memory first.outcome.touched.stored
  -- the second step stores these bytes, or nothing
  pub there : Stores bytes other_memory second.state.memory first.outcome.touched.stored

-- a step ends alike, and stores the same bytes, from each memory that has the same bytes where the step reads
pub record IsConfined (state : Machine) (after : Stepped) : Type 0 where
  -- the bytes that the step stores, if any
  pub bytes : List ℕ
  -- over each memory with the same bytes where the step reads, the step ends alike
  pub alike : (memory : List ℕ) → EqualOn state.memory memory after.outcome.touched
      → EndAlike state.memory memory bytes after (step (record state { memory = memory }))
