-- The result of assembling a source, and its effects in each case. (This project's own streams.)
use Rattle.std.specs.Prelude.{◌≡◌, ◌⊎◌, ℕ, ◌+◌, ◌<◌, ◌≤◌, List, [], ◌++◌, length, IsOkAnd, Result}
use Rattle.std.specs.Prelude.{Ok, Err, Vec}
use Rattle.rv_text.specs.Lines.{lines_of}
use Rattle.rv_asm.specs.OutOfMemory.{RunsOutOfMemory}
use Rattle.rv_asm.specs.declared.fault.AsmFault.{AsmFault}
use Rattle.rv_streams.specs.declared.device.Sink.{Ghosts as SinkGhosts}
use Rattle.rv_streams.specs.declared.device.Source.{Ghosts as SourceGhosts}
use Rattle.rv_streams.specs.declared.fault.BenchFault.{BenchFault}
use Rattle.rv_streams.specs.declared.fault.BenchFault.TheVariants.{Read, Write, TooLong, NoMemory, Asm}
use Rattle.rv_streams.specs.AssemblyText.{asm_output}
use Rattle.rv_streams.specs.Calls.{SourceWorked, SourceFailed, SinkFlushed, SinkFailed}
use Rattle.rv_streams.specs.Device.{HasRisen}
use Rattle.rv_streams.specs.Faults.{Outcome}
use Rattle.rv_streams.specs.Transfer.{ReadsAtMost, ReadsMoreThan, WritesPrefix}

-- the meaning of each result of appending a part to a text, which may have at most 4 MiB (4194304 bytes)
abbrev pub AddsPart : List ℕ → List ℕ → List ℕ → Outcome → Type 0
AddsPart part old new (Ok _) = (new ≡ old ++ part) × (length new ≤ 4194304)
AddsPart part old new (Err TooLong) = (4194304 < length old + length part) × (new ≡ old)
AddsPart part old new (Err NoMemory) = (0 < length part) × (length old + length part ≤ 4194304) × (new ≡ old)
AddsPart part old new (Err _) = ⊥

module _ {S : Type 0} (source_view : SourceGhosts S) where
  -- The whole text of at most 4 MiB was read, until the source returned its end.
  pub record ReadsWholeText (old new : S) : Type 0 where
    -- the input that is assumed stays the same
    pub same_input : source_view.input new ≡ source_view.input old
    -- no call of the source failed
    pub source : SourceWorked source_view old new
    -- the source returned its end
    pub ended : HasRisen (source_view.ends old) (source_view.ends new)
    -- the text has at most 4 MiB
    pub within_limit : source_view.follows_input new → length (source_view.remaining old) ≤ 4194304
    -- no byte of the input is left
    pub used_up : source_view.follows_input new → source_view.remaining new ≡ []

  -- The source failed before it returned its end, after at most 4 MiB were read.
  pub record FailsInText (old new : S) : Type 0 where
    -- the input that is assumed stays the same
    pub same_input : source_view.input new ≡ source_view.input old
    -- a call of the source failed
    pub source : SourceFailed source_view old new
    -- the source has not returned its end
    pub no_new_end : source_view.ends new ≡ source_view.ends old
    -- at most 4 MiB were read
    pub reads : source_view.follows_input new → ReadsAtMost 4194304 (source_view.remaining old) (source_view.remaining new)

  -- More than 4 MiB were read before the source returned its end, so the text is too long.
  pub record FindsTooMuch (old new : S) : Type 0 where
    -- the input that is assumed stays the same
    pub same_input : source_view.input new ≡ source_view.input old
    -- no call of the source failed
    pub source : SourceWorked source_view old new
    -- the source has not returned its end
    pub no_new_end : source_view.ends new ≡ source_view.ends old
    -- more than 4 MiB were read
    pub reads : source_view.follows_input new → ReadsMoreThan 4194304 (source_view.remaining old) (source_view.remaining new)

  -- Memory for the text was exhausted before the source returned its end, after at least one byte was read.
  pub record RunsOutOfMemoryForText (old new : S) : Type 0 where
    -- the input that is assumed stays the same
    pub same_input : source_view.input new ≡ source_view.input old
    -- no call of the source failed
    pub source : SourceWorked source_view old new
    -- the source has not returned its end
    pub no_new_end : source_view.ends new ≡ source_view.ends old
    -- at least one byte was read
    pub some_read : source_view.follows_input new → length (source_view.remaining new) < length (source_view.remaining old)
    -- at most 4 MiB were read
    pub reads : source_view.follows_input new → ReadsAtMost 4194304 (source_view.remaining old) (source_view.remaining new)

  -- the meaning of each result of reading a text
  abbrev pub ReadsText : {Z : Type 0} → S → S → Result (Vec ℕ Z) BenchFault → Type 0
  ReadsText old new (Ok text) = ReadsWholeText old new × (length text.items ≤ 4194304)
      × (source_view.follows_input new → text.items ≡ source_view.remaining old)
  ReadsText old new (Err Read) = FailsInText old new
  ReadsText old new (Err TooLong) = FindsTooMuch old new
  ReadsText old new (Err NoMemory) = RunsOutOfMemoryForText old new
  ReadsText old new (Err _) = ⊥

-- the error is the error of the text, or memory is exhausted at a line without an error that has precedence
abbrev pub FailsAsm : List ℕ → AsmFault → Type 0
FailsAsm text fault = (asm_output text ≡ Err (Asm fault)) ⊎ RunsOutOfMemory text fault

module _ {S W : Type 0} (source_view : SourceGhosts S) (sink_view : SinkGhosts W) (old new : S) (before after : W) where
  -- The meaning of each result of `run_asm`. Nothing is written before the whole text was read and assembled. If memory is exhausted at a line,
  -- the line has no error that has precedence.
  abbrev pub RunsAsm : Outcome → Type 0
  RunsAsm (Ok _) =
      ReadsWholeText source_view old new × SinkFlushed sink_view before after
      × (source_view.follows_input new
      → IsOkAnd (asm_output (source_view.remaining old)) (λ text. sink_view.taken after ≡ sink_view.taken before ++ text))
  RunsAsm (Err Read) = FailsInText source_view old new × (after ≡ before)
  RunsAsm (Err TooLong) = FindsTooMuch source_view old new
      × (source_view.follows_input new → asm_output (source_view.remaining old) ≡ Err TooLong) × (after ≡ before)
  RunsAsm (Err NoMemory) = RunsOutOfMemoryForText source_view old new × (after ≡ before)
  RunsAsm (Err (Asm fault)) =
      ReadsWholeText source_view old new
      × (source_view.follows_input new → (1 ≤ fault.line) × (fault.line ≤ length (lines_of (source_view.remaining old))))
      × (source_view.follows_input new → FailsAsm (source_view.remaining old) fault)
      × (after ≡ before)
  RunsAsm (Err Write) =
      ReadsWholeText source_view old new × SinkFailed sink_view before after
      × (source_view.follows_input new
      → IsOkAnd (asm_output (source_view.remaining old)) (λ text. WritesPrefix (sink_view.taken before) (sink_view.taken after) text))
  RunsAsm (Err _) = ⊥
