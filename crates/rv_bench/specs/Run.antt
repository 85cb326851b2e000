-- A run over the lines of a script, result by result. (This project's own streams.)
use Rattle.std.specs.Prelude.{◌≡◌, ℕ, ◌+◌, ◌≤◌, true, false, List, [], ◌++◌, length, take, IsOkAnd, Result, Ok, Err}
use Rattle.rv_text.specs.GoodLines.{kept_bytes}
use Rattle.rv_text.specs.Lines.{has_feed, lines_of, through_last_feed}
use Rattle.rv_debug.specs.BenchState.{BenchState}
use Rattle.rv_memory.specs.Memory.{is_ram_size}
use Rattle.rv_memory.specs.declared.ram_fault.RamFault.TheVariants.{BadSize, NoMemory as NoRamMemory}
use Rattle.rv_command_line.specs.declared.setup.Setup.{Setup}
use Rattle.rv_streams.specs.declared.device.Sink.{Ghosts as SinkGhosts}
use Rattle.rv_streams.specs.declared.device.Source.{Ghosts as SourceGhosts}
use Rattle.rv_streams.specs.declared.fault.BenchFault.{BenchFault}
use Rattle.rv_streams.specs.declared.fault.BenchFault.TheVariants.{Image, Ram, Read, Write}
use Rattle.rv_streams.specs.declared.lines.Lines.{Lines}
use Rattle.rv_streams.specs.declared.separator.ScriptEnd.{ScriptEnd}
use Rattle.rv_streams.specs.declared.separator.ScriptEnd.TheVariants.{Input, Separator}
use Rattle.rv_streams.specs.Calls.{SourceWorked, SourceFailed, SinkWorked, SinkFlushed, SinkFailed}
use Rattle.rv_streams.specs.Faults.{Outcome}
use Rattle.rv_streams.specs.Script.{script_lines, ReadsThroughSeparator}
use Rattle.rv_streams.specs.Transfer.{WritesPrefix}
use Rattle.rv_streams.specs.Unread.{held, unread, HasEnded}
use Rattle.rv_bench.specs.Loaded.{started}
use Rattle.rv_bench.specs.Replies.{Responding, bench_line, one_bench, replies, state_after}

module _ {A : Type 0} (responder : Responding A) where
  -- The source failed. A text of whole lines of the script has its replies, and the responder is not over after it. At most `kept_bytes`
  -- bytes of the line that was begun are held, so that a later call continues from there.
  pub record StopsAtRead (end : ScriptEnd) (start : A) (unread remaining kept old new : List ℕ) : Type 0 where
    -- the whole lines that were read
    pub text : List ℕ
    -- the part of the next line that was read
    pub begun : List ℕ
    -- the unread bytes are the text, then the begun part, and then the bytes that are left (`remaining`)
    pub split : unread ≡ text ++ (begun ++ remaining)
    -- the text is empty or ends with a line feed
    pub whole_lines : through_last_feed text ≡ text
    -- the begun line has no line feed yet
    pub unfinished : has_feed begun ≡ false
    -- at most `kept_bytes` bytes of the begun line are kept
    pub prefix : kept ≡ take kept_bytes begun
    -- no line of the text ends the script
    pub in_script : script_lines end (lines_of text) ≡ lines_of text
    -- the responder is not over after the lines of the text
    pub not_over : responder.is_over (state_after responder.respond start (lines_of text)) ≡ false
    -- the replies to the lines of the text were written
    pub written : new ≡ old ++ replies responder.respond start (lines_of text)

  -- The sink failed, or took nothing. Some lines of the script have their responses, and the responder is not over after them. At most one more
  -- line was read: the next line of the script, of whose reply a prefix was written, or the line that ends the script. A later call continues
  -- after these.
  pub record StopsAtWrite (end : ScriptEnd) (start : A) (unread remaining old new : List ℕ) : Type 0 where
    -- the lines that were read
    pub text : List ℕ
    -- the lines whose replies were written in full
    pub responded : List (List ℕ)
    -- the line whose reply was written in part, or no line
    pub next : List (List ℕ)
    -- at most one line was read after the lines with a full reply
    pub at_most_one : length (lines_of text) ≤ length responded + 1
    -- the unread bytes are the text, followed by the bytes that are left (`remaining`)
    pub split : unread ≡ text ++ remaining
    -- the lines of the text that belong to the script are the lines in `responded` and `next`
    pub are_lines : script_lines end (lines_of text) ≡ responded ++ next
    -- a later call continues with the lines after the text
    pub all_lines : lines_of unread ≡ lines_of text ++ lines_of remaining
    -- the responder is not over after the lines with a full reply
    pub not_over : responder.is_over (state_after responder.respond start responded) ≡ false
    -- the full replies were written, and then a prefix of the next reply
    pub written : WritesPrefix (old ++ replies responder.respond start responded) new
        (replies responder.respond (state_after responder.respond start responded) next)

module _ {S W : Type 0} {source_view : SourceGhosts S} (sink_view : SinkGhosts W) where
  -- All was read, to the end that the source reported. Exactly the output was written, and the sink was flushed afterwards.
  pub record RunsToEnd (output : Result (List ℕ) BenchFault) (old new : Lines S source_view) (before after : W) : Type 0 where
    -- the lines have reported the end of the input
    pub at_end : new.is_at_end ≡ true
    -- the source returned its end
    pub ended : HasEnded old new
    -- no begun line is held
    pub emptied : held new ≡ []
    -- no call of the source failed
    pub source : SourceWorked source_view old.source new.source
    -- no call of the sink failed, and the sink was flushed once, at the end
    pub sink : SinkFlushed sink_view before after
    -- no byte of the input is left
    pub used_up : source_view.follows_input new.source → unread new ≡ []
    -- exactly the output was written
    pub written : source_view.follows_input new.source → IsOkAnd output (λ text. sink_view.taken after ≡ sink_view.taken before ++ text)

  -- All was read through the first separator, or to the end that the source reported. Exactly the output was written.
  pub record RunsToSeparator (output : Result (List ℕ) BenchFault) (old new : Lines S source_view) (before after : W) : Type 0 where
    -- the lines were read through the first separator, or to the end of the input
    pub reads : ReadsThroughSeparator old new
    -- no call of the sink failed, and the sink was not flushed
    pub sink : SinkWorked sink_view before after
    -- exactly the output was written
    pub written : source_view.follows_input new.source → IsOkAnd output (λ text. sink_view.taken after ≡ sink_view.taken before ++ text)

  -- the script was run, up to its end
  abbrev pub RunsScript : ScriptEnd → Result (List ℕ) BenchFault → Lines S source_view → Lines S source_view → W → W → Type 0
  RunsScript Input = RunsToEnd
  RunsScript Separator = RunsToSeparator

  -- The source failed, and the sink did not.
  pub record FailsToRead (old new : Lines S source_view) (before after : W) : Type 0 where
    -- a call of the source failed
    pub source : SourceFailed source_view old.source new.source
    -- no call of the sink failed
    pub sink : SinkWorked sink_view before after
    -- the lines have not reported the end of the input
    pub not_at_end : new.is_at_end ≡ false

  -- The sink failed, and the source did not: a prefix of the output is written.
  pub record FailsToWrite (output : Result (List ℕ) BenchFault) (old new : Lines S source_view) (before after : W) : Type 0 where
    -- no call of the source failed
    pub source : SourceWorked source_view old.source new.source
    -- a call of the sink failed, or took no byte of a part that was not empty
    pub sink : SinkFailed sink_view before after
    -- no begun line is held
    pub emptied : held new ≡ []
    -- a prefix of the output was written
    pub prefix : source_view.follows_input new.source → IsOkAnd output (λ text. WritesPrefix (sink_view.taken before) (sink_view.taken after) text)

  -- the meaning of each failure of a run over the lines of a script, from the state before it
  abbrev pub FailsIn : {A : Type 0} → Responding A → ScriptEnd → A → Lines S source_view → Lines S source_view → W → W → BenchFault → Type 0
  FailsIn responder end start old new before after Read =
      FailsToRead old new before after
      × (source_view.follows_input new.source
      → StopsAtRead responder end start (unread old) (source_view.remaining new.source) (held new) (sink_view.taken before) (sink_view.taken after))
  FailsIn responder end start old new before after Write =
      FailsToWrite (Ok (replies responder.respond start (script_lines end (lines_of (unread old))))) old new before after
      × (source_view.follows_input new.source
      → StopsAtWrite responder end start (unread old) (unread new) (sink_view.taken before) (sink_view.taken after))
  FailsIn responder end start old new before after _ = ⊥

  -- the meaning of each result of a run of one bench over the lines of a script, from the state of the bench before it
  abbrev pub RunsLines : ScriptEnd → BenchState → Lines S source_view → Lines S source_view → W → W → Outcome → Type 0
  RunsLines end bench old new before after (Ok _) =
      RunsScript end (Ok (replies bench_line bench (script_lines end (lines_of (unread old))))) old new before after
  RunsLines end bench old new before after (Err fault) = FailsIn one_bench end bench old new before after fault

  -- The meaning of each result of `run_bench`. If the setup or the image has an error, nothing is read or written. Otherwise the bench that the
  -- image starts runs the lines.
  abbrev pub RunsBench : List ℕ → Setup → Lines S source_view → Lines S source_view → W → W → Outcome → Type 0
  RunsBench image setup old new before after (Err (Ram BadSize)) = (is_ram_size setup.ram ≡ false) × (new ≡ old) × (after ≡ before)
  RunsBench image setup old new before after (Err (Ram (NoRamMemory refused))) =
      (is_ram_size setup.ram ≡ true) × (refused.bytes ≡ setup.ram) × (new ≡ old) × (after ≡ before)
  RunsBench image setup old new before after (Err (Image fault)) = (started image setup ≡ Err (Image fault)) × (new ≡ old) × (after ≡ before)
  RunsBench image setup old new before after outcome = IsOkAnd (started image setup) (λ state. RunsLines Input state old new before after outcome)
