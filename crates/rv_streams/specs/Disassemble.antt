-- The result of disassembling an image, and its effects in each case. (This project's own streams.)
use Rattle.std.specs.Prelude.{◌≡◌, ◌⊎◌, ◌++◌, IsOk, IsOkAnd, Ok, Err}
use Rattle.rv_streams.specs.declared.device.Sink.{Ghosts as SinkGhosts}
use Rattle.rv_streams.specs.declared.device.Source.{Ghosts as SourceGhosts}
use Rattle.rv_streams.specs.declared.fault.BenchFault.TheVariants.{Read, Write, Hex, TooLong, NoMemory}
use Rattle.rv_streams.specs.declared.lines.Lines.{Lines}
use Rattle.rv_streams.specs.Calls.{SinkFlushed, SinkFailed}
use Rattle.rv_streams.specs.DisassemblyText.{dis_output}
use Rattle.rv_streams.specs.Image.{image_in}
use Rattle.rv_streams.specs.ReadImage.{FailsInImage, FindsFault, RunsOutOfMemory}
use Rattle.rv_streams.specs.Faults.{Outcome}
use Rattle.rv_streams.specs.Script.{ReadsThroughSeparator}
use Rattle.rv_streams.specs.Transfer.{WritesPrefix}
use Rattle.rv_streams.specs.Unread.{unread}

module _ {S W : Type 0} {source_view : SourceGhosts S} (sink_view : SinkGhosts W) (old new : Lines S source_view) (before after : W) where
  -- The whole image was read, and the number of its bytes is no multiple of 4.
  abbrev pub FindsPartOfWord : Type 0
  FindsPartOfWord = ReadsThroughSeparator old new × (source_view.follows_input new.source → IsOk (image_in (unread old)))

  -- the meaning of each result of `run_dis`; nothing is written before the whole image was read
  abbrev pub RunsDis : Outcome → Type 0
  RunsDis (Ok _) =
      ReadsThroughSeparator old new × SinkFlushed sink_view before after
      × (source_view.follows_input new.source → IsOkAnd (dis_output (unread old)) (λ text. sink_view.taken after ≡ sink_view.taken before ++ text))
  RunsDis (Err Read) = FailsInImage old new × (after ≡ before)
  RunsDis (Err Hex) =
      (FindsFault Hex old new ⊎ FindsPartOfWord) × (source_view.follows_input new.source → dis_output (unread old) ≡ Err Hex) × (after ≡ before)
  RunsDis (Err TooLong) = FindsFault TooLong old new × (source_view.follows_input new.source → dis_output (unread old) ≡ Err TooLong)
      × (after ≡ before)
  RunsDis (Err NoMemory) = RunsOutOfMemory old new × (after ≡ before)
  RunsDis (Err Write) =
      ReadsThroughSeparator old new × SinkFailed sink_view before after
      × (source_view.follows_input new.source
      → IsOkAnd (dis_output (unread old)) (λ text. WritesPrefix (sink_view.taken before) (sink_view.taken after) text))
  RunsDis (Err _) = ⊥
