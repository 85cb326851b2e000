-- A run over an input, result by result: an image, the line `--`, and a script. (This project's own streams.)
use Rattle.std.specs.Prelude.{◌≡◌, ◌⊎◌, true, false, IsTrue, IsOk, IsOkAnd, Ok, Err}
use Rattle.rv_memory.specs.Memory.{is_ram_size}
use Rattle.rv_memory.specs.declared.ram_fault.RamFault.TheVariants.{BadSize, NoMemory as NoRamMemory}
use Rattle.rv_command_line.specs.declared.setup.Setup.{Setup}
use Rattle.rv_streams.specs.declared.device.Sink.{Ghosts as SinkGhosts}
use Rattle.rv_streams.specs.declared.device.Source.{Ghosts as SourceGhosts}
use Rattle.rv_streams.specs.declared.fault.BenchFault.{BenchFault}
use Rattle.rv_streams.specs.declared.fault.BenchFault.TheVariants.{Image, Ram, Read, Write, Hex, TooLong, NoMemory}
use Rattle.rv_streams.specs.declared.lines.Lines.{Lines}
use Rattle.rv_streams.specs.declared.separator.ScriptEnd.TheVariants.{Input}
use Rattle.rv_streams.specs.Image.{image_in, ReadsInImage}
use Rattle.rv_streams.specs.ReadImage.{FindsFault, RunsOutOfMemory}
use Rattle.rv_streams.specs.Faults.{Outcome}
use Rattle.rv_streams.specs.Script.{ReadsThroughSeparator}
use Rattle.rv_streams.specs.Separator.{after_separator, has_separator}
use Rattle.rv_streams.specs.Unread.{held, unread}
use Rattle.rv_bench.specs.Output.{bench_in, output}
use Rattle.rv_bench.specs.Replies.{one_bench}
use Rattle.rv_bench.specs.Run.{RunsToEnd, FailsToRead, FailsToWrite, StopsAtRead, StopsAtWrite}

module _ {S W : Type 0} {source_view : SourceGhosts S} (sink_view : SinkGhosts W) (setup : Setup) (old new : Lines S source_view)
    (before after : W) where
  -- the input has this error instead of an output
  abbrev pub IsFault : BenchFault → Type 0
  IsFault fault = source_view.follows_input new.source → output setup (unread old) ≡ Err fault

  -- The source failed: in the image, and then nothing is written, or in the script, which follows a separator.
  abbrev pub StopsStreamAtRead : Type 0
  StopsStreamAtRead =
      (ReadsInImage (unread old) (source_view.remaining new.source) (held new) × (after ≡ before))
      ⊎ (IsTrue (has_separator (unread old)) × IsOkAnd (bench_in setup (unread old)) (λ state.
      StopsAtRead one_bench Input state (after_separator (unread old)) (source_view.remaining new.source) (held new) (sink_view.taken before)
      (sink_view.taken after)))

  -- The sink failed in the script.
  abbrev pub StopsStreamAtWrite : Type 0
  StopsStreamAtWrite =
      IsOkAnd (bench_in setup (unread old)) (λ state.
      StopsAtWrite one_bench Input state (after_separator (unread old)) (unread new) (sink_view.taken before) (sink_view.taken after))

  -- The meaning of each result of `run_stream`. The text of the image, the size of the RAM and the image are checked in this order, before a
  -- byte is written.
  abbrev pub RunsStream : Outcome → Type 0
  RunsStream (Ok _) = (is_ram_size setup.ram ≡ true) × RunsToEnd sink_view (output setup (unread old)) old new before after
  RunsStream (Err Read) = FailsToRead sink_view old new before after × (source_view.follows_input new.source → StopsStreamAtRead)
  RunsStream (Err Write) =
      (is_ram_size setup.ram ≡ true) × FailsToWrite sink_view (output setup (unread old)) old new before after
      × (source_view.follows_input new.source → StopsStreamAtWrite)
  RunsStream (Err Hex) = FindsFault Hex old new × IsFault Hex × (after ≡ before)
  RunsStream (Err TooLong) = FindsFault TooLong old new × IsFault TooLong × (after ≡ before)
  RunsStream (Err NoMemory) = RunsOutOfMemory old new × (after ≡ before)
  RunsStream (Err (Ram BadSize)) = (is_ram_size setup.ram ≡ false) × ReadsThroughSeparator old new × IsFault (Ram BadSize) × (after ≡ before)
  RunsStream (Err (Ram (NoRamMemory refused))) =
      (is_ram_size setup.ram ≡ true) × (refused.bytes ≡ setup.ram) × ReadsThroughSeparator old new
      × (source_view.follows_input new.source → IsOk (image_in (unread old))) × (after ≡ before)
  RunsStream (Err (Image fault)) = (is_ram_size setup.ram ≡ true) × ReadsThroughSeparator old new × IsFault (Image fault) × (after ≡ before)
  RunsStream (Err _) = ⊥
