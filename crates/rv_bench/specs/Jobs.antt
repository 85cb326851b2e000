-- Jobs: the effect of each job is that of its call. (This project's own jobs.)
use Rattle.std.specs.Prelude.{◌≡◌, false, []}
use Rattle.rv_command_line.specs.declared.job.Job.{Job}
use Rattle.rv_command_line.specs.declared.job.Job.TheVariants.{Run, Twin, Asm, Dis}
use Rattle.rv_streams.specs.declared.device.Sink.{Ghosts as SinkGhosts}
use Rattle.rv_streams.specs.declared.device.Source.{Ghosts as SourceGhosts}
use Rattle.rv_streams.specs.declared.lines.Lines.{Lines}
use Rattle.rv_streams.specs.Assemble.{RunsAsm}
use Rattle.rv_streams.specs.Disassemble.{RunsDis}
use Rattle.rv_streams.specs.Faults.{Outcome}
use Rattle.rv_streams.specs.Unread.{held, EndsWithSource}
use Rattle.rv_bench.specs.Stream.{RunsStream}
use Rattle.rv_bench.specs.Twin.{RunsTwin}

module _ {S : Type 0} (source_view : SourceGhosts S) where
  -- New lines of a source, as far as they were read, when the source is returned.
  pub record ReadsByLines (source source_after : S) (old new : Lines S source_view) : Type 0 where
    -- the lines read from the source that the caller gave
    pub from_source : old.source ≡ source
    -- no begun line is held at first
    pub none_held : held old ≡ []
    -- the lines have not reported an end at first
    pub not_at_end : old.is_at_end ≡ false
    -- the lines report the end of the input only if the source does
    pub end : EndsWithSource old new
    -- the source that is returned is the source of the lines
    pub given_back : source_after ≡ new.source

module _ {S W : Type 0} (source_view : SourceGhosts S) (sink_view : SinkGhosts W) (source source_after : S) (before after : W) where
  -- the meaning of each result of a job
  abbrev pub DoesJob : Job → Outcome → Type 0
  DoesJob (Run setup) outcome =
      (old : Lines S source_view) × (new : Lines S source_view) × ReadsByLines source_view source source_after old new
      × RunsStream sink_view setup old new before after outcome
  DoesJob (Twin setup slot) outcome =
      (old : Lines S source_view) × (new : Lines S source_view) × ReadsByLines source_view source source_after old new
      × RunsTwin sink_view setup slot old new before after outcome
  DoesJob Asm outcome = RunsAsm source_view sink_view source source_after before after outcome
  DoesJob Dis outcome =
      (old : Lines S source_view) × (new : Lines S source_view) × ReadsByLines source_view source source_after old new
      × RunsDis sink_view old new before after outcome
