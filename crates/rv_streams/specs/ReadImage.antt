-- The result of reading an image, and its effects in each case. (This project's own format.)
use Rattle.std.specs.Prelude.{◌≡◌, ◌≤◌, ℕ, false, [], Vec, vec_len, Result, Ok, Err}
use Rattle.rv_streams.specs.declared.device.Source.{Ghosts}
use Rattle.rv_streams.specs.declared.fault.BenchFault.{BenchFault}
use Rattle.rv_streams.specs.declared.fault.BenchFault.TheVariants.{Read, Hex, TooLong, NoMemory}
use Rattle.rv_streams.specs.declared.lines.Lines.{Lines}
use Rattle.rv_streams.specs.Calls.{SourceWorked, SourceFailed}
use Rattle.rv_streams.specs.Image.{image_in, ReadsInImage, ReadsPrefixOfImage, StopsAtFault}
use Rattle.rv_streams.specs.Script.{ReadsThroughSeparator}
use Rattle.rv_streams.specs.Unread.{held, unread}

module _ {S : Type 0} {source_view : Ghosts S} where
  -- The source failed in a line of the image, and the prefix of this line is kept.
  pub record FailsInImage (old new : Lines S source_view) : Type 0 where
    -- a call of the source failed
    pub source : SourceFailed source_view old.source new.source
    -- the lines have not reported the end of the input
    pub not_at_end : new.is_at_end ≡ false
    -- the lines before the failure are lines of the image
    pub reads : source_view.follows_input new.source → ReadsInImage (unread old) (source_view.remaining new.source) (held new)

  -- The text of the image has this error, at the last line that was read.
  pub record FindsFault (fault : BenchFault) (old new : Lines S source_view) : Type 0 where
    -- no call of the source failed
    pub source : SourceWorked source_view old.source new.source
    -- no begun line is held
    pub emptied : held new ≡ []
    -- the text of the image has this error
    pub image : source_view.follows_input new.source → image_in (unread old) ≡ Err fault
    -- the lines were read through the line with the error
    pub reads : source_view.follows_input new.source → StopsAtFault (unread old) (unread new) fault

  -- Memory is exhausted at the last line that was read.
  pub record RunsOutOfMemory (old new : Lines S source_view) : Type 0 where
    -- no call of the source failed
    pub source : SourceWorked source_view old.source new.source
    -- no begun line is held
    pub emptied : held new ≡ []
    -- the lines that were read have no error
    pub reads : source_view.follows_input new.source → ReadsPrefixOfImage (unread old) (unread new)

  -- the meaning of each result of `read_image`; an image has at most 32 MiB (33554432 bytes)
  abbrev pub ReadsImage : {Z : Type 0} → Lines S source_view → Lines S source_view → Result (Vec ℕ Z) BenchFault → Type 0
  ReadsImage old new (Ok image) =
      ReadsThroughSeparator old new × (vec_len image ≤ 33554432) × (source_view.follows_input new.source → image_in (unread old) ≡ Ok image.items)
  ReadsImage old new (Err Read) = FailsInImage old new
  ReadsImage old new (Err Hex) = FindsFault Hex old new
  ReadsImage old new (Err TooLong) = FindsFault TooLong old new
  ReadsImage old new (Err NoMemory) = RunsOutOfMemory old new
  ReadsImage old new (Err _) = ⊥
