-- The remaining bytes of a source that reads ahead from another. (This project's own streams.)
use Rattle.std.specs.Prelude.{ℕ, ◌+◌, ◌-◌, ◌*◌, ◌++◌, List, take, drop}
use Rattle.rv_streams.specs.declared.device.Source.{Ghosts}
use Rattle.rv_streams.specs.declared.buffered.BufferedSource.{BufferedSource}

module _ {S : Type 0} (source_view : Ghosts S) where
  -- `ahead_of` has the bytes that were read ahead and not yet returned
  abbrev pub ahead_of : BufferedSource S source_view → List ℕ
  ahead_of source = take (source.end - source.start) (drop source.start source.buffer)

  -- `rest_of` has the bytes that are not yet returned: those read ahead, and the remaining bytes of the other source
  abbrev pub rest_of : BufferedSource S source_view → List ℕ
  rest_of source = ahead_of source ++ source_view.remaining source.source

  -- an upper bound on the number of calls that can still return a byte: a call of the other source gives at most 4096 bytes
  abbrev pub calls_left_of : BufferedSource S source_view → ℕ
  calls_left_of source = 4097 * source_view.calls_left source.source + (source.end - source.start)
