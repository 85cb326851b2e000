-- The bytes that a sink holds for another sink. (This project's own streams.)
use Rattle.std.specs.Prelude.{ℕ, ◌+◌, ◌==◌, ◌&&◌, Bool, ◌++◌, List, take, drop}
use Rattle.rv_streams.specs.declared.device.Sink.{Ghosts}
use Rattle.rv_streams.specs.declared.held.BufferedSink.{BufferedSink}

module _ {W : Type 0} (sink_view : Ghosts W) where
  -- `held_of` has the bytes that are held
  abbrev pub held_of : BufferedSink W sink_view → List ℕ
  held_of sink = drop sink.start (take sink.end sink.buffer)

  -- `taken_of` has the bytes taken so far: those that the other sink has taken, and those that are held
  abbrev pub taken_of : BufferedSink W sink_view → List ℕ
  taken_of sink = sink_view.taken sink.sink ++ held_of sink

  -- `is_flushed_of` states whether the other sink is flushed, and no byte is held
  abbrev pub is_flushed_of : BufferedSink W sink_view → Bool
  is_flushed_of sink = sink_view.is_flushed sink.sink && (sink.start == sink.end)

  -- `failures_of` is the number of calls of the other sink that failed, or took no byte
  abbrev pub failures_of : BufferedSink W sink_view → ℕ
  failures_of sink = sink_view.failures sink.sink + sink_view.refusals sink.sink
