-- The state of a device compared with an earlier one, by its counts of calls. (This project's own streams.)
use Rattle.std.specs.Prelude.{◌≡◌, ◌⊎◌, ◌+◌, true}
use Rattle.rv_streams.specs.declared.device.Source.{Ghosts as SourceGhosts}
use Rattle.rv_streams.specs.declared.device.Sink.{Ghosts as SinkGhosts}
use Rattle.rv_streams.specs.Device.{HasRisen}

module _ {S : Type 0} (source_view : SourceGhosts S) (old new : S) where
  -- no call of the source failed
  abbrev pub SourceWorked : Type 0
  SourceWorked = source_view.failures new ≡ source_view.failures old

  -- a call of the source failed
  abbrev pub SourceFailed : Type 0
  SourceFailed = HasRisen (source_view.failures old) (source_view.failures new)

module _ {W : Type 0} (sink_view : SinkGhosts W) (old new : W) where
  -- no call of the sink failed, and none with a non-empty part took no byte
  abbrev pub NoneFailed : Type 0
  NoneFailed = (sink_view.failures new ≡ sink_view.failures old) × (sink_view.refusals new ≡ sink_view.refusals old)

  -- no call of the sink failed, and the sink was not flushed
  pub record SinkWorked : Type 0 where
    -- no call failed, and each call with a non-empty part took a byte
    pub worked : NoneFailed
    -- the number of flushes is the same
    pub unflushed : sink_view.flushes new ≡ sink_view.flushes old

  -- no call of the sink failed, and it was flushed once, after the last byte that it took
  pub record SinkFlushed : Type 0 where
    -- no call failed, and each call with a non-empty part took a byte
    pub worked : NoneFailed
    -- no byte was taken after the last flush
    pub flushed : sink_view.is_flushed new ≡ true
    -- the number of flushes is one more
    pub once : sink_view.flushes new ≡ sink_view.flushes old + 1

  -- a call of the sink failed, or one with a non-empty part took no byte
  abbrev pub SinkFailed : Type 0
  SinkFailed = HasRisen (sink_view.failures old) (sink_view.failures new) ⊎ HasRisen (sink_view.refusals old) (sink_view.refusals new)
