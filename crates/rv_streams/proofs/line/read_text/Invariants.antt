-- This file states the loop invariants of `read_text`, which reads bytes after those that `line` holds, up to a line feed or the end of the source.
use Rattle.std.proofs.Common.{◌≡◌, ◌+◌, ◌≤◌, ◌++◌, false, length}
use Rattle.rv_text.specs.GoodLines.{kept_bytes}
use Rattle.rv_text.specs.Lines.{has_feed}
use Rattle.rv_streams.specs.LineText.{ReadsLineText}
use Rattle.rv_streams.proofs.line.read_text.Given as goal

-- the bytes read so far have no line feed, at most `kept_bytes` of them are kept, and no call has failed
abbrev pub invariant-loop-count : goal.invariant-loop-count
invariant-loop-count g l = record {
  bytes : g.S.Source.follows_input l.source
      → ReadsLineText (l.initial.line.items ++ g.S.Source.remaining l.initial.source) (g.S.Source.remaining l.source) l.line.items;
  same_input : g.S.Source.input l.source ≡ g.S.Source.input l.initial.source;
  followed_input : g.S.Source.follows_input l.source → g.S.Source.follows_input l.initial.source;
  failures : g.S.Source.failures l.source ≡ g.S.Source.failures l.initial.source;
  ends : g.S.Source.ends l.source ≡ g.S.Source.ends l.initial.source;
  line_fits : length l.line.items ≤ kept_bytes;
  no_feed : has_feed l.line.items ≡ false;
  fewer_calls : g.S.Source.calls_left l.source + length l.line.items ≤ g.S.Source.calls_left l.initial.source + length l.initial.line.items;
}

-- the loop ends, since the number of calls that the source can still answer decreases
abbrev pub decreases-loop-count : goal.decreases-loop-count
decreases-loop-count g l = g.S.Source.calls_left l.source
