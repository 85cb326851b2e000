-- This file states the loop invariants of `read_whole`, which reads all bytes of a source, to its end.
use Rattle.std.proofs.Common.{◌≡◌, ◌≤◌, ◌++◌, length}
use Rattle.rv_streams.proofs.Assembling.{text_limit}
use Rattle.rv_streams.proofs.whole.read_whole.Given as goal

-- the text so far is a prefix of the bytes of the source and not too long, and no call has failed
abbrev pub invariant-loop-text : goal.invariant-loop-text
invariant-loop-text g l = record {
  within_limit : length l.text.items ≤ text_limit;
  ends : g.S.Source.ends l.source ≡ g.S.Source.ends l.initial.source;
  failures : g.S.Source.failures l.source ≡ g.S.Source.failures l.initial.source;
  same_input : g.S.Source.input l.source ≡ g.S.Source.input l.initial.source;
  followed_input : g.S.Source.follows_input l.source → g.S.Source.follows_input l.initial.source;
  prefix : g.S.Source.follows_input l.source → g.S.Source.remaining l.initial.source ≡ l.text.items ++ g.S.Source.remaining l.source;
}

-- the loop ends, since the number of calls that the source can still answer decreases
abbrev pub decreases-loop-text : goal.decreases-loop-text
decreases-loop-text g l = g.S.Source.calls_left l.source
