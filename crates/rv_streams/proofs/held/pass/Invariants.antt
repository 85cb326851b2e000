-- This file states the loop invariants of `pass`, which passes on the bytes from an index on.
use Rattle.std.proofs.Common.{◌≡◌, ◌-◌, ◌≤◌, ◌++◌, ◌==◌, ◌&&◌, drop, length}
use Rattle.rv_streams.proofs.held.pass.Given as goal

-- the bytes before the index `at` are passed on, and no call has failed
abbrev pub invariant-loop-at : goal.invariant-loop-at
invariant-loop-at g l = record {
  bound : l.at ≤ length l.bytes;
  bytes : g.W.Sink.taken l.sink ++ drop l.at l.bytes ≡ g.W.Sink.taken l.initial.sink ++ drop l.start l.bytes;
  flushed : (g.W.Sink.is_flushed l.sink && (l.at == length l.bytes)) ≡ (g.W.Sink.is_flushed l.initial.sink && (l.start == length l.bytes));
  flushes : g.W.Sink.flushes l.sink ≡ g.W.Sink.flushes l.initial.sink;
  failures : g.W.Sink.failures l.sink ≡ g.W.Sink.failures l.initial.sink;
  refusals : g.W.Sink.refusals l.sink ≡ g.W.Sink.refusals l.initial.sink;
}

-- the loop ends, since fewer bytes are left after each iteration
abbrev pub decreases-loop-at : goal.decreases-loop-at
decreases-loop-at g l = length l.bytes - l.at
