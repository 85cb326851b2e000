-- This file states the loop invariants of `write_all`, which writes the whole text, part by part.
use Rattle.std.proofs.Common.{◌≡◌, length}
use Rattle.rv_streams.specs.Transfer.{WritesUpTo}
use Rattle.rv_streams.proofs.transfer.write_all.Given as goal

-- the text is written except for the rest, and no call has failed
abbrev pub invariant-loop-rest : goal.invariant-loop-rest
invariant-loop-rest g l = record {
  failures : g.W.Sink.failures l.sink ≡ g.W.Sink.failures l.initial.sink;
  refusals : g.W.Sink.refusals l.sink ≡ g.W.Sink.refusals l.initial.sink;
  flushes : g.W.Sink.flushes l.sink ≡ g.W.Sink.flushes l.initial.sink;
  written : WritesUpTo (g.W.Sink.taken l.initial.sink) (g.W.Sink.taken l.sink) l.text l.rest;
}

-- the loop ends, since the rest of the text gets shorter
abbrev pub decreases-loop-rest : goal.decreases-loop-rest
decreases-loop-rest g l = length l.rest
