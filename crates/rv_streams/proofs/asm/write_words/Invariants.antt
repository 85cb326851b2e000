-- This file states the loop invariants of `write_words`, which writes a line for each word, and flushes the sink.
use Rattle.std.proofs.Common.{◌≡◌, take}
use Rattle.rv_streams.specs.AssemblyText.{asm_text}
use Rattle.rv_streams.specs.Transfer.{WritesUpTo}
use Rattle.rv_streams.proofs.asm.write_words.Given as goal

-- the lines so far are written or gathered, and no call has failed
abbrev pub invariant-loop-word : goal.invariant-loop-word
invariant-loop-word g l = record {
  failures : g.W.Sink.failures l.sink ≡ g.W.Sink.failures l.initial.sink;
  refusals : g.W.Sink.refusals l.sink ≡ g.W.Sink.refusals l.initial.sink;
  flushes : g.W.Sink.flushes l.sink ≡ g.W.Sink.flushes l.initial.sink;
  written : WritesUpTo (g.W.Sink.taken l.initial.sink) (g.W.Sink.taken l.sink) (asm_text (take l.word-index l.words)) l.gathered.items;
}
