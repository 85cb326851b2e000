-- This file states the loop invariants of `write_disassembly`, which writes a line for each word, which is given by its bytes, and flushes the sink.
use Rattle.std.proofs.Common.{◌≡◌, take}
use Rattle.std.specs.List.{flat_map}
use Rattle.rv_word.specs.ByteOrder.{word_of_bytes}
use Rattle.rv_streams.specs.DisassemblyText.{dis_line}
use Rattle.rv_streams.specs.Transfer.{WritesUpTo}
use Rattle.rv_streams.proofs.dis.write_disassembly.Given as goal

-- the lines so far are written or gathered, and no call has failed
abbrev pub invariant-loop-bytes : goal.invariant-loop-bytes
invariant-loop-bytes g l = record {
  failures : g.W.Sink.failures l.sink ≡ g.W.Sink.failures l.initial.sink;
  refusals : g.W.Sink.refusals l.sink ≡ g.W.Sink.refusals l.initial.sink;
  flushes : g.W.Sink.flushes l.sink ≡ g.W.Sink.flushes l.initial.sink;
  written : WritesUpTo (g.W.Sink.taken l.initial.sink) (g.W.Sink.taken l.sink)
      (flat_map (λ bytes. dis_line (word_of_bytes bytes)) (take l.bytes-index l.words)) l.gathered.items;
}
