-- This file proves obligations of `write_all`, which writes the whole text, part by part.
use Rattle.std.proofs.Common.{rules, arith}
use Rattle.std.proofs.lemmas.Grind.{common_steps}
use Rattle.rv_streams.proofs.Writing.{WritesUpTo-more}
use Rattle.rv_streams.proofs.transfer.write_all.Goals as goal

-- an iteration of the loop over `rest` preserves the invariant: it writes some bytes of the rest
pub loop-rest-preserved : goal.loop-rest-preserved
loop-rest-preserved g c = record {
  failures = search rules;
  refusals = search rules;
  flushes = search rules;
  written = WritesUpTo-more _ _ _ _ _ _ c.in_ok-count.count c.loop-rest.invariant.written c.in_ok-count.ensures.bytes
      (grind (arith, common_steps));
}
