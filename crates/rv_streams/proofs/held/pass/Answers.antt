-- This file proves obligations of `pass`, which passes on the bytes from an index on.
use Rattle.std.proofs.Common.{rules}
use Rattle.rv_streams.proofs.HeldLemmas.{passed_more, unflushed}
use Rattle.rv_streams.proofs.held.pass.Goals as goal

-- an iteration of the loop over `at` preserves the invariant: it passes on some of the bytes that are left
pub loop-at-preserved : goal.loop-at-preserved
loop-at-preserved g c = record {
  bound = search rules;
  bytes = passed_more _ _ _ _ _ c.in-Ok.count _ (search rules) c.in-Ok.ensures.bytes c.loop-at.invariant.bytes;
  flushed = unflushed _ _ _ _ _ c.in-Ok.count _ c.in-Ok.ensures.flushed c.loop-at.invariant.flushed c.loop-at-test.true (search rules);
  flushes = search rules;
  failures = search rules;
  refusals = search rules;
}
