-- This file proves obligations of `loaded`, which loads the image into a RAM that is all zeros, and returns the bench at reset.
use Rattle.std.proofs.Common.{sym}
use Rattle.rv_bench.proofs.Starts.{bench_of-ok}
use Rattle.rv_bench.proofs.start.loaded.Goals as goal

-- the result is the bench of the image: its RAM is loaded by the plan of the image, and its pc is the entry of the plan
pub returns : goal.returns
returns c =
    bench_of-ok _ _ c.in_ok-plan.plan _ _ _ _ (sym c.in_ok-plan.ensures.value) c.requires c.load.ensures.memory c.entry.ensures.value c.reset.ensures
