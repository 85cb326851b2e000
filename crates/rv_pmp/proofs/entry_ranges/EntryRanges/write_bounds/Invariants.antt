-- This file states the loop invariants of `EntryRanges::write_bounds`, which writes both ends of each nonempty range after the first of the bounds,
-- and returns the number of bounds.
use Rattle.rv_pmp.proofs.BoundsLemmas.{AreWritten}
use Rattle.rv_pmp.proofs.entry_ranges.EntryRanges.write_bounds.Given as goal

-- the bounds so far are 2^35 and the ends of the ranges so far
abbrev pub invariant-loop-number : goal.invariant-loop-number
invariant-loop-number l = AreWritten l.self l.bounds l.count l.number
