-- This file proves obligations of `EntryRanges::write_bounds`, which writes both ends of each nonempty range after the first of the bounds, and
-- returns the number of bounds.
use Rattle.std.proofs.Common.{arith}
use Rattle.rv_pmp.proofs.BoundsLemmas.{no_bound_added, both_ends_added, all_bounds_written}
use Rattle.rv_pmp.proofs.entry_ranges.EntryRanges.write_bounds.Goals as goal
use Rattle.rv_pmp.proofs.entry_ranges.EntryRanges.write_bounds.Goals.{then-from-to, else-from-to}

-- after an iteration, both ends of the range are written if the range has a byte, and no bound otherwise
pub loop-number-preserved : goal.loop-number-preserved
loop-number-preserved c =
    let loop = c.loop-number in
    elim c.if-from-to.branch [
      | then-from-to arm ↦ rw (arm.bounds-is, arm.count-is) (both_ends_added c.args.self.now loop.bounds loop.count loop.number loop.invariant
          c.loop-number-test.true)
      | else-from-to arm ↦ rw (arm.bounds-is, arm.count-is) (no_bound_added c.args.self.now loop.bounds loop.count loop.number loop.invariant
          arm.if-from-to.false)
    ]

-- after the loop, the bounds are those of all sixteen ranges
pub returns-clause-all : goal.returns-clause-all
returns-clause-all c =
    let loop = c.loop-number in
    all_bounds_written c.args.self.now loop.bounds loop.count loop.number (omega (arith, loop.invariant.has_33_places, loop.invariant.count_fits))
    (omega (arith, c.loop-number-test.false)) loop.invariant
