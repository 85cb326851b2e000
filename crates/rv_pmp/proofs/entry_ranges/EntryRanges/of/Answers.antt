-- This file proves obligations of `EntryRanges::of`, which returns the ranges of the entries with these cfg bytes and pmpaddr values.
use Rattle.std.proofs.Common.{arith, length-set, ◌∙◌}
use Rattle.rv_pmp.proofs.BoundsLemmas.{one_more_range}
use Rattle.rv_pmp.proofs.entry_ranges.EntryRanges.of.Goals as goal

-- an iteration adds the range of the next entry, and keeps the ranges so far
pub loop-number-preserved : goal.loop-number-preserved
loop-number-preserved c =
    let loop = c.loop-number in
    let from = c.range_or_none-from.result.0 in
    let to = c.range_or_none-from.result.1 in
    let before = loop.invariant in
    record {
      from_long = length-set loop.ranges.from loop.number from ∙ before.from_long;
      to_long = length-set loop.ranges.to loop.number to ∙ before.to_long;
      so_far = one_more_range (record { cfgs = c.args.cfgs.now; addrs = c.args.addrs.now }) loop.ranges loop.number from to
          (omega (arith, before.from_long, c.loop-number-test.true)) (omega (arith, before.to_long, c.loop-number-test.true)) before.so_far
          (rw c.new.ensures at c.range_or_none-from.ensures);
    }
