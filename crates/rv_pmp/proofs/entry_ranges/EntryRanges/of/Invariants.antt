-- This file states the loop invariants of `EntryRanges::of`, which returns the ranges of the entries with these cfg bytes and pmpaddr values.
use Rattle.std.proofs.Common.{◌≡◌, ℕ, ◌<◌, length}
use Rattle.rv_pmp.specs.Covers.{covers}
use Rattle.rv_pmp.specs.Cache.Segments.{is_within}
use Rattle.rv_pmp.proofs.entry_ranges.EntryRanges.of.Given as goal

-- each range so far is the range of its entry
abbrev pub invariant-loop-number : goal.invariant-loop-number
invariant-loop-number l = record {
  from_long : length l.ranges.from ≡ 16;
  to_long : length l.ranges.to ≡ 16;
  so_far : (i byte : ℕ) → i < l.number → covers (record { cfgs = l.cfgs; addrs = l.addrs }) i byte ≡ is_within l.ranges i byte;
}
