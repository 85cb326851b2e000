-- This file states the loop invariants of `Segments::divide`, which sorts the bounds, and divides the address space at them.
use Rattle.std.proofs.Common.{◌≡◌, ℕ, ◌<◌, ◌≤◌, length, slice_index}
use Rattle.rv_pmp.specs.Cache.Segments.{is_within, reach_of, AreInOrder, AreMatched}
use Rattle.rv_pmp.proofs.segments.Segments.divide.Given as goal

-- The segments extend to `start`, and have the matching entries of their bytes. No bound before bound k is above `start`, and no other is below it.
abbrev pub invariant-loop-k : goal.invariant-loop-k
invariant-loop-k l = record {
  room : l.self.count ≤ l.k;
  reach : l.start ≡ reach_of l.self;
  order : AreInOrder l.self;
  matched : AreMatched (is_within l.ranges) l.self;
  before : (m : ℕ) → m < l.k → slice_index l.bounds m ≤ l.start;
  after : (m : ℕ) → l.k ≤ m → m < length l.bounds → l.start ≤ slice_index l.bounds m;
}
