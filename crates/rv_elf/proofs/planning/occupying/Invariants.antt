-- This file states the loop invariants of `occupying`, which returns the segments that occupy memory.
use Rattle.std.proofs.Common.{◌≡◌, ◌≤◌, length, take}
use Rattle.rv_elf.specs.Segments.{occupying}
use Rattle.rv_elf.proofs.planning.occupying.Given as goal

-- the segments taken so far are those before the index that occupy memory, and there are at most as many as the index
abbrev pub invariant-loop-segment : goal.invariant-loop-segment
invariant-loop-segment l = record {
  taken_so_far : l.taken.items ≡ occupying (take l.segment-index l.segments);
  at_most_index : length l.taken.items ≤ l.segment-index;
}
