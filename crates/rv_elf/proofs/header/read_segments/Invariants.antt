-- This file states the loop invariants of `read_segments`, which returns the segments to load, in the order of their headers.
use Rattle.std.proofs.Common.{◌≡◌, ◌≤◌, length}
use Rattle.rv_elf.proofs.SegmentLemmas.{first_segments}
use Rattle.rv_elf.proofs.header.read_segments.Given as goal

-- the segments read so far are those of the first `index` program headers, and there are at most `index` of them
abbrev pub invariant-loop-index : goal.invariant-loop-index
invariant-loop-index l = record {
  read_so_far : l.segments.items ≡ first_segments l.file l.index;
  at_most_index : length l.segments.items ≤ l.index;
}
