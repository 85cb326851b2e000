-- This file states the loop invariants of `has_overlap`, which returns whether two of the segments share a byte.
use Rattle.std.proofs.Common.{◌≡◌, length}
use Rattle.rv_elf.specs.Segments.{has_overlap}
use Rattle.rv_elf.proofs.planning.has_overlap.Given as goal

-- no segment before the rest shares a byte with another: two segments of the list share a byte if and only if two of the rest do
abbrev pub invariant-loop-rest : goal.invariant-loop-rest
invariant-loop-rest l = has_overlap l.rest ≡ has_overlap l.segments

-- the rest of the segments gets shorter
abbrev pub decreases-loop-rest : goal.decreases-loop-rest
decreases-loop-rest l = length l.rest
