-- This file states the loop invariants of `load`, which loads the segments of a plan into RAM.
use Rattle.std.proofs.Common.{drop}
use Rattle.rv_elf.proofs.LoadLoop.{LoadInvariant}
use Rattle.rv_elf.proofs.loading.load.Given as goal

-- the segments before the index are loaded, and those from the index on are left to load
abbrev pub invariant-loop-segment : goal.invariant-loop-segment
invariant-loop-segment l = LoadInvariant l.bytes l.plan l.fn.ram (drop l.segment-index l.plan.segments) l.ram
