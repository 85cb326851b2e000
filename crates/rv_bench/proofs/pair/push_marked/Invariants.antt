-- This file states the loop invariants of `push_marked`, which appends a text with a mark of three bytes before each of its lines.
use Rattle.std.proofs.Common.{◌≡◌, ◌≤◌, ◌+◌, ◌*◌, ◌++◌, true, drop, length}
use Rattle.rv_bench.specs.Pair.{marked}
use Rattle.rv_bench.proofs.pair.push_marked.Given as goal

-- the text with marks is the bytes that are written so far, and the marked remaining bytes
abbrev pub invariant-loop-byte : goal.invariant-loop-byte
invariant-loop-byte l = record {
  written : l.out.items ++ marked l.mark l.begins (drop l.byte-index l.text) ≡ l.initial.out.items ++ marked l.mark true l.text;
  room : length l.out.items ≤ length l.initial.out.items + 4 * l.byte-index;
}
