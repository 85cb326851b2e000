-- This file states the loop invariants of `first_fields`, which returns the first `MOST_OPERANDS` fields between commas, or all if there are fewer,
-- without leading and trailing blanks.
use Rattle.std.proofs.Common.{◌≡◌, ◌≤◌, length}
use Rattle.rv_asm.proofs.cuts.first_fields.Given as goal

-- the fields so far are those that the iterator has yielded, at most four
abbrev pub invariant-loop-field : goal.invariant-loop-field
invariant-loop-field l = record { so_far : l.fields.items ≡ l.yielded; at_most_4 : length l.fields.items ≤ 4 }
