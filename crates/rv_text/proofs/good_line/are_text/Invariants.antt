-- This file states the loop invariants of `are_text`, which returns whether a line may have each of these bytes.
use Rattle.std.proofs.Common.{◌≡◌, take}
use Rattle.std.specs.List.{list_all}
use Rattle.rv_text.specs.GoodLines.{is_text}
use Rattle.rv_text.proofs.good_line.are_text.Given as goal

-- `are` states whether a line may have all of the bytes before the index
abbrev pub invariant-loop-byte : goal.invariant-loop-byte
invariant-loop-byte l = record { so_far : l.are ≡ list_all is_text (take l.byte-index l.bytes) }
