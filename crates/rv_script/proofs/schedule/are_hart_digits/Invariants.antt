-- This file states the loop invariants of `are_hart_digits`, which returns whether each byte is the digit of a hart.
use Rattle.std.proofs.Common.{◌≡◌, take}
use Rattle.std.specs.List.{list_all}
use Rattle.rv_script.specs.Schedules.{is_hart_digit}
use Rattle.rv_script.proofs.schedule.are_hart_digits.Given as goal

-- `are` states whether all bytes so far are digits of harts
abbrev pub invariant-loop-byte : goal.invariant-loop-byte
invariant-loop-byte l = record { so_far : l.are ≡ list_all is_hart_digit (take l.byte-index l.word) }
