-- This file states the loop invariants of `decimal_digits`, which returns the value of a text of one or more decimal digits.
use Rattle.std.proofs.Common.{◌≡◌, ◌-◌, ◌^◌, min, true, take}
use Rattle.std.specs.List.{list_all}
use Rattle.std.specs.Char.{is_digit}
use Rattle.std.specs.Str.Parse.{digits_value}
use Rattle.rv_asm.proofs.number.decimal_digits.Given as goal

-- The bytes so far are digits, and the value is their value, or the largest u64 if theirs is larger.
abbrev pub invariant-loop-byte : goal.invariant-loop-byte
invariant-loop-byte l = record {
  digits : list_all (λ c. is_digit c 10) (take l.byte-index l.text) ≡ true;
  value : l.value ≡ min (digits_value 10 (take l.byte-index l.text)) (2 ^ 64 - 1);
}
