-- This file states the loop invariants of `digits`, which returns the number that a text of 1 to `most` digits in the base has, or `None` for any
-- other text.
use Rattle.std.proofs.Common.{◌≡◌, true, take}
use Rattle.std.specs.List.{list_all}
use Rattle.std.specs.Char.{is_digit}
use Rattle.std.specs.Str.Parse.{digits_value}
use Rattle.rv_text.proofs.number.digits.Given as goal

-- the bytes before the index are digits of the base, and the value is the number that they have
abbrev pub invariant-loop-byte : goal.invariant-loop-byte
invariant-loop-byte l = record {
  digits : list_all (λ c. is_digit c l.base) (take l.byte-index l.text) ≡ true;
  value : l.value ≡ digits_value l.base (take l.byte-index l.text);
}
