-- This file states the loop invariants of `hex`, which returns the `places` last hexadecimal digits of a number, in lower case.
use Rattle.std.proofs.Common.{◌≡◌, ◌-◌, ◌*◌, ◌/◌, ◌^◌}
use Rattle.rv_text.specs.Digits.{hex_digits}
use Rattle.rv_text.proofs.hexadecimal.hex.Given as goal

-- the text has the first `written` of the `places` digits of the value: each digit that is not yet written has 4 bits
abbrev pub invariant-loop-written : goal.invariant-loop-written
invariant-loop-written l =
    l.text.bytes ≡ hex_digits l.written (l.value / 2 ^ (4 * (l.places - l.written)))
