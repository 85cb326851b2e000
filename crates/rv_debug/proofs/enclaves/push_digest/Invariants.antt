-- This file states the loop invariants of `push_digest`, which writes two digits for each byte.
use Rattle.std.proofs.Common.{◌≡◌, ◌+◌, ◌*◌, ◌++◌, length, take}
use Rattle.rv_debug.specs.Prelude.{hex2}
use Rattle.rv_debug.proofs.Prelude.{flat_map}
use Rattle.rv_debug.proofs.enclaves.push_digest.Given as goal

-- `items`: the output is the old output followed by two hexadecimal digits for each byte passed; `len`: so it has two bytes more for each
abbrev pub invariant-loop-byte : goal.invariant-loop-byte
invariant-loop-byte l = record {
  items : l.out.items ≡ l.fn.out.items ++ flat_map hex2 (take l.byte-index l.bytes);
  len : length l.out.items ≡ length l.fn.out.items + 2 * l.byte-index;
}
