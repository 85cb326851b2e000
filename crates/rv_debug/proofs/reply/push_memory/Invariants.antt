-- This file states the loop invariants of `push_memory`, which writes bytes of memory, from the byte at the address on.
use Rattle.std.proofs.Common.{◌≡◌, ◌+◌, ◌*◌, ◌++◌, length, take}
use Rattle.std.specs.Prelude.{codes}
use Rattle.rv_debug.specs.Prelude.{hex_digits}
use Rattle.rv_debug.proofs.Prelude.{flat_map}
use Rattle.rv_debug.proofs.reply.push_memory.Given as goal

-- `items`: the old output, the address and a colon (9 bytes), and a space and two digits (3 bytes) for each byte passed; `len`: its length
abbrev pub invariant-loop-byte : goal.invariant-loop-byte
invariant-loop-byte l = record {
  items : l.out.items ≡ l.fn.out.items ++ hex_digits 8 l.address ++ codes ":" ++ flat_map (λ byte. codes " " ++ hex_digits 2 byte)
      (take l.byte-index l.bytes);
  len : length l.out.items ≡ length l.fn.out.items + (9 + 3 * l.byte-index);
}
