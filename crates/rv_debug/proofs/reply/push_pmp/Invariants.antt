-- This file states the loop invariants of `push_pmp`, which writes the PMP entries, from entry 0 on.
use Rattle.std.proofs.Common.{◌≡◌, ◌+◌, ◌*◌, ◌≤◌, ◌++◌, length}
use Rattle.rv_debug.specs.Prelude.{addr_of, cfg_of}
use Rattle.rv_debug.proofs.Prelude.{entry_text, flat_map, range_with_len}
use Rattle.rv_debug.proofs.reply.push_pmp.Given as goal

-- `items`: the output is the old output followed by the line of each PMP entry passed; `len`: a line has at most 36 bytes
abbrev pub invariant-loop-number : goal.invariant-loop-number
invariant-loop-number l = record {
  items : l.out.items ≡ l.fn.out.items ++ flat_map (λ number. entry_text number (cfg_of l.pmp number) (addr_of l.pmp number))
      (range_with_len 0 l.number);
  len : length l.out.items ≤ length l.fn.out.items + 36 * l.number;
}
