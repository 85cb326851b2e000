-- This file states the loop invariants of `push_registers`, which writes the value of each register, from x0 on, and then pc.
use Rattle.std.proofs.Common.{◌≡◌, ◌+◌, ◌-◌, ◌*◌, ◌≤◌, ◌++◌, length}
use Rattle.rv_debug.specs.Prelude.{register}
use Rattle.rv_debug.proofs.Prelude.{flat_map, range_with_len, register_text}
use Rattle.rv_debug.proofs.reply.push_registers.Given as goal

-- `items`: the output is the old output followed by the line of each register passed; `len`: a line has 12 bytes up to x9, and 13 from x10 on
abbrev pub invariant-loop-number : goal.invariant-loop-number
invariant-loop-number l = record {
  items : l.out.items ≡ l.fn.out.items ++ flat_map (λ number. register_text number (register l.regs number)) (range_with_len 0 l.number);
  len : length l.out.items ≤ length l.fn.out.items + (12 * l.number + (l.number - 10));
}
