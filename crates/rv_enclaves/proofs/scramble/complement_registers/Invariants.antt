-- The loop invariants of `complement_registers` (src/scramble.rt).
use Rattle.std.proofs.Common.{◌≡◌, ℕ, ◌<◌, ◌≤◌, length, get_or}
use Rattle.rv_enclaves.specs.Scramble.{complemented_registers}
use Rattle.rv_enclaves.proofs.scramble.complement_registers.Given as goal

-- The registers below the loop variable are complemented, and the others are unchanged. From the second round on, there are 32 registers.
abbrev pub invariant-loop-number : goal.invariant-loop-number
invariant-loop-number l = record {
  size : length l.regs ≡ length l.fn.regs;
  complemented : (register : ℕ) → register < l.number → get_or l.regs register 0 ≡ get_or (complemented_registers l.fn.regs) register 0;
  unchanged : (register : ℕ) → l.number ≤ register → get_or l.regs register 0 ≡ get_or l.fn.regs register 0;
  count : 1 < l.number → length l.regs ≡ 32;
}
