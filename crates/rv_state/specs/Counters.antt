-- The 64-bit counters, their halves, and the increment of a step. RISC-V Privileged Architecture 20211203, sections 3.1.10 and 3.1.12;
-- Unprivileged ISA 20191213, section 9.1 (a write replaces the increment).
use Rattle.std.specs.Prelude.{ℕ, zero, suc, ◌+◌, ◌*◌, ◌%◌, ◌^◌, Bool, true, false, ◌||◌, not, ◌==◌, if◌then◌else◌, Option, Some, None}
use Rattle.rv_word.specs.BitFields.{bits, is_set}
use Rattle.rv_state.specs.CsrState.{CsrState}

-- the counter with a new low half (bits 31 to 0)
abbrev pub with_low_half : ℕ → ℕ → ℕ
with_low_half counter word = bits counter 63 32 * 2 ^ 32 + word

-- the counter with a new high half (bits 63 to 32)
abbrev pub with_high_half : ℕ → ℕ → ℕ
with_high_half counter word = word * 2 ^ 32 + bits counter 31 0

-- whether the step wrote the CSR with the number `low` or `high`: the two halves of a counter; `None` if it wrote no CSR
abbrev pub wrote : Option ℕ → ℕ → ℕ → Bool
wrote None low high = false
wrote (Some number) low high = number == low || number == high

-- a counter after a step, incremented unless it is held; it wraps
abbrev pub incremented : ℕ → Bool → ℕ
incremented counter is_held = if is_held then counter else (counter + 1) % 2 ^ 64

-- The registers after a step. mcycle counts each step, and minstret each retired instruction. A counter is held if its bit of mcountinhibit was
-- set before the step, or if the step wrote one of its halves.
abbrev pub ticked : CsrState → Bool → ℕ → Option ℕ → CsrState
ticked csrs retired inhibit written = record csrs {
  mcycle = incremented csrs.mcycle (is_set inhibit 0 || wrote written 0xB00 0xB80);
  minstret = incremented csrs.minstret (not retired || is_set inhibit 2 || wrote written 0xB02 0xB82);
}

-- the registers after `count` steps that each retired an instruction and wrote no register
abbrev pub counted : ℕ → CsrState → CsrState
counted zero csrs = csrs
counted (suc count) csrs = ticked (counted count csrs) true csrs.mcountinhibit None
