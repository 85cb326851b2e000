-- The loop invariants of `write_layout` (src/layout.rt).
use Rattle.std.proofs.Common.{◌≡◌, ℕ, ◌<◌, ◌≤◌, length, slice_index}
use Rattle.rv_enclaves.proofs.Prelude.{entry_at}
use Rattle.rv_enclaves.proofs.layout.write_layout.Given as goal

-- the PMP entries below the loop variable have the cfg bytes and addresses of the layout, and those of the others are 0
abbrev pub invariant-loop-i : goal.invariant-loop-i
invariant-loop-i l = record {
  cfgs_length : length l.cfgs ≡ 16;
  addrs_length : length l.addrs ≡ 16;
  cfgs : (entry : ℕ) → entry < l.i → slice_index l.cfgs entry ≡ (entry_at l.table l.world entry).cfg;
  addrs : (entry : ℕ) → entry < l.i → slice_index l.addrs entry ≡ (entry_at l.table l.world entry).addr;
  later_cfgs_unused : (entry : ℕ) → l.i ≤ entry → slice_index l.cfgs entry ≡ 0;
  later_addrs_unused : (entry : ℕ) → l.i ≤ entry → slice_index l.addrs entry ≡ 0;
}
