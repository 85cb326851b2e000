-- This file states the loop invariants of `all_stored`, which returns the stored forms of written bytes.
use Rattle.std.proofs.Common.{◌≡◌, ◌<◌, ℕ, length, slice_index}
use Rattle.rv_pmp.specs.Cfg.{stored_cfg}
use Rattle.rv_pmp.proofs.cfg_byte.all_stored.Given as goal

-- there are sixteen bytes, and the bytes so far are the stored forms of the written bytes
abbrev pub invariant-loop-k : goal.invariant-loop-k
invariant-loop-k l = record {
  long : length l.kept ≡ 16;
  so_far : (i : ℕ) → i < l.k → slice_index l.kept i ≡ stored_cfg (slice_index l.cfgs i);
}
