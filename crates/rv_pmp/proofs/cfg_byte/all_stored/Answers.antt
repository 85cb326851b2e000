-- This file proves obligations of `all_stored`, which returns the stored forms of written bytes.
use Rattle.std.proofs.Common.{arith, sym, ◌∙◌, ◌≡◌, length, map}
use Rattle.std.proofs.lemmas.List.{length-map, ext_get_or, get_or-map}
use Rattle.rv_pmp.specs.Cfg.{stored_cfg}
use Rattle.rv_pmp.proofs.cfg_byte.all_stored.Goals as goal

-- the list that is returned has the stored form of each byte, by the invariant of the loop
pub returns : goal.returns
returns c =
    let loop = c.loop-k in
    let cfgs = c.args.cfgs.now in
    let same_length : length loop.kept ≡ length (map stored_cfg cfgs) = omega (arith, loop.invariant.long, length-map cfgs stored_cfg) in
    ext_get_or 0 loop.kept (map stored_cfg cfgs) same_length (λ i i_below.
    loop.invariant.so_far i (omega (arith, i_below, loop.invariant.long, c.loop-k-test.false))
    ∙ sym (get_or-map stored_cfg cfgs i 0 0 (omega (arith, i_below, loop.invariant.long))))
