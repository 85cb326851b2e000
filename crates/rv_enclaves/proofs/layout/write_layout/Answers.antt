-- The proof obligations of `write_layout` (src/layout.rt).
use Rattle.std.proofs.Common.{arith}
use Rattle.rv_enclaves.proofs.InvariantLemmas.{layout_from_each}
use Rattle.rv_enclaves.proofs.layout.write_layout.Goals as goal

-- `write_layout` meets its contract: after the loop, all sixteen entries are those of the layout
pub returns : goal.returns
returns c =
    let invariant = c.loop-i.invariant in
    rw c.set_entries.ensures
    (layout_from_each c.args.table.now c.args.world.now c.loop-i.cfgs c.loop-i.addrs invariant.cfgs_length invariant.addrs_length
    (λ entry in_range. invariant.cfgs entry (omega (arith, in_range, c.loop-i-test.false)))
    (λ entry in_range. invariant.addrs entry (omega (arith, in_range, c.loop-i-test.false))))
