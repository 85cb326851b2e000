-- This file proves obligations of `push_pmp`, which writes the PMP entries, from entry 0 on.
use Rattle.std.proofs.Common.{arith}
use Rattle.std.proofs.lemmas.Grind.{common_steps}
use Rattle.rv_debug.proofs.Prelude.{pmp_text}
use Rattle.rv_debug.proofs.RegisterLines.{flat_map-range_more}
use Rattle.rv_debug.proofs.reply.push_pmp.Goals as goal

-- after the line of PMP entry `number`, the loop invariant holds for the next entry
pub loop-number-preserved : goal.loop-number-preserved
loop-number-preserved c = record {
  -- the output is the old output, the lines of the entries so far, and the line with the cfg byte and the address of this entry
  items = rw (c.push_entry.ensures.items, c.loop-number.invariant.items, c.cfg.ensures, c.addr.ensures, c.new-index.ensures)
      (flat_map-range_more _ c.args.out.now.items c.loop-number.number);
  len = omega (arith, c.push_entry.ensures.len, c.loop-number.invariant.len);
}

-- clause `items`: the lines of all entries follow the old output. The bound on the steps makes the prover reject a mutant soon.
pub returns-clause-items : goal.returns-clause-items
unfolding pmp_text
returns-clause-items c = grind (arith, common_steps) steps 400000
