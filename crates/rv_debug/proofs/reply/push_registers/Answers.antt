-- This file proves obligations of `push_registers`, which writes the value of each register, from x0 on, and then pc.
use Rattle.std.proofs.Common.{arith, length-append}
use Rattle.std.proofs.lemmas.Grind.{common_steps}
use Rattle.rv_debug.proofs.Prelude.{registers_text}
use Rattle.rv_debug.proofs.RegisterLines.{flat_map-range_more, length-register_text}
use Rattle.rv_debug.proofs.reply.push_registers.Goals as goal

-- after the line of register `number`, the loop invariant holds for the next register
pub loop-number-preserved : goal.loop-number-preserved
loop-number-preserved c =
    let line_length = length-register_text c.loop-number.number c.get.result (omega arith) in
    record {
      -- the output is the old output, the lines of the registers so far, and the line with the value of this register
      items = rw (c.push_register.ensures.items, c.loop-number.invariant.items, c.get.ensures.value, c.new-register.ensures)
          (flat_map-range_more _ c.args.out.now.items c.loop-number.number);
      len = rw c.push_register.ensures.items (simp length-append (rw (c.new-register.ensures) (omega (arith, line_length))));
    }

-- clause `items`: the lines of x0 to x31 and pc follow the old output. The bound on the steps makes the prover reject a mutant soon.
pub returns-clause-items : goal.returns-clause-items
unfolding registers_text
returns-clause-items c = grind (arith, common_steps) steps 400000
