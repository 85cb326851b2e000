-- This file proves obligations of `register_named`, which returns the register of a name, if there is one.
use Rattle.std.proofs.Common.{◌∙◌, sym}
use Rattle.rv_asm.specs.RegisterNames.{registers}
use Rattle.rv_asm.proofs.Numbered.{registers_in_range}
use Rattle.rv_asm.proofs.register_name.register_named.Goals as goal

-- the number of a register that is found by its name is at most 31, as `new` requires
pub new-requires : goal.new-requires
unfolding registers
new-requires c = registers_in_range c.args.name.now c.in_ok-number.number (sym c.looked_up.ensures ∙ c.in_ok-number.was)
