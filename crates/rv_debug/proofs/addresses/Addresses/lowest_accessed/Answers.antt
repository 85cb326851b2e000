-- This file proves obligations of `Addresses::lowest_accessed`, which returns the lowest address of the set that the instruction of a step loaded or
-- stored.
use Rattle.std.proofs.Common.{◌∙◌}
use Rattle.rv_debug.proofs.Prelude.{lowest_accessed}
use Rattle.rv_debug.proofs.AddressLemmas.{find-either, lowest-is}
use Rattle.rv_debug.proofs.addresses.Addresses.lowest_accessed.Goals as goal

-- The result is the lowest member that the instruction accessed: the lower of the lowest loaded and the lowest stored member.
pub returns : goal.returns
unfolding lowest_accessed
returns c = rw (c.lower.ensures, c.lowest_in.ensures, c.lowest_in-2.ensures)
    (rw (← c.self.view_is) (find-either _ _ _ c.self.invariant ∙ lowest-is _ _ c.self.invariant))
