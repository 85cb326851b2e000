-- This file proves obligations of `Addresses::finds`, which returns whether a binary search finds the address.
use Rattle.std.proofs.Common.{◌∙◌}
use Rattle.rv_debug.proofs.AddressLemmas.{found-is}
use Rattle.rv_debug.proofs.addresses.Addresses.finds.Goals as goal

-- the result is true if and only if the address is in the set, since a binary search finds exactly the members of a sorted list
pub returns : goal.returns
returns c = c.is_ok.ensures.value ∙ found-is _ _ _ (rw (c.as_slice.ensures.value, c.self.view_is) at c.place_of.ensures)
