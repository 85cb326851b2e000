-- This file proves obligations of `place_of`, which returns the index of an address in a sorted slice, or the index at which it would be inserted.
use Rattle.rv_debug.proofs.AddressLemmas.{searched-place}
use Rattle.rv_debug.proofs.addresses.place_of.Goals as goal

-- the binary search of a sorted slice gives the index of the address, or the index at which it would be inserted
pub returns : goal.returns
returns c = searched-place _ _ _ c.requires c.binary_search.ensures.position
