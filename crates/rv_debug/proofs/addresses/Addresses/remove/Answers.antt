-- This file proves obligations of `Addresses::remove`, which removes an address, if the set has it.
use Rattle.rv_debug.proofs.AddressLemmas.{remove-is, removal_of_absent, sorted-filter}
use Rattle.rv_debug.proofs.addresses.Addresses.remove.Goals as goal

-- the addresses are sorted after the removal, since the new list is the old one without the address
pub invariant_of-self : goal.invariant_of-self
invariant_of-self c =
    let (place_in_bounds, address_at_place) = rw c.as_slice.ensures.value at c.in-Ok.ensures in
    rw (c.remove.ensures.items, remove-is _ _ _ c.self.invariant place_in_bounds address_at_place) (sorted-filter _ _ c.self.invariant)

-- if the search finds the address, the new list is the set without the address
pub returns-in-Ok : goal.returns-in-Ok
returns-in-Ok c =
    let (place_in_bounds, address_at_place) = rw c.as_slice.ensures.value at c.in-Ok.ensures in
    rw (c.remove.ensures.items, ← c.self.view_is) (remove-is _ _ _ c.self.invariant place_in_bounds address_at_place)

-- if the search does not find the address, the unchanged list is the set without the address
pub returns-in_default : goal.returns-in_default
returns-in_default c = rw (← c.self.view_is) (removal_of_absent _ _ _ (rw c.as_slice.ensures.value at c.in_default.ensures))
