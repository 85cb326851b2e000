-- This file proves obligations of `Addresses::insert`, which inserts an address, if the set has room for it.
use Rattle.std.proofs.Common.{arith}
use Rattle.rv_debug.proofs.AddressLemmas.{sorted-insert, full_has_no_room, insert_with_room}
use Rattle.rv_debug.proofs.addresses.Addresses.insert.Goals as goal

-- the addresses are sorted after the insertion, since it is at the index that the search gives
pub invariant_of-self : goal.invariant_of-self
invariant_of-self c = rw c.insert.ensures.items (sorted-insert _ _ _ c.self.invariant (rw c.as_slice.ensures.value at c.in-Err.ensures))

-- clause `set`: if the set is full and has not the address, the set of the definition has no room for the address either
pub returns-then-is_full-clause-set : goal.returns-then-is_full-clause-set
returns-then-is_full-clause-set c = rw (← c.self.view_is) (full_has_no_room _ _ _ (rw c.as_slice.ensures.value at c.in-Err.ensures) (grind arith))

-- clause `set`: if the set is not full, the new list is the set with the address inserted
pub returns-else-is_full-clause-set : goal.returns-else-is_full-clause-set
returns-else-is_full-clause-set c =
    rw (c.insert.ensures.items, ← c.self.view_is) (insert_with_room _ _ _ (rw c.as_slice.ensures.value at c.in-Err.ensures) (grind arith))
