-- This file proves obligations of `Addresses::lowest_from`, which returns the lowest address of the set that is one of `count` from an address on.
use Rattle.std.proofs.Common.{◌<◌, ◌≤◌, ◌+◌, length, get_or, ap, arith}
use Rattle.rv_debug.proofs.Prelude.{HasPlace}
use Rattle.rv_debug.proofs.AddressLemmas.{find-address_itself, find-next_member, find-nothing_between}
use Rattle.rv_debug.proofs.addresses.Addresses.lowest_from.Goals as goal

-- if the address itself is a member, it is the lowest member of the `count` addresses from it on
pub returns-in-Ok : goal.returns-in-Ok
returns-in-Ok c =
    let (place_in_bounds, address_at_place) = rw c.as_slice.ensures.value at c.in-Ok.ensures in
    rw (← c.self.view_is) (find-address_itself _ _ _ _ c.self.invariant c.requires place_in_bounds address_at_place)

-- if no member is at or above the address, no member is one of the `count` addresses
pub returns-then-place-len : goal.returns-then-place-len
returns-then-place-len c =
    rw (← c.self.view_is)
    (find-nothing_between _ _ _ _ c.self.invariant (rw c.as_slice.ensures.value at c.in-Err.ensures) (λ in_bounds. absurd (omega arith)))

-- if the next member is `count` or more above the address, no member is one of the `count` addresses
pub returns-then-found-address : goal.returns-then-found-address
returns-then-found-address c =
    let next_member = ap (λ addresses. get_or addresses c.in-Err.place 0) c.as_slice-2.ensures.value in
    let is_past_interval : c.args.address + c.args.count ≤ get_or c.self.inside.sorted.items c.in-Err.place 0 = omega (arith, next_member) in
    rw (← c.self.view_is) (find-nothing_between _ _ _ _ c.self.invariant (rw c.as_slice.ensures.value at c.in-Err.ensures) (λ _. is_past_interval))

-- if the next member is less than `count` above the address, it is the lowest member of the `count` addresses
pub returns : goal.returns
returns c =
    let insertion : HasPlace c.self.inside.sorted.items c.args.address c.in-Err.place = rw c.as_slice.ensures.value at c.in-Err.ensures in
    let next_member = ap (λ addresses. get_or addresses c.in-Err.place 0) c.as_slice-2.ensures.value in
    let within : c.in-Err.place ≤ length c.self.inside.sorted.items = insertion.within in
    let in_bounds : c.in-Err.place < length c.self.inside.sorted.items = omega (arith, within) in
    let is_in_interval : get_or c.self.inside.sorted.items c.in-Err.place 0 < c.args.address + c.args.count = omega (arith, next_member) in
    rw (c.as_slice-2.ensures.value, ← c.self.view_is) (find-next_member _ _ _ _ insertion in_bounds is_in_interval)
