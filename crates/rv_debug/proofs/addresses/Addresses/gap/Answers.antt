-- This file proves obligations of `Addresses::gap`, which returns the widest interval around an address without an address of the set.
use Rattle.std.proofs.Common.{◌≡◌, ◌-◌, ◌<◌, length, get_or, arith}
use Rattle.rv_debug.proofs.Prelude.{HasPlace}
use Rattle.rv_debug.proofs.AddressLemmas.{gap-free}
use Rattle.rv_debug.proofs.addresses.Addresses.gap.Goals as goal
use Rattle.rv_debug.proofs.addresses.Addresses.gap.Goals.{then-place-eq0, else-place-eq0}

-- If the address is above all addresses of the set, no member is in the result, the interval from the last member + 1 to 2^32.
pub returns-then-place-sorted : goal.returns-then-place-sorted
returns-then-place-sorted c = λ address at_or_above_from below_to.
    let insertion : HasPlace c.self.inside.sorted.items c.args.address c.in-Err.place = rw c.as_slice-sorted.ensures.value at c.in-Err.ensures in
    let is_last : c.in-Err.place ≡ length c.self.inside.sorted.items = rw c.as_slice-sorted.ensures.value at c.if-place-sorted.true in
    let member_below : 0 < c.in-Err.place → get_or c.self.inside.sorted.items (c.in-Err.place - 1) 0 < c.if-place-eq0.from =
    elim c.if-place-eq0.branch [
      -- `place` is 0: there is no member before it
      | then-place-eq0 branch ↦ λ not_zero. absurd (omega arith)
      -- `place` is above 0: the interval begins at the member before it + 1
      | else-place-eq0 branch ↦ λ not_zero. rw (← c.as_slice-sorted.ensures.value) (omega arith)
    ] in
    -- no member is in the interval, if the member before `place` is below it and no member is from `place` on
    rw (← c.self.view_is)
    (gap-free _ _ _ _ _ c.self.invariant insertion.within member_below (λ in_bounds. absurd (omega arith)) at_or_above_from below_to)

-- If a member is above the address, no member is in the result, the interval from the member below + 1 to the member above.
pub returns-else-place-sorted : goal.returns-else-place-sorted
returns-else-place-sorted c = λ address at_or_above_from below_to.
    let insertion : HasPlace c.self.inside.sorted.items c.args.address c.in-Err.place = rw c.as_slice-sorted.ensures.value at c.in-Err.ensures in
    let member_above : c.from-to.result ≡ get_or c.self.inside.sorted.items c.in-Err.place 0 =
    rw c.as_slice-sorted.ensures.value at c.from-to.ensures in
    let member_below : 0 < c.in-Err.place → get_or c.self.inside.sorted.items (c.in-Err.place - 1) 0 < c.if-place-eq0.from =
    elim c.if-place-eq0.branch [
      -- `place` is 0: there is no member before it
      | then-place-eq0 branch ↦ λ not_zero. absurd (omega arith)
      -- `place` is above 0: the interval begins at the member before it + 1
      | else-place-eq0 branch ↦ λ not_zero. rw (← c.as_slice-sorted.ensures.value) (omega arith)
    ] in
    -- no member is in the interval, if the member before `place` is below it and the member at `place` is at its end
    rw (← c.self.view_is) (gap-free _ _ _ _ _ c.self.invariant insertion.within member_below (λ in_bounds. omega arith) at_or_above_from below_to)
