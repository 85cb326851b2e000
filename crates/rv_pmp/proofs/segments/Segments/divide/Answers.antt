-- This file proves obligations of `Segments::divide`, which sorts the bounds, and divides the address space at them.
use Rattle.std.proofs.Common.{arith, sym, inl, inr, ◌≤◌, slice_index}
use Rattle.std.proofs.lemmas.List.Sorted.{IsNonDecreasingBy-from_sort}
use Rattle.std.proofs.lemmas.Bool.{cases_eq}
use Rattle.rv_pmp.proofs.SegmentLemmas.{bounds_in_order, same_match_between, start_past_bounds}
use Rattle.rv_pmp.proofs.segments.Segments.divide.Goals as goal
use Rattle.rv_pmp.proofs.segments.Segments.divide.Goals.{then-start-end, else-start-end}

-- no range begins or ends between `start` and the next bound, so that all bytes from `start` to it have the same matching entry
pub extend-requires-clause-alike : goal.extend-requires-clause-alike
extend-requires-clause-alike c =
    let bounds = c.sort_unstable.new.self in
    let loop = c.loop-k in
    let ascending = IsNonDecreasingBy-from_sort (λ x. x) bounds c.sort_unstable.ensures.sorted in
    same_match_between c.args.ranges.now bounds loop.start (slice_index bounds loop.k) loop.k
    (bounds_in_order c.args.ranges.now c.args.bounds.now bounds c.sort_unstable.ensures.permutation c.requires.all)
    loop.invariant.before
    (λ m from_k m_used. ascending loop.k m 0 from_k m_used)

-- after an iteration, the segments extend to the next bound, or stay as they are if they extend past it already
pub loop-k-preserved : goal.loop-k-preserved
loop-k-preserved c =
    let bounds = c.sort_unstable.new.self in
    let loop = c.loop-k in
    let before = loop.invariant in
    let ascending = IsNonDecreasingBy-from_sort (λ x. x) bounds c.sort_unstable.ensures.sorted in
    elim c.if-start-end.branch [
      | then-start-end arm ↦
          let new = arm.extend.ensures in
          rw (arm.self-is, arm.start-is) (record {
            room = omega (arith, new.room, before.room);
            reach = sym new.reach;
            order = new.order;
            matched = new.matched;
            before = λ m m_below. ascending m loop.k 0 (omega (arith, m_below)) c.loop-k-test.true;
            after = λ m from_next m_used. ascending loop.k m 0 (omega (arith, from_next)) m_used;
          })
      | else-start-end arm ↦
          let bound_below_start : slice_index bounds loop.k ≤ loop.start = omega (arith, arm.if-start-end.false) in
          rw (arm.self-is, arm.start-is) (record {
            room = omega (arith, before.room);
            reach = before.reach;
            order = before.order;
            matched = before.matched;
            before = λ m m_below. elim (cases_eq m loop.k) [
              | inl is_k ↦ rw is_k bound_below_start
              | inr is_earlier ↦ before.before m (omega (arith, m_below, is_earlier))
            ];
            after = λ m from_next m_used. before.after m (omega (arith, from_next)) m_used;
          })
    ]

-- after the last bound, which is at least 2^35, the segments reach the end of the addresses
pub returns-clause-whole : goal.returns-clause-whole
returns-clause-whole c =
    let bounds = c.sort_unstable.new.self in
    let loop = c.loop-k in
    rw (← loop.invariant.reach)
    (start_past_bounds c.args.ranges.now bounds loop.start loop.start loop.k
    (bounds_in_order c.args.ranges.now c.args.bounds.now bounds c.sort_unstable.ensures.permutation c.requires.all)
    loop.invariant.before loop.invariant.after (omega (arith, c.loop-k-test.false)))
