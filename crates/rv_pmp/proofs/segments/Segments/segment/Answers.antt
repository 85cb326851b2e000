-- This file proves obligations of `Segments::segment`, which returns the segment of an address, by binary search.
use Rattle.std.proofs.Common.{leb, arith, rules, length, ◌≤◌}
use Rattle.std.proofs.lemmas.List.Sorted.{IsPartitionPoint-from_clause, IsPartitionedBy-leb}
use Rattle.rv_pmp.proofs.SegmentLemmas.{used_ends_rise, at_segment}
use Rattle.rv_pmp.proofs.segments.Segments.segment.Goals as goal

-- the segment that the binary search finds has the address: it is the first whose end is past the address
pub returns : goal.returns
returns c =
    let s = c.args.self.now in
    let byte = c.args.byte in
    let ends_fit : s.count ≤ length s.ends = omega (arith, c.requires.order.at_most) in
    let parted = IsPartitionedBy-leb (λ end. end) _ byte (used_ends_rise s c.requires.order ends_fit) in
    let point = IsPartitionPoint-from_clause (λ end. leb end byte) _ _ c.partition_point.ensures.partitioned parted (λ a r q k. search rules) in
    let segment_is = at_segment s byte c.partition_point.result ends_fit c.requires.inside c.partition_point.ensures.bound point in
    record { used = segment_is.used; in_range = omega (arith, segment_is.used, c.requires.order.at_most); from = segment_is.from; to = segment_is.to }
