-- Consecutive segments: the last one grows, or one is added; and bounds between which no range begins or ends.
use Rattle.std.proofs.Common.{◌≡◌, ◌≢◌, ℕ, zero, suc, ◌+◌, ◌-◌, ◌<◌, ◌≤◌, ◌^◌, ◌⊎◌, ◌==◌, ◌&&◌, nat_le, nat_lt, if◌then◌else◌, Bool, true, false}
use Rattle.std.proofs.Common.{List}
use Rattle.std.proofs.Common.{length, Option, None, refl, sym, ◌∙◌, ap, inl, inr, arith, slice_index, slice_index_or, slice_set, take, leb}
use Rattle.std.proofs.Common.{get_or-set_same, get_or-set_other}
use Rattle.std.specs.List.{Contains}
use Rattle.std.specs.List.Sorted.{IsPermutation, IsNonDecreasingBy, IsPartitionPoint}
use Rattle.std.proofs.lemmas.Bool.{cases_eq, cases_lt, cond-false, ne_eqb, and_from, both_ways, le-leb, leb-true, lt-ltb, ltb-true, leb-false}
use Rattle.std.proofs.lemmas.Grind.{get_or_default_zero}
use Rattle.std.proofs.lemmas.List.{length-take-le, get_or-take}
use Rattle.std.proofs.lemmas.List.Sorted.{Contains-permutation, IsNonDecreasingBy-from_default}
use Rattle.rv_pmp.specs.declared.entry_ranges.EntryRanges.{EntryRanges}
use Rattle.rv_pmp.specs.declared.segments.Segments.{Segments}
use Rattle.rv_pmp.specs.Cache.Segments.{byte_match, is_within, start_of, reach_of, AreBounds, AreInOrder, AreMatched}
use Rattle.rv_pmp.proofs.ByteMatchLemmas.{bool_same, byte_match_alike}

-- ---- the last segment grows, or one is added

-- `begin` is the start of a segment, which follows from the list of the ends of segments
abbrev begin : List ℕ → ℕ → ℕ
begin ends index = if index == 0 then 0 else slice_index ends (index - 1)

-- a segment after the first begins where the one before it ends
begin_after : (ends : List ℕ) (index : ℕ) → 0 < index → begin ends index ≡ slice_index ends (index - 1)
begin_after ends index index_positive = cond-false (index == 0) 0 (slice_index ends (index - 1))
    (ne_eqb index 0 (λ is_zero. omega (arith, index_positive)))

-- a new end of the segment `changed` changes no start of the segments up to it
begin_kept : (ends : List ℕ) (changed end index : ℕ) → index ≤ changed → begin (slice_set ends changed end) index ≡ begin ends index
begin_kept ends changed end index index_up_to_changed = elim (cases_eq index 0) [
  | inl is_first ↦ rw is_first refl
  | inr not_first ↦
      let index_positive : 0 < index = omega arith in
      begin_after (slice_set ends changed end) index index_positive
      ∙ get_or-set_other ends changed (index - 1) end 0 (λ is_before_changed. omega (arith, index_positive))
      ∙ sym (begin_after ends index index_positive)
]

-- the segments are in order up to `end`, and each has the matching entry of its bytes
pub record Reaches (covering : ℕ → ℕ → Bool) (segments : Segments) (end : ℕ) : Type 0 where
  -- the last segment ends at `end`
  pub reach : reach_of segments ≡ end
  -- no segment is empty
  pub order : AreInOrder segments
  -- each byte of a segment has the matching entry of the segment
  pub matched : AreMatched covering segments

-- the segments are extended to `end`: all new bytes have the same matching entry, and the last segment grows or one is added
module _ (covering : ℕ → ℕ → Bool) (old : Segments) (start end : ℕ) (new_match : Option ℕ) (order : AreInOrder old)
    (matched : AreMatched covering old)
    (start_is_reach : start ≡ reach_of old) (not_empty : start < end) (same_match : (byte : ℕ) → start ≤ byte → byte < end
    → byte_match covering byte ≡ new_match) where
  -- `count` is the number of segments
  abbrev count : ℕ
  count = old.count

  -- `longer` has the segments, where the last one grew to `end`
  abbrev longer : Segments
  longer = record { ends = slice_set old.ends (count - 1) end; byte_matches = old.byte_matches; count = count }

  -- `with_one_more` has the segments and one more, which ends at `end`
  abbrev with_one_more : Segments
  with_one_more = record { ends = slice_set old.ends count end; byte_matches = slice_set old.byte_matches count new_match; count = count + 1 }

  -- the last segment grows if it has the same matching entry as the new bytes
  pub last_grows : 0 < count → count ≤ length old.ends → slice_index_or old.byte_matches (count - 1) None ≡ new_match → Reaches covering longer end
  last_grows has_segments ends_fit last_has_match =
      -- the last segment gets a new end, and the other ends and all starts are unchanged
      let last : ℕ = count - 1 in
      let is_end : slice_index longer.ends last ≡ end = get_or-set_same old.ends last end 0 (omega arith) in
      let was_end : slice_index old.ends last ≡ start = sym (start_is_reach ∙ begin_after old.ends count has_segments) in
      let starts_kept : (index : ℕ) → index < count
      → start_of longer index ≡ start_of old index = λ index index_used. begin_kept old.ends last end index (omega arith) in
      let other_ends_kept : (index : ℕ) → index ≢ last
      → slice_index longer.ends index ≡ slice_index old.ends index = λ index not_last. get_or-set_other old.ends last index end 0 not_last in
      record {
        reach = begin_after longer.ends count has_segments ∙ is_end;
        order = record {
          at_most = order.at_most;
          ascending = λ index index_used. elim (cases_eq index last) [
            | inl is_last ↦
                rw is_last (omega (arith, starts_kept last (omega arith), is_end, not_empty, order.ascending last (omega arith), was_end))
            | inr not_last ↦ omega (arith, starts_kept index index_used, other_ends_kept index not_last, order.ascending index index_used)
          ];
        };
        matched = λ index byte index_used from_start before_end. elim (cases_eq index last) [
          | inl is_last ↦ elim (cases_lt byte start) [
            | inl in_old_part ↦ matched index byte index_used (omega (arith, starts_kept index index_used)) (rw is_last (omega (arith, was_end)))
            | inr in_new_part ↦
                let before_new_end = rw is_last at before_end in
                same_match byte (omega arith) (omega (arith, is_end)) ∙ rw is_last (sym last_has_match)
          ]
          | inr not_last ↦ matched index byte index_used (omega (arith, starts_kept index index_used))
              (omega (arith, before_end, other_ends_kept index not_last))
        ];
      }

  -- one segment is added for the new bytes
  pub one_added : count < 33 → count < length old.ends → count < length old.byte_matches → Reaches covering with_one_more end
  one_added at_most_32 ends_fit matches_fit =
      -- the new segment gets its end and its matching entry, and the segments before it are unchanged
      let is_end : slice_index with_one_more.ends count ≡ end = get_or-set_same old.ends count end 0 ends_fit in
      let is_new_match : slice_index_or with_one_more.byte_matches count None ≡ new_match = get_or-set_same old.byte_matches count new_match None
      matches_fit in
      let starts_kept : (index : ℕ) → index ≤ count
      → start_of with_one_more index ≡ start_of old index = λ index index_used. begin_kept old.ends count end index index_used in
      let other_ends_kept : (index : ℕ) → index ≢ count
      → slice_index with_one_more.ends index ≡ slice_index old.ends index = λ index not_new. get_or-set_other old.ends count index end 0 not_new in
      let count_is : count + 1 - 1 ≡ count = omega arith in
      record {
        reach = begin_after with_one_more.ends (count + 1) (omega arith) ∙ ap (slice_index with_one_more.ends) count_is ∙ is_end;
        order = record {
          at_most = omega arith;
          ascending = λ index index_used. elim (cases_eq index count) [
            | inl is_new ↦ rw is_new (omega (arith, starts_kept count (omega arith), is_end, not_empty, start_is_reach))
            | inr not_new ↦ omega (arith, starts_kept index (omega arith), other_ends_kept index not_new, order.ascending index (omega arith))
          ];
        };
        matched = λ index byte index_used from_start before_end. elim (cases_eq index count) [
          | inl is_new ↦
              let from_new_start = rw is_new at from_start in
              let before_new_end = rw is_new at before_end in
              same_match byte (omega (arith, from_new_start, starts_kept count (omega arith), start_is_reach)) (omega (arith, before_new_end, is_end))
              ∙ rw is_new (sym is_new_match)
          | inr not_new ↦
              matched index byte (omega arith) (omega (arith, starts_kept index (omega arith)))
              (omega (arith, before_end, other_ends_kept index not_new))
              ∙ sym (get_or-set_other old.byte_matches count index new_match None not_new)
        ];
      }

-- ---- bounds between which no range begins or ends

-- bounds that are permuted are bounds of the same ranges
pub bounds_in_order : (ranges : EntryRanges) (xs ys : List ℕ) → IsPermutation xs ys → AreBounds ranges xs → AreBounds ranges ys
bounds_in_order ranges xs ys is_permutation are_bounds = record {
  from = λ entry in_range not_empty. Contains-permutation xs ys _ is_permutation (are_bounds.from entry in_range not_empty);
  to = λ entry in_range not_empty. Contains-permutation xs ys _ is_permutation (are_bounds.to entry in_range not_empty);
  last = Contains-permutation xs ys _ is_permutation are_bounds.last;
}

-- if an and holds, both its parts hold
and_both : (first second : Bool) → (first && second) ≡ true → (first ≡ true) × (second ≡ true)
and_both true true both_hold = (refl, refl)
and_both true false both_hold = absurd (both_ways false refl both_hold)
and_both false second both_hold = absurd (both_ways false refl both_hold)

-- a range has both of two bytes or neither, if no end of the range lies between them
both_or_neither : (from to start end byte : ℕ) → start ≤ byte → byte < end → (from < to → (from ≤ start) ⊎ (end ≤ from))
    → (from < to → (to ≤ start) ⊎ (end ≤ to)) → (nat_le from byte && nat_lt byte to) ≡ (nat_le from start && nat_lt start to)
both_or_neither from to start end byte from_start before_end from_apart to_apart =
    bool_same (nat_le from byte && nat_lt byte to) (nat_le from start && nat_lt start to)
    (λ has_byte.
    let (from_test_holds, to_test_holds) = and_both (nat_le from byte) (nat_lt byte to) has_byte in
    let from_at_most_byte : from ≤ byte = leb-true _ _ from_test_holds in
    let byte_below_to : byte < to = ltb-true _ _ to_test_holds in
    elim (from_apart (omega arith)) [
      | inl from_up_to_start ↦ and_from _ _ (le-leb from start from_up_to_start) (lt-ltb start to (omega arith))
      | inr from_at_or_past_end ↦ absurd (omega arith)
    ])
    (λ has_start.
    let (from_test_holds, to_test_holds) = and_both (nat_le from start) (nat_lt start to) has_start in
    let from_at_most_start : from ≤ start = leb-true _ _ from_test_holds in
    let start_below_to : start < to = ltb-true _ _ to_test_holds in
    elim (to_apart (omega arith)) [
      | inl to_up_to_start ↦ absurd (omega arith)
      | inr to_at_or_past_end ↦ and_from _ _ (le-leb from byte (omega arith)) (lt-ltb byte to (omega arith))
    ])

-- The first `split` bounds are at most `start`, and the others are at least `end`. All bytes from `start` to `end` have the same matching entry.
module _ (ranges : EntryRanges) (bounds : List ℕ) (start end split : ℕ) (are_bounds : AreBounds ranges bounds)
    (bounds_before : (index : ℕ) → index < split → slice_index bounds index ≤ start) (bounds_after : (index : ℕ) → split ≤ index
    → index < length bounds
    → end ≤ slice_index bounds index) where
  -- no bound is between `start` and `end`
  no_bound_between : (x : ℕ) → Contains bounds x → (x ≤ start) ⊎ (end ≤ x)
  no_bound_between x is_bound =
      -- x is the bound with this index, which is among the first `split` bounds or after them
      let (index, index_in_bounds, element_is_x) = is_bound in
      let bound_is : slice_index bounds index ≡ x = sym (get_or_default_zero bounds index x index_in_bounds) ∙ element_is_x in
      elim (cases_lt index split) [
        | inl index_before_split ↦ inl (omega (arith, bound_is, bounds_before index index_before_split))
        | inr index_from_split ↦ inr (omega (arith, bound_is, bounds_after index (omega arith) index_in_bounds))
      ]

  -- all bytes between two neighbouring bounds have the same matching entry
  pub same_match_between : (byte : ℕ) → start ≤ byte → byte < end → byte_match (is_within ranges) byte ≡ byte_match (is_within ranges) start
  same_match_between byte from_start before_end = byte_match_alike (is_within ranges) (is_within ranges) byte start (λ entry in_range.
      both_or_neither (slice_index ranges.from entry) (slice_index ranges.to entry) start end byte from_start before_end
      (λ not_empty. no_bound_between (slice_index ranges.from entry) (are_bounds.from entry in_range not_empty))
      (λ not_empty. no_bound_between (slice_index ranges.to entry) (are_bounds.to entry in_range not_empty)))

  -- if all bounds are among the first `split`, `start` is at least 2^35, which is one of the bounds
  pub start_past_bounds : length bounds ≤ split → 2 ^ 35 ≤ start
  start_past_bounds none_after = elim (no_bound_between (2 ^ 35) are_bounds.last) [
    | inl last_bound_up_to_start ↦ last_bound_up_to_start
    | inr end_up_to_last_bound ↦
        -- 2^35 is a bound, and each bound is among the first `split`, so it is at most `start`
        let (index, index_in_bounds, element_is_2_35) = are_bounds.last in
        let same_element = get_or_default_zero bounds index (2 ^ 35) index_in_bounds in
        omega (arith, bounds_before index (omega (arith, index_in_bounds)), same_element, element_is_2_35)
  ]

-- ---- the segment that has a byte

module _ (segments : Segments) (order : AreInOrder segments) where
  -- an end of a segment is at most the end of a later one (by induction over the index of the later one)
  ends_rise : (lower upper : ℕ) → lower ≤ upper → upper < segments.count → slice_index segments.ends lower ≤ slice_index segments.ends upper
  ends_rise lower zero lower_up_to_upper upper_used = let same_index : lower ≡ 0 = omega (arith, lower_up_to_upper) in rw same_index (omega arith)
  ends_rise lower (suc upper) lower_up_to_upper upper_used = elim (cases_eq lower (suc upper)) [
    | inl same_index ↦ rw same_index (omega arith)
    | inr lower_before_upper ↦
        let one_before : suc upper - 1 ≡ upper = omega arith in
        let start_is : start_of segments (suc upper)
        ≡ slice_index segments.ends upper = begin_after segments.ends (suc upper) (omega arith) ∙ ap (slice_index segments.ends) one_before in
        omega (arith, ends_rise lower upper (omega arith) (omega arith), order.ascending (suc upper) upper_used, start_is)
  ]

  -- the list of the ends of the segments is in ascending order
  pub used_ends_rise : segments.count ≤ length segments.ends → IsNonDecreasingBy (λ end. end) (take segments.count segments.ends)
  used_ends_rise ends_fit = IsNonDecreasingBy-from_default (λ end. end) (take segments.count segments.ends) 0
      (λ lower upper lower_up_to_upper upper_used.
      let upper_below_count : upper < segments.count = omega (arith, upper_used, length-take-le segments.count segments.ends ends_fit) in
      rw (
        get_or-take segments.count segments.ends lower 0
            (omega (arith, lower_up_to_upper, upper_below_count)),
        get_or-take segments.count segments.ends upper 0 upper_below_count,
      )
      (ends_rise lower upper lower_up_to_upper upper_below_count))

-- the segment with this index has the byte
pub record IsSegment (segments : Segments) (byte segment : ℕ) : Type 0 where
  -- the index is that of a segment
  pub used : segment < segments.count
  -- the segment starts at the byte or below
  pub from : start_of segments segment ≤ byte
  -- the segment ends above the byte
  pub to : byte < slice_index segments.ends segment

-- the first segment whose end is past a byte has the byte, if the last segment's end is past it
pub at_segment : (segments : Segments) (byte segment : ℕ) → segments.count ≤ length segments.ends → byte < reach_of segments
    → segment ≤ length (take segments.count segments.ends)
    → IsPartitionPoint (λ end. leb end byte ≡ true) (λ end. leb end byte ≡ false) (take segments.count segments.ends) segment
    → IsSegment segments byte segment
at_segment segments byte segment ends_fit byte_below_reach segment_bound is_point =
    let taken_length = length-take-le segments.count segments.ends ends_fit in
    let (earlier_ends_not_past, later_ends_past) = is_point in
    -- all ends before the segment are at most the byte, and its own end is past the byte
    let ends_before : (index : ℕ) → index < segment → slice_index segments.ends index ≤ byte
    = λ index index_before. leb-true _ _
    (rw (get_or-take segments.count segments.ends index 0 (omega (arith, index_before, segment_bound, taken_length))) at
    (earlier_ends_not_past index 0 (omega arith) index_before)) in
    let starts_before : start_of segments segment ≤ byte = elim (cases_eq segment 0) [
      | inl is_first ↦ rw is_first (omega arith)
      | inr not_first ↦ let positive : 0 < segment = omega arith in
          omega (arith, begin_after segments.ends segment positive, ends_before (segment - 1) (omega (arith, positive)))
    ] in
    let is_used : segment < segments.count = elim (cases_lt segment segments.count) [
      | inl segment_below_count ↦ segment_below_count
      | inr not_below ↦ let is_count : segment ≡ segments.count = omega (arith, not_below, segment_bound, taken_length) in
          absurd (omega (arith, byte_below_reach, rw is_count at starts_before))
    ] in
    let ends_after : leb (slice_index segments.ends segment) byte ≡ false =
    rw (get_or-take segments.count segments.ends segment 0 is_used) at
    (later_ends_past segment 0 (omega arith) (omega (arith, is_used, taken_length))) in
    record { used = is_used; from = starts_before; to = leb-false _ _ ends_after }
