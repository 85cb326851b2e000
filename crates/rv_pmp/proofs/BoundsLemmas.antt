-- This file is about the bounds of ranges while they are written, one range after another.
use Rattle.std.proofs.Common.{◌≡◌, ℕ, ◌+◌, ◌*◌, ◌<◌, ◌≤◌, ◌^◌, ◌&&◌, nat_le, nat_lt, List, length, take, ◌∙◌, inl, inr}
use Rattle.std.proofs.Common.{arith, slice_index, slice_set, get_or-set_same, get_or-set_other, length-set}
use Rattle.std.specs.List.{Contains}
use Rattle.std.proofs.lemmas.Bool.{cases_eq}
use Rattle.std.proofs.lemmas.List.{get_or-take, length-take-le}
use Rattle.std.proofs.lemmas.Grind.{get_or_default_zero}
use Rattle.rv_pmp.specs.declared.entry_ranges.EntryRanges.{EntryRanges}
use Rattle.rv_pmp.specs.Cache.Segments.{is_within, AreBounds}
use Rattle.rv_pmp.specs.Covers.{covers}
use Rattle.rv_pmp.specs.Entries.{Entries}

-- x is one of the first `count` numbers of a list
abbrev pub IsAmong : List ℕ → ℕ → ℕ → Type 0
IsAmong numbers count x = (index : ℕ) × (index < count) × (slice_index numbers index ≡ x)

-- the first `count` of 33 bounds (2 * 16 + 1) are 2^35 and both ends of each of the first `number` ranges that has a byte
pub record AreWritten (ranges : EntryRanges) (bounds : List ℕ) (count number : ℕ) : Type 0 where
  -- the list has 33 places
  pub has_33_places : length bounds ≡ 33
  -- the bound 2^35 is written
  pub not_empty : 0 < count
  -- there is the bound 2^35, and at most two bounds for each of the first `number` ranges
  pub count_fits : count ≤ 1 + 2 * number
  -- the first bound is 2^35
  pub last : slice_index bounds 0 ≡ 2 ^ 35
  -- the first address of each of the first `number` ranges that has a byte is a bound
  pub from : (entry : ℕ) → entry < number → slice_index ranges.from entry < slice_index ranges.to entry
      → IsAmong bounds count (slice_index ranges.from entry)
  -- the end of each of the first `number` ranges that has a byte is a bound
  pub to : (entry : ℕ) → entry < number → slice_index ranges.from entry < slice_index ranges.to entry
      → IsAmong bounds count (slice_index ranges.to entry)

-- one more range, which has no byte, or whose two ends are written
module _ (ranges : EntryRanges) (bounds : List ℕ) (count number : ℕ) (so_far : AreWritten ranges bounds count number) where
  -- `from` is the first byte of the range
  abbrev from : ℕ
  from = slice_index ranges.from number

  -- `to` is the first byte after the range
  abbrev to : ℕ
  to = slice_index ranges.to number

  -- a range without a byte adds no bound
  pub no_bound_added : to ≤ from → AreWritten ranges bounds count (number + 1)
  no_bound_added is_empty = record {
    has_33_places = so_far.has_33_places;
    not_empty = so_far.not_empty;
    count_fits = omega (arith, so_far.count_fits);
    last = so_far.last;
    from = λ entry below has_byte. elim (cases_eq entry number)
        [ inl is_new ↦ absurd (omega (arith, is_empty, rw is_new at has_byte)) | inr is_older ↦ so_far.from entry (omega arith) has_byte ];
    to = λ entry below has_byte. elim (cases_eq entry number)
        [ inl is_new ↦ absurd (omega (arith, is_empty, rw is_new at has_byte)) | inr is_older ↦ so_far.to entry (omega arith) has_byte ];
  }

  -- `longer` has the bounds so far, and then both ends of the range
  abbrev longer : List ℕ
  longer = slice_set (slice_set bounds count from) (count + 1) to

  -- a range with a byte adds its two ends to the bounds
  pub both_ends_added : number < 16 → AreWritten ranges longer (count + 2) (number + 1)
  both_ends_added in_range =
      -- the two new bounds are the ends of the range, and the older bounds are unchanged
      let once_length : length (slice_set bounds count from) ≡ 33 = length-set bounds count from ∙ so_far.has_33_places in
      let first_is : slice_index longer count ≡ from =
      get_or-set_other (slice_set bounds count from) (count + 1) count to 0 (λ is_next. omega (arith, is_next))
      ∙ get_or-set_same bounds count from 0 (omega (arith, so_far.has_33_places, so_far.count_fits)) in
      let second_is : slice_index longer (count + 1) ≡ to = get_or-set_same (slice_set bounds count from) (count + 1) to 0
      (omega (arith, once_length, so_far.count_fits)) in
      let older_same : (index : ℕ) → index < count → slice_index longer index ≡ slice_index bounds index
      = λ index index_is_older.
      get_or-set_other (slice_set bounds count from) (count + 1) index to 0 (λ is_next. omega (arith, is_next))
      ∙ get_or-set_other bounds count index from 0 (λ is_count. omega (arith, is_count)) in
      let stays_among : (x : ℕ) → IsAmong bounds count x → IsAmong longer (count + 2) x
      = λ x is_among. let (index, index_below_count, bound_is_x) = is_among in
      (index, omega (arith, index_below_count), older_same index index_below_count ∙ bound_is_x) in
      record {
        has_33_places = length-set (slice_set bounds count from) (count + 1) to ∙ once_length;
        not_empty = omega arith;
        count_fits = omega (arith, so_far.count_fits);
        last = older_same 0 so_far.not_empty ∙ so_far.last;
        from = λ entry below_next has_byte. elim (cases_eq entry number) [
          | inl is_new ↦ rw is_new (count, omega arith, first_is)
          | inr is_older ↦ stays_among _ (so_far.from entry (omega arith) has_byte)
        ];
        to = λ entry below_next has_byte. elim (cases_eq entry number) [
          | inl is_new ↦ rw is_new (count + 1, omega arith, second_is)
          | inr is_older ↦ stays_among _ (so_far.to entry (omega arith) has_byte)
        ];
      }

-- one of the first `count` bounds is in the list of these bounds
among_taken : (bounds : List ℕ) (count x : ℕ) → count ≤ length bounds → IsAmong bounds count x → Contains (take count bounds) x
among_taken bounds count x fits (index, index_below_count, bound_is_x) = (
  index,
  omega (arith, index_below_count, length-take-le count bounds fits),
  get_or-take count bounds index x index_below_count ∙ get_or_default_zero bounds index x (omega (arith, index_below_count)) ∙ bound_is_x,
)

-- after all sixteen ranges, both ends of each range with a byte are among the bounds
pub all_bounds_written : (ranges : EntryRanges) (bounds : List ℕ) (count number : ℕ) → count ≤ length bounds → 16 ≤ number
    → AreWritten ranges bounds count number → AreBounds ranges (take count bounds)
all_bounds_written ranges bounds count number count_fits all_ranges so_far = record {
  from = λ entry in_range has_byte. among_taken bounds count _ count_fits (so_far.from entry (omega (arith, in_range, all_ranges)) has_byte);
  to = λ entry in_range has_byte. among_taken bounds count _ count_fits (so_far.to entry (omega (arith, in_range, all_ranges)) has_byte);
  last = among_taken bounds count _ count_fits (0, so_far.not_empty, so_far.last);
}

-- After the range of the entry `number` was set to the bytes that the entry covers, the first `number + 1` ranges have the bytes that their entries
-- cover. (The first `number` ranges had them before.)
pub one_more_range : (entries : Entries) (ranges : EntryRanges) (number from to : ℕ) → number < length ranges.from → number < length ranges.to
    → ((entry byte : ℕ) → entry < number → covers entries entry byte ≡ is_within ranges entry byte)
    → ((byte : ℕ) → covers entries number byte ≡ (nat_le from byte && nat_lt byte to)) → (entry byte : ℕ) → entry < number + 1
    → covers entries entry byte ≡ is_within (record { from = slice_set ranges.from number from; to = slice_set ranges.to number to }) entry byte
one_more_range entries ranges number from to from_fits to_fits so_far new_range_is entry byte below_next = elim (cases_eq entry number) [
  | inl is_new ↦ rw (is_new, get_or-set_same ranges.from number from 0 from_fits, get_or-set_same ranges.to number to 0 to_fits) (new_range_is byte)
  | inr is_older ↦ rw (get_or-set_other ranges.from number entry from 0 is_older, get_or-set_other ranges.to number entry to 0 is_older)
      (so_far entry byte (omega (arith, below_next, is_older)))
]
