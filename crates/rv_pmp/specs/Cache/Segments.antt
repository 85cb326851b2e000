-- The address space in segments, each with the matching entry of its bytes. (Not defined by the manual. No public contract names it.)
use Rattle.std.specs.Prelude.{ℕ, ◌-◌, ◌<◌, ◌≤◌, ◌^◌, ◌≡◌, ◌==◌, ◌&&◌, nat_le, nat_lt, Bool, true, if◌then◌else◌}
use Rattle.std.specs.Prelude.{List, Option, Some, None, min, slice_index, slice_index_or}
use Rattle.std.specs.List.{range_with_len, find, Contains}
use Rattle.rv_pmp.specs.declared.entry_ranges.EntryRanges.{EntryRanges}
use Rattle.rv_pmp.specs.declared.segments.Segments.{Segments}
use Rattle.rv_pmp.specs.Entries.{Entries}
use Rattle.rv_pmp.specs.Covers.{covers}
use Rattle.rv_pmp.specs.Verdicts.{match_verdict, no_match_verdict}
use Rattle.rv_pmp.specs.declared.mode.Mode.{Mode}
use Rattle.rv_pmp.specs.declared.access.Access.{Access}
use Rattle.rv_pmp.specs.declared.verdict.Verdict.{Verdict}
use Rattle.rv_pmp.specs.declared.verdict.Verdict.TheVariants.{DeniedPartial}

-- `byte_match` is the matching entry of a byte: the lowest of the sixteen that covers it, or none
unfoldable pub byte_match : (ℕ → ℕ → Bool) → ℕ → Option ℕ
byte_match covering byte = find (λ entry. covering entry byte) (range_with_len 0 16)

-- `is_within` states whether the range of an entry has a byte
abbrev pub is_within : EntryRanges → ℕ → ℕ → Bool
is_within ranges entry byte = nat_le (slice_index ranges.from entry) byte && nat_lt byte (slice_index ranges.to entry)

-- the ranges are those of the entries
abbrev pub AreRanges : Entries → EntryRanges → Type 0
AreRanges entries ranges = (entry byte : ℕ) → entry < 16 → covers entries entry byte ≡ is_within ranges entry byte

-- Both ends of each nonempty range are among the bounds, and so is 2^35, above which no entry matches a byte. The largest block of an entry is that
-- of NAPOT with all 32 bits of pmpaddr set: 8 * 2^32 bytes from 0 on.
pub record AreBounds (ranges : EntryRanges) (bounds : List ℕ) : Type 0 where
  -- the first address of each nonempty range is a bound
  pub from : (entry : ℕ) → entry < 16 → slice_index ranges.from entry < slice_index ranges.to entry → Contains bounds (slice_index ranges.from entry)
  -- the end of each nonempty range is a bound
  pub to : (entry : ℕ) → entry < 16 → slice_index ranges.from entry < slice_index ranges.to entry → Contains bounds (slice_index ranges.to entry)
  -- the address 2^35 is a bound
  pub last : Contains bounds (2 ^ 35)

-- `start_of` is the start of a segment: the end of the one before it, or 0
abbrev pub start_of : Segments → ℕ → ℕ
start_of segments segment = if segment == 0 then 0 else slice_index segments.ends (segment - 1)

-- `reach_of` is the end of the last segment
abbrev pub reach_of : Segments → ℕ
reach_of segments = start_of segments segments.count

-- there are at most 33 segments, and none is empty
pub record AreInOrder (segments : Segments) : Type 0 where
  -- there are at most 33 segments
  pub at_most : segments.count ≤ 33
  -- each segment starts before it ends
  pub ascending : (segment : ℕ) → segment < segments.count → start_of segments segment < slice_index segments.ends segment

-- each byte of a segment has the matching entry of the segment
abbrev pub AreMatched : (ℕ → ℕ → Bool) → Segments → Type 0
AreMatched covering segments =
    (segment byte : ℕ) → segment < segments.count → start_of segments segment ≤ byte → byte < slice_index segments.ends segment →
    byte_match covering byte ≡ slice_index_or segments.byte_matches segment None

-- The segments are those of the entries, and have every address below 2^35. No entry matches a byte at 2^35 or above.
unfoldable pub AreSegments : Entries → Segments → Type 0
AreSegments entries segments =
    AreInOrder segments × (2 ^ 35 ≤ reach_of segments) × AreMatched (covers entries) segments

-- `verdict_of_one` is the verdict on an access all of whose bytes have the same matching entry
abbrev pub verdict_of_one : Entries → Mode → Access → Option ℕ → Verdict
verdict_of_one entries mode access None = no_match_verdict mode
verdict_of_one entries mode access (Some entry) = match_verdict entries mode access entry true

-- `verdict_of_two` is the verdict on an access of at most four bytes whose first and last bytes have these matching entries
abbrev pub verdict_of_two : Entries → Mode → Access → Option ℕ → Option ℕ → Verdict
verdict_of_two entries mode access None None = no_match_verdict mode
verdict_of_two entries mode access (Some entry) None = DeniedPartial entry
verdict_of_two entries mode access None (Some entry) = DeniedPartial entry
verdict_of_two entries mode access (Some first_entry) (Some last_entry) =
    match_verdict entries mode access (min first_entry last_entry) (first_entry == last_entry)
