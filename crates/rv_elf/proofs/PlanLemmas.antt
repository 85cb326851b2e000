-- A plan is valid if its segments and their positions in memory have no error, and the error of a refused file is the first in the table.
use Rattle.std.proofs.Common.{◌≡◌, ℕ, ◌<◌, ◌%◌, ◌==◌, Bool, true, false, not, ◌||◌, List, [], ◌∷◌, ◌++◌, length, Some, None, Err, refl, inl, inr, arith}
use Rattle.std.proofs.lemmas.Bool.{or_parts, or_from, and_from, cases_Bool}
use Rattle.std.proofs.lemmas.Grind.{common_steps}
use Rattle.std.specs.List.{list_any, list_all, filter}
use Rattle.rv_elf.specs.declared.elf_fault.ElfFault.{ElfFault}
use Rattle.rv_elf.specs.declared.elf_fault.ElfFault.TheVariants.{SegmentOutside}
use Rattle.rv_elf.specs.declared.segment.Segment.{Segment}
use Rattle.rv_elf.specs.Fields.{e_entry}
use Rattle.rv_elf.specs.Faults.{first_fault, segment_faults, place_faults, is_bad_entry, header_faults, raw_fault}
use Rattle.rv_elf.specs.Places.{has_place}
use Rattle.rv_elf.specs.Plans.{LoadPlan, IsValidPlan, fits, file_plan}
use Rattle.rv_elf.specs.Segments.{is_truncated, is_oversized, is_outside, has_overlap, occupying, raw_segments, segments_of}
use Rattle.rv_elf.proofs.FirstFaults.{no_fault_parts, none_before, some_before}

-- if no element of a list passes a test, then none of the elements that are kept of it does (by induction over the list)
any-filter : {X : Type 0} (test is_kept : X → Bool) (xs : List X) → list_any test xs ≡ false → list_any test (filter is_kept xs) ≡ false
any-filter test is_kept [] none_passes = refl
any-filter test is_kept (x ∷ xs) none_passes =
    let both_fail = or_parts (test x) (list_any test xs) none_passes in
    elim (cases_Bool (is_kept x)) [
      | inl x_is_kept ↦ rw x_is_kept (or_from (test x) _ both_fail.0 (any-filter test is_kept xs both_fail.1))
      | inr x_is_dropped ↦ rw x_is_dropped (any-filter test is_kept xs both_fail.1)
    ]

-- if no segment is truncated, oversized or outside the usable memory, then all segments fit (by induction over the segments)
all_fit : (image_size ram_size : ℕ) (monitored : Bool) (segments : List Segment) → list_any (is_truncated image_size) segments ≡ false
    → list_any is_oversized segments ≡ false → list_any (is_outside ram_size monitored) segments ≡ false
    → list_all (fits image_size ram_size monitored) segments ≡ true
all_fit image_size ram_size monitored [] none_truncated none_oversized none_outside = refl
all_fit image_size ram_size monitored (segment ∷ segments) none_truncated none_oversized none_outside =
    let not_truncated = or_parts (is_truncated image_size segment) _ none_truncated in
    let not_oversized = or_parts (is_oversized segment) _ none_oversized in
    let not_outside = or_parts (is_outside ram_size monitored segment) _ none_outside in
    and_from (fits image_size ram_size monitored segment) _
    (rw (not_truncated.0, not_oversized.0, not_outside.0) refl)
    (all_fit image_size ram_size monitored segments not_truncated.1 not_oversized.1 not_outside.1)

-- an entry that is not bad is a multiple of 4
entry_aligned : (entry : ℕ) (entry_is_usable : Bool) → (not (entry % 4 == 0) || not entry_is_usable) ≡ false → entry % 4 ≡ 0
entry_aligned entry entry_is_usable entry_is_good = grind (arith, common_steps)

-- an image may use the four bytes at an entry that is not bad
entry_placed : (is_aligned entry_is_usable : Bool) → (not is_aligned || not entry_is_usable) ≡ false → entry_is_usable ≡ true
entry_placed is_aligned entry_is_usable entry_is_good = grind (arith, common_steps)

-- if no segment has an error in its part of the image, none of those that occupy memory has one
pub occupying_have_no_fault : (image_size : ℕ) (segments : List Segment) → first_fault (segment_faults image_size segments) ≡ None
    → first_fault (segment_faults image_size (occupying segments)) ≡ None
unfolding segment_faults occupying
occupying_have_no_fault image_size segments segments_have_no_fault =
    let truncation_rows = no_fault_parts (list_any (is_truncated image_size) segments) _ _ segments_have_no_fault in
    let size_rows = no_fault_parts (list_any is_oversized segments) _ _ truncation_rows.1 in
    rw (any-filter (is_truncated image_size) _ segments truncation_rows.0, any-filter is_oversized _ segments size_rows.0) refl

-- a plan is valid if neither its segments nor their positions in memory have an error: each row of the two tables gives one part of the claim
pub is_valid : (plan : LoadPlan) → first_fault (segment_faults plan.image_size plan.segments) ≡ None
    → first_fault (place_faults plan.ram_size plan.monitored plan.segments plan.entry) ≡ None → IsValidPlan plan
unfolding segment_faults place_faults
is_valid plan segments_have_no_fault places_have_no_fault =
    -- each value has the test of one row, which fails, and the rows after it, which have no error
    let truncation = no_fault_parts (list_any (is_truncated plan.image_size) plan.segments) _ _ segments_have_no_fault in
    let sizes = no_fault_parts (list_any is_oversized plan.segments) _ _ truncation.1 in
    let outside = no_fault_parts (list_any (is_outside plan.ram_size plan.monitored) plan.segments) _ _ places_have_no_fault in
    let overlap = no_fault_parts (has_overlap plan.segments) _ _ outside.1 in
    let entry_is_good = (no_fault_parts (is_bad_entry plan.ram_size plan.monitored plan.entry) _ _ overlap.1).0 in
    let entry_is_usable = has_place plan.ram_size plan.monitored plan.entry 4 in (
      all_fit plan.image_size plan.ram_size plan.monitored plan.segments truncation.0 sizes.0 outside.0,
      overlap.0,
      entry_aligned plan.entry entry_is_usable entry_is_good,
      entry_placed (plan.entry % 4 == 0) entry_is_usable entry_is_good,
    )

-- a raw image that is larger than the RAM has the error SegmentOutside
pub raw_outside : (len ram_size : ℕ) (monitored : Bool) → ram_size < len → raw_fault len ram_size monitored ≡ Some SegmentOutside
unfolding place_faults occupying
raw_outside len ram_size true larger_than_ram = grind (arith, common_steps)
raw_outside len ram_size false larger_than_ram = grind (arith, common_steps)

-- the segment of a raw image has no error in its part of the image: it is the whole image
pub raw_segments_have_no_fault : (len : ℕ) (monitored : Bool) → first_fault (segment_faults len (raw_segments len monitored)) ≡ None
unfolding segment_faults occupying
raw_segments_have_no_fault len monitored = grind (arith, common_steps)

-- `file_place_faults` has the rows of the table of an ELF file for the positions in memory
abbrev file_place_faults : List ℕ → ℕ → Bool → List (Bool × ElfFault)
file_place_faults file ram_size monitored = place_faults ram_size monitored (occupying (segments_of file)) (e_entry file)

-- `later_faults` has the rows of the table of an ELF file after those of the header
abbrev later_faults : List ℕ → ℕ → Bool → List (Bool × ElfFault)
later_faults file ram_size monitored = segment_faults (length file) (segments_of file) ++ file_place_faults file ram_size monitored

-- if the header has an error, the file is refused with this error
pub header_fault_first : (file : List ℕ) (ram_size : ℕ) (monitored : Bool) (fault : ElfFault)
    → first_fault (header_faults file) ≡ Some fault → file_plan file ram_size monitored ≡ Err fault
unfolding header_faults
header_fault_first file ram_size monitored fault fault_found =
    rw (some_before (header_faults file) (later_faults file ram_size monitored) fault fault_found) refl

-- if the header has no error and the segments have one, the file is refused with the first error of the segments
pub segment_fault_first : (file : List ℕ) (ram_size : ℕ) (monitored : Bool) (fault : ElfFault) → first_fault (header_faults file) ≡ None
    → first_fault (segment_faults (length file) (segments_of file)) ≡ Some fault → file_plan file ram_size monitored ≡ Err fault
unfolding header_faults
segment_fault_first file ram_size monitored fault header_has_no_fault fault_found =
    rw (
      none_before (header_faults file) (later_faults file ram_size monitored) header_has_no_fault,
      some_before (segment_faults (length file) (segments_of file)) (file_place_faults file ram_size monitored) fault fault_found,
    ) refl

-- if the header and the segments have no error and the positions in memory have one, the file is refused with the first error of the positions
pub place_fault_first : (file : List ℕ) (ram_size : ℕ) (monitored : Bool) (fault : ElfFault) → first_fault (header_faults file) ≡ None
    → first_fault (segment_faults (length file) (segments_of file)) ≡ None
    → first_fault (file_place_faults file ram_size monitored) ≡ Some fault → file_plan file ram_size monitored ≡ Err fault
unfolding header_faults
place_fault_first file ram_size monitored fault header_has_no_fault segments_have_no_fault fault_found =
    rw (
      none_before (header_faults file) (later_faults file ram_size monitored) header_has_no_fault,
      none_before (segment_faults (length file) (segments_of file)) (file_place_faults file ram_size monitored) segments_have_no_fault,
      fault_found,
    ) refl

-- the file is refused with the first error of a group of rows, if the groups before it have none
pub ruleset fault_first = (header_fault_first, segment_fault_first, place_fault_first)
