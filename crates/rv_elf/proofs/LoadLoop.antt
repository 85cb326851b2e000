-- The loop that loads the segments of a plan, one after the other: its invariant holds at first, is preserved, and gives the memory of the plan.
use Rattle.std.proofs.Common.{◌≡◌, ◌∙◌, ℕ, ◌+◌, ◌<◌, ◌≤◌, true, false, List, [], ◌∷◌, length, drop, slice_index_or, refl, sym}
use Rattle.std.proofs.Math.ListN.{drop_of_length-le}
use Rattle.std.proofs.lemmas.List.{drop_more}
use Rattle.std.specs.List.{list_all, list_any}
use Rattle.std.proofs.lemmas.Bool.{or_parts, and_parts}
use Rattle.rv_elf.specs.declared.segment.Segment.{Segment}
use Rattle.rv_elf.specs.Loaded.{loaded_memory}
use Rattle.rv_elf.specs.Plans.{LoadPlan, IsValidPlan, fits}
use Rattle.rv_elf.specs.Places.{lies_inside}
use Rattle.rv_elf.specs.Segments.{has_overlap, share_a_byte}
use Rattle.rv_elf.proofs.LoadedBytes.{fits_parts, length-loaded_memory, load_first, load_none}

-- The invariant of the loop over the segments of a plan. `before` is the memory before the loop, `memory` the present one, and `rest` has the
-- segments that are not yet loaded. If these are loaded, the memory is that of the whole plan. They fit, and share no byte.
unfoldable pub LoadInvariant : List ℕ → LoadPlan → List ℕ → List Segment → List ℕ → Type 0
LoadInvariant image plan before rest memory =
    (loaded_memory image rest memory ≡ loaded_memory image plan.segments before)
    × (length memory ≡ length before)
    × (list_all (fits plan.image_size plan.ram_size plan.monitored) rest ≡ true)
    × (has_overlap rest ≡ false)

-- the invariant holds before the loop, when all segments of the plan are left to load
pub loads_begin : (image : List ℕ) (plan : LoadPlan) (before : List ℕ) → IsValidPlan plan
    → LoadInvariant image plan before plan.segments before
unfolding LoadInvariant
loads_begin image plan before plan_is_valid = (refl, refl, plan_is_valid.0, plan_is_valid.1)

-- the invariant holds for the other segments after the first segment of the rest is loaded
invariant_for_others : (image : List ℕ) (plan : LoadPlan) (before memory : List ℕ) (segment : Segment) (others : List Segment)
    → LoadInvariant image plan before (segment ∷ others) memory
    → LoadInvariant image plan before others (loaded_memory image (segment ∷ []) memory)
unfolding LoadInvariant
invariant_for_others image plan before memory segment others invariant =
    let no_overlap = or_parts (list_any (share_a_byte segment) others) (has_overlap others) invariant.3 in (
      load_first image segment others memory no_overlap.0 ∙ invariant.0,
      length-loaded_memory image (segment ∷ []) memory ∙ invariant.1,
      (and_parts (fits plan.image_size plan.ram_size plan.monitored segment) _ invariant.2).1,
      no_overlap.1,
    )

-- the memory has the same size as before the loop
pub loads_size : (image : List ℕ) (plan : LoadPlan) (before memory : List ℕ) (rest : List Segment)
    → LoadInvariant image plan before rest memory → length memory ≡ length before
unfolding LoadInvariant
loads_size image plan before memory rest invariant = invariant.1

-- the segment at the index of the loop fits the image and the RAM
pub loads_fits : (image : List ℕ) (plan : LoadPlan) (before memory : List ℕ) (index : ℕ) (default : Segment) → index < length plan.segments
    → LoadInvariant image plan before (drop index plan.segments) memory
    → fits plan.image_size plan.ram_size plan.monitored (slice_index_or plan.segments index default) ≡ true
unfolding LoadInvariant
loads_fits image plan before memory index default index_in_bounds invariant =
    let at_segment = rw (drop_more plan.segments index default index_in_bounds) at invariant in
    (and_parts (fits plan.image_size plan.ram_size plan.monitored (slice_index_or plan.segments index default)) _ at_segment.2).0

-- the segment at the index of the loop is inside RAM
pub loads_inside : (image : List ℕ) (plan : LoadPlan) (before memory : List ℕ) (index : ℕ) (default : Segment) → index < length plan.segments
    → LoadInvariant image plan before (drop index plan.segments) memory
    → lies_inside plan.ram_size (slice_index_or plan.segments index default).address (slice_index_or plan.segments index default).memory_size ≡ true
loads_inside image plan before memory index default index_in_bounds invariant =
    let segment_fits = loads_fits image plan before memory index default index_in_bounds invariant in
    (fits_parts plan.image_size plan.ram_size plan.monitored (slice_index_or plan.segments index default) segment_fits).0

-- the invariant holds for the next index after the segment at the index is loaded
pub loads_more : (image : List ℕ) (plan : LoadPlan) (before memory : List ℕ) (index : ℕ) (default : Segment) → index < length plan.segments
    → LoadInvariant image plan before (drop index plan.segments) memory
    → LoadInvariant image plan before (drop (index + 1) plan.segments)
    (loaded_memory image (slice_index_or plan.segments index default ∷ []) memory)
loads_more image plan before memory index default index_in_bounds invariant =
    invariant_for_others image plan before memory (slice_index_or plan.segments index default) (drop (index + 1) plan.segments)
    (rw (drop_more plan.segments index default index_in_bounds) at invariant)

-- after the loop, the memory is that of the whole plan: no segment is left to load
pub loads_end : (image : List ℕ) (plan : LoadPlan) (before memory : List ℕ) (index : ℕ) → length plan.segments ≤ index
    → LoadInvariant image plan before (drop index plan.segments) memory → memory ≡ loaded_memory image plan.segments before
unfolding LoadInvariant
loads_end image plan before memory index index_at_end invariant =
    let no_segment_left : drop index plan.segments ≡ [] = drop_of_length-le plan.segments index_at_end in
    let memory_is = rw no_segment_left at invariant.0 in
    sym (load_none image memory) ∙ memory_is

-- the facts about the loop over the segments: the start, each iteration, and the end
pub ruleset loading = (loads_begin, loads_fits, loads_inside, loads_more, loads_end, loads_size)
