-- The memory after segments are loaded, byte by byte: each byte of a segment is loaded, every other byte is unchanged, and so are reserved bytes.
use Rattle.std.proofs.Common.{◌≡◌, ◌∙◌, sym, ℕ, zero, suc, ◌+◌, ◌-◌, ◌<◌, ◌≤◌, Bool, true, false, not, ◌&&◌, List, [], ◌∷◌, length}
use Rattle.std.proofs.Common.{map, slice_index, Some, None, refl, ap, inl, inr, true≢false, arith}
use Rattle.std.specs.List.{range_with_len, find, list_any, list_all, Contains}
use Rattle.std.proofs.lemmas.Bool.{or_parts, or_from, and_parts, cases_Bool}
use Rattle.std.proofs.lemmas.Grind.{common_steps, same_number_lists}
use Rattle.std.proofs.lemmas.Option.{none-some}
use Rattle.std.proofs.lemmas.List.FromFn.{get_or-map-range_with_len, length-map-range_with_len}
use Rattle.rv_memory.specs.Memory.{ram_base, byte_at, is_inside}
use Rattle.rv_memory.proofs.MemoryLaws.{byte_at-index}
use Rattle.rv_elf.specs.declared.segment.Segment.{Segment}
use Rattle.rv_elf.specs.Loaded.{loaded_memory, byte_after, KeepsReserved, LoadsEach}
use Rattle.rv_elf.specs.Places.{is_reserved, lies_inside, meets_reserved}
use Rattle.rv_elf.specs.Plans.{LoadPlan, IsValidPlan, fits}
use Rattle.rv_elf.specs.Segments.{has_address, share_a_byte, has_overlap, is_truncated, is_oversized}
use Rattle.rv_elf.proofs.ReservedBytes.{not_reserved}
use Rattle.rv_elf.proofs.SharedBytes.{not_in_other}

-- ---- the memory as a list

-- two functions that agree on a range of numbers have the same list of values on it
map_same : (f g : ℕ → ℕ) (first count : ℕ) → ((number : ℕ) → first ≤ number → number < first + count → f number ≡ g number)
    → map f (range_with_len first count) ≡ map g (range_with_len first count)
map_same f g first zero agree = refl
map_same f g first (suc count) agree =
    let agree_on_rest = map_same f g (first + 1) count (λ number not_below is_below. agree number (omega arith) (omega arith)) in
    rw (agree first (omega arith) (omega arith), agree_on_rest) refl

-- loading does not change the size of the memory
pub length-loaded_memory : (image : List ℕ) (segments : List Segment) (memory : List ℕ)
    → length (loaded_memory image segments memory) ≡ length memory
unfolding loaded_memory
length-loaded_memory image segments memory = length-map-range_with_len (byte_after image segments memory) ram_base (length memory)

-- the byte at an address in RAM after loading is the byte that `byte_after` gives
pub loaded_at : (image : List ℕ) (segments : List Segment) (memory : List ℕ) (address : ℕ) → ram_base ≤ address
    → address < ram_base + length memory
    → slice_index (loaded_memory image segments memory) (address - ram_base) ≡ byte_after image segments memory address
unfolding loaded_memory
loaded_at image segments memory address not_below_ram below_ram_end =
    get_or-map-range_with_len (byte_after image segments memory) ram_base (length memory) (address - ram_base) address 0
    (omega (arith, not_below_ram, below_ram_end)) (omega (arith, not_below_ram))

-- ---- a segment, and the other segments after it

-- a search finds nothing if no element passes the test (by induction over the list)
pub find_none : {X : Type 0} (test : X → Bool) (xs : List X) → list_any test xs ≡ false → find test xs ≡ None
find_none test [] none_passes = refl
find_none test (x ∷ xs) none_passes =
    let both_fail = or_parts (test x) (list_any test xs) none_passes in
    rw both_fail.0 (find_none test xs both_fail.1)

-- if a segment shares no byte with the others, an address of the segment is not an address of another (by induction over the others)
not_in_others : (segment : Segment) (others : List Segment) (address : ℕ) → list_any (share_a_byte segment) others ≡ false
    → has_address address segment ≡ true → list_any (has_address address) others ≡ false
not_in_others segment [] address shares_no_byte is_in_segment = refl
not_in_others segment (other ∷ others) address shares_no_byte is_in_segment =
    let both_share_none = or_parts (share_a_byte segment other) (list_any (share_a_byte segment) others) shares_no_byte in
    rw (not_in_other segment other address both_share_none.0 is_in_segment)
    (not_in_others segment others address both_share_none.1 is_in_segment)

-- if a segment shares no byte with the others, a search of the others for an address of the segment finds nothing
pub not_found_in_others : (segment : Segment) (others : List Segment) (address : ℕ) → list_any (share_a_byte segment) others ≡ false
    → has_address address segment ≡ true → find (has_address address) others ≡ None
not_found_in_others segment others address shares_no_byte is_in_segment =
    find_none (has_address address) others (not_in_others segment others address shares_no_byte is_in_segment)

-- if a segment shares no byte with the others, to load it before the others gives the same bytes as to load all together
byte_after-first : (image : List ℕ) (segment : Segment) (others : List Segment) (memory : List ℕ) (address : ℕ) → ram_base ≤ address
    → address < ram_base + length memory → list_any (share_a_byte segment) others ≡ false
    → byte_after image others (loaded_memory image (segment ∷ []) memory) address ≡ byte_after image (segment ∷ others) memory address
byte_after-first image segment others memory address not_below_ram below_ram_end shares_no_byte =
    let byte_of_segment = loaded_at image (segment ∷ []) memory address not_below_ram below_ram_end in
    elim (cases_Bool (has_address address segment)) [
      | inl is_in_segment ↦
          let not_found = not_found_in_others segment others address shares_no_byte is_in_segment in
          rw (byte_of_segment, is_in_segment, not_found) refl
      | inr is_not_in_segment ↦ rw (byte_of_segment, is_not_in_segment) refl
    ]

-- to load a segment and then the others, with which it shares no byte, is to load all together
pub load_first : (image : List ℕ) (segment : Segment) (others : List Segment) (memory : List ℕ)
    → list_any (share_a_byte segment) others ≡ false
    → loaded_memory image others (loaded_memory image (segment ∷ []) memory) ≡ loaded_memory image (segment ∷ others) memory
unfolding loaded_memory
load_first image segment others memory shares_no_byte =
    let loaded_first = byte_after image others (loaded_memory image (segment ∷ []) memory) in
    let loaded_together = byte_after image (segment ∷ others) memory in
    rw (length-loaded_memory image (segment ∷ []) memory)
    (map_same loaded_first loaded_together ram_base (length memory) (λ address not_below_ram below_ram_end.
    byte_after-first image segment others memory address not_below_ram below_ram_end shares_no_byte))

-- without segments, loading does not change the memory
pub load_none : (image memory : List ℕ) → loaded_memory image [] memory ≡ memory
load_none image memory =
    same_number_lists (loaded_memory image [] memory) memory (length-loaded_memory image [] memory)
    (λ index is_below. let in_memory : index < length memory = rw (length-loaded_memory image [] memory) at is_below in
    let byte_is : slice_index (loaded_memory image [] memory) (ram_base + index - ram_base) ≡ slice_index memory (ram_base + index - ram_base) =
    loaded_at image [] memory (ram_base + index) (omega arith) (omega (arith, in_memory)) in
    let index_is : ram_base + index - ram_base ≡ index = omega arith in
    rw index_is at byte_is)

-- ---- segments that share no byte

-- if no two segments share a byte, a search for an address of a segment finds this segment (by induction over the segments)
pub segment_found : (segments : List Segment) (segment : Segment) (address : ℕ) → has_overlap segments ≡ false
    → Contains segments segment → has_address address segment ≡ true → find (has_address address) segments ≡ Some segment
segment_found [] segment address no_overlap (index, index_in_bounds, segment_at_index) is_in_segment = absurd (omega (arith, index_in_bounds))
segment_found (first ∷ others) segment address no_overlap (zero, index_in_bounds, segment_at_index) is_in_segment =
    rw (ap (has_address address) segment_at_index ∙ is_in_segment) (ap Some segment_at_index)
segment_found (first ∷ others) segment address no_overlap (suc index, index_in_bounds, segment_at_index) is_in_segment =
    let first_is_apart = or_parts (list_any (share_a_byte first) others) (has_overlap others) no_overlap in
    let found_in_others =
    segment_found others segment address first_is_apart.1 (index, omega (arith, index_in_bounds), segment_at_index) is_in_segment in
    elim (cases_Bool (has_address address first)) [
      | inl is_in_first ↦
          let not_found = not_found_in_others first others address first_is_apart.0 is_in_first in
          absurd (none-some segment (sym not_found ∙ found_in_others))
      | inr is_not_in_first ↦ rw is_not_in_first found_in_others
    ]

-- if all segments pass a test, each segment of the list passes it
passes_if_all_pass : (test : Segment → Bool) (segments : List Segment) (segment : Segment) → list_all test segments ≡ true
    → Contains segments segment → test segment ≡ true
passes_if_all_pass test [] segment all_pass (index, index_in_bounds, segment_at_index) = absurd (omega (arith, index_in_bounds))
passes_if_all_pass test (first ∷ others) segment all_pass (zero, index_in_bounds, segment_at_index) =
    ap test (sym segment_at_index) ∙ (and_parts (test first) _ all_pass).0
passes_if_all_pass test (first ∷ others) segment all_pass (suc index, index_in_bounds, segment_at_index) =
    passes_if_all_pass test others segment (and_parts (test first) _ all_pass).1 (index, omega (arith, index_in_bounds), segment_at_index)

-- an address of a segment that fits is in RAM
in_ram : (memory : List ℕ) (image_size address : ℕ) (monitored : Bool) (segment : Segment)
    → fits image_size (length memory) monitored segment ≡ true → has_address address segment ≡ true → is_inside memory address 1 ≡ true
in_ram memory image_size address monitored segment segment_fits is_in_segment = grind (arith, common_steps)

-- an address in RAM is not below the first address of RAM, and is below its end
ram_bounds : (memory : List ℕ) (address : ℕ) → is_inside memory address 1 ≡ true
    → (ram_base ≤ address) × (address < ram_base + length memory)
ram_bounds memory address address_in_ram = (grind (arith, common_steps), grind (arith, common_steps))

-- the memory after loading has, at an address in RAM, the byte that `byte_after` gives
byte_loaded : (image : List ℕ) (segments : List Segment) (memory : List ℕ) (address : ℕ) → is_inside memory address 1 ≡ true
    → byte_at (loaded_memory image segments memory) address ≡ Some (byte_after image segments memory address)
byte_loaded image segments memory address address_in_ram =
    let bounds = ram_bounds memory address address_in_ram in
    rw (
      byte_at-index (loaded_memory image segments memory) address,
      length-loaded_memory image segments memory,
      address_in_ram,
      loaded_at image segments memory address bounds.0 bounds.1,
    ) refl

-- loading does not change what is at an address outside RAM
byte_outside : (image : List ℕ) (segments : List Segment) (memory : List ℕ) (address : ℕ) → is_inside memory address 1 ≡ false
    → byte_at (loaded_memory image segments memory) address ≡ byte_at memory address
byte_outside image segments memory address not_in_ram =
    let after = loaded_memory image segments memory in
    rw (byte_at-index after address, byte_at-index memory address, length-loaded_memory image segments memory, not_in_ram) refl

-- after the segments of a valid plan are loaded, each byte of a segment is loaded, and every other byte is unchanged
pub loads_each : (image : List ℕ) (plan : LoadPlan) (old : List ℕ) → IsValidPlan plan → length old ≡ plan.ram_size
    → LoadsEach image plan.segments old (loaded_memory image plan.segments old)
loads_each image plan old plan_is_valid ram_size_is = record {
  size = length-loaded_memory image plan.segments old;
  inside = λ segment address contains is_in_segment.
      let segment_fits =
      rw (sym ram_size_is)
      at (passes_if_all_pass (fits plan.image_size plan.ram_size plan.monitored) plan.segments segment plan_is_valid.0 contains) in
      byte_loaded image plan.segments old address (in_ram old plan.image_size address plan.monitored segment segment_fits is_in_segment)
      ∙ rw (segment_found plan.segments segment address plan_is_valid.1 contains is_in_segment) refl;
  elsewhere = λ address in_no_segment. elim (cases_Bool (is_inside old address 1)) [
    | inl address_in_ram ↦ byte_loaded image plan.segments old address address_in_ram
        ∙ rw (find_none (has_address address) plan.segments in_no_segment, byte_at-index old address, address_in_ram) refl
    | inr not_in_ram ↦ byte_outside image plan.segments old address not_in_ram
  ];
}

-- ---- the reserved bytes

-- a segment that is neither truncated nor oversized, and is inside RAM apart from the reserved range, is inside RAM and does not meet that range
fits_by_tests : (truncated oversized inside meets : Bool) → (not truncated && not oversized && not (not (inside && not meets))) ≡ true
    → (inside ≡ true) × (meets ≡ false)
fits_by_tests truncated oversized inside meets segment_fits = (grind (arith, common_steps), grind (arith, common_steps))

-- a segment that fits is inside RAM, and does not meet the reserved range
pub fits_parts : (image_size ram_size : ℕ) (monitored : Bool) (segment : Segment) → fits image_size ram_size monitored segment ≡ true
    → (lies_inside ram_size segment.address segment.memory_size ≡ true) × (meets_reserved monitored segment.address segment.memory_size ≡ false)
fits_parts image_size ram_size monitored segment segment_fits =
    fits_by_tests (is_truncated image_size segment) (is_oversized segment) (lies_inside ram_size segment.address segment.memory_size)
    (meets_reserved monitored segment.address segment.memory_size) segment_fits

-- a segment that fits has no reserved address
reserved_not_in_segment : (image_size ram_size address : ℕ) (monitored : Bool) (segment : Segment)
    → fits image_size ram_size monitored segment ≡ true → is_reserved monitored address ≡ true → has_address address segment ≡ false
reserved_not_in_segment image_size ram_size address monitored segment segment_fits address_is_reserved =
    let avoids_reserved = (fits_parts image_size ram_size monitored segment segment_fits).1 in
    elim (cases_Bool (has_address address segment)) [
      | inl is_in_segment ↦
          absurd (true≢false (sym address_is_reserved ∙ not_reserved monitored segment address avoids_reserved is_in_segment))
      | inr is_not_in_segment ↦ is_not_in_segment
    ]

-- if all segments fit, none of them has a reserved address (by induction over the segments)
reserved_in_no_segment : (image_size ram_size address : ℕ) (monitored : Bool) (segments : List Segment)
    → list_all (fits image_size ram_size monitored) segments ≡ true
    → is_reserved monitored address ≡ true → list_any (has_address address) segments ≡ false
reserved_in_no_segment image_size ram_size address monitored [] segments_fit address_is_reserved = refl
reserved_in_no_segment image_size ram_size address monitored (segment ∷ segments) segments_fit address_is_reserved =
    let both_fit = and_parts (fits image_size ram_size monitored segment) _ segments_fit in
    or_from (has_address address segment) _
    (reserved_not_in_segment image_size ram_size address monitored segment both_fit.0 address_is_reserved)
    (reserved_in_no_segment image_size ram_size address monitored segments both_fit.1 address_is_reserved)

-- loading the segments of a valid plan does not change the bytes at reserved addresses: no segment has such an address
pub keeps_reserved : (image : List ℕ) (plan : LoadPlan) (old : List ℕ) → IsValidPlan plan → length old ≡ plan.ram_size
    → KeepsReserved plan.monitored old (loaded_memory image plan.segments old)
keeps_reserved image plan old plan_is_valid ram_size_is = λ address address_is_reserved.
    (loads_each image plan old plan_is_valid ram_size_is).elsewhere address
    (reserved_in_no_segment plan.image_size plan.ram_size address plan.monitored plan.segments plan_is_valid.0 address_is_reserved)
