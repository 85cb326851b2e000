-- The segments of a file, read from one program header after the other, and those of them that occupy memory.
use Rattle.std.proofs.Common.{◌≡◌, ◌≢◌, ◌∙◌, ℕ, ◌+◌, ◌*◌, ◌<◌, not, take, length, slice_index_or, arith, List, [], ◌∷◌, ◌++◌, map, cond, refl}
use Rattle.std.specs.List.{filter, range_with_len}
use Rattle.std.proofs.lemmas.Bool.{eq-eqb, ne_eqb}
use Rattle.std.proofs.lemmas.List.{map-append, append-nil}
use Rattle.std.proofs.lemmas.List.Elements.{filter_more}
use Rattle.std.proofs.lemmas.List.FromFn.{filter_of_map_range_with_len_more}
use Rattle.rv_elf.specs.declared.segment.Segment.{Segment}
use Rattle.rv_elf.specs.Fields.{e_phoff, p_type, pt_load}
use Rattle.rv_elf.specs.Segments.{is_load, segment_at, has_no_bytes, occupying}

-- `header_offset` is the offset in the file of a program header; each header has 32 bytes
abbrev pub header_offset : List ℕ → ℕ → ℕ
header_offset file header = e_phoff file + 32 * header

-- `first_segments` has the segments of type PT_LOAD of the first `count` program headers
unfoldable pub first_segments : List ℕ → ℕ → List Segment
first_segments file count = map (segment_at file) (filter (is_load file) (map (header_offset file) (range_with_len 0 count)))

-- the segments of `count + 1` headers are those of `count` headers, followed by the segment of the next header if it is of type PT_LOAD
first_segments-next : (file : List ℕ) (count : ℕ) → first_segments file (count + 1)
    ≡ first_segments file count ++ map (segment_at file) (cond (is_load file (header_offset file count)) (header_offset file count ∷ []) [])
unfolding first_segments
first_segments-next file count =
    rw (
      filter_of_map_range_with_len_more (is_load file) (header_offset file) 0 count count (omega arith),
      map-append (segment_at file) (filter (is_load file) (map (header_offset file) (range_with_len 0 count)))
          (cond (is_load file (header_offset file count)) (header_offset file count ∷ []) []),
    ) refl

-- a program header of type PT_LOAD adds its segment
pub with_load : (file : List ℕ) (count : ℕ) → p_type file (header_offset file count) ≡ pt_load
    → first_segments file (count + 1) ≡ first_segments file count ++ segment_at file (header_offset file count) ∷ []
with_load file count is_pt_load =
    first_segments-next file count ∙ rw (eq-eqb (p_type file (header_offset file count)) pt_load is_pt_load) refl

-- a program header of a type other than PT_LOAD adds no segment
pub without_load : (file : List ℕ) (count : ℕ) → p_type file (header_offset file count) ≢ pt_load
    → first_segments file (count + 1) ≡ first_segments file count
without_load file count is_not_pt_load =
    first_segments-next file count
    ∙ rw (ne_eqb (p_type file (header_offset file count)) pt_load is_not_pt_load) (append-nil (first_segments file count))

-- a segment with bytes in memory is appended to the segments that occupy memory
pub with_occupying : (segments : List Segment) (index : ℕ) (default : Segment) → index < length segments
    → (slice_index_or segments index default).memory_size ≢ 0
    → occupying (take (index + 1) segments) ≡ occupying (take index segments) ++ slice_index_or segments index default ∷ []
unfolding occupying
with_occupying segments index default index_in_bounds has_bytes =
    filter_more (λ segment. not (has_no_bytes segment)) segments index default index_in_bounds
    ∙ rw (ne_eqb (slice_index_or segments index default).memory_size 0 has_bytes) refl

-- a segment without bytes in memory is not appended to the segments that occupy memory
pub without_occupying : (segments : List Segment) (index : ℕ) (default : Segment) → index < length segments
    → (slice_index_or segments index default).memory_size ≡ 0 → occupying (take (index + 1) segments) ≡ occupying (take index segments)
unfolding occupying
without_occupying segments index default index_in_bounds has_none =
    filter_more (λ segment. not (has_no_bytes segment)) segments index default index_in_bounds
    ∙ rw (eq-eqb (slice_index_or segments index default).memory_size 0 has_none)
    (append-nil (filter (λ segment. not (has_no_bytes segment)) (take index segments)))

-- of an empty list of segments, none occupies memory
pub occupying_none : occupying [] ≡ []
unfolding occupying
occupying_none = refl

-- the segments after one more program header, with and without type PT_LOAD
pub ruleset load_more = (with_load, without_load)

-- the segments that occupy memory: of no segment, and after one more segment, with and without bytes in memory
pub ruleset occupying_more = (with_occupying, without_occupying, occupying_none)
