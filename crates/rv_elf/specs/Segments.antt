-- The segments of an image, and their requirements on the file and on the memory (System V gABI, chapter 5, program header and program loading).
use Rattle.std.specs.Prelude.{ℕ, ◌+◌, ◌==◌, Bool, false, not, ◌&&◌, ◌||◌, nat_le, nat_lt, List, [], ◌∷◌, map}
use Rattle.std.specs.List.{filter, list_any, range_with_len}
use Rattle.rv_elf.specs.declared.segment.Segment.{Segment}
use Rattle.rv_elf.specs.Fields.{header_places, pt_load, p_type, p_offset, p_paddr, p_filesz, p_memsz}
use Rattle.rv_elf.specs.Places.{first_address, has_place}

-- `segment_at` is the segment of the program header at an offset
abbrev pub segment_at : List ℕ → ℕ → Segment
segment_at file header_offset = record {
  offset = p_offset file header_offset;
  address = p_paddr file header_offset;
  file_size = p_filesz file header_offset;
  memory_size = p_memsz file header_offset;
}

-- `is_load` states whether a header is of type PT_LOAD, so that its segment is loaded
abbrev pub is_load : List ℕ → ℕ → Bool
is_load file header_offset = p_type file header_offset == pt_load

-- `segments_of` has the segments to load, in the order of their headers
unfoldable pub segments_of : List ℕ → List Segment
segments_of file = map (segment_at file) (filter (is_load file) (header_places file))

-- the segment occupies no memory
abbrev pub has_no_bytes : Segment → Bool
has_no_bytes segment = segment.memory_size == 0

-- the segments that occupy memory; the others are skipped
unfoldable pub occupying : List Segment → List Segment
occupying segments = filter (λ segment. not (has_no_bytes segment)) segments

-- `raw_segments` has the segments of a raw image of `size` bytes: one at the first address that an image may use, or none if it is empty
abbrev pub raw_segments : ℕ → Bool → List Segment
raw_segments size monitored = occupying (record { offset = 0; address = first_address monitored; file_size = size; memory_size = size } ∷ [])

-- the segment's part of a file of `size` bytes ends after the end of the file
abbrev pub is_truncated : ℕ → Segment → Bool
is_truncated size segment = not (segment.file_size == 0) && nat_lt size (segment.offset + segment.file_size)

-- the segment has more bytes in the file than in memory
abbrev pub is_oversized : Segment → Bool
is_oversized segment = nat_lt segment.memory_size segment.file_size

-- an image may not use all of the segment's memory
abbrev pub is_outside : ℕ → Bool → Segment → Bool
is_outside ram_size monitored segment = not (has_place ram_size monitored segment.address segment.memory_size)

-- the segment has the byte at an address
abbrev pub has_address : ℕ → Segment → Bool
has_address address segment = nat_le segment.address address && nat_lt address (segment.address + segment.memory_size)

-- a byte of one segment is a byte of the other
unfoldable pub share_a_byte : Segment → Segment → Bool
share_a_byte first second = list_any (λ address. has_address address second) (range_with_len first.address first.memory_size)

-- two of the segments share a byte
abbrev pub has_overlap : List Segment → Bool
has_overlap [] = false
has_overlap (segment ∷ others) = list_any (share_a_byte segment) others || has_overlap others
