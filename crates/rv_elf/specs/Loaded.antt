-- The memory after an image is loaded, byte by byte (System V gABI, chapter 5, program loading).
use Rattle.std.specs.Prelude.{◌≡◌, ℕ, ◌+◌, ◌-◌, Bool, true, false, nat_lt, List, length, slice_index, map, Some, if◌then◌else◌}
use Rattle.std.specs.List.{range_with_len, find, list_any, Contains}
use Rattle.rv_word.specs.Cases.{option_case}
use Rattle.rv_memory.specs.Memory.{ram_base, byte_at}
use Rattle.rv_elf.specs.declared.segment.Segment.{Segment}
use Rattle.rv_elf.specs.Places.{is_reserved}
use Rattle.rv_elf.specs.Segments.{has_address}

-- a byte of a segment at an address is from its part of the file, and 0 after that
abbrev pub byte_in : List ℕ → ℕ → Segment → ℕ
byte_in image address segment =
    let offset = address - segment.address in
    if nat_lt offset segment.file_size then slice_index image (segment.offset + offset) else 0

-- the byte at an address after the segments are loaded: that of the segment with this address, otherwise the old byte; no two segments share an
-- address
abbrev pub byte_after : List ℕ → List Segment → List ℕ → ℕ → ℕ
byte_after image segments memory address =
    option_case (find (has_address address) segments) (slice_index memory (address - ram_base)) (byte_in image address)

-- `loaded_memory` is the memory after the segments are loaded
unfoldable pub loaded_memory : List ℕ → List Segment → List ℕ → List ℕ
loaded_memory image segments memory = map (byte_after image segments memory) (range_with_len ram_base (length memory))

-- each byte of each segment is loaded, and every other byte is unchanged
pub record LoadsEach (image : List ℕ) (segments : List Segment) (old new : List ℕ) : Type 0 where
  -- the memory keeps its size
  pub size : length new ≡ length old
  -- at an address of a segment, memory has the byte of the segment
  pub inside : (segment : Segment) (address : ℕ) → Contains segments segment → has_address address segment ≡ true
      → byte_at new address ≡ Some (byte_in image address segment)
  -- at any other address, memory has its old byte
  pub elsewhere : (address : ℕ) → list_any (has_address address) segments ≡ false → byte_at new address ≡ byte_at old address

-- each byte at a reserved address is unchanged
abbrev pub KeepsReserved : Bool → List ℕ → List ℕ → Type 0
KeepsReserved monitored old new = (address : ℕ) → is_reserved monitored address ≡ true → byte_at new address ≡ byte_at old address
