-- A segment is loaded by two writes: zeros at all its addresses, and then its part of the image.
use Rattle.std.proofs.Common.{◌≡◌, ◌∙◌, sym, ap, ℕ, ◌+◌, ◌-◌, ◌<◌, ◌≤◌, List, [], ◌∷◌, length, take, drop, replicate, slice_index, Some, refl, inl, inr, arith}
use Rattle.std.proofs.lemmas.Bool.{cases_lt}
use Rattle.std.proofs.lemmas.List.{length-replicate}
use Rattle.std.proofs.lemmas.Grind.{common_steps, same_number_lists}
use Rattle.rv_memory.specs.Memory.{ram_base, write, write_bytes}
use Rattle.rv_memory.proofs.MemoryLaws.{length-write, write-is}
use Rattle.rv_elf.specs.declared.segment.Segment.{Segment}
use Rattle.rv_elf.specs.Loaded.{loaded_memory, byte_after}
use Rattle.rv_elf.proofs.LoadedBytes.{length-loaded_memory, loaded_at}

-- `written_twice` is the memory after `size` zeros are written from an index on, and then a part of the image from the same index on
abbrev written_twice : List ℕ → List ℕ → ℕ → ℕ → List ℕ
written_twice memory part index size = write_bytes (write_bytes memory index (replicate size 0)) index part

-- after both writes, a byte in the range of the part is the byte of the part
byte_in_part : (memory part : List ℕ) (index size position : ℕ) → length part ≤ size → index + size ≤ length memory → index ≤ position
    → position < index + length part → slice_index (written_twice memory part index size) position ≡ slice_index part (position - index)
byte_in_part memory part index size position part_fits range_in_memory not_below is_below = grind (arith, common_steps)

-- after both writes, a byte after the part is 0, in the range that was zeroed
byte_in_zeros : (memory part : List ℕ) (index size position : ℕ) → length part ≤ size → index + size ≤ length memory → index + length part ≤ position
    → position < index + size → slice_index (written_twice memory part index size) position ≡ 0
byte_in_zeros memory part index size position part_fits range_in_memory not_below is_below = grind (arith, common_steps)

-- neither write changes a byte below the range
byte_below_range : (memory part : List ℕ) (index size position : ℕ) → length part ≤ size → index + size ≤ length memory → position < index
    → slice_index (written_twice memory part index size) position ≡ slice_index memory position
byte_below_range memory part index size position part_fits range_in_memory is_below = grind (arith, common_steps)

-- neither write changes a byte above the range
byte_above_range : (memory part : List ℕ) (index size position : ℕ) → length part ≤ size → index + size ≤ length memory → index + size ≤ position
    → slice_index (written_twice memory part index size) position ≡ slice_index memory position
byte_above_range memory part index size position part_fits range_in_memory not_below = grind (arith, common_steps)

-- `byte_after` gives, at an address in the part of a segment that is in the image, the byte of the image
byte_after-part : (image memory : List ℕ) (segment : Segment) (position : ℕ) → ram_base ≤ segment.address
    → segment.file_size ≤ segment.memory_size → segment.address ≤ ram_base + position → ram_base + position < segment.address + segment.file_size
    → byte_after image (segment ∷ []) memory (ram_base + position)
    ≡ slice_index (take segment.file_size (drop segment.offset image)) (position - (segment.address - ram_base))
byte_after-part image memory segment position segment_in_ram not_oversized not_below is_below = grind (arith, common_steps)

-- `byte_after` gives 0 at an address of a segment after its part of the image
byte_after-zeros : (image memory : List ℕ) (segment : Segment) (position : ℕ) → segment.address + segment.file_size ≤ ram_base + position
    → ram_base + position < segment.address + segment.memory_size → byte_after image (segment ∷ []) memory (ram_base + position) ≡ 0
byte_after-zeros image memory segment position not_below is_below = grind (arith, common_steps)

-- `byte_after` gives the old byte at an address below the segment
byte_after-below : (image memory : List ℕ) (segment : Segment) (position : ℕ) → ram_base + position < segment.address
    → byte_after image (segment ∷ []) memory (ram_base + position) ≡ slice_index memory position
byte_after-below image memory segment position is_below = grind (arith, common_steps)

-- `byte_after` gives the old byte at an address above the segment
byte_after-above : (image memory : List ℕ) (segment : Segment) (position : ℕ) → segment.address + segment.memory_size ≤ ram_base + position
    → byte_after image (segment ∷ []) memory (ram_base + position) ≡ slice_index memory position
byte_after-above image memory segment position not_below = grind (arith, common_steps)

-- after both writes, each byte is the one that `byte_after` gives: below the segment, in its part of the image, in its zeros, or above it
written_byte : (image memory part : List ℕ) (segment : Segment) (position : ℕ) → part ≡ take segment.file_size (drop segment.offset image)
    → length part ≡ segment.file_size → segment.file_size ≤ segment.memory_size
    → ram_base ≤ segment.address → segment.address + segment.memory_size ≤ ram_base + length memory
    → slice_index (written_twice memory part (segment.address - ram_base) segment.memory_size) position
    ≡ byte_after image (segment ∷ []) memory (ram_base + position)
written_byte image memory part segment position part_is part_size_is not_oversized segment_in_ram end_in_ram =
    let index = segment.address - ram_base in
    let size = segment.memory_size in
    let part_fits : length part ≤ size = omega (arith, part_size_is, not_oversized) in
    let range_in_memory : index + size ≤ length memory = omega (arith, segment_in_ram, end_in_ram) in
    elim (cases_lt position index) [
      | inl below ↦ byte_below_range memory part index size position part_fits range_in_memory below
          ∙ sym (byte_after-below image memory segment position (omega (arith, below, segment_in_ram)))
      | inr not_below ↦ elim (cases_lt position (index + length part)) [
        | inl in_part ↦
            byte_in_part memory part index size position part_fits range_in_memory not_below in_part
            ∙ rw part_is (sym (byte_after-part image memory segment position segment_in_ram not_oversized
            (omega (arith, not_below, segment_in_ram)) (omega (arith, in_part, part_size_is, segment_in_ram))))
        | inr after_part ↦ elim (cases_lt position (index + size)) [
          | inl in_zeros ↦ byte_in_zeros memory part index size position part_fits range_in_memory after_part in_zeros
              ∙ sym (byte_after-zeros image memory segment position
              (omega (arith, after_part, part_size_is, segment_in_ram)) (omega (arith, in_zeros, segment_in_ram)))
          | inr above ↦ byte_above_range memory part index size position part_fits range_in_memory above
              ∙ sym (byte_after-above image memory segment position (omega (arith, above, segment_in_ram)))
        ]
      ]
    ]

-- if zeros are written at all addresses of a segment, and then its part of the image, the memory is the one after loading the segment
pub written : (image memory between after : List ℕ) (segment : Segment) (part : List ℕ)
    → part ≡ take segment.file_size (drop segment.offset image) → length part ≡ segment.file_size
    → segment.file_size ≤ segment.memory_size
    → write memory segment.address (replicate segment.memory_size 0) ≡ Some between → write between segment.address part ≡ Some after
    → after ≡ loaded_memory image (segment ∷ []) memory
written image memory between after segment part part_is part_size_is not_oversized zeros_written part_written =
    let zeros : List ℕ = replicate segment.memory_size 0 in
    let index = segment.address - ram_base in
    let first_write = write-is memory segment.address zeros between zeros_written in
    let second_write = write-is between segment.address part after part_written in
    let end_in_ram : segment.address + segment.memory_size ≤ ram_base + length memory =
    rw (length-replicate {A = ℕ} segment.memory_size 0) at first_write.1 in
    let same_size : length after ≡ length memory =
    length-write between segment.address part after part_written ∙ length-write memory segment.address zeros between zeros_written in
    let after_is : after ≡ write_bytes (write_bytes memory index zeros) index part = second_write.2 ∙ rw first_write.2 refl in
    -- both memories have the same byte at each index
    same_number_lists after (loaded_memory image (segment ∷ []) memory) (same_size ∙ sym (length-loaded_memory image (segment ∷ []) memory))
    (λ position is_below. let in_memory : position < length memory = rw same_size at is_below in
    let byte_is = written_byte image memory part segment position part_is part_size_is not_oversized first_write.0 end_in_ram in
    let loaded_byte = loaded_at image (segment ∷ []) memory (ram_base + position) (omega arith) (omega (arith, in_memory)) in
    let index_is : ram_base + position - ram_base ≡ position = omega arith in
    ap (λ bytes. slice_index bytes position) after_is ∙ byte_is ∙ sym loaded_byte
    ∙ ap (slice_index (loaded_memory image (segment ∷ []) memory)) index_is)
