-- This file has an example: a file with one segment, addi x1, x0, -1 at address 80000000, followed by four zeros.
use Rattle.std.proofs.Common.{◌≡◌, ℕ, true, false, List, [], ◌∷◌, ◌++◌, take, Ok, Err, refl}
use Rattle.rv_elf.specs.declared.elf_fault.ElfFault.TheVariants.{SegmentTruncated, SegmentOutside}
use Rattle.rv_elf.specs.Faults.{header_faults, segment_faults, place_faults}
use Rattle.rv_elf.specs.Places.{meets_reserved}
use Rattle.rv_elf.specs.Plans.{file_plan}
use Rattle.rv_elf.specs.Segments.{segments_of, occupying}

-- `elf_header` has e_ident (first line); e_type, e_machine, e_version, e_entry, e_phoff, e_shoff and e_flags; and the six halves after them
abbrev elf_header : List ℕ
elf_header =
    0x7f ∷ 0x45 ∷ 0x4c ∷ 0x46 ∷ 1 ∷ 1 ∷ 1 ∷ 0 ∷ 0 ∷ 0 ∷ 0 ∷ 0 ∷ 0 ∷ 0 ∷ 0 ∷ 0
    ∷ 2 ∷ 0 ∷ 0xf3 ∷ 0 ∷ 1 ∷ 0 ∷ 0 ∷ 0 ∷ 0 ∷ 0 ∷ 0 ∷ 0x80 ∷ 52 ∷ 0 ∷ 0 ∷ 0 ∷ 0 ∷ 0 ∷ 0 ∷ 0 ∷ 0 ∷ 0 ∷ 0 ∷ 0
    ∷ 52 ∷ 0 ∷ 32 ∷ 0 ∷ 1 ∷ 0 ∷ 40 ∷ 0 ∷ 0 ∷ 0 ∷ 0 ∷ 0 ∷ []

-- `program_header` has p_type, p_offset, p_vaddr, p_paddr, p_filesz, p_memsz, p_flags and p_align
abbrev program_header : List ℕ
program_header =
    1 ∷ 0 ∷ 0 ∷ 0 ∷ 84 ∷ 0 ∷ 0 ∷ 0 ∷ 0 ∷ 0 ∷ 0 ∷ 0x80 ∷ 0 ∷ 0 ∷ 0 ∷ 0x80
    ∷ 4 ∷ 0 ∷ 0 ∷ 0 ∷ 8 ∷ 0 ∷ 0 ∷ 0 ∷ 5 ∷ 0 ∷ 0 ∷ 0 ∷ 4 ∷ 0 ∷ 0 ∷ 0 ∷ []

-- `file` is an ELF file with one segment: four bytes in the file, and eight in memory
abbrev file : List ℕ
file = elf_header ++ program_header ++ 0x93 ∷ 0 ∷ 0xf0 ∷ 0xff ∷ []

-- the file is loaded at 80000000, in a RAM of 1 MiB (1048576 bytes), without a monitor
file_is_planned : file_plan file 1048576 false ≡ Ok (record {
  segments = record { offset = 84; address = 0x80000000; file_size = 4; memory_size = 8 } ∷ [];
  entry = 0x80000000;
  image_size = 88;
  ram_size = 1048576;
  monitored = false;
})
unfolding header_faults segment_faults place_faults segments_of occupying meets_reserved
file_is_planned = refl

-- a file whose last byte, number 88, is missing has the error SegmentTruncated
truncated_file : file_plan (take 87 file) 1048576 false ≡ Err SegmentTruncated
unfolding header_faults segment_faults place_faults segments_of occupying meets_reserved
truncated_file = refl

-- the segment, which has 8 bytes in memory, does not fit into a RAM of 7 bytes: it has the error SegmentOutside
larger_than_ram : file_plan file 7 false ≡ Err SegmentOutside
unfolding header_faults segment_faults place_faults segments_of occupying meets_reserved
larger_than_ram = refl

-- with a monitor, the segment has the error SegmentOutside, since it is in the range that the monitor reserves for itself
in_reserved_range : file_plan file 1048576 true ≡ Err SegmentOutside
unfolding header_faults segment_faults place_faults segments_of occupying meets_reserved
in_reserved_range = refl
