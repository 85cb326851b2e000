-- The fields of an ELF32 file, little-endian, by their offsets (System V gABI, chapter 4, ELF header, and chapter 5, program header).
use Rattle.std.specs.Prelude.{ℕ, ◌+◌, ◌*◌, List, [], ◌∷◌, take, drop, map}
use Rattle.std.specs.List.{range_with_len}
use Rattle.rv_memory.specs.Memory.{number_of_bytes}

-- `half_at` is the number of the two bytes at an offset in the file, the lowest byte first
abbrev pub half_at : List ℕ → ℕ → ℕ
half_at file offset = number_of_bytes (take 2 (drop offset file))

-- `word_at` is the number of the four bytes at an offset in the file, the lowest byte first
abbrev pub word_at : List ℕ → ℕ → ℕ
word_at file offset = number_of_bytes (take 4 (drop offset file))

-- `magic` has the first four bytes of an ELF file: 7F, E, L, F
abbrev pub magic : List ℕ
magic = 0x7f ∷ 0x45 ∷ 0x4c ∷ 0x46 ∷ []

-- `class_data_version` has the class, data encoding and version of a little-endian 32-bit file of version 1: ELFCLASS32, ELFDATA2LSB and EV_CURRENT
abbrev pub class_data_version : List ℕ
class_data_version = 1 ∷ 1 ∷ 1 ∷ []

-- `et_exec` is the type of an executable file
abbrev pub et_exec : ℕ
et_exec = 2

-- `em_riscv` is the machine RISC-V
abbrev pub em_riscv : ℕ
em_riscv = 243

-- `pt_load` is the type of a program header whose segment is loaded
abbrev pub pt_load : ℕ
pt_load = 1

-- `ei_class_data_version` has the bytes EI_CLASS, EI_DATA and EI_VERSION of e_ident
abbrev pub ei_class_data_version : List ℕ → List ℕ
ei_class_data_version file = take 3 (drop 4 file)

-- e_type is in bytes 16 and 17 of the header
abbrev pub e_type : List ℕ → ℕ
e_type file = half_at file 16

-- e_machine is in bytes 18 and 19 of the header
abbrev pub e_machine : List ℕ → ℕ
e_machine file = half_at file 18

-- e_entry, in bytes 24 to 27, is the address of the first instruction
abbrev pub e_entry : List ℕ → ℕ
e_entry file = word_at file 24

-- e_phoff, in bytes 28 to 31, is the offset of the program header table
abbrev pub e_phoff : List ℕ → ℕ
e_phoff file = word_at file 28

-- e_phentsize, in bytes 42 and 43, is the size of a program header
abbrev pub e_phentsize : List ℕ → ℕ
e_phentsize file = half_at file 42

-- e_phnum, in bytes 44 and 45, is the number of program headers
abbrev pub e_phnum : List ℕ → ℕ
e_phnum file = half_at file 44

-- p_type is the type of the segment, in the program header at an offset
abbrev pub p_type : List ℕ → ℕ → ℕ
p_type file offset = word_at file offset

-- p_offset is the offset of the segment in the file
abbrev pub p_offset : List ℕ → ℕ → ℕ
p_offset file offset = word_at file (offset + 4)

-- p_paddr is the physical address of the segment
abbrev pub p_paddr : List ℕ → ℕ → ℕ
p_paddr file offset = word_at file (offset + 12)

-- p_filesz is the number of bytes of the segment in the file
abbrev pub p_filesz : List ℕ → ℕ → ℕ
p_filesz file offset = word_at file (offset + 16)

-- p_memsz is the number of bytes of the segment in memory
abbrev pub p_memsz : List ℕ → ℕ → ℕ
p_memsz file offset = word_at file (offset + 20)

-- `header_places` has the offsets of the program headers, which have 32 bytes each
abbrev pub header_places : List ℕ → List ℕ
header_places file = map (λ header. e_phoff file + 32 * header) (range_with_len 0 (e_phnum file))
