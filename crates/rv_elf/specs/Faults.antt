-- The errors of an image that cannot be loaded, in the order of their numbers. The conditions follow the System V gABI, chapters 4 and 5, for a
-- 32-bit RISC-V executable (RISC-V ELF psABI: EM_RISCV is 243). (The numbers are this project's own.)
use Rattle.std.specs.Prelude.{◌≡◌, ℕ, ◌+◌, ◌*◌, ◌%◌, ◌==◌, Bool, true, false, not, ◌&&◌, ◌||◌, nat_lt, List, [], ◌∷◌, ◌++◌, length, take, Option, Some, None}
use Rattle.std.specs.List.{list_any}
use Rattle.std.specs.Str.{bytes_eq}
use Rattle.rv_elf.specs.declared.elf_fault.ElfFault.{ElfFault}
use Rattle.rv_elf.specs.declared.elf_fault.ElfFault.TheVariants.{Truncated, NotElf, WrongClass, WrongType, WrongMachine, BadHeader}
use Rattle.rv_elf.specs.declared.elf_fault.ElfFault.TheVariants.{SegmentTruncated, SegmentSizes, SegmentOutside, SegmentOverlap, BadEntry}
use Rattle.rv_elf.specs.declared.segment.Segment.{Segment}
use Rattle.rv_elf.specs.Fields.{magic, et_exec, em_riscv, class_data_version, ei_class_data_version, e_type, e_machine, e_entry, e_phoff, e_phentsize, e_phnum}
use Rattle.rv_elf.specs.Places.{first_address, has_place}
use Rattle.rv_elf.specs.Segments.{segments_of, occupying, raw_segments, is_truncated, is_oversized, is_outside, has_overlap}

-- `elf_fault_number` is a number for each kind of error, by which errors are compared
abbrev pub elf_fault_number : ElfFault → ℕ
elf_fault_number Truncated = 1
elf_fault_number NotElf = 2
elf_fault_number WrongClass = 3
elf_fault_number WrongType = 4
elf_fault_number WrongMachine = 5
elf_fault_number BadHeader = 6
elf_fault_number SegmentTruncated = 7
elf_fault_number SegmentSizes = 8
elf_fault_number SegmentOutside = 9
elf_fault_number SegmentOverlap = 10
elf_fault_number BadEntry = 11

-- The program header table is bad if it has more than 64 headers. A table that is not empty is also bad if its headers do not have 32 bytes, or if it
-- ends after the file.
abbrev pub has_bad_table : List ℕ → Bool
has_bad_table file =
    nat_lt 64 (e_phnum file)
    || not (e_phnum file == 0) && (not (e_phentsize file == 32) || nat_lt (length file) (e_phoff file + 32 * e_phnum file))

-- the entry is bad if it is no multiple of 4, or if an image may not use the four bytes of the first instruction
abbrev pub is_bad_entry : ℕ → Bool → ℕ → Bool
is_bad_entry ram_size monitored entry = not (entry % 4 == 0) || not (has_place ram_size monitored entry 4)

-- The table: each error with its condition. The rows of the ELF header, of the segments, and of positions in memory are separate, since a raw
-- image has only the last.
unfoldable pub header_faults : List ℕ → List (Bool × ElfFault)
header_faults file =
    (nat_lt (length file) 52, Truncated)
    ∷ (not (bytes_eq (take 4 file) magic), NotElf)
    ∷ (not (bytes_eq (ei_class_data_version file) class_data_version), WrongClass)
    ∷ (not (e_type file == et_exec), WrongType)
    ∷ (not (e_machine file == em_riscv), WrongMachine)
    ∷ (has_bad_table file, BadHeader)
    ∷ []

-- `segment_faults` has the errors of the segments by themselves, in the order in which they are checked
unfoldable pub segment_faults : ℕ → List Segment → List (Bool × ElfFault)
segment_faults size segments =
    (list_any (is_truncated size) segments, SegmentTruncated)
    ∷ (list_any is_oversized segments, SegmentSizes)
    ∷ []

-- `place_faults` has the errors of the places of segments and entry in memory, in the order in which they are checked
unfoldable pub place_faults : ℕ → Bool → List Segment → ℕ → List (Bool × ElfFault)
place_faults ram_size monitored segments entry =
    (list_any (is_outside ram_size monitored) segments, SegmentOutside)
    ∷ (has_overlap segments, SegmentOverlap)
    ∷ (is_bad_entry ram_size monitored entry, BadEntry)
    ∷ []

-- `file_faults` is the whole table for an ELF file in a RAM of this size, with or without a monitor, in the order of the numbers
abbrev pub file_faults : List ℕ → ℕ → Bool → List (Bool × ElfFault)
file_faults file ram_size monitored =
    header_faults file
    ++ segment_faults (length file) (segments_of file)
    ++ place_faults ram_size monitored (occupying (segments_of file)) (e_entry file)

-- `raw_faults` is the table for a raw image of `size` bytes, whose first byte is also its entry
abbrev pub raw_faults : ℕ → ℕ → Bool → List (Bool × ElfFault)
raw_faults size ram_size monitored = place_faults ram_size monitored (raw_segments size monitored) (first_address monitored)

-- `first_fault` is the first error whose condition holds
abbrev pub first_fault : List (Bool × ElfFault) → Option ElfFault
first_fault [] = None
first_fault ((true, fault) ∷ rows) = Some fault
first_fault ((false, fault) ∷ rows) = first_fault rows

-- the error is the least in the table: its condition holds, and the condition of no error with a smaller number holds
abbrev pub IsLeast : List (Bool × ElfFault) → ElfFault → Type 0
IsLeast rows fault =
    (list_any (λ row. row.0 && elf_fault_number row.1 == elf_fault_number fault) rows ≡ true)
    × (list_any (λ row. row.0 && nat_lt (elf_fault_number row.1) (elf_fault_number fault)) rows ≡ false)

-- `file_fault` is the error of an ELF file
abbrev pub file_fault : List ℕ → ℕ → Bool → Option ElfFault
file_fault file ram_size monitored = first_fault (file_faults file ram_size monitored)

-- `raw_fault` is the error of a raw image of `size` bytes
abbrev pub raw_fault : ℕ → ℕ → Bool → Option ElfFault
raw_fault size ram_size monitored = first_fault (raw_faults size ram_size monitored)
