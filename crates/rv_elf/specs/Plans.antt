-- The segments to load, and the entry address (System V gABI, chapter 5, program loading).
use Rattle.std.specs.Prelude.{◌≡◌, ℕ, ◌%◌, Bool, true, false, not, ◌&&◌, List, length, Result, Ok, Err}
use Rattle.std.specs.List.{list_all}
use Rattle.rv_word.specs.Cases.{option_case}
use Rattle.rv_elf.specs.declared.elf_fault.ElfFault.{ElfFault}
use Rattle.rv_elf.specs.declared.segment.Segment.{Segment}
use Rattle.rv_elf.specs.Fields.{e_entry}
use Rattle.rv_elf.specs.Faults.{file_fault, raw_fault}
use Rattle.rv_elf.specs.Places.{first_address, has_place}
use Rattle.rv_elf.specs.Segments.{segments_of, occupying, raw_segments, is_truncated, is_oversized, is_outside, has_overlap}

-- A plan: the segments that occupy memory, the address of the first instruction, and whether there is a monitor. It is for an image and a RAM of
-- these sizes in bytes.
pub record LoadPlan : Type 0 where
  -- the segments to load, which occupy memory
  pub segments : List Segment
  -- the address of the first instruction
  pub entry : ℕ
  -- the size of the image in bytes
  pub image_size : ℕ
  -- the size of the RAM in bytes
  pub ram_size : ℕ
  -- whether there is a monitor
  pub monitored : Bool

-- A segment fits if its part of the image is complete, and the image may use the memory of the segment.
abbrev pub fits : ℕ → ℕ → Bool → Segment → Bool
fits image_size ram_size monitored segment =
    not (is_truncated image_size segment) && not (is_oversized segment) && not (is_outside ram_size monitored segment)

-- a valid plan: its segments fit and share no byte, and its first instruction is at a multiple of 4 that an image may use
abbrev pub IsValidPlan : LoadPlan → Type 0
IsValidPlan plan =
    (list_all (fits plan.image_size plan.ram_size plan.monitored) plan.segments ≡ true)
    × (has_overlap plan.segments ≡ false)
    × (plan.entry % 4 ≡ 0)
    × (has_place plan.ram_size plan.monitored plan.entry 4 ≡ true)

-- An ELF file has a plan, or the error with the smallest number of those that it has.
abbrev pub file_plan : List ℕ → ℕ → Bool → Result LoadPlan ElfFault
file_plan file ram_size monitored =
    option_case (file_fault file ram_size monitored)
    (Ok (record {
      segments = occupying (segments_of file);
      entry = e_entry file;
      image_size = length file;
      ram_size = ram_size;
      monitored = monitored;
    }))
    Err

-- A raw image of `size` bytes has a plan, or the error with the smallest number of those that it has.
abbrev pub raw_plan : ℕ → ℕ → Bool → Result LoadPlan ElfFault
raw_plan size ram_size monitored =
    option_case (raw_fault size ram_size monitored)
    (Ok (record {
      segments = raw_segments size monitored;
      entry = first_address monitored;
      image_size = size;
      ram_size = ram_size;
      monitored = monitored;
    }))
    Err
