-- A segment that does not meet the range that the monitor reserves for itself has no byte in it.
use Rattle.std.proofs.Common.{◌≡◌, ℕ, Bool, true, false, refl}
use Rattle.rv_memory.proofs.BlockLaws.{apart_from}
use Rattle.rv_memory.specs.Blocks.{monitor_block}
use Rattle.rv_elf.specs.declared.segment.Segment.{Segment}
use Rattle.rv_elf.specs.Places.{is_reserved, meets_reserved}
use Rattle.rv_elf.specs.Segments.{has_address}

-- if a segment does not meet the reserved range, no address of the segment is reserved
pub not_reserved : (monitored : Bool) (segment : Segment) (address : ℕ) → meets_reserved monitored segment.address segment.memory_size ≡ false
    → has_address address segment ≡ true → is_reserved monitored address ≡ false
unfolding meets_reserved
not_reserved false segment address avoids_reserved is_in_segment = refl
not_reserved true segment address avoids_reserved is_in_segment =
    apart_from monitor_block (record { base = segment.address; size = segment.memory_size }) address avoids_reserved is_in_segment
