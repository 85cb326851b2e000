-- Two segments share a byte if and only if the larger of their first addresses is below the smaller of their ends.
use Rattle.std.proofs.Common.{◌≡◌, ℕ, ◌+◌, ◌<◌, ◌≤◌, true, false, max, min, arith}
use Rattle.std.proofs.lemmas.Grind.{common_steps}
use Rattle.rv_pmp.proofs.VerdictLemmas.{any_at, any_none, none_from_any}
use Rattle.rv_elf.specs.declared.segment.Segment.{Segment}
use Rattle.rv_elf.specs.Segments.{has_address, share_a_byte}

-- two segments share a byte if the larger of their first addresses is below the smaller of their ends: that address is in both
pub shared : (first second : Segment)
    → max first.address second.address < min (first.address + first.memory_size) (second.address + second.memory_size)
    → share_a_byte first second ≡ true
unfolding share_a_byte
shared first second ranges_meet =
    any_at (λ address. has_address address second) first.address first.memory_size (max first.address second.address)
    (grind (arith, common_steps)) (grind (arith, common_steps)) (grind (arith, common_steps))

-- an address of one segment is not in the other, if the smaller of their ends is not above the larger of their first addresses
not_in_apart : (first second : Segment) (address : ℕ)
    → min (first.address + first.memory_size) (second.address + second.memory_size) ≤ max first.address second.address
    → first.address ≤ address → address < first.address + first.memory_size → has_address address second ≡ false
not_in_apart first second address ranges_are_apart not_below_first below_end = grind (arith, common_steps)

-- two segments share no byte if the smaller of their ends is not above the larger of their first addresses
pub unshared : (first second : Segment)
    → min (first.address + first.memory_size) (second.address + second.memory_size) ≤ max first.address second.address
    → share_a_byte first second ≡ false
unfolding share_a_byte
unshared first second ranges_are_apart =
    any_none (λ address. has_address address second) first.address first.memory_size
    (λ address not_below_first below_end. not_in_apart first second address ranges_are_apart not_below_first below_end)

-- if two segments share no byte, an address of one is not an address of the other
pub not_in_other : (first second : Segment) (address : ℕ) → share_a_byte first second ≡ false → has_address address first ≡ true
    → has_address address second ≡ false
unfolding share_a_byte
not_in_other first second address shares_no_byte is_in_segment =
    none_from_any (λ address. has_address address second) first.address first.memory_size shares_no_byte address
    (grind (arith, common_steps)) (grind (arith, common_steps))
