-- Complementing bytes of a memory twice restores them, and changes no other byte.
use Rattle.std.proofs.Common.{◌≡◌, ℕ, ◌+◌, ◌-◌, ◌<◌, ◌≤◌, List, length, map, take, drop, get_or, Some, refl, ◌∙◌, inl, inr, ap, arith, true}
use Rattle.std.proofs.lemmas.Bool.{cases_lt}
use Rattle.std.proofs.lemmas.Grind.{common_steps, same_number_lists}
use Rattle.std.proofs.lemmas.List.{get_or-map, get_or-take, get_or-drop}
use Rattle.rv_memory.specs.Complement.{complement_of, complemented}
use Rattle.rv_memory.specs.Memory.{ram_base, is_inside, read, write, write_bytes}
use Rattle.rv_memory.proofs.MemoryLaws.{index-below, index-above}

-- the complements of `count` bytes from an index on
abbrev pub complements : List ℕ → ℕ → ℕ → List ℕ
complements memory index count = map complement_of (take count (drop index memory))

-- the memory with `count` bytes from an index on complemented
abbrev pub with_complements : List ℕ → ℕ → ℕ → List ℕ
with_complements memory index count = write_bytes memory index (complements memory index count)

-- if all `count` bytes are in the memory, there are `count` complements
pub length-complements : (memory : List ℕ) (index count : ℕ) → index + count ≤ length memory → length (complements memory index count) ≡ count
length-complements memory index count range_in_bounds = grind (arith, common_steps)

-- complementing bytes keeps the size of the memory
pub length-with_complements : (memory : List ℕ) (index count : ℕ) → index + count ≤ length memory
    → length (with_complements memory index count) ≡ length memory
length-with_complements memory index count range_in_bounds = grind (arith, common_steps)

-- the complement that belongs to an index k in the range is the complement of the byte at k
complements-at : (memory : List ℕ) (index count other : ℕ) → index + count ≤ length memory → index ≤ other → other < index + count
    → get_or (complements memory index count) (other - index) 0 ≡ complement_of (get_or memory other 0)
complements-at memory index count other range_in_bounds from_start below_end =
    let part = take count (drop index memory) in
    let part_has_count : length part ≡ count = grind (arith, common_steps) in
    let offset_in_part : other - index < count = omega arith in
    let offset_is : index + (other - index) ≡ other = omega arith in
    get_or-map complement_of part (other - index) 0 0 (omega (arith, part_has_count, offset_in_part))
    ∙ ap complement_of
    (get_or-take count (drop index memory) (other - index) 0 offset_in_part
    ∙ get_or-drop index memory (other - index) 0
    ∙ ap (λ j. get_or memory j 0) offset_is)

-- after a write, the byte at an index k in the written range is the byte of the list at `k - index`
index-within : (memory : List ℕ) (index : ℕ) (bytes : List ℕ) (other : ℕ) → index + length bytes ≤ length memory → index ≤ other
    → other < index + length bytes
    → get_or (write_bytes memory index bytes) other 0 ≡ get_or bytes (other - index) 0
index-within memory index bytes other write_in_bounds from_start below_end = grind (arith, common_steps)

-- a byte at an index k in the range is complemented
byte_in_range : (memory : List ℕ) (index count other : ℕ) → index + count ≤ length memory → index ≤ other → other < index + count
    → get_or (with_complements memory index count) other 0 ≡ complement_of (get_or memory other 0)
byte_in_range memory index count other range_in_bounds from_start below_end =
    let has_count = length-complements memory index count range_in_bounds in
    index-within memory index (complements memory index count) other (omega (arith, has_count)) from_start (omega (arith, has_count))
    ∙ complements-at memory index count other range_in_bounds from_start below_end

-- a byte at another index below the complemented range is unchanged
pub below : (memory : List ℕ) (index count other : ℕ) → index + count ≤ length memory → other < index
    → get_or (with_complements memory index count) other 0 ≡ get_or memory other 0
below memory index count other range_in_bounds other_is_below =
    let has_count = length-complements memory index count range_in_bounds in
    index-below memory index (complements memory index count) other (omega (arith, has_count)) other_is_below

-- a byte at another index above the complemented range is unchanged
pub above : (memory : List ℕ) (index count other : ℕ) → index + count ≤ length memory → index + count ≤ other
    → get_or (with_complements memory index count) other 0 ≡ get_or memory other 0
above memory index count other range_in_bounds other_is_above =
    let has_count = length-complements memory index count range_in_bounds in
    index-above memory index (complements memory index count) other (omega (arith, has_count)) (omega (arith, has_count))

-- Complementing the same bytes twice restores the memory, if each element is a byte (below 256). The proof is for the byte at each index: below
-- the complemented range, in it, or above it.
pub complemented_twice : (memory : List ℕ) (index count : ℕ) → index + count ≤ length memory → ((other : ℕ) → get_or memory other 0 < 256)
    → with_complements (with_complements memory index count) index count ≡ memory
complemented_twice memory index count range_in_bounds are_bytes =
    let once = with_complements memory index count in
    let twice = with_complements once index count in
    let same_length : length once ≡ length memory = length-with_complements memory index count range_in_bounds in
    let range_in_once : index + count ≤ length once = omega (arith, same_length) in
    same_number_lists twice memory (length-with_complements once index count range_in_once ∙ same_length)
    (λ other _. elim (cases_lt other index) [
      | inl other_is_below ↦ below once index count other range_in_once other_is_below ∙ below memory index count other range_in_bounds other_is_below
      | inr from_start ↦ elim (cases_lt other (index + count)) [
        | inl below_end ↦
            let is_byte = are_bytes other in
            let restored : complement_of (complement_of (get_or memory other 0)) ≡ get_or memory other 0 = omega (arith, is_byte) in
            byte_in_range once index count other range_in_once from_start below_end
            ∙ ap complement_of (byte_in_range memory index count other range_in_bounds from_start below_end)
            ∙ restored
        | inr other_is_above ↦ above once index count other range_in_once other_is_above
            ∙ above memory index count other range_in_bounds other_is_above
      ]
    ])

-- if all `count` bytes from an address on are in RAM, the range of their indices is in the bounds of the memory
pub inside-index : (memory : List ℕ) (address count : ℕ) → is_inside memory address count ≡ true → (address - ram_base) + count ≤ length memory
inside-index memory address count in_ram = grind (arith, common_steps)

-- complementing bytes that are all in RAM succeeds, with the complemented memory as its result
pub complemented-is : (memory : List ℕ) (address count : ℕ) → is_inside memory address count ≡ true
    → complemented memory address count ≡ Some (with_complements memory (address - ram_base) count)
unfolding read write
complemented-is memory address count in_ram =
    let has_count = length-complements memory (address - ram_base) count (inside-index memory address count in_ram) in
    rw (in_ram, has_count, in_ram) refl
