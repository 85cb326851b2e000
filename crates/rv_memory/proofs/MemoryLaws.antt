-- Properties of memory (a list of bytes from `ram_base` on): a write keeps the size, is read back, and changes no byte outside it.
use Rattle.std.proofs.Common.{◌≡◌, ℕ, ◌+◌, ◌-◌, ◌<◌, ◌≤◌, ◌⊎◌, List, [], ◌∷◌, ◌++◌, length, drop, slice_index, Some, None}
use Rattle.std.proofs.Common.{true, refl, subst, inl, inr, arith}
use Rattle.std.proofs.lemmas.Grind.{common_steps}
use Rattle.std.proofs.lemmas.Bool.{cases_lt, lt-leb}
use Rattle.std.specs.Prelude.{if◌then◌else◌}
use Rattle.rv_word.specs.ByteOrder.{word_of_bytes}
use Rattle.rv_word.specs.Widths.{bytes_in}
use Rattle.rv_word.specs.declared.width.Width.{Width}
use Rattle.rv_word.specs.declared.width.Width.TheVariants.{Byte, Half, Word}
use Rattle.rv_memory.specs.Changes.{ChangesOnly}
use Rattle.rv_memory.specs.Lending.{with_bytes}
use Rattle.rv_memory.specs.Memory.{bytes_of, ram_base, is_inside, read, write, write_bytes, byte_at, number_of_bytes}

-- up to four bytes, filled up to four with zeros, are the little-endian bytes of a word with the same number
pub padded : (bytes : List ℕ) (count : ℕ) → length bytes ≡ count → count ≤ 4
    → word_of_bytes (bytes ++ drop count (0 ∷ 0 ∷ 0 ∷ 0 ∷ [])) ≡ number_of_bytes bytes
padded [] count length_is_count at_most_4 = rw (← length_is_count) refl
padded (a ∷ []) count length_is_count at_most_4 = rw (← length_is_count) (omega arith)
padded (a ∷ b ∷ []) count length_is_count at_most_4 = rw (← length_is_count) (omega arith)
padded (a ∷ b ∷ c ∷ []) count length_is_count at_most_4 = rw (← length_is_count) (omega arith)
padded (a ∷ b ∷ c ∷ d ∷ []) count length_is_count at_most_4 = omega arith
padded (a ∷ b ∷ c ∷ d ∷ e ∷ rest) count length_is_count at_most_4 = absurd (omega arith)

-- a write does not change the size of the memory
pub length-write : (memory : List ℕ) (address : ℕ) (bytes after : List ℕ) → write memory address bytes ≡ Some after → length after ≡ length memory
unfolding write
length-write memory address bytes after write_is = grind (arith, common_steps)

-- after a write, a read of as many bytes at the same address returns the written bytes
pub read-write : (memory : List ℕ) (address : ℕ) (bytes after : List ℕ) → write memory address bytes ≡ Some after
    → read after address (length bytes) ≡ Some bytes
unfolding write read
read-write memory address bytes after write_is = grind (arith, common_steps)

-- a byte at another index below the written bytes is unchanged
pub index-below : (memory : List ℕ) (index : ℕ) (bytes : List ℕ) (other : ℕ) → index + length bytes ≤ length memory → other < index
    → slice_index (write_bytes memory index bytes) other ≡ slice_index memory other
index-below memory index bytes other write_in_bounds other_is_below = grind (arith, common_steps)

-- a byte at another index above the written bytes is unchanged
pub index-above : (memory : List ℕ) (index : ℕ) (bytes : List ℕ) (other : ℕ) → index + length bytes ≤ length memory → index + length bytes ≤ other
    → slice_index (write_bytes memory index bytes) other ≡ slice_index memory other
index-above memory index bytes other write_in_bounds other_is_above = grind (arith, common_steps)

-- the byte at an address in RAM is the element of the list at the index `address - ram_base`; outside RAM there is no byte
pub byte_at-index : (memory : List ℕ) (address : ℕ)
    → byte_at memory address ≡ (if is_inside memory address 1 then Some (slice_index memory (address - ram_base)) else None)
unfolding read
byte_at-index memory address = grind (arith, common_steps)

-- a write that succeeds is in RAM, and replaces the bytes from the index `address - ram_base` on
pub write-is : (memory : List ℕ) (address : ℕ) (bytes after : List ℕ) → write memory address bytes ≡ Some after
    → (ram_base ≤ address) × (address + length bytes ≤ ram_base + length memory) × (after ≡ write_bytes memory (address - ram_base) bytes)
unfolding write
write-is memory address bytes after write_is = (grind (arith, common_steps), grind (arith, common_steps), grind (arith, common_steps))

-- a byte at an address of RAM below or above a write is unchanged, stated by its index
index-apart : (memory : List ℕ) (address : ℕ) (bytes : List ℕ) (other : ℕ)
    → ram_base ≤ address → address + length bytes ≤ ram_base + length memory → ram_base ≤ other → other < address ⊎ address + length bytes ≤ other
    → slice_index (write_bytes memory (address - ram_base) bytes) (other - ram_base) ≡ slice_index memory (other - ram_base)
index-apart memory address bytes other write_from_base write_in_bounds other_from_base (inl other_is_below) =
    let index_is_below : other - ram_base < address - ram_base = omega (arith, write_from_base, other_from_base, other_is_below) in
    index-below memory (address - ram_base) bytes (other - ram_base) (omega (arith, write_from_base, write_in_bounds)) index_is_below
index-apart memory address bytes other write_from_base write_in_bounds other_from_base (inr other_is_above) =
    let index_is_above : (address - ram_base) + length bytes ≤ other - ram_base = omega (arith, write_from_base, other_from_base, other_is_above) in
    index-above memory (address - ram_base) bytes (other - ram_base) (omega (arith, write_from_base, write_in_bounds)) index_is_above

-- a byte at an address outside a write is unchanged
pub byte_at-write : (memory : List ℕ) (address : ℕ) (bytes after : List ℕ) (other : ℕ) → write memory address bytes ≡ Some after
    → other < address ⊎ address + length bytes ≤ other → byte_at after other ≡ byte_at memory other
byte_at-write memory address bytes after other write_is is_outside =
    let write_parts = write-is memory address bytes after write_is in
    let same_length : length after ≡ length memory = length-write memory address bytes after write_is in
    rw (byte_at-index after other, byte_at-index memory other, same_length)
    (elim (cases_lt other ram_base) [
      | inl is_below_ram ↦ rw (lt-leb ram_base other is_below_ram) refl
      | inr is_from_base ↦ rw (write_parts.2, index-apart memory address bytes other write_parts.0 write_parts.1 is_from_base is_outside) refl
    ])

-- a write to addresses that are all in RAM succeeds, and leaves the memory with these bytes replaced
pub write_at : (memory : List ℕ) (address : ℕ) (bytes after : List ℕ) → is_inside memory address (length bytes) ≡ true
    → after ≡ write_bytes memory (address - ram_base) bytes → write memory address bytes ≡ Some after
unfolding write
write_at memory address bytes after in_ram bytes_replaced = rw (in_ram, bytes_replaced) refl

-- replacing `count` bytes at an address of RAM keeps the size, and changes no byte outside them
pub changes_only : (memory : List ℕ) (address count : ℕ) (bytes after : List ℕ) → is_inside memory address count ≡ true
    → length bytes ≡ count → after ≡ write_bytes memory (address - ram_base) bytes → ChangesOnly memory after address count
changes_only memory address count bytes after in_ram length_is_count bytes_replaced =
    let write_is = write_at memory address bytes after (rw length_is_count in_ram) bytes_replaced in
    subst (ChangesOnly memory after address) length_is_count (record {
      size = length-write memory address bytes after write_is;
      elsewhere = λ other is_outside. byte_at-write memory address bytes after other write_is is_outside;
    })

-- an unchanged memory satisfies `ChangesOnly` for any range of bytes
pub changes_nothing : (memory : List ℕ) (address count : ℕ) → ChangesOnly memory memory address count
changes_nothing memory address count = record { size = refl; elsewhere = λ other is_outside. refl }

-- the bytes that a store of a width writes are as many as the width has: 1, 2 or 4
pub length-bytes_of : (width : Width) (value : ℕ) → length (bytes_of (bytes_in width) value) ≡ bytes_in width
length-bytes_of Byte value = refl
length-bytes_of Half value = refl
length-bytes_of Word value = refl

-- a store in RAM changes no byte outside the bytes of its width
pub store_changes_only : (memory : List ℕ) (address value : ℕ) (width : Width) (after : List ℕ)
    → is_inside memory address (bytes_in width) ≡ true → after ≡ write_bytes memory (address - ram_base) (bytes_of (bytes_in width) value)
    → ChangesOnly memory after address (bytes_in width)
store_changes_only memory address value width after in_ram bytes_replaced =
    changes_only memory address (bytes_in width) (bytes_of (bytes_in width) value) after in_ram (length-bytes_of width value) bytes_replaced

-- after a store in RAM, a read of the same width at the same address returns the bytes of the value
pub store_read_back : (memory : List ℕ) (address value : ℕ) (width : Width) (after : List ℕ)
    → is_inside memory address (bytes_in width) ≡ true → after ≡ write_bytes memory (address - ram_base) (bytes_of (bytes_in width) value)
    → read after address (bytes_in width) ≡ Some (bytes_of (bytes_in width) value)
store_read_back memory address value width after in_ram bytes_replaced =
    let bytes = bytes_of (bytes_in width) value in
    let write_is : write memory address bytes ≡ Some after =
    write_at memory address bytes after (rw (length-bytes_of width value) in_ram) bytes_replaced in
    rw (length-bytes_of width value) at (read-write memory address bytes after write_is)

-- if as many bytes are replaced as the memory has, the new bytes are the memory
pub with_as_many : (memory bytes : List ℕ) → length bytes ≡ length memory → with_bytes memory bytes ≡ bytes
with_as_many memory bytes same_length = grind (arith, common_steps)
