-- Reads and writes of two memories that are equal outside the hidden bytes. A test `hidden` of addresses says which bytes are hidden.
use Rattle.std.proofs.Common.{◌≡◌, ℕ, ◌+◌, ◌-◌, ◌<◌, ◌≤◌, Bool, true, false, List, length, take, drop, get_or, Option, Some, None, replicate, refl, sym, ◌∙◌}
use Rattle.std.proofs.Common.{inl, inr, arith}
use Rattle.std.proofs.lemmas.List.{get_or-take, get_or-drop, length-replicate}
use Rattle.std.proofs.lemmas.Grind.{same_number_lists, common_steps}
use Rattle.std.proofs.lemmas.Bool.{cases_lt, cases_Bool, and_parts, and_from, leb-true, le-leb}
use Rattle.rv_memory.specs.Memory.{read, write_bytes}
use Rattle.rv_memory.proofs.MemoryLaws.{index-below, index-above, write-is}
use Rattle.rv_enclaves.proofs.Prelude.{EqualOutside, is_inside, length-write, option_case, ram_base, write}

-- the memory after a write, or the old memory if the write fails
abbrev pub or_unchanged : List ℕ → Option (List ℕ) → List ℕ
or_unchanged memory after = option_case after memory (λ bytes. bytes)

-- no byte of an access is hidden
abbrev pub IsSeen : (ℕ → Bool) → ℕ → ℕ → Type 0
IsSeen hidden address count = (byte : ℕ) → address ≤ byte → byte < address + count → hidden byte ≡ false

-- an access inside memory begins at or above the base of RAM and ends at or below the end of RAM
pub inside-bounds : (memory : List ℕ) (address count : ℕ) → is_inside memory address count ≡ true
    → (ram_base ≤ address) × (address + count ≤ ram_base + length memory)
inside-bounds memory address count inside =
    let (not_below_ram, not_past_ram) = and_parts _ _ inside in
    (leb-true _ _ not_below_ram, leb-true _ _ not_past_ram)

-- `count` bytes from an index on are the same in both memories, if none of these bytes is hidden
same_part : (hidden : ℕ → Bool) (one_memory other_memory : List ℕ) (index count : ℕ) → EqualOutside hidden one_memory other_memory
    → IsSeen hidden (ram_base + index) count
    → index + count ≤ length one_memory → take count (drop index one_memory) ≡ take count (drop index other_memory)
same_part hidden one_memory other_memory index count equal_outside not_hidden within =
    same_number_lists (take count (drop index one_memory)) (take count (drop index other_memory))
    (grind (arith, common_steps, equal_outside.size))
    (λ position in_range.
    let below_count : position < count = grind (arith, common_steps) in
    get_or-take count (drop index one_memory) position 0 below_count ∙ get_or-drop index one_memory position 0
    ∙ equal_outside.bytes (index + position) (not_hidden (ram_base + (index + position)) (omega arith) (omega arith))
    ∙ sym (get_or-drop index other_memory position 0) ∙ sym (get_or-take count (drop index other_memory) position 0 below_count))

-- a read of no hidden byte returns the same bytes from both memories
pub same_read : (hidden : ℕ → Bool) (one_memory other_memory : List ℕ) (address count : ℕ) → EqualOutside hidden one_memory other_memory
    → is_inside one_memory address count ≡ true
    → IsSeen hidden address count → read one_memory address count ≡ read other_memory address count
unfolding read
same_read hidden one_memory other_memory address count equal_outside inside not_hidden =
    let (from_ram_base, to_ram_end) = inside-bounds one_memory address count inside in
    let address_at_index : ram_base + (address - ram_base) ≡ address = omega (arith, from_ram_base) in
    let same_bytes =
    same_part hidden one_memory other_memory (address - ram_base) count equal_outside (rw address_at_index not_hidden)
    (omega (arith, from_ram_base, to_ram_end)) in
    let same_length = equal_outside.size in
    rw (← same_length, same_bytes) refl

-- a byte of the memory after a write, at an index inside the write, is the written byte
pub index-within : (memory : List ℕ) (index : ℕ) (bytes : List ℕ) (byte_index : ℕ) → index + length bytes ≤ length memory → index ≤ byte_index
    → byte_index < index + length bytes
    → get_or (write_bytes memory index bytes) byte_index 0 ≡ get_or bytes (byte_index - index) 0
index-within memory index bytes byte_index write_fits at_least_index before_end = grind (arith, common_steps)

-- the same write to both memories leaves the memories equal outside the hidden bytes, even if the write covers hidden bytes
pub same_write : (hidden : ℕ → Bool) (one_memory other_memory : List ℕ) (address : ℕ) (bytes one_after other_after : List ℕ)
    → EqualOutside hidden one_memory other_memory
    → write one_memory address bytes ≡ Some one_after → write other_memory address bytes ≡ Some other_after
    → EqualOutside hidden one_after other_after
same_write hidden one_memory other_memory address bytes one_after other_after equal_outside written_one written_other =
    let (from_ram_base, to_end_of_one, one_after_is) = write-is one_memory address bytes one_after written_one in
    let (_, to_end_of_other, other_after_is) = write-is other_memory address bytes other_after written_other in
    let index = address - ram_base in
    let fits_one : index + length bytes ≤ length one_memory = omega (arith, from_ram_base, to_end_of_one) in
    let fits_other : index + length bytes ≤ length other_memory = omega (arith, from_ram_base, to_end_of_other) in
    record {
      size = length-write one_memory address bytes one_after written_one ∙ equal_outside.size
          ∙ sym (length-write other_memory address bytes other_after written_other);
      bytes = λ byte_index not_hidden. rw (one_after_is, other_after_is) (elim (cases_lt byte_index index) [
        -- an index before the write: the byte is unchanged in both memories
        | inl before_start ↦
            index-below one_memory index bytes byte_index fits_one before_start ∙ equal_outside.bytes byte_index not_hidden
            ∙ sym (index-below other_memory index bytes byte_index fits_other before_start)
        | inr from_start ↦ elim (cases_lt byte_index (index + length bytes)) [
          -- an index inside the write: the byte is the written byte in both memories
          | inl before_end ↦
              index-within one_memory index bytes byte_index fits_one from_start before_end
              ∙ sym (index-within other_memory index bytes byte_index fits_other from_start before_end)
          -- an index after the write: the byte is unchanged in both memories
          | inr after_end ↦
              index-above one_memory index bytes byte_index fits_one after_end ∙ equal_outside.bytes byte_index not_hidden
              ∙ sym (index-above other_memory index bytes byte_index fits_other after_end)
        ]
      ]);
    }

-- a read of bytes that are not all in memory returns None
pub read-none : (memory : List ℕ) (address count : ℕ) → is_inside memory address count ≡ false → read memory address count ≡ None
unfolding read
read-none memory address count outside = rw outside refl

-- a write to bytes that are not all in memory returns None
pub write-none : (memory : List ℕ) (address : ℕ) (bytes : List ℕ) → is_inside memory address (length bytes) ≡ false
    → write memory address bytes ≡ None
unfolding write
write-none memory address bytes outside = rw outside refl

-- a write to bytes that are all in memory replaces the bytes from the index of the address on
pub write-some : (memory : List ℕ) (address : ℕ) (bytes : List ℕ) → is_inside memory address (length bytes) ≡ true
    → write memory address bytes ≡ Some (write_bytes memory (address - ram_base) bytes)
unfolding write
write-some memory address bytes inside = rw inside refl

-- the same write succeeds for both memories or for neither, and leaves the memories equal outside the hidden bytes
pub write-alike : (hidden : ℕ → Bool) (one_memory other_memory : List ℕ) (address : ℕ) (bytes : List ℕ) → EqualOutside hidden one_memory other_memory
    → EqualOutside hidden (or_unchanged one_memory (write one_memory address bytes)) (or_unchanged other_memory (write other_memory address bytes))
write-alike hidden one_memory other_memory address bytes equal_outside =
    let same_length = equal_outside.size in
    elim (cases_Bool (is_inside one_memory address (length bytes))) [
      | inl inside ↦
          let write_one = write-some one_memory address bytes inside in
          let write_other = write-some other_memory address bytes (rw (← same_length) inside) in
          rw (write_one, write_other) (same_write hidden one_memory other_memory address bytes _ _ equal_outside write_one write_other)
      | inr outside ↦
          let write_one = write-none one_memory address bytes outside in
          let write_other = write-none other_memory address bytes (rw (← same_length) outside) in
          rw (write_one, write_other) equal_outside
    ]

-- zeroing a range that has all hidden bytes makes the two memories equal everywhere
pub zeros-alike : (hidden hidden_after : ℕ → Bool) (one_memory other_memory : List ℕ) (base count : ℕ) → EqualOutside hidden one_memory other_memory
    → (ram_base ≤ base) × (base + count ≤ ram_base + length one_memory) → ((byte : ℕ) → hidden byte ≡ true → (base ≤ byte) × (byte < base + count))
    → EqualOutside hidden_after (or_unchanged one_memory (write one_memory base (replicate count 0)))
    (or_unchanged other_memory (write other_memory base (replicate count 0)))
zeros-alike hidden hidden_after one_memory other_memory base count equal_outside in_memory hidden_in_range =
    let bytes = replicate count 0 in
    let zeros_length : length bytes ≡ count = length-replicate {A = ℕ} count 0 in
    let (from_ram_base, to_ram_end) = in_memory in
    let write_inside : is_inside one_memory base (length bytes) ≡ true =
    rw zeros_length (and_from _ _ (le-leb ram_base base from_ram_base) (le-leb (base + count) (ram_base + length one_memory) to_ram_end)) in
    let same_length = equal_outside.size in
    let write_one = write-some one_memory base bytes write_inside in
    let write_other = write-some other_memory base bytes (rw (← same_length) write_inside) in
    let equal_after = same_write hidden one_memory other_memory base bytes _ _ equal_outside write_one write_other in
    let index = base - ram_base in
    let fits_one : index + length bytes ≤ length one_memory = omega (arith, from_ram_base, to_ram_end, zeros_length) in
    let fits_other : index + length bytes ≤ length other_memory = omega (arith, from_ram_base, to_ram_end, zeros_length, same_length) in
    rw (write_one, write_other) (record {
      size = equal_after.size;
      bytes = λ byte_index not_hidden_after. elim (cases_Bool (hidden (ram_base + byte_index))) [
        -- the byte was hidden: it is in the range, so it is 0 in both memories
        | inl is_hidden ↦
            let (from_base, below_range_end) = hidden_in_range (ram_base + byte_index) is_hidden in
            let from_index : index ≤ byte_index = omega (arith, from_base, from_ram_base) in
            let before_end : byte_index < index + length bytes = omega (arith, below_range_end, from_ram_base, zeros_length) in
            index-within one_memory index bytes byte_index fits_one from_index before_end
            ∙ sym (index-within other_memory index bytes byte_index fits_other from_index before_end)
        -- the byte was not hidden: it is equal in both memories
        | inr not_hidden ↦ equal_after.bytes byte_index not_hidden
      ];
    })
