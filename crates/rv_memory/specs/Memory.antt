-- Memory as a list of bytes, with one function that reads it and one that changes it. The first byte has the address 80000000. RISC-V
-- Unprivileged ISA 20191213, sections 1.4 (byte addresses) and 2.6 (little-endian numbers).
use Rattle.std.specs.Prelude.{ℕ, ◌+◌, ◌-◌, ◌*◌, ◌%◌, ◌^◌, ◌==◌, Bool, ◌&&◌, nat_le, List, [], ◌∷◌, ◌++◌, length}
use Rattle.std.specs.Prelude.{take, drop, slice_index, Option, Some, None, if◌then◌else◌}
use Rattle.std.specs.Option.{option_map}
use Rattle.rv_word.specs.ByteOrder.{byte_of}

-- `ram_base` is the address of the first byte
abbrev pub ram_base : ℕ
ram_base = 0x80000000

-- a RAM may have a size in bytes that is a multiple of 65536, from 65536 to 16777216
abbrev pub is_ram_size : ℕ → Bool
is_ram_size size = size % 65536 == 0 && nat_le 65536 size && nat_le size 16777216

-- `count` bytes from an address on are all in the memory
abbrev pub is_inside : List ℕ → ℕ → ℕ → Bool
is_inside memory address count = nat_le ram_base address && nat_le (address + count) (ram_base + length memory)

-- `count` bytes from an address on, if all of them are in the memory. Accesses read memory through this function.
unfoldable pub read : List ℕ → ℕ → ℕ → Option (List ℕ)
read memory address count =
    if is_inside memory address count then Some (take count (drop (address - ram_base) memory)) else None

-- The memory with these bytes from an index on, and every other byte unchanged. `write` changes memory through this function.
abbrev pub write_bytes : List ℕ → ℕ → List ℕ → List ℕ
write_bytes memory index bytes = take index memory ++ (bytes ++ drop (index + length bytes) memory)

-- `write` is the memory with these bytes from an address on, if all of them are in it
unfoldable pub write : List ℕ → ℕ → List ℕ → Option (List ℕ)
write memory address bytes =
    if is_inside memory address (length bytes) then Some (write_bytes memory (address - ram_base) bytes) else None

-- `byte_at` is the byte at an address
abbrev pub byte_at : List ℕ → ℕ → Option ℕ
byte_at memory address = option_map (λ bytes. slice_index bytes 0) (read memory address 1)

-- `number_of_bytes` is the little-endian number of these bytes
abbrev pub number_of_bytes : List ℕ → ℕ
number_of_bytes [] = 0
number_of_bytes (byte ∷ bytes) = byte + 2 ^ 8 * number_of_bytes bytes

-- `number_at` is the little-endian number in `count` bytes from an address on, if all of them are in the memory
abbrev pub number_at : List ℕ → ℕ → ℕ → Option ℕ
number_at memory address count = option_map number_of_bytes (read memory address count)

-- `bytes_of` has the `count` lowest bytes of a word, little-endian
abbrev pub bytes_of : ℕ → ℕ → List ℕ
bytes_of count word = take count (byte_of word 0 ∷ byte_of word 1 ∷ byte_of word 2 ∷ byte_of word 3 ∷ [])
