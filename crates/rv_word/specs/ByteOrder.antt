-- The bytes of a word in memory, little-endian (RISC-V Unprivileged ISA 20191213, sections 1.4 and 2.6).
use Rattle.std.specs.Prelude.{ℕ, ◌+◌, ◌*◌, ◌/◌, ◌%◌, ◌^◌, List, slice_index}

-- the word of four bytes; byte k has the weight 2 ^ (8 * k)
abbrev pub word_of_bytes : List ℕ → ℕ
word_of_bytes bytes = slice_index bytes 0 + slice_index bytes 1 * 2 ^ 8 + slice_index bytes 2 * 2 ^ 16 + slice_index bytes 3 * 2 ^ 24

-- `byte_of` is the byte of a word at an index, from 0 for the lowest byte
abbrev pub byte_of : ℕ → ℕ → ℕ
byte_of word index = word / 2 ^ (8 * index) % 2 ^ 8
