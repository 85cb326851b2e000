-- The complement of a byte, and a memory with some of its bytes complemented. (Not defined by a standard.)
use Rattle.std.specs.Prelude.{ℕ, ◌-◌, List, map, Option, None}
use Rattle.rv_word.specs.Cases.{option_case}
use Rattle.rv_memory.specs.Memory.{read, write}

-- `complement_of` is a byte with each bit inverted
abbrev pub complement_of : ℕ → ℕ
complement_of byte = 255 - byte

-- `complemented` is the memory with `count` bytes from an address on complemented, if all of them are in it
abbrev pub complemented : List ℕ → ℕ → ℕ → Option (List ℕ)
complemented memory address count =
    option_case (read memory address count) None (λ bytes. write memory address (map complement_of bytes))
