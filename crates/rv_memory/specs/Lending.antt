-- A memory after a mutable borrow of its bytes ends. (Not defined by a standard.)
use Rattle.std.specs.Prelude.{ℕ, List, ◌++◌, length, take, drop}
use Rattle.std.specs.Borrow.{Array, Fml, Lends, MutBor, u8}
use Rattle.rv_memory.specs.contracts.ram.Ram.{the_row as ram_row}

-- the memory with its bytes replaced by these, as far as there are any; its size does not change
abbrev pub with_bytes : List ℕ → List ℕ → List ℕ
with_bytes memory bytes = take (length memory) (bytes ++ drop (length bytes) memory)

-- the memory ends with the final value of the borrowed bytes, whose number does not change
abbrev pub RamLendsBytes : MutBor (List ℕ) → MutBor (List ℕ) → Fml
RamLendsBytes ram bytes = Lends ram_row (Array u8 0) ram bytes (with_bytes ram.now)
