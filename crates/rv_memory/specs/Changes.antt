-- A change of memory that is confined to some bytes. (A property of `write`, not a rule of a standard.)
use Rattle.std.specs.Prelude.{◌≡◌, ℕ, ◌+◌, ◌<◌, ◌≤◌, ◌⊎◌, List, length}
use Rattle.rv_memory.specs.Memory.{byte_at}

-- the size is unchanged, and so is every byte except `count` bytes from `address` on
pub record ChangesOnly (old new : List ℕ) (address count : ℕ) : Type 0 where
  -- the memory keeps its size
  pub size : length new ≡ length old
  -- each byte outside the range is unchanged
  pub elsewhere : (other : ℕ) → other < address ⊎ address + count ≤ other → byte_at new other ≡ byte_at old other
