-- Equivalence of two shared states except for what is private to one enclave: the bytes of its region and its context. (Not a rule of a
-- standard; the noninterference laws are about it.)
use Rattle.std.specs.Prelude.{◌≡◌, ◌≢◌, ℕ, ◌+◌, Bool, false, List, length, slice_index}
use Rattle.rv_memory.specs.Memory.{ram_base}
use Rattle.rv_memory.specs.Blocks.{has}
use Rattle.rv_enclaves.specs.Contexts.{Contexts, context_at}
use Rattle.rv_enclaves.specs.Table.{Slots, region, is_live}
use Rattle.rv_enclaves.specs.declared.shared.Shared.{Shared}

-- the addresses that are private to `enclave`
abbrev pub is_private : Slots → ℕ → ℕ → Bool
is_private table enclave = has (region table enclave)

-- two memories of one size have the same byte at each address that is not hidden
pub record EqualOutside (hidden : ℕ → Bool) (one_memory other_memory : List ℕ) : Type 0 where
  pub size : length one_memory ≡ length other_memory
  pub bytes : (index : ℕ) → hidden (ram_base + index) ≡ false → slice_index one_memory index ≡ slice_index other_memory index

-- the contexts are the same, except for that of `enclave`
pub record SameContexts (enclave : ℕ) (one other : Contexts) : Type 0 where
  pub size : length one ≡ length other
  pub others : (slot : ℕ) → slot ≢ enclave → context_at one slot ≡ context_at other slot

-- the shared states are equal except for what is private to `enclave`, and equal if `enclave` is not live
pub record SharedEquivExcept (enclave : ℕ) (one other : Shared) : Type 0 where
  pub table : one.table ≡ other.table
  pub memory : EqualOutside (is_private one.table enclave) one.memory other.memory
  pub contexts : SameContexts enclave one.contexts other.contexts
  -- if `enclave` is not live, nothing is private to it
  pub gone : is_live one.table enclave ≡ false → one ≡ other
