-- Watchpoint hits: an access to a watched byte stops a run. (This project's own debugger; for the memory accesses of an instruction, see RISC-V
-- Unprivileged ISA 20191213, section 1.4.)
use Rattle.std.specs.Prelude.{ℕ, ◌+◌, Bool, false, ◌&&◌, ◌||◌, nat_le, nat_lt, min, List, [], ◌∷◌, filter, Option, Some, None}
use Rattle.rv_memory.specs.declared.touched.Span.{Span}
use Rattle.rv_memory.specs.declared.touched.Touched.{Touched}
use Rattle.rv_debug.specs.Prelude.{bytes_in}

-- whether an address is one of the `count` addresses from `first` on
abbrev pub is_between : ℕ → ℕ → ℕ → Bool
is_between first count address = nat_le first address && nat_lt address (first + count)

-- whether the byte at the address is in the span; no byte is in a missing span
abbrev pub is_in : Option Span → ℕ → Bool
is_in None address = false
is_in (Some span) address = is_between span.addr (bytes_in span.len) address

-- whether the instruction loaded or stored the byte at the address; a fetch does not count
abbrev pub is_accessed : Touched → ℕ → Bool
is_accessed touched address = is_in touched.loaded address || is_in touched.stored address

-- the lower of two optional addresses: None counts as higher than every address
abbrev pub lower : Option ℕ → Option ℕ → Option ℕ
lower None other = other
lower (Some address) None = Some address
lower (Some address) (Some other) = Some (min address other)

-- `lowest` is the lowest address of a list, or None for the empty list
abbrev pub lowest : List ℕ → Option ℕ
lowest [] = None
lowest (address ∷ addresses) = lower (Some address) (lowest addresses)

-- `lowest_accessed` is the lowest address of a list at which the instruction loaded or stored, or None if there is no such address
unfoldable pub lowest_accessed : List ℕ → Touched → Option ℕ
lowest_accessed addresses touched = lowest (filter (is_accessed touched) addresses)
