-- Sets of addresses, for breakpoints and watchpoints: sorted lists of at most 32 addresses. (This project's own debugger.)
use Rattle.std.specs.Prelude.{ℕ, ◌<◌, ◌≤◌, ◌==◌, Bool, not, nat_lt, List, [], ◌∷◌, ◌++◌, length, slice_index, filter, Option, Some}
use Rattle.std.specs.Prelude.{None, if◌then◌else◌}
use Rattle.std.specs.List.{list_any}

-- the list is sorted without repetition, and all its addresses are above `low`
abbrev pub IsSortedAbove : ℕ → List ℕ → Type 0
IsSortedAbove low [] = Unit {0}
IsSortedAbove low (first ∷ rest) = (low < first) × IsSortedAbove first rest

-- the list is sorted without repetition
abbrev pub IsSorted : List ℕ → Type 0
IsSorted [] = Unit {0}
IsSorted (first ∷ rest) = IsSortedAbove first rest

-- `place` is the index at which an address that is not in the list would be inserted: lower addresses are before it, and higher addresses are after
pub record HasPlace (addresses : List ℕ) (address place : ℕ) : Type 0 where
  pub within : place ≤ length addresses
  pub below : (index : ℕ) → index < place → slice_index addresses index < address
  pub above : (index : ℕ) → place ≤ index → index < length addresses → address < slice_index addresses index

-- whether an address is in the set
abbrev pub is_among : ℕ → List ℕ → Bool
is_among address addresses = list_any (λ element. element == address) addresses

-- `with_address` is the set with the address inserted
abbrev pub with_address : ℕ → List ℕ → List ℕ
with_address address addresses =
    filter (λ element. nat_lt element address) addresses ++ address ∷ filter (λ element. nat_lt address element) addresses

-- `without_address` is the set without the address
abbrev pub without_address : ℕ → List ℕ → List ℕ
without_address address addresses = filter (λ element. not (element == address)) addresses

-- `with_room_for` is the set with the address, or None if the set would have more than 32 addresses. An address that is already in the set needs no
-- room.
unfoldable pub with_room_for : ℕ → List ℕ → Option (List ℕ)
with_room_for address addresses =
    if is_among address addresses then Some addresses
    else (if nat_lt (length addresses) 32 then Some (with_address address addresses) else None)
