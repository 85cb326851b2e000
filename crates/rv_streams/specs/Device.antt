-- The bytes that a call of a device moves, and the counts of calls: failures, ends that a source returned, and non-empty parts that a sink did
-- not take. (This project's own streams; not defined by a standard.)
use Rattle.std.specs.Prelude.{ℕ, ◌+◌, ◌<◌, ◌==◌, nat_lt, Bool, false, ◌&&◌, Result, Ok, Err, if◌then◌else◌}

-- `moved_count` is the number of bytes that a call gave or took, or 0 if it failed
abbrev pub moved_count : {E : Type 0} → Result ℕ E → ℕ
moved_count (Ok count) = count
moved_count (Err error) = 0

-- `moves_none` states whether a call that could have moved a byte succeeded without moving one
abbrev pub moves_none : {E : Type 0} → Result ℕ E → ℕ → Bool
moves_none (Ok count) room = (count == 0) && nat_lt 0 room
moves_none (Err error) room = false

-- `counted_if` is the count after a call, which is or is not of the kind
abbrev pub counted_if : Bool → ℕ → ℕ
counted_if of_kind count = if of_kind then count + 1 else count

-- a call of the kind was made since the count was `old`
abbrev pub HasRisen : ℕ → ℕ → Type 0
HasRisen old new = old < new
