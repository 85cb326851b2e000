-- This file proves obligations of `complement_all`, which complements each byte of a slice.
use Rattle.std.proofs.Common.{◌≡◌, ℕ, zero, suc, ◌<◌, List, [], ◌∷◌, ◌++◌, length, map, take, drop, refl, ap, arith, add-one}
use Rattle.std.specs.Prelude.{slice_index_or, slice_set}
use Rattle.rv_memory.specs.Complement.{complement_of}
use Rattle.rv_memory.proofs.ram.complement_all.Goals as goal

-- if the first i bytes are complemented, then complementing byte i makes the first i + 1 bytes complemented; by induction over the bytes
next_complemented : (i : ℕ) (bytes : List ℕ) → i < length bytes
    → (let first_i = map complement_of (take i bytes) ++ drop i bytes in slice_set first_i i (complement_of (slice_index_or first_i i 0)))
    ≡ map complement_of (take (suc i) bytes) ++ drop (suc i) bytes
next_complemented i [] i_in_bounds = absurd (omega arith)
next_complemented zero (byte ∷ bytes) i_in_bounds = refl
next_complemented (suc i) (byte ∷ bytes) i_in_bounds = ap (λ rest. complement_of byte ∷ rest) (next_complemented i bytes (omega arith))

-- an iteration of the loop keeps the invariant, since it complements the byte at the current index
pub loop-byte-preserved : goal.loop-byte-preserved
loop-byte-preserved c =
    let i = c.loop-byte.byte-index in
    rw (c.loop-byte.invariant, add-one i) (next_complemented i c.args.bytes.now (grind (arith, c.loop-byte.auto.byte-index-end)))
