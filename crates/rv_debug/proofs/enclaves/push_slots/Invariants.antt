-- This file states the loop invariants of `push_slots`, which writes the records of the live enclaves of the given slots.
use Rattle.std.proofs.Common.{◌≡◌, ◌+◌, ◌*◌, ◌≤◌, ◌++◌, length, take}
use Rattle.rv_debug.specs.Prelude.{slot_at}
use Rattle.rv_debug.specs.EnclaveText.{slot_text}
use Rattle.rv_debug.proofs.Prelude.{flat_map}
use Rattle.rv_debug.proofs.enclaves.push_slots.Given as goal

-- `items`: the output is the old output followed by the line of each slot passed; `len`: a line has at most 137 bytes
abbrev pub invariant-loop-slot : goal.invariant-loop-slot
invariant-loop-slot l = record {
  items : l.out.items ≡ l.fn.out.items ++ flat_map (λ slot. slot_text slot (slot_at l.table slot)) (take l.slot-index l.slots);
  len : length l.out.items ≤ length l.fn.out.items + 137 * l.slot-index;
}
