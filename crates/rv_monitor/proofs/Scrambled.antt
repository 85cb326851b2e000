-- Scramble preserves the invariant of the machine, and changes only what is private to the scrambled enclave.
use Rattle.std.proofs.Common.{◌≡◌, ℕ, Bool, true, false, sym, ap}
use Rattle.std.specs.Prelude.{if◌then◌else◌}
use Rattle.rv_enclaves.specs.Scramble.{can_scramble, scrambled_shared}
use Rattle.rv_enclaves.proofs.Scrambled.{scrambled_sound, scrambled_agrees}
use Rattle.rv_enclaves.proofs.ScrambledTwice.{shared_twice}
use Rattle.rv_enclaves.proofs.Alike.{itself}
use Rattle.rv_monitor.specs.Prelude.{Shared}
use Rattle.rv_monitor.specs.Scrambled.{scrambled, ScrambleLaw}
use Rattle.rv_monitor.proofs.Prelude.{EquivExcept, Invariant, MonitoredMachine, worlds}
use Rattle.rv_monitor.proofs.EquivLemmas.{equiv_itself, shared_equiv}

-- ---- the machine

-- a scramble of `slot` preserves the invariant
pub scramble_invariant : (machine : MonitoredMachine) (slot : ℕ) → Invariant machine
    → can_scramble machine.shared.table slot ≡ true
    → Invariant (scrambled machine slot)
unfolding scrambled_shared
scramble_invariant machine slot invariant may_scramble = record {
  shared = scrambled_sound machine.shared (worlds machine) slot invariant.shared may_scramble;
  hart_states = invariant.hart_states;
}

-- the scrambled machine is equivalent except `slot` to the machine before the scramble
pub scramble_equiv : (machine : MonitoredMachine) (slot : ℕ) → Invariant machine
    → can_scramble machine.shared.table slot ≡ true
    → EquivExcept slot machine (scrambled machine slot)
scramble_equiv machine slot invariant may_scramble =
    shared_equiv slot machine machine machine.shared (scrambled_shared machine.shared slot) (equiv_itself slot machine (itself slot machine.shared))
    (scrambled_agrees machine.shared (worlds machine) slot invariant.shared may_scramble)

-- ---- the function `scramble`, which changes nothing if the slot may not be scrambled

-- the machine with another shared state
abbrev with_shared : MonitoredMachine → Shared → MonitoredMachine
with_shared machine shared = record machine { shared = shared }

-- the shared state, scrambled if `is_scrambled` holds
abbrev pub scrambled_if : Bool → MonitoredMachine → ℕ → Shared
scrambled_if is_scrambled machine slot = if is_scrambled then scrambled_shared machine.shared slot else machine.shared

-- a machine keeps the invariant if the monitor scrambles `slot` only when `slot` may be scrambled
pub scrambled_if_invariant : (is_scrambled : Bool) (machine : MonitoredMachine) (slot : ℕ)
    → is_scrambled ≡ can_scramble machine.shared.table slot → Invariant machine
    → Invariant (with_shared machine (scrambled_if is_scrambled machine slot))
-- the slot is scrambled, so it may be scrambled
scrambled_if_invariant true machine slot scrambled_if_permitted invariant = scramble_invariant machine slot invariant (sym scrambled_if_permitted)
-- the slot is not scrambled, and the machine is unchanged
scrambled_if_invariant false machine slot scrambled_if_permitted invariant = invariant

-- the machine after a call of scramble, which may have had no effect, is equivalent except `slot` to the machine before the call
pub scrambled_if_equiv : (is_scrambled : Bool) (machine : MonitoredMachine) (slot : ℕ)
    → is_scrambled ≡ can_scramble machine.shared.table slot → Invariant machine
    → EquivExcept slot machine (with_shared machine (scrambled_if is_scrambled machine slot))
-- the slot is scrambled, so it may be scrambled
scrambled_if_equiv true machine slot scrambled_if_permitted invariant = scramble_equiv machine slot invariant (sym scrambled_if_permitted)
-- the slot is not scrambled, and the machine is unchanged
scrambled_if_equiv false machine slot scrambled_if_permitted invariant = equiv_itself slot machine (itself slot machine.shared)

-- proves that two scrambles restore the machine
pub scramble_law : ScrambleLaw
scramble_law machine slot bytes words =
    ap (λ (shared : Shared). record machine { shared = shared }) (shared_twice machine.shared slot bytes words)
