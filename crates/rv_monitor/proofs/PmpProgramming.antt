-- The trap handler reprograms the PMP entries and mie as its last action. This action changes nothing if the PMP entries and mie are already those of
-- the table and the world. No earlier action of the trap handler writes a PMP entry.
use Rattle.std.proofs.Common.{◌≡◌, ◌<◌, ℕ, suc, List, [], ◌∷◌, length, refl, ◌∙◌, ap, arith, sym, subst}
use Rattle.std.specs.Prelude.{map, slice_index_or}
use Rattle.rv_monitor.specs.Prelude.{Cause, HartState, Shared, Slots, Trap}
use Rattle.rv_monitor.proofs.Prelude.{Entries, Handled, IsUnlocked, HartInvariant, entered_slot, redirected, with_redirected_trap, handled_cause}
use Rattle.rv_monitor.proofs.Prelude.{left, hart_state_at_start, reprogrammed, with_reprogrammed_hart}
use Rattle.rv_monitor.proofs.HandlerCases.{by_cause_cases}

-- ---- a hart whose PMP entries and mie are already programmed

-- reprogramming does not change a hart with the invariant
pub reprogramming_changes_nothing : (table : Slots) (hart_state : HartState) → HartInvariant table hart_state
    → reprogrammed table hart_state ≡ hart_state
reprogramming_changes_nothing table hart_state hart_invariant =
    let entries = hart_invariant.layout.entries in
    let mie = hart_invariant.layout.mie in
    -- the hart already has the PMP entries and mie that reprogramming writes
    rw (← entries, ← mie) refl

-- reprogramming changes no hart, if each hart has the invariant
pub programmed_harts_unchanged : (table : Slots) (hart_states : List HartState)
    → ((hart : ℕ) → hart < length hart_states → HartInvariant table (slice_index_or hart_states hart (hart_state_at_start 0)))
    → map (reprogrammed table) hart_states ≡ hart_states
programmed_harts_unchanged table [] each_invariant = refl
programmed_harts_unchanged table (hart_state ∷ hart_states) each_invariant =
    let rest_unchanged =
    programmed_harts_unchanged table hart_states (λ hart in_range. each_invariant (suc hart) (omega (arith, in_range))) in
    ap (λ (hart_state : HartState). hart_state ∷ map (reprogrammed table) hart_states)
    (reprogramming_changes_nothing table hart_state (each_invariant 0 (omega arith))) ∙ ap
    (λ (hart_states : List HartState). hart_state ∷ hart_states) rest_unchanged

-- after a redirected trap, reprogramming does not change a hart that was programmed before the trap
pub redirected_is_programmed : (hart_state : HartState) (shared : Shared) (trap : Trap)
    → reprogrammed shared.table hart_state ≡ hart_state
    → with_reprogrammed_hart (redirected hart_state shared trap) ≡ redirected hart_state shared trap
unfolding with_redirected_trap
redirected_is_programmed hart_state shared trap is_programmed =
    let entries = ap (λ (hart_state : HartState). hart_state.hart.csrs.pmp) is_programmed in
    let mie = ap (λ (hart_state : HartState). hart_state.hart.csrs.mie) is_programmed in
    -- a redirection keeps the PMP entries and mie, which are already those that reprogramming writes
    rw (entries, mie) refl

-- ---- no earlier action of the trap handler writes a PMP entry

-- the PMP entries of the hart after the trap handler
abbrev pub entries_of : Handled → Entries
entries_of result = result.hart_state.hart.csrs.pmp

-- no action of the trap handler before the last one changes the PMP entries
pub handler_keeps_entries : (hart_state : HartState) (shared : Shared) (trap : Trap)
    → entries_of (handled_cause hart_state shared trap trap.cause) ≡ hart_state.hart.csrs.pmp
unfolding entered_slot left with_redirected_trap
handler_keeps_entries hart_state shared trap =
    -- no case writes a PMP entry
    by_cause_cases hart_state trap shared.table shared.memory shared.memory shared.contexts shared.contexts
    (λ result _. entries_of result ≡ hart_state.hart.csrs.pmp)
    (record {
      answers = λ status result. refl;
      creates = λ requests no_refusal. refl;
      destroys = λ requests slot_accepted. refl;
      measures = λ requests no_refusal. refl;
      enters = λ call requests is_entry_call from_host slot_accepted. refl;
      leaves = refl;
      redirects = refl;
    }) refl

-- if no PMP entry is locked before the trap handler, then none is locked before its last action, whatever caused the trap
pub unlocked_before_reprogramming : (hart_state : HartState) (shared : Shared) (cause : Cause) (result : Handled)
    → (let trap : Trap = record { cause = cause; tval = 0 } in handled_cause hart_state shared trap cause ≡ result)
    → IsUnlocked hart_state.hart.csrs.pmp → IsUnlocked result.hart_state.hart.csrs.pmp
unlocked_before_reprogramming hart_state shared cause result handled_is unlocked =
    subst IsUnlocked (sym (handler_keeps_entries hart_state shared (record { cause = cause; tval = 0 })) ∙ ap entries_of handled_is) unlocked
