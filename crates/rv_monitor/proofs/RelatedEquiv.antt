-- Two machines that are related are equivalent except `enclave` in the guest view, if the window of a running enclave has equal bytes in both. Two
-- machines that are equivalent except `enclave` in the guest view are related, if each hart that runs `enclave` has the same saved host in both.
use Rattle.std.proofs.Common.{◌≡◌, ℕ, ◌+◌, true, false, refl, sym, ◌∙◌, ap, inl, inr}
use Rattle.std.proofs.lemmas.Bool.{cases_Bool, or_parts}
use Rattle.std.specs.Prelude.{not, slice_index}
use Rattle.rv_enclaves.specs.Table.{runs, window}
use Rattle.rv_monitor.specs.Declassification.{AreRelated, EquivToGuests, SameHostOn, SameWindow}
use Rattle.rv_monitor.specs.GuestView.{guest_state, guest_view}
use Rattle.rv_monitor.specs.Prelude.{has, ram_base, region}
use Rattle.rv_monitor.proofs.Prelude.{MonitoredMachine, hart_state_of, length-map, runs_on}
use Rattle.rv_monitor.proofs.EquivLemmas.{hart_states_equiv}
use Rattle.rv_monitor.proofs.GuestView.{guest_hart_state}

-- two machines, and the `enclave` that may differ in them
module _ (enclave : ℕ) (one other : MonitoredMachine) where
  -- two related machines are equivalent except `enclave` in the guest view, if the window of a running enclave has equal bytes in both
  pub related_equiv : AreRelated enclave one other → (runs one.shared.table enclave ≡ true → SameWindow enclave one other)
      → EquivToGuests enclave one other
  related_equiv related same_window = record {
    harts = length-map one.hart_states guest_state ∙ related.harts ∙ sym (length-map other.hart_states guest_state);
    hart_states = λ hart.
        hart_states_equiv enclave (hart_state_of hart (guest_view one)) (guest_state (hart_state_of hart one)) (hart_state_of hart (guest_view other))
        (guest_state (hart_state_of hart other)) (guest_hart_state hart one) (guest_hart_state hart other) (related.hart_states hart);
    shared = record {
      table = related.table;
      memory = record { size = related.memory.size; bytes = bytes_outside_region_equal };
      contexts = related.contexts;
      gone = related.gone;
    };
  } where
    -- the memories of the two machines have equal bytes outside the region of `enclave`
    bytes_outside_region_equal : (index : ℕ) → has (region one.shared.table enclave) (ram_base + index) ≡ false
        → slice_index one.shared.memory index ≡ slice_index other.shared.memory index
    bytes_outside_region_equal index outside_region = elim (cases_Bool (runs one.shared.table enclave)) [
      -- while the enclave does not run, only bytes of the region may differ
      | inr idle ↦ related.memory.bytes index (rw (outside_region, idle) refl)
      -- while the enclave runs, the bytes of the window are equal by the premise
      | inl running ↦ elim (cases_Bool (has (window one.shared.table enclave) (ram_base + index))) [
        | inl in_window ↦ (same_window running).bytes index (ap not in_window)
        -- a byte outside the region and the window may not differ in related machines
        | inr outside_window ↦ related.memory.bytes index (rw (outside_region, running, outside_window) refl)
      ]
    ]

  -- two machines that are equivalent except `enclave` in the guest view are related, if each hart that runs `enclave` has the same saved host in both
  pub equiv_related : EquivToGuests enclave one other
      → ((hart : ℕ) → runs_on enclave hart one ≡ true → SameHostOn hart one other)
      → AreRelated enclave one other
  equiv_related equiv hosts = record {
    harts = sym (length-map one.hart_states guest_state) ∙ equiv.harts ∙ length-map other.hart_states guest_state;
    hart_states = λ hart.
        hart_states_equiv enclave (guest_state (hart_state_of hart one)) (hart_state_of hart (guest_view one))
        (guest_state (hart_state_of hart other))
        (hart_state_of hart (guest_view other)) (sym (guest_hart_state hart one)) (sym (guest_hart_state hart other)) (equiv.hart_states hart);
    hosts = hosts;
    table = equiv.shared.table;
    memory = record {
      size = equiv.shared.memory.size;
      -- a byte that may not differ is outside the region of `enclave`
      bytes =
          λ index not_hidden.
          let (outside_region, _) = or_parts (has (region one.shared.table enclave) (ram_base + index)) _ not_hidden in
          equiv.shared.memory.bytes index outside_region;
    };
    contexts = equiv.shared.contexts;
    gone = equiv.shared.gone;
  }
