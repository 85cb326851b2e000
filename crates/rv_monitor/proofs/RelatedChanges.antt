-- Two related machines stay related after the debugger writes to the same hart of both, or to memory.
use Rattle.std.proofs.Common.{◌≡◌, ℕ, ◌<◌, true, false, List, refl, sym, ◌∙◌, ap, ap₂, inl, inr, arith}
use Rattle.rv_enclaves.specs.declared.shared.Shared.{Shared}
use Rattle.rv_monitor.specs.Debugger.{changed, with_memory}
use Rattle.rv_monitor.specs.Declassification.{AreRelated, SameHost, may_differ}
use Rattle.rv_monitor.specs.GuestView.{guest_state}
use Rattle.rv_monitor.specs.Prelude.{EqualOutside, HartState, is_live, is_world_of}
use Rattle.rv_monitor.proofs.Prelude.{HartStatesEquivExcept, MonitoredMachine, cases_lt, count_of, hart_state_of, length-set}
use Rattle.rv_monitor.proofs.HartCases.{hart_cases_of_both}
use Rattle.rv_monitor.proofs.InvariantLemmas.{no_hart_unchanged}

-- `change` of the first hart state and `other_change` of the second keep the world, and keep related hart states related
pub record ChangesAlike (enclave : ℕ) (one other : HartState) (change other_change : HartState → HartState) : Type 0 where
  -- `change` keeps the world of the first hart
  pub world : (change one).world ≡ one.world
  -- equivalent guest states stay equivalent
  pub state : HartStatesEquivExcept enclave (guest_state one) (guest_state other)
      → HartStatesEquivExcept enclave (guest_state (change one)) (guest_state (other_change other))
  -- the saved hosts stay the same
  pub host : SameHost (guest_state one) (guest_state other)
      → SameHost (guest_state (change one)) (guest_state (other_change other))

-- the state of the same hart changes in two related machines by changes that are alike
module _ (enclave hart : ℕ) (change other_change : HartState → HartState) (one other : MonitoredMachine) (related : AreRelated enclave one other)
    (alike : ChangesAlike enclave (hart_state_of hart one) (hart_state_of hart other) change other_change) where
  -- two changes of a hart of the machines that are alike leave the machines related
  related_if_in_range : hart < count_of one → AreRelated enclave (changed hart change one) (changed hart other_change other)
  related_if_in_range in_range =
      let first_changed = change (hart_state_of hart one) in
      let second_changed = other_change (hart_state_of hart other) in
      let same_harts = related.harts in
      record {
        harts =
            length-set one.hart_states hart first_changed ∙ same_harts
            ∙ sym (length-set other.hart_states hart second_changed);
        -- the changed hart states are related, and every other hart state is unchanged
        hart_states = hart_cases_of_both one.hart_states other.hart_states hart first_changed second_changed
            (λ some_hart first_state second_state. HartStatesEquivExcept enclave (guest_state first_state)
            (guest_state second_state)) same_harts in_range (alike.state (related.hart_states hart))
            (λ some_hart distinct. related.hart_states some_hart);
        -- a change that keeps the world keeps the saved host of each hart that runs `enclave`
        hosts = hart_cases_of_both one.hart_states other.hart_states hart first_changed second_changed
            (λ some_hart first_state second_state. is_world_of enclave first_state.world ≡ true
            → SameHost (guest_state first_state) (guest_state second_state)) same_harts in_range
            (λ runs. alike.host (related.hosts hart (ap (is_world_of enclave) (sym alike.world) ∙ runs)))
            (λ some_hart distinct. related.hosts some_hart);
        table = related.table;
        memory = related.memory;
        contexts = related.contexts;
        gone = related.gone;
      }

  -- two changes at any hart number that are alike leave the machines related
  pub changed_related : AreRelated enclave (changed hart change one) (changed hart other_change other)
  changed_related = elim (cases_lt hart (count_of one)) [
    | inl in_range ↦ related_if_in_range in_range
    -- no hart of the machine has this number
    | inr past_last ↦
        let same_harts = related.harts in
        let first_unchanged = no_hart_unchanged hart (change (hart_state_of hart one)) one past_last in
        let second_unchanged =
        no_hart_unchanged hart (other_change (hart_state_of hart other)) other (omega (arith, same_harts, past_last)) in
        rw (first_unchanged, second_unchanged) related
  ]

-- two related machines stay related with two memories that are equal outside the bytes that may differ, and that are equal if the enclave is not live
pub memory_related : (enclave : ℕ) (one other : MonitoredMachine) (memory other_memory : List ℕ)
    → AreRelated enclave one other
    → EqualOutside (may_differ one.shared.table enclave) memory other_memory
    → (is_live one.shared.table enclave ≡ false → memory ≡ other_memory)
    → AreRelated enclave (with_memory one memory) (with_memory other other_memory)
memory_related enclave one other memory other_memory related equal_outside equal_if_not_live = record {
  harts = related.harts;
  hart_states = related.hart_states;
  hosts = related.hosts;
  table = related.table;
  memory = equal_outside;
  contexts = related.contexts;
  -- without a live enclave, the machines and both memories are equal
  gone =
      λ not_live. ap₂ (λ (shared : Shared) (memory : List ℕ). record shared { memory = memory }) (related.gone not_live) (equal_if_not_live not_live);
}

-- a machine is related to itself
pub related_itself : (enclave : ℕ) (machine : MonitoredMachine) → AreRelated enclave machine machine
related_itself enclave machine = record {
  harts = refl;
  hart_states = λ hart. record { world = refl; same = λ not_running. refl };
  hosts = λ hart runs. record { host = refl; rest = refl };
  table = refl;
  memory = record { size = refl; bytes = λ index not_hidden. refl };
  contexts = record { size = refl; others = λ slot distinct. refl };
  gone = λ not_live. refl;
}
