-- Two machines that are equivalent except `enclave` stay equivalent except `enclave` if the same part of each is changed alike.
use Rattle.std.proofs.Common.{◌≡◌, ◌<◌, ℕ, refl, sym, ◌∙◌, ap, subst, inl, inr, arith}
use Rattle.rv_monitor.specs.Prelude.{HartState, Shared, SharedEquivExcept, is_world_of}
use Rattle.rv_monitor.proofs.Prelude.{EquivExcept, MonitoredMachine, HartStatesEquivExcept, cases_lt, changed, count_of, length-set, hart_state_of}
use Rattle.rv_monitor.proofs.InvariantLemmas.{no_hart_unchanged}
use Rattle.rv_monitor.proofs.HartCases.{hart_cases_of_both}

-- hart states are equivalent except `enclave`, if they are equal to hart states that are equivalent except `enclave`
pub hart_states_equiv : (enclave : ℕ) (one one_equal other other_equal : HartState)
    → one ≡ one_equal → other ≡ other_equal
    → HartStatesEquivExcept enclave one_equal other_equal
    → HartStatesEquivExcept enclave one other
hart_states_equiv enclave one one_equal other other_equal one_is other_is equiv =
    subst (λ (hart_state : HartState). HartStatesEquivExcept enclave hart_state other) (sym one_is)
    (subst (HartStatesEquivExcept enclave one_equal) (sym other_is) equiv)

-- equal hart states are equivalent except `enclave`
pub same_hart_states : (enclave : ℕ) (one other : HartState) → one ≡ other → HartStatesEquivExcept enclave one other
same_hart_states enclave one other one_is =
    record { world = ap (λ (hart_state : HartState). hart_state.world) one_is; same = λ not_running. one_is }

-- two equivalent machines stay equivalent if both get shared states that are equivalent except `enclave`
pub shared_equiv : (enclave : ℕ) (one other : MonitoredMachine) (one_shared other_shared : Shared)
    → EquivExcept enclave one other
    → SharedEquivExcept enclave one_shared other_shared
    → EquivExcept enclave (record one { shared = one_shared }) (record other { shared = other_shared })
shared_equiv enclave one other one_shared other_shared equiv shared =
    record { harts = equiv.harts; hart_states = equiv.hart_states; shared = shared }

-- a machine is equivalent except `enclave` to itself, if its shared state is equivalent except `enclave` to itself
pub equiv_itself : (enclave : ℕ) (machine : MonitoredMachine) → SharedEquivExcept enclave machine.shared machine.shared
    → EquivExcept enclave machine machine
equiv_itself enclave machine shared =
    record { harts = refl; hart_states = λ hart. record { world = refl; same = λ not_running. refl }; shared = shared }

-- the same change of a hart of two equivalent machines leaves these machines equivalent, if the change keeps the world of the hart
changed_equiv_in_range : (enclave hart : ℕ) (change : HartState → HartState) (one other : MonitoredMachine)
    → ((hart_state : HartState) → (change hart_state).world ≡ hart_state.world)
    → hart < count_of one → EquivExcept enclave one other
    → EquivExcept enclave (changed hart change one) (changed hart change other)
changed_equiv_in_range enclave hart change one other keeps_world in_range equiv =
    let first_changed = change (hart_state_of hart one) in
    let second_changed = change (hart_state_of hart other) in
    let same_harts = equiv.harts in
    let same_hart = equiv.hart_states hart in
    record {
      harts =
          length-set one.hart_states hart first_changed ∙ equiv.harts
          ∙ sym (length-set other.hart_states hart second_changed);
      -- the changed hart states are equivalent, and every other hart state is unchanged
      hart_states =
          hart_cases_of_both one.hart_states other.hart_states hart first_changed second_changed
          (λ some_hart first_state second_state. HartStatesEquivExcept enclave first_state second_state) same_harts in_range (record {
            world = keeps_world (hart_state_of hart one) ∙ same_hart.world ∙ sym (keeps_world (hart_state_of hart other));
            same =
                λ not_running. ap change (same_hart.same (sym (ap (is_world_of enclave) (keeps_world (hart_state_of hart one))) ∙ not_running));
          }) (λ hart distinct. equiv.hart_states hart);
      shared = equiv.shared;
    }

-- the same change of the state at any hart number leaves two equivalent machines equivalent, if the change keeps the world
pub changed_equiv : (enclave hart : ℕ) (change : HartState → HartState) (one other : MonitoredMachine)
    → ((hart_state : HartState) → (change hart_state).world ≡ hart_state.world)
    → EquivExcept enclave one other → EquivExcept enclave (changed hart change one) (changed hart change other)
changed_equiv enclave hart change one other keeps_world equiv = elim (cases_lt hart (count_of one)) [
  | inl in_range ↦ changed_equiv_in_range enclave hart change one other keeps_world in_range equiv
  -- no hart of the machine has this number
  | inr past_last ↦
      let same_harts = equiv.harts in
      let first_unchanged = no_hart_unchanged hart (change (hart_state_of hart one)) one past_last in
      let second_unchanged =
      no_hart_unchanged hart (change (hart_state_of hart other)) other (omega (arith, same_harts, past_last)) in
      rw (first_unchanged, second_unchanged) equiv
]
