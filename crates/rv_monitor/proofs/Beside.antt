-- An enclave that runs on some hart is live, has the state Running, and still runs on this hart after a step of another hart.
use Rattle.std.proofs.Common.{◌≡◌, ◌≢◌, ◌<◌, ℕ, true, false, Option, Some, None, refl, sym, ◌∙◌, ap, inl, inr}
use Rattle.std.specs.Prelude.{is_some}
use Rattle.std.proofs.lemmas.List.Folds.{list_any_at}
use Rattle.rv_monitor.specs.Prelude.{Host, HartState, is_live, is_running, is_world_of, option_case, slot_at}
use Rattle.rv_monitor.proofs.Prelude.{Invariant, MonitoredMachine, SlotInfo, both_ways, cases_lt, count_of, list_any, runs_on, hart_state_of, reprogrammed}
use Rattle.rv_monitor.proofs.Prelude.{step_of, worlds}
use Rattle.rv_monitor.proofs.Booleans.{right_if_not_left}
use Rattle.rv_monitor.proofs.Others.{any_with_world_in_front}
use Rattle.rv_monitor.proofs.InvariantLemmas.{other_worlds_of, world_index_in_range, world_at, world_write_changes_nothing}
use Rattle.rv_monitor.proofs.HartCases.{past_hart_state, step_programmed}

-- a hart that runs an enclave is a hart of the machine
pub running_hart_in_range : (slot hart : ℕ) (machine : MonitoredMachine)
    → runs_on slot hart machine ≡ true → hart < count_of machine
running_hart_in_range slot hart machine runs_on_hart = elim (cases_lt hart (count_of machine)) [
  | inl in_range ↦ in_range
  -- no hart of the machine has this number
  | inr past_last ↦
      let contradiction : false ≡ true =
      sym (ap (λ (hart_state : HartState). is_world_of slot hart_state.world) (past_hart_state machine.hart_states hart past_last)) ∙ runs_on_hart in
      cc
]

-- an enclave that runs on some hart is among the worlds of the machine
pub runs_among : (slot hart : ℕ) (machine : MonitoredMachine) → runs_on slot hart machine ≡ true
    → list_any (is_world_of slot) (worlds machine) ≡ true
runs_among slot hart machine runs_on_hart =
    let in_range = running_hart_in_range slot hart machine runs_on_hart in
    list_any_at (is_world_of slot) (worlds machine) hart Host (world_index_in_range hart machine in_range)
    (ap (is_world_of slot) (world_at hart machine in_range) ∙ runs_on_hart)

-- a slot whose record has the state Running is live
pub live_if_running : (maybe_info : Option SlotInfo)
    → option_case maybe_info false (λ info. is_running info.state) ≡ true → is_some maybe_info ≡ true
live_if_running None runs = runs
live_if_running (Some info) runs = refl

-- an enclave that runs on some hart is live
pub running_is_live : (slot hart : ℕ) (machine : MonitoredMachine) → Invariant machine → runs_on slot hart machine ≡ true
    → is_live machine.shared.table slot ≡ true
running_is_live slot hart machine invariant runs_on_hart =
    live_if_running (slot_at machine.shared.table slot) (invariant.shared.running slot ∙ runs_among slot hart machine runs_on_hart)

-- ---- the other harts

-- an enclave that runs on some hart, and not on the hart that steps, is among the worlds of the other harts
pub runs_among_others : (slot hart slot_hart : ℕ) (machine : MonitoredMachine) → hart < count_of machine
    → runs_on slot slot_hart machine ≡ true
    → runs_on slot hart machine ≡ false → list_any (is_world_of slot) (other_worlds_of hart machine) ≡ true
runs_among_others slot hart slot_hart machine in_range runs_on_hart not_running =
    right_if_not_left (runs_on slot hart machine) _
    (sym (any_with_world_in_front (is_world_of slot) (worlds machine) hart (hart_state_of hart machine).world
    (world_index_in_range hart machine in_range))
    ∙ ap (list_any (is_world_of slot)) (world_write_changes_nothing hart machine in_range) ∙ runs_among slot slot_hart machine runs_on_hart)
    not_running

-- if an enclave runs on one hart and not on the hart that steps, then the two harts differ
pub harts_differ : (slot hart other_hart : ℕ) (machine : MonitoredMachine) → runs_on slot hart machine ≡ false
    → runs_on slot other_hart machine ≡ true → other_hart ≢ hart
harts_differ slot hart other_hart machine not_running runs_on_hart harts_equal =
    both_ways _ not_running (ap (λ (some_hart : ℕ). runs_on slot some_hart machine) (sym harts_equal) ∙ runs_on_hart)

-- a step of a hart that does not run enclave `slot` changes only the PMP entries and mie of a hart that runs enclave `slot`
pub hart_state_preserved : (slot hart : ℕ) (machine : MonitoredMachine) → Invariant machine
    → runs_on slot hart machine ≡ false → (other_hart : ℕ)
    → runs_on slot other_hart machine ≡ true
    → hart_state_of other_hart (step_of hart machine).state ≡ reprogrammed (step_of hart machine).state.shared.table
    (hart_state_of other_hart machine)
hart_state_preserved slot hart machine invariant not_running other_hart runs_on_hart =
    step_programmed hart other_hart machine invariant (harts_differ slot hart other_hart machine not_running runs_on_hart)
    (running_hart_in_range slot other_hart machine runs_on_hart)
