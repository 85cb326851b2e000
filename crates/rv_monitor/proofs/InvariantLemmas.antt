-- Every step of a hart, and every change by the debugger, preserves the invariant of the machine.
use Rattle.std.proofs.Common.{◌≡◌, ◌<◌, ◌≤◌, ℕ, Bool, List, [], ◌∷◌, length, slice_set, Option, Some, None, refl, sym, ◌∙◌, ap, subst, inl, inr, arith}
use Rattle.std.specs.Prelude.{map, slice_index_or}
use Rattle.std.proofs.lemmas.Simd.{map-map}
use Rattle.rv_monitor.specs.Prelude.{Host, SharedInvariant, HartState, Slots, Trap, World}
use Rattle.rv_monitor.proofs.Prelude.{HostContextsAreLegal, HostContextIsLegal, Invariant, HartViewInvariant, HartInvariant}
use Rattle.rv_monitor.proofs.Prelude.{MonitoredMachine, SchedInvariantLaw, cases_eq, cases_lt}
use Rattle.rv_monitor.proofs.Prelude.{changed, count_of, get_or-map, length-map, length-set, map-set, monitored_step, hart_state_at_start}
use Rattle.rv_monitor.proofs.Prelude.{hart_state_of, reprogrammed, hart_states_reprogrammed, hart_view, set-get_or, set_past, sound_by_size}
use Rattle.rv_monitor.proofs.Prelude.{step_of, stepped_by}
use Rattle.rv_monitor.proofs.Prelude.{with_hart_state, worlds}
use Rattle.rv_monitor.proofs.Others.{shared_invariant-moved_back, shared_invariant-moved_to_front, without}
use Rattle.rv_monitor.proofs.HartCases.{other_hart_is_programmed, by_hart, hart_cases, stepped_count, other_hart_state, stepping_hart_state}
use Rattle.rv_monitor.proofs.StepInvariant.{InvariantBeside, reprogrammed_invariant, view_invariant_of_parts, reprogrammed_by, step_invariant}

-- ---- the world on a hart, and those on the other harts

-- the world of a hart state
abbrev world_of : HartState → World
world_of hart_state = hart_state.world

-- each hart of the machine has its world in the list of worlds
pub world_index_in_range : (hart : ℕ) (machine : MonitoredMachine) → hart < count_of machine
    → hart < length (worlds machine)
world_index_in_range hart machine in_range =
    let same_length = length-map machine.hart_states world_of in omega (arith, same_length, in_range)

-- the world in the list at the number of a hart is the world of this hart
pub world_at : (hart : ℕ) (machine : MonitoredMachine) → hart < count_of machine
    → slice_index_or (worlds machine) hart Host ≡ (hart_state_of hart machine).world
world_at hart machine in_range = get_or-map world_of machine.hart_states hart (hart_state_at_start 0) Host in_range

-- the worlds of the other harts
abbrev pub other_worlds_of : ℕ → MonitoredMachine → List World
other_worlds_of hart machine = without (worlds machine) hart

-- the list of worlds is unchanged if the world of a hart is written to its own place
pub world_write_changes_nothing : (hart : ℕ) (machine : MonitoredMachine) → hart < count_of machine
    → slice_set (worlds machine) hart (hart_state_of hart machine).world ≡ worlds machine
world_write_changes_nothing hart machine in_range =
    ap (slice_set (worlds machine) hart) (sym (world_at hart machine in_range)) ∙ set-get_or (worlds machine) hart Host

-- ---- one hart

-- the shared invariant holds for the list of worlds that begins with the world of the hart, followed by the worlds of the other harts
pub shared_invariant_in_front : (hart : ℕ) (machine : MonitoredMachine) → Invariant machine → hart < count_of machine
    → SharedInvariant machine.shared ((hart_state_of hart machine).world ∷ other_worlds_of hart machine)
shared_invariant_in_front hart machine invariant in_range =
    shared_invariant-moved_to_front machine.shared (worlds machine) hart (hart_state_of hart machine).world
    (world_index_in_range hart machine in_range)
    (subst (SharedInvariant machine.shared) (sym (world_write_changes_nothing hart machine in_range)) invariant.shared)

-- the view of each hart of a machine with the invariant has the invariant
pub hart_view_invariant : (hart : ℕ) (machine : MonitoredMachine) → Invariant machine → hart < count_of machine
    → HartViewInvariant (hart_view hart machine)
hart_view_invariant hart machine invariant in_range =
    view_invariant_of_parts (hart_state_of hart machine) machine.shared (worlds machine) invariant.shared (invariant.hart_states hart in_range)

-- a step of a hart preserves the invariant of the shared state and of the hart, with the worlds of the other harts
pub invariant_of_others : (hart : ℕ) (machine : MonitoredMachine) → Invariant machine → hart < count_of machine
    → InvariantBeside (other_worlds_of hart machine) (monitored_step (hart_view hart machine))
invariant_of_others hart machine invariant in_range =
    step_invariant (other_worlds_of hart machine) (hart_state_of hart machine) machine.shared
    (shared_invariant_in_front hart machine invariant in_range)
    (invariant.hart_states hart in_range)

-- ---- the machine

-- the reprogramming after a trap does not change the worlds
reprogramming_keeps_worlds : (maybe_trap : Option Trap) (table : Slots) (hart_states : List HartState)
    → map world_of (hart_states_reprogrammed maybe_trap table hart_states) ≡ map world_of hart_states
reprogramming_keeps_worlds None table hart_states = refl
reprogramming_keeps_worlds (Some trap) table hart_states = map-map world_of (reprogrammed table) hart_states

-- the machine after a step of one of its harts has the invariant
invariant_after_step : (hart : ℕ) (machine : MonitoredMachine) → Invariant machine → hart < count_of machine
    → Invariant (stepped_by hart machine (monitored_step (hart_view hart machine))).state
invariant_after_step hart machine invariant in_range =
    let after = monitored_step (hart_view hart machine) in
    let table = after.state.shared.table in
    let trap = after.outcome.step.trap in
    let (shared_invariant_after, hart_invariant_after) = invariant_of_others hart machine invariant in_range in
    let same_length = stepped_count hart machine after in
    record {
      -- the shared invariant holds for the world of the stepping hart in front, and so for the list of worlds in the order of the harts
      shared = subst (SharedInvariant after.state.shared)
          (sym (map-set world_of (hart_states_reprogrammed trap table machine.hart_states) hart after.state.hart_state
          ∙ ap (λ (worlds : List World). slice_set worlds hart after.state.hart_state.world)
          (reprogramming_keeps_worlds trap table machine.hart_states)))
          (shared_invariant-moved_back after.state.shared (worlds machine) hart after.state.hart_state.world
          (world_index_in_range hart machine in_range) shared_invariant_after);
      -- the stepping hart keeps its invariant, and each other hart is reprogrammed for the new table
      hart_states = λ other_hart other_in_new_range.
          let other_in_range : other_hart < count_of machine = omega (arith, same_length, other_in_new_range) in
          elim (cases_eq other_hart hart) [
            -- the stepping hart has the invariant after the step of its view
            | inl is_stepping_hart ↦
                subst (HartInvariant table) (sym (stepping_hart_state hart machine after other_hart is_stepping_hart in_range)) hart_invariant_after
            -- another hart keeps its state, with the PMP entries and mie of the new table
            | inr is_other_hart ↦
                subst (HartInvariant table)
                (sym (other_hart_state hart machine after other_hart is_other_hart other_in_range
                ∙ other_hart_is_programmed hart other_hart machine invariant other_in_range))
                (reprogrammed_invariant machine.shared.table table (hart_state_of other_hart machine)
                (invariant.hart_states other_hart other_in_range))
          ];
    }

-- proves that a step preserves the invariant
pub invariant_law : (hart : ℕ) (machine : MonitoredMachine) → Invariant machine → Invariant (step_of hart machine).state
invariant_law hart machine invariant =
    by_hart hart machine (λ after. Invariant after.state) invariant (invariant_after_step hart machine invariant)

-- proves that steps of the harts in any order preserve the invariant
pub sched_invariant : SchedInvariantLaw
sched_invariant [] machine invariant = invariant
sched_invariant (hart ∷ harts) machine invariant =
    sched_invariant harts (step_of hart machine).state (invariant_law hart machine invariant)

-- ---- changes by the debugger

-- the hart state with other registers and another timer line
abbrev pub written : List ℕ → Bool → HartState → HartState
written regs raised hart_state = record hart_state {
  hart = record hart_state.hart { regs = regs; csrs = record hart_state.hart.csrs { timer = raised } };
}

-- a hart keeps its invariant if the debugger writes its registers or its timer line
written_hart_invariant : (table : Slots) (regs : List ℕ) (raised : Bool) (hart_state : HartState)
    → HartInvariant table hart_state
    → HartInvariant table (written regs raised hart_state)
written_hart_invariant table regs raised hart_state hart_invariant =
    let layout = hart_invariant.layout in
    reprogrammed_by table table hart_state (written regs raised hart_state).hart hart_invariant layout.entries layout.mie refl refl

-- a machine keeps its invariant if the debugger writes the registers or the timer line of one of its harts
written_invariant_of_hart : (hart : ℕ) (regs : List ℕ) (raised : Bool) (machine : MonitoredMachine)
    → Invariant machine → hart < count_of machine
    → Invariant (with_hart_state hart (written regs raised (hart_state_of hart machine)) machine)
written_invariant_of_hart hart regs raised machine invariant in_range =
    let hart_state = hart_state_of hart machine in
    let new_state = written regs raised hart_state in
    let same_length = length-set machine.hart_states hart new_state in
    record {
      -- the worlds are unchanged, because the new state has the world of the old state
      shared =
          subst (SharedInvariant machine.shared)
          (sym (map-set world_of machine.hart_states hart new_state ∙ world_write_changes_nothing hart machine in_range)) invariant.shared;
      -- the new state keeps the invariant of the hart, and the other harts are unchanged
      hart_states = λ other_hart other_in_range.
          hart_cases machine.hart_states hart new_state (λ hart some_state. hart < count_of machine
          → HartInvariant machine.shared.table some_state) in_range
          (λ is_in_range. written_hart_invariant machine.shared.table regs raised hart_state (invariant.hart_states hart in_range))
          (λ hart is_other_hart. invariant.hart_states hart) other_hart
          (omega (arith, same_length, other_in_range));
    }

-- a write with a number that is not the number of a hart has no effect
pub no_hart_unchanged : (hart : ℕ) (hart_state : HartState) (machine : MonitoredMachine) → count_of machine ≤ hart
    → with_hart_state hart hart_state machine ≡ machine
no_hart_unchanged hart hart_state machine past_last =
    ap (λ (hart_states : List HartState). let after : MonitoredMachine = record { hart_states = hart_states; shared = machine.shared } in after)
    (set_past machine.hart_states hart hart_state past_last)

-- a machine keeps its invariant if the debugger writes the registers or the timer line at any hart number
pub written_invariant : (hart : ℕ) (regs : List ℕ) (raised : Bool) (machine : MonitoredMachine) → Invariant machine
    → Invariant (with_hart_state hart (written regs raised (hart_state_of hart machine)) machine)
written_invariant hart regs raised machine invariant = elim (cases_lt hart (count_of machine)) [
  | inl in_range ↦ written_invariant_of_hart hart regs raised machine invariant in_range
  -- no hart of the machine has this number
  | inr past_last ↦
      subst Invariant (sym (no_hart_unchanged hart (written regs raised (hart_state_of hart machine)) machine past_last)) invariant
]

-- the saved host contexts of a machine stay legal if one hart gets a state with a legal saved host context
pub hart_write_keeps_contexts_legal : (hart : ℕ) (hart_state : HartState) (machine : MonitoredMachine)
    → HostContextsAreLegal machine
    → hart < count_of machine
    → HostContextIsLegal hart_state
    → HostContextsAreLegal (with_hart_state hart hart_state machine)
hart_write_keeps_contexts_legal hart hart_state machine contexts_legal in_range context_is_legal =
    hart_cases machine.hart_states hart hart_state (λ some_hart some_state. HostContextIsLegal some_state) in_range context_is_legal
    (λ some_hart is_other_hart. contexts_legal some_hart)

-- a property of hart states that a change preserves is the same for each hart before and after the change of one hart
pub change_preserves : {X : Type 0} (property : HartState → X) (change : HartState → HartState)
    → ((hart_state : HartState) → property (change hart_state) ≡ property hart_state)
    → (hart other_hart : ℕ) (machine : MonitoredMachine)
    → property (hart_state_of other_hart (changed hart change machine)) ≡ property (hart_state_of other_hart machine)
change_preserves property change preserved hart other_hart machine = elim (cases_lt hart (count_of machine)) [
  -- no hart of the machine has this number
  | inr past_last ↦
      ap (λ (machine : MonitoredMachine). property (hart_state_of other_hart machine))
      (no_hart_unchanged hart (change (hart_state_of hart machine)) machine past_last)
  | inl in_range ↦
      hart_cases machine.hart_states hart (change (hart_state_of hart machine))
      (λ hart some_state. property some_state ≡ property (hart_state_of hart machine)) in_range
      (preserved (hart_state_of hart machine))
      (λ some_hart is_other_hart. refl) other_hart
]

-- a machine keeps its invariant with another memory of the same size
pub invariant_by_size : (machine : MonitoredMachine) (memory : List ℕ) → Invariant machine
    → length machine.shared.memory ≡ length memory
    → Invariant (record machine { shared = record machine.shared { memory = memory } })
invariant_by_size machine memory invariant same_length =
    record { shared = sound_by_size machine.shared (worlds machine) memory invariant.shared same_length; hart_states = invariant.hart_states }
