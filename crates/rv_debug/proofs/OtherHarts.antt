-- A hart that a command neither steps nor writes keeps its state, except for the PMP entries and mie, which are those of the table and its world.
use Rattle.std.proofs.Common.{◌≡◌, ◌≢◌, ◌<◌, ℕ, ◌==◌, true, false, List, [], ◌∷◌, Option, Some, None, refl, sym, ◌∙◌, ap, subst, not}
use Rattle.rv_monitor.proofs.PmpProgramming.{reprogramming_changes_nothing}
use Rattle.rv_debug.specs.Prelude.{Bare, Command, Invariant, MonitoredMachine, Monitored, HartState, Target, changed, count_of, reg_set, sched}
use Rattle.rv_debug.specs.Prelude.{hart_state_at_start, hart_state_of, reprogrammed, step_of, timer_line_set, write}
use Rattle.rv_debug.proofs.Prelude.{BenchState, Selected, Effect, KeepsHart, TargetInvariant, LeavesHart, Nothing, OneByte, Register, PreservesHarts}
use Rattle.rv_debug.proofs.Prelude.{Steps, TimerLine, and_parts, execute, selected_at, effect, done, eq-eqb, get_or-set_other, harts_of}
use Rattle.rv_debug.proofs.Prelude.{invariant_law, list_all, step_count, step_programmed}
use Rattle.rv_debug.proofs.EffectsInvariant.{effect_stays_bare, poke_of}
use Rattle.rv_debug.proofs.ScheduledSteps.{bare_target, schedule_is_sched}

-- ---- steps of the other harts

-- the invariant says that a hart has the PMP entries and mie of the table, so reprogramming leaves it as it is
reprogrammed_as_is : (hart : ℕ) (machine : MonitoredMachine) → Invariant machine → hart < count_of machine
    → hart_state_of hart machine ≡ reprogrammed machine.shared.table (hart_state_of hart machine)
reprogrammed_as_is hart machine invariant in_range =
    sym (reprogramming_changes_nothing machine.shared.table (hart_state_of hart machine) (invariant.hart_states hart in_range))

-- two hart numbers differ if the test of equality fails
differs_if_test_fails : (stepped_hart hart : ℕ) → not (stepped_hart == hart) ≡ true → hart ≢ stepped_hart
differs_if_test_fails stepped_hart hart not_equal equal =
    let is_same = eq-eqb stepped_hart hart (sym equal) in
    let contradiction : false ≡ true = rw is_same at not_equal in cc

-- Steps of other harts leave a hart as it is, except for its PMP entries and mie. The proof is by induction over the harts that step.
sched_leaves : (hart : ℕ) (harts : List ℕ) (machine : MonitoredMachine) → Invariant machine → hart < count_of machine
    → list_all (λ stepped_hart. not (stepped_hart == hart)) harts ≡ true
    → hart_state_of hart (sched harts machine).state ≡ reprogrammed (sched harts machine).state.shared.table (hart_state_of hart machine)
sched_leaves hart [] machine invariant in_range others_step = reprogrammed_as_is hart machine invariant in_range
sched_leaves hart (stepped_hart ∷ harts) machine invariant in_range others_step =
    let (stepped_is_other, rest_are_other) =
    and_parts (not (stepped_hart == hart)) (list_all (λ stepped_hart. not (stepped_hart == hart)) harts) others_step in
    let next = (step_of stepped_hart machine).state in
    let last_table = (sched harts next).state.shared.table in
    sched_leaves hart harts next (invariant_law stepped_hart machine invariant)
    (subst (λ (hart_count : ℕ). hart < hart_count) (sym (step_count stepped_hart machine)) in_range) rest_are_other
    ∙ ap (reprogrammed last_table)
    (step_programmed stepped_hart hart machine invariant (differs_if_test_fails stepped_hart hart stepped_is_other) in_range)

-- ---- a command

-- a poke leaves each hart as it is, whether or not the address is in RAM
poke_leaves : (hart : ℕ) (machine : Selected) (after : Option (List ℕ)) → Invariant machine.state → hart < count_of machine.state
    → KeepsHart hart (Monitored machine) (poke_of (Monitored machine) after)
poke_leaves hart machine None invariant in_range = reprogrammed_as_is hart machine.state invariant in_range
poke_leaves hart machine (Some memory) invariant in_range = reprogrammed_as_is hart machine.state invariant in_range

-- a write of a register or of the timer line of another hart leaves a hart as it is
write_leaves : (hart : ℕ) (machine : Selected) (change : HartState → HartState)
    → Invariant machine.state → hart < count_of machine.state → hart ≢ machine.hart
    → KeepsHart hart (Monitored machine) (selected_at machine.hart (changed machine.hart change machine.state))
write_leaves hart machine change invariant in_range is_other =
    get_or-set_other machine.state.hart_states machine.hart hart (change (hart_state_of machine.hart machine.state)) (hart_state_at_start 0) is_other
    ∙ reprogrammed_as_is hart machine.state invariant in_range

-- an effect leaves each hart as it is that it neither steps nor writes
effect_leaves : (hart : ℕ) (target : Target) (change : Effect) → TargetInvariant target → hart < harts_of target → LeavesHart hart target change
    → KeepsHart hart target (done target change)
effect_leaves hart (Bare machine) change invariant in_range avoids_hart =
    bare_target (KeepsHart hart (Bare machine)) (λ bare_machine. refl) _ (effect_stays_bare machine change)
effect_leaves hart (Monitored machine) Nothing invariant in_range avoids_hart = reprogrammed_as_is hart machine.state invariant in_range
effect_leaves hart (Monitored machine) (Steps harts selected) invariant in_range avoids_hart =
    subst (KeepsHart hart (Monitored machine)) (sym (schedule_is_sched harts machine _ selected))
    (sched_leaves hart harts machine.state invariant in_range avoids_hart)
effect_leaves hart (Monitored machine) (Register number value) invariant in_range avoids_hart =
    write_leaves hart machine (reg_set number value) invariant in_range avoids_hart
effect_leaves hart (Monitored machine) (TimerLine raised) invariant in_range avoids_hart =
    write_leaves hart machine (timer_line_set raised) invariant in_range avoids_hart
effect_leaves hart (Monitored machine) (OneByte address byte) invariant in_range avoids_hart =
    poke_leaves hart machine (write machine.state.shared.memory address (byte ∷ [])) invariant in_range

-- Proves that a command leaves each hart as it was that its effect neither steps nor writes.
pub command_leaves_harts : (bench : BenchState) (command : Command) → TargetInvariant bench.target
    → PreservesHarts bench command (execute bench command).state
unfolding execute
command_leaves_harts bench command invariant hart in_range avoids_hart =
    effect_leaves hart bench.target (effect bench command) invariant in_range avoids_hart
