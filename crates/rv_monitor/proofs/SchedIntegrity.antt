-- Integrity for steps of the harts in any order: steps that leave an enclave undisturbed do not change its private state.
use Rattle.std.proofs.Common.{◌≡◌, ◌⊎◌, ℕ, true, List, [], ◌∷◌, refl, sym, ◌∙◌, ap, subst, inl, inr}
use Rattle.std.proofs.lemmas.Bool.{or_right}
use Rattle.rv_monitor.specs.Prelude.{HartState, Shared, byte_at, has, is_live, is_world_of, region_of, slot_at}
use Rattle.rv_monitor.specs.Integrity.{KeepsOthersRunning}
use Rattle.rv_monitor.proofs.Prelude.{KeepsRunning, IsChanged, Invariant, IsUndisturbed, IsPreserved, IsUntouched, MonitoredMachine, MonitoredStepped}
use Rattle.rv_monitor.proofs.Prelude.{HartViewStepped, RunningLaw, SchedChangeLaw, SchedIntegrityLaw, both_ways, cases_lt, count_of}
use Rattle.rv_monitor.proofs.Prelude.{monitored_step, runs_on, sched, hart_state_of, reprogrammed, hart_view_after, hart_view, step_of}
use Rattle.rv_monitor.proofs.Beside.{live_if_running, runs_among_others, running_hart_in_range, running_is_live}
use Rattle.rv_monitor.proofs.Changes.{changes}
use Rattle.rv_monitor.proofs.SchedNoninterference.{entered_by, is_entered, still_runs_on_none}
use Rattle.rv_monitor.proofs.Integrity.{integrity}
use Rattle.rv_monitor.proofs.InvariantLemmas.{invariant_of_others, invariant_law, hart_view_invariant}
use Rattle.rv_monitor.proofs.PmpProgramming.{reprogramming_changes_nothing}
use Rattle.rv_monitor.proofs.HartCases.{by_hart, outside, step_of_view}

-- ---- two changes in turn

-- an enclave that two changes in turn preserve is preserved by both together
pub preserved_twice : (slot : ℕ) (before middle after : Shared) → IsPreserved slot before middle
    → IsPreserved slot middle after
    → IsPreserved slot before after
preserved_twice slot before middle after first_change second_change = record {
  slot = second_change.slot ∙ first_change.slot;
  bytes =
      λ byte in_region. second_change.bytes byte (ap (λ maybe_info. has (region_of maybe_info) byte) first_change.slot ∙ in_region)
      ∙ first_change.bytes byte in_region;
  context = second_change.context ∙ first_change.context;
}

-- an enclave that two steps in turn leave untouched is untouched by both together
untouched_twice : (slot : ℕ) (before middle after : MonitoredMachine) → IsUntouched slot before middle
    → IsUntouched slot middle after
    → IsUntouched slot before after
untouched_twice slot before middle after first_change second_change = record {
  preserved =
      preserved_twice slot before.shared middle.shared after.shared first_change.preserved second_change.preserved;
  hart_state = λ hart runs.
      let middle_state_is = first_change.hart_state hart runs in
      second_change.hart_state hart (ap (λ (hart_state : HartState). is_world_of slot hart_state.world) middle_state_is ∙ runs)
      ∙ ap (reprogrammed after.shared.table) middle_state_is;
}

-- an enclave is untouched by an empty list of steps
untouched_itself : (slot : ℕ) (machine : MonitoredMachine) → Invariant machine → IsUntouched slot machine machine
untouched_itself slot machine invariant = record {
  preserved = record { slot = refl; bytes = λ byte in_region. refl; context = refl };
  hart_state =
      λ hart runs. sym (reprogramming_changes_nothing machine.shared.table (hart_state_of hart machine)
      (invariant.hart_states hart (running_hart_in_range slot hart machine runs)));
}

-- ---- every order of steps

-- an enclave that a list of steps leaves undisturbed is live before these steps
first_live : (slot : ℕ) (harts : List ℕ) (machine : MonitoredMachine) → IsUndisturbed slot harts machine
    → is_live machine.shared.table slot ≡ true
first_live slot [] machine undisturbed = undisturbed
first_live slot (hart ∷ harts) machine (live, _, _, _) = live

-- proves the integrity law for steps in any order, by induction on the list
pub sched_integrity : SchedIntegrityLaw
sched_integrity slot [] machine invariant undisturbed = untouched_itself slot machine invariant
sched_integrity slot (hart ∷ harts) machine invariant (live, not_running, not_entered, rest_undisturbed) =
    let after = (step_of hart machine).state in
    untouched_twice slot machine after (sched harts after).state
    (integrity hart machine invariant slot not_running live not_entered (first_live slot harts after rest_undisturbed))
    (sched_integrity slot harts after (invariant_law hart machine invariant) rest_undisturbed)

-- ---- a running enclave is neither entered nor ended by another hart

-- proves that a step neither enters nor destroys an enclave that runs on another hart
pub others_keep_running_law : (hart : ℕ) (machine : MonitoredMachine) → Invariant machine
    → KeepsOthersRunning hart machine (step_of hart machine)
others_keep_running_law hart machine invariant slot slot_hart runs not_running = by_hart hart machine (KeepsRunning slot)
    -- a step with the number of no hart changes nothing
    (record { passes = refl; live = running_is_live slot slot_hart machine invariant runs })
    -- the worlds of two harts stay apart, so the step cannot enter an enclave that another hart runs
    (λ in_range.
    let after = monitored_step (hart_view hart machine) in
    let (sound, _) = invariant_of_others hart machine invariant in_range in
    -- no other hart runs the enclave that the stepping hart runs after its step
    let (stepping_world_is_apart, _) = sound.apart in
    let runs_on_other_hart = runs_among_others slot hart slot_hart machine in_range runs not_running in
    record {
      passes = entered_by slot after.outcome.entered
          (λ enters_slot. both_ways _ (stepping_world_is_apart slot (is_entered slot (hart_view hart machine) enters_slot)) runs_on_other_hart);
      live =
          live_if_running (slot_at after.state.shared.table slot)
          (sound.running slot ∙ or_right (is_world_of slot after.state.hart_state.world) _ runs_on_other_hart);
    })

-- proves that steps of other harts leave a running enclave undisturbed
pub running_law : RunningLaw
running_law slot slot_hart [] machine invariant runs runs_on_none = running_is_live slot slot_hart machine invariant runs
running_law slot slot_hart (hart ∷ harts) machine invariant runs (not_running, not_running_on_rest) =
    let after = (step_of hart machine).state in
    let live = running_is_live slot slot_hart machine invariant runs in
    -- the first step neither enters nor destroys the enclave, so the hart still runs the enclave
    let continues = others_keep_running_law hart machine invariant slot slot_hart runs not_running in
    let preserved = integrity hart machine invariant slot not_running live continues.passes continues.live in
    let runs_after : runs_on slot slot_hart after ≡ true =
    ap (λ (hart_state : HartState). is_world_of slot hart_state.world) (preserved.hart_state slot_hart runs) ∙ runs in (
      live,
      not_running,
      continues.passes,
      running_law slot slot_hart harts after (invariant_law hart machine invariant) runs_after
          (still_runs_on_none slot hart harts machine not_running_on_rest continues.passes),
    )

-- ---- which bytes the steps change

-- a step of any hart number changes only bytes that the step may change
step_changes : (hart : ℕ) (machine : MonitoredMachine) (byte : ℕ) → Invariant machine
    → byte_at (step_of hart machine).state.shared.memory byte ≡ byte_at machine.shared.memory byte
    ⊎ IsChanged (hart_view hart machine) (hart_view_after hart (step_of hart machine)) byte
step_changes hart machine byte invariant = elim (cases_lt hart (count_of machine)) [
  -- no hart of the machine has this number
  | inr past_last ↦
      inl (ap (λ (after : MonitoredStepped). byte_at after.state.shared.memory byte) (outside hart machine past_last))
  | inl in_range ↦
      subst (λ (after : HartViewStepped). byte_at after.state.shared.memory byte ≡ byte_at machine.shared.memory byte
      ⊎ IsChanged (hart_view hart machine) after byte) (sym (step_of_view hart machine in_range))
      (changes (hart_view hart machine) (hart_view_invariant hart machine invariant in_range) byte)
]

-- proves that steps in any order change only bytes that one of the steps may change
pub sched_changes : SchedChangeLaw
sched_changes [] machine byte invariant = inl refl
sched_changes (hart ∷ harts) machine byte invariant = elim (step_changes hart machine byte invariant) [
  -- the first step leaves the byte unchanged, so only a later step can change the byte
  | inl unchanged ↦ elim (sched_changes harts (step_of hart machine).state byte (invariant_law hart machine invariant)) [
    | inl unchanged_later ↦ inl (unchanged_later ∙ unchanged)
    | inr changed ↦ inr (inr changed)
  ]
  -- the first step changes the byte
  | inr changed ↦ inr (inl changed)
]
