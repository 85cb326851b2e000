-- Noninterference for steps of the harts in any order, by the laws of one step.
use Rattle.std.proofs.Common.{◌≡◌, ℕ, ◌==◌, true, false, List, [], ◌∷◌, Option, Some, None, refl, sym, ◌∙◌, ap, ap₂, subst, inl, inr}
use Rattle.rv_monitor.specs.Prelude.{Outcome, HartState, Trap, is_world_of}
use Rattle.rv_monitor.proofs.Prelude.{EntryLaw, Handled, MonitoredMachine, MonitoredStepped, HartView, HartViewStepped, LowStepsLaw, RunsOnNone}
use Rattle.rv_monitor.proofs.Prelude.{SchedLaw, cases_Bool, cases_eq, cases_lt, count_of, enters, eq-eqb, eqb-true, handled}
use Rattle.rv_monitor.proofs.Prelude.{monitored_step, runs_on, hart_view, step_of}
use Rattle.rv_monitor.proofs.InvariantLemmas.{invariant_law}
use Rattle.rv_monitor.proofs.MonitoredAlike.{noninterference}
use Rattle.rv_monitor.proofs.HartCases.{outside, other_harts_keep, step_of_view}
use Rattle.rv_monitor.proofs.Switched.{StaysEntersOrExits, handled_stays_or_switches}
use Rattle.rv_monitor.proofs.TrapSteps.{step_cases, hart_state_after}

-- ---- steps in any order of two equivalent machines

-- proves the noninterference law for steps in any order, by induction on the list
pub sched_law : SchedLaw
sched_law enclave [] one other invariant_one invariant_other equiv low_steps =
    record { outcomes = refl; state = equiv; low_steps = tt }
sched_law enclave (hart ∷ harts) one other invariant_one invariant_other equiv (not_running, rest_are_low) =
    -- the first step has equal outcomes, and leaves equivalent machines
    let first_step = noninterference hart one invariant_one enclave other invariant_other equiv not_running in
    -- by induction, the remaining steps have equal outcomes, and leave equivalent machines
    let remaining =
    sched_law enclave harts (step_of hart one).state (step_of hart other).state (invariant_law hart one invariant_one)
    (invariant_law hart other invariant_other)
    first_step.state rest_are_low in
    let prepend : Outcome → List Outcome → List Outcome = λ outcome outcomes. outcome ∷ outcomes in
    let hart_states = equiv.hart_states hart in
    record {
      outcomes = ap₂ prepend first_step.outcome remaining.outcomes;
      state = remaining.state;
      low_steps = (sym (ap (is_world_of enclave) hart_states.world) ∙ not_running, remaining.low_steps);
    }

-- ---- the hart on which the enclave runs after a step

-- if the trap handler reports an entry of `enclave`, then the hart runs `enclave` after the trap handler
runs_after_entry : (enclave : ℕ) (hart_state : HartState) (trap : Trap) (result : Handled)
    → StaysEntersOrExits hart_state trap result
    → result.next.entered ≡ Some enclave → is_world_of enclave result.hart_state.world ≡ true
runs_after_entry enclave hart_state trap result (inl stays) enters_slot =
    let contradiction : None ≡ Some enclave = sym stays.entered ∙ enters_slot in cc
runs_after_entry enclave hart_state trap result (inr (inl entry)) enters_slot =
    let some_slots_equal : Some entry.slot ≡ Some enclave = sym entry.entered ∙ enters_slot in
    let slots_equal : entry.slot ≡ enclave = cc in
    ap (is_world_of enclave) entry.world ∙ eq-eqb entry.slot enclave slots_equal
runs_after_entry enclave hart_state trap result (inr (inr leaves)) enters_slot =
    let contradiction : None ≡ Some enclave = sym leaves.entered
    ∙ enters_slot in cc

-- if a step reports an entry of `enclave`, then the hart runs `enclave` after the step
pub is_entered : (enclave : ℕ) (view : HartView) → (monitored_step view).outcome.entered ≡ Some enclave
    → is_world_of enclave (monitored_step view).state.hart_state.world ≡ true
is_entered enclave view =
    step_cases view (λ after. after.outcome.entered ≡ Some enclave → is_world_of enclave after.state.hart_state.world ≡ true)
    (λ no_trap enters_slot. cc)
    (λ trap traps enters_slot.
    let hart_state = hart_state_after view.hart_state trap in
    runs_after_entry enclave hart_state trap (handled hart_state view.shared trap)
    (handled_stays_or_switches hart_state view.shared trap) enters_slot)

-- the test `enters` fails for an outcome that names no entry of the slot
pub entered_by : (slot : ℕ) (maybe_entered : Option ℕ) → (maybe_entered ≡ Some slot → ⊥)
    → enters slot maybe_entered ≡ false
entered_by slot None not_entry = refl
entered_by slot (Some entered) not_entry = elim (cases_Bool (entered == slot)) [
  | inl slots_equal ↦ absurd (not_entry (ap Some (eqb-true entered slot slots_equal)))
  | inr slots_differ ↦ slots_differ
]

-- an outcome that passes the test `enters` names an entry of the slot
pub entered_some : (slot : ℕ) (maybe_entered : Option ℕ) → enters slot maybe_entered ≡ true → maybe_entered ≡ Some slot
entered_some slot None is_entered = cc
entered_some slot (Some entered_slot) is_entered = ap Some (eqb-true entered_slot slot is_entered)

-- a hart that does not run `enclave` before the trap handler, which does not enter `enclave`, does not run `enclave` after it
still_not_running : (enclave : ℕ) (hart_state : HartState) (trap : Trap) (result : Handled)
    → StaysEntersOrExits hart_state trap result
    → is_world_of enclave hart_state.world ≡ false → enters enclave result.next.entered ≡ false
    → is_world_of enclave result.hart_state.world ≡ false
still_not_running enclave hart_state trap result (inl stays) not_running not_entered =
    ap (is_world_of enclave) stays.world ∙ not_running
still_not_running enclave hart_state trap result (inr (inl entry)) not_running not_entered =
    ap (is_world_of enclave) entry.world ∙ sym (ap (enters enclave) entry.entered) ∙ not_entered
still_not_running enclave hart_state trap result (inr (inr leaves)) not_running not_entered = ap (is_world_of enclave) leaves.world

-- the view of a hart that does not run `enclave` before a step that does not enter `enclave` does not run `enclave` after the step
pub view_still_not_running : (enclave : ℕ) (view : HartView) → is_world_of enclave view.hart_state.world ≡ false
    → enters enclave (monitored_step view).outcome.entered ≡ false
    → is_world_of enclave (monitored_step view).state.hart_state.world ≡ false
view_still_not_running enclave view not_running =
    step_cases view (λ after. enters enclave after.outcome.entered ≡ false → is_world_of enclave after.state.hart_state.world ≡ false)
    (λ no_trap not_entered. not_running)
    (λ trap traps not_entered.
    let hart_state = hart_state_after view.hart_state trap in
    still_not_running enclave hart_state trap (handled hart_state view.shared trap)
    (handled_stays_or_switches hart_state view.shared trap) not_running not_entered)

-- the hart that steps does not run `enclave` after the step, if it did not run `enclave` before and the step does not enter `enclave`
hart_still_not_running : (enclave hart : ℕ) (machine : MonitoredMachine) → runs_on enclave hart machine ≡ false
    → enters enclave (step_of hart machine).outcome.entered ≡ false
    → runs_on enclave hart (step_of hart machine).state ≡ false
hart_still_not_running enclave hart machine not_running not_entered = elim (cases_lt hart (count_of machine)) [
  -- no hart of the machine has this number
  | inr past_last ↦
      ap (λ (after : MonitoredStepped). runs_on enclave hart after.state) (outside hart machine past_last) ∙ not_running
  | inl in_range ↦
      let step_is = step_of_view hart machine in_range in
      ap (λ (after : HartViewStepped). is_world_of enclave after.state.hart_state.world) step_is
      ∙ view_still_not_running enclave (hart_view hart machine) not_running
      (sym (ap (λ (after : HartViewStepped). enters enclave after.outcome.entered) step_is) ∙ not_entered)
]

-- proves that a hart runs the enclave after a step only if the hart ran the enclave before, or the step entered the enclave
pub entry_law : EntryLaw
entry_law enclave hart other_hart machine not_running not_entered = elim (cases_eq other_hart hart) [
  -- the stepping hart runs the enclave only if the step enters the enclave
  | inl is_stepping_hart ↦
      subst (λ (some_hart : ℕ). enters enclave (step_of some_hart machine).outcome.entered ≡ false
      → runs_on enclave other_hart (step_of some_hart machine).state ≡ false) is_stepping_hart
      (hart_still_not_running enclave other_hart machine not_running) not_entered
  -- every other hart keeps its world
  | inr is_other_hart ↦
      other_harts_keep (λ (hart_state : HartState). is_world_of enclave hart_state.world) (λ table hart_state. refl) hart other_hart
      machine is_other_hart
      ∙ not_running
]

-- if none of the harts in a list runs `enclave`, then this also holds after a step that does not enter `enclave`
pub still_runs_on_none : (enclave hart : ℕ) (harts : List ℕ) (machine : MonitoredMachine)
    → RunsOnNone enclave harts machine
    → enters enclave (step_of hart machine).outcome.entered ≡ false
    → RunsOnNone enclave harts (step_of hart machine).state
still_runs_on_none enclave hart [] machine runs_on_none not_entered = tt
still_runs_on_none enclave hart (other_hart ∷ harts) machine (not_running, not_running_on_rest) not_entered =
    (entry_law enclave hart other_hart machine not_running not_entered, still_runs_on_none enclave hart harts machine not_running_on_rest not_entered)

-- proves that steps of harts that do not run `enclave` are low steps, up to and including the first that enters `enclave`
pub low_steps : LowStepsLaw
low_steps enclave [] machine runs_on_none not_entered_before = tt
low_steps enclave (hart ∷ []) machine (not_running, _) not_entered_before = (not_running, tt)
low_steps enclave (hart ∷ next_hart ∷ harts) machine (not_running, not_running_on_rest) (not_entered, not_entered_by_rest) = (
  not_running,
  low_steps enclave (next_hart ∷ harts) (step_of hart machine).state
      (still_runs_on_none enclave hart (next_hart ∷ harts) machine not_running_on_rest not_entered) not_entered_by_rest,
)
