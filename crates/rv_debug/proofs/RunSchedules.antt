-- A run of the debugger is a schedule of the selected hart alone, with as many steps as the run executes.
use Rattle.std.proofs.Common.{◌≡◌, ℕ, suc, ◌+◌, List, replicate, refl, sym, ◌∙◌, ap, arith}
use Rattle.rv_debug.specs.Prelude.{Bare, Monitored, Scheduled, Stop, Target}
use Rattle.rv_debug.proofs.Prelude.{AfterRun, AfterSteps, AfterSchedule, selected_of, done, ended, entered_by, no_steps, schedule_start, pc_of, run}
use Rattle.rv_debug.proofs.Prelude.{run_effect, target_stepped, steps_of, scheduled_steps, with_selected, slots_with, with_step, with_scheduled_step}
use Rattle.rv_debug.proofs.ScheduledSteps.{after_schedule}
use Rattle.rv_debug.proofs.Stepping.{run_induction}

-- ---- the selected hart

-- the selection of the selected hart has no effect
select_selected_hart : (target : Target) → with_selected (selected_of target) target ≡ target
select_selected_hart (Bare machine) = refl
select_selected_hart (Monitored machine) = refl

-- a step keeps the selected hart
step_keeps_selected : (target : Target) → selected_of (target_stepped target).state ≡ selected_of target
step_keeps_selected (Bare machine) = refl
step_keeps_selected (Monitored machine) = refl

-- the selection of the hart that is selected has no effect
select_same_hart : (hart : ℕ) (target : Target) → selected_of target ≡ hart → with_selected hart target ≡ target
select_same_hart hart target selected_of_is =
    ap (λ (selected_hart : ℕ). with_selected selected_hart target) (sym selected_of_is) ∙ select_selected_hart target

-- ---- the steps of the selected hart

-- A run that continues from a target, with these entered slots and `earlier` steps so far, is a schedule of `count` more steps of the hart. The
-- schedule ends in the state of the run and enters the same slots, whatever summary it begins with.
record IsScheduled (hart : ℕ) (target : Target) (slots earlier : ℕ) (after : AfterRun Target) : Type 0 where
  count : ℕ
  steps_are : after.ran.steps ≡ earlier + count
  selected_is : selected_of after.state ≡ hart
  state_is : (summary : Scheduled) → (scheduled_steps (replicate count hart) (after_schedule target summary)).state ≡ after.state
  entered_slots_are : (summary : Scheduled)
      → summary.entered ≡ slots → (scheduled_steps (replicate count hart) (after_schedule target summary)).did.entered ≡ after.ran.entered

-- a run that ends here is a schedule of 0 more steps
ended_is_scheduled : (hart : ℕ) (so_far : AfterSteps Target) (stop : Stop) → selected_of so_far.state ≡ hart
    → IsScheduled hart so_far.state so_far.entered so_far.steps (ended so_far stop)
unfolding scheduled_steps
ended_is_scheduled hart so_far stop is_selected =
    record {
      count = 0;
      steps_are = omega arith;
      selected_is = is_selected;
      state_is = λ summary. refl;
      entered_slots_are = λ summary same_slots. same_slots;
    }

-- a run that continues is a schedule of one step and of the steps of the remaining run
step_is_scheduled : (hart : ℕ) (before : AfterSteps Target) (after : AfterRun Target) → selected_of before.state ≡ hart
    → (let so_far = with_step before (target_stepped before.state) in IsScheduled hart so_far.state so_far.entered so_far.steps after)
    → IsScheduled hart before.state before.entered before.steps after
unfolding scheduled_steps
step_is_scheduled hart before after is_selected rest_scheduled =
    let last = target_stepped before.state in
    let next_step_of : Target → Scheduled → AfterSchedule = λ target summary. scheduled_steps (replicate rest_scheduled.count hart)
    (with_scheduled_step hart (after_schedule before.state summary) (target_stepped target)) in
    let same_target = select_same_hart hart before.state is_selected in
    let summary_after : Scheduled → Scheduled = λ summary. (with_scheduled_step hart (after_schedule before.state summary) last).did in
    record {
      count = suc rest_scheduled.count;
      steps_are = rest_scheduled.steps_are ∙ omega arith;
      selected_is = rest_scheduled.selected_is;
      state_is = λ summary. ap (λ (target : Target). (next_step_of target summary).state) same_target
          ∙ rest_scheduled.state_is (summary_after summary);
      entered_slots_are = λ summary same_slots. ap (λ (target : Target). (next_step_of target summary).did.entered) same_target
          ∙ rest_scheduled.entered_slots_are (summary_after summary) (ap (λ (slots : ℕ). slots_with slots last.entered) same_slots);
    }

-- Every run is the schedule of as many steps of its hart, by induction over the steps of the run.
run_is_scheduled : (breaks watches : List ℕ) (hart count : ℕ) (before : AfterSteps Target) → selected_of before.state ≡ hart
    → IsScheduled hart before.state before.entered before.steps (run target_stepped pc_of breaks watches count before)
run_is_scheduled breaks watches hart =
    run_induction target_stepped pc_of breaks watches
    (λ before end. selected_of before.state ≡ hart → IsScheduled hart before.state before.entered before.steps end)
    (ended_is_scheduled hart)
    (λ before end rest_scheduled is_selected.
    step_is_scheduled hart before end is_selected (rest_scheduled (step_keeps_selected before.state ∙ is_selected)))

-- the effect of a run leaves the target of the run
pub run_done : (target : Target) (breaks watches : List ℕ) (count : ℕ)
    → done target (run_effect target breaks watches count) ≡ (steps_of target breaks watches count).state
run_done target breaks watches count =
    let scheduled = run_is_scheduled breaks watches (selected_of target) count (no_steps target) refl in
    let end = steps_of target breaks watches count in
    let same_count : scheduled.count ≡ end.ran.steps = omega (arith, scheduled.steps_are) in
    ap (λ (steps : ℕ). with_selected (selected_of target) (scheduled_steps (replicate steps (selected_of target)) (schedule_start target)).state)
    (sym same_count)
    ∙ ap (with_selected (selected_of target)) (scheduled.state_is _) ∙ select_same_hart (selected_of target) end.state scheduled.selected_is

-- a run enters the same slots as its effect
pub run_entered : (target : Target) (breaks watches : List ℕ) (count : ℕ)
    → entered_by target (run_effect target breaks watches count) ≡ (steps_of target breaks watches count).ran.entered
run_entered target breaks watches count =
    let scheduled = run_is_scheduled breaks watches (selected_of target) count (no_steps target) refl in
    let end = steps_of target breaks watches count in
    let same_count : scheduled.count ≡ end.ran.steps = omega (arith, scheduled.steps_are) in
    ap (λ (steps : ℕ). (scheduled_steps (replicate steps (selected_of target)) (schedule_start target)).did.entered) (sym same_count)
    ∙ scheduled.entered_slots_are _ refl
