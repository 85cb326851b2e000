-- The observed steps of a run and of a schedule: their last trap is the one of the summary.
use Rattle.std.proofs.Common.{◌≡◌, ℕ, suc, ◌+◌, ◌==◌, List, [], ◌∷◌, Option, replicate, refl, sym, ◌∙◌, ap, inl, inr, arith}
use Rattle.rv_debug.specs.Prelude.{HartRan, MonitoredMachine, Monitored, Scheduled, Trap, sched, step_of}
use Rattle.rv_debug.specs.Observed.{observed_steps, with_observed_step}
use Rattle.rv_debug.specs.ScheduledSteps.{nothing_ran}
use Rattle.rv_debug.proofs.Prelude.{AfterRun, AfterSteps, Selected, cases_Bool, eq-eqb, no_steps, option_or, run, scheduled_steps, target_stepped}
use Rattle.rv_debug.proofs.Prelude.{with_own, with_scheduled_step, with_selected, with_step}
use Rattle.rv_debug.proofs.ScheduledSteps.{after_schedule}
use Rattle.rv_debug.proofs.Stepping.{run_induction}
use Rattle.rv_debug.proofs.TargetRuns.{hart_pc, hart_stepped}

-- ---- a run

-- A run that continues from `before` executes `count` more steps. It ends in the state after these, and its last trap is the last observed one.
record IsCounted (enclave hart : ℕ) (before : AfterSteps MonitoredMachine) (end : AfterRun MonitoredMachine) : Type 0 where
  count : ℕ
  steps_are : end.ran.steps ≡ before.steps + count
  state_is : (sched (replicate count hart) before.state).state ≡ end.state
  -- if the last trap of `ran` is that of `before`, then the last observed trap after the steps is the last trap of the run
  last_trap_is : (ran : HartRan) → ran.trap ≡ before.trap → (observed_steps enclave hart (replicate count hart) before.state ran).trap ≡ end.ran.trap

-- the trap of a step of the observed hart is the last trap
own_step_trap_is : (enclave hart : ℕ) (machine : MonitoredMachine) (ran : HartRan)
    → (with_observed_step enclave hart hart machine ran).trap ≡ option_or (step_of hart machine).outcome.step.trap ran.trap
own_step_trap_is enclave hart machine ran = let same_hart = eq-eqb hart hart refl in rw same_hart refl

-- if a run is counted from the state after a step, it is counted from the state before the step
counted_with_one_more : (enclave hart : ℕ) (before : AfterSteps MonitoredMachine) (end : AfterRun MonitoredMachine)
    → IsCounted enclave hart (with_step before (hart_stepped hart before.state)) end → IsCounted enclave hart before end
counted_with_one_more enclave hart before end rest = record {
  count = suc rest.count;
  steps_are = rest.steps_are ∙ omega arith;
  state_is = rest.state_is;
  last_trap_is = λ ran last_trap. rest.last_trap_is (with_observed_step enclave hart hart before.state ran)
      (own_step_trap_is enclave hart before.state ran ∙ ap (option_or (step_of hart before.state).outcome.step.trap) last_trap);
}

-- every run has the properties `IsCounted`; the proof is by induction over its steps
is_counted : (enclave hart : ℕ) (breaks watches : List ℕ) (count : ℕ) (before : AfterSteps MonitoredMachine)
    → IsCounted enclave hart before (run (hart_stepped hart) (hart_pc hart) breaks watches count before)
is_counted enclave hart breaks watches =
    run_induction (hart_stepped hart) (hart_pc hart) breaks watches (IsCounted enclave hart)
    (λ after stop. record { count = 0; steps_are = omega arith; state_is = refl; last_trap_is = λ ran last_trap. last_trap })
    (counted_with_one_more enclave hart)

-- the state after a run is that after as many steps of the hart, and the last trap of the run is the last observed one
pub record RunObserved (enclave hart : ℕ) (machine : MonitoredMachine) (end : AfterRun MonitoredMachine) : Type 0 where
  pub state_is : (sched (replicate end.ran.steps hart) machine).state ≡ end.state
  pub last_trap_is : (observed_steps enclave hart (replicate end.ran.steps hart) machine nothing_ran).trap ≡ end.ran.trap

-- the observation of a run is that of its steps, one after another
pub run_observed : (enclave hart : ℕ) (breaks watches : List ℕ) (count : ℕ) (machine : MonitoredMachine)
    → RunObserved enclave hart machine (run (hart_stepped hart) (hart_pc hart) breaks watches count (no_steps machine))
run_observed enclave hart breaks watches count machine =
    let counted = is_counted enclave hart breaks watches count (no_steps machine) in
    let count_is = counted.steps_are in
    let same_count : counted.count ≡ (run (hart_stepped hart) (hart_pc hart) breaks watches count (no_steps machine)).ran.steps =
    omega (arith, count_is) in
    record {
      state_is = ap (λ (steps : ℕ). (sched (replicate steps hart) machine).state) (sym same_count) ∙ counted.state_is;
      last_trap_is = ap (λ (steps : ℕ). (observed_steps enclave hart (replicate steps hart) machine nothing_ran).trap) (sym same_count)
          ∙ counted.last_trap_is nothing_ran refl;
    }

-- ---- a schedule

-- `own_steps` is the summary of one hart after a list of steps
abbrev pub own_steps : ℕ → List ℕ → MonitoredMachine → HartRan → HartRan
own_steps shown_hart [] machine ran = ran
own_steps shown_hart (hart ∷ harts) machine ran =
    own_steps shown_hart harts (step_of hart machine).state (with_own shown_hart hart (step_of hart machine).outcome.step.trap ran)

-- the summary of each hart in a schedule is that of its own steps in the list
pub schedule_summaries_are : (harts : List ℕ) (machine : Selected) (summary : Scheduled)
    → (let after = scheduled_steps harts (after_schedule (Monitored machine) summary) in
    (after.did.first ≡ own_steps 0 harts machine.state summary.first) × (after.did.second ≡ own_steps 1 harts machine.state summary.second))
unfolding scheduled_steps
schedule_summaries_are [] machine summary = (refl, refl)
schedule_summaries_are (hart ∷ harts) machine summary =
    let before = after_schedule (Monitored machine) summary in
    schedule_summaries_are harts (record { hart = hart; state = (step_of hart machine.state).state })
    (with_scheduled_step hart before (target_stepped (with_selected hart before.state))).did

-- the number of own steps stays equal after one more step of a hart, whatever trap the step has in each machine
same_step_count : (shown_hart hart : ℕ) (trap other_trap : Option Trap) (ran other_ran : HartRan) → ran.steps ≡ other_ran.steps
    → (with_own shown_hart hart trap ran).steps ≡ (with_own shown_hart hart other_trap other_ran).steps
same_step_count shown_hart hart trap other_trap ran other_ran same_steps = elim (cases_Bool (shown_hart == hart)) [
  -- the step is a step of the shown hart: both numbers grow by one
  | inl is_shown_hart ↦ rw is_shown_hart (ap (λ (steps : ℕ). steps + 1) same_steps)
  -- the step is a step of another hart: both numbers are unchanged
  | inr is_other_hart ↦ rw is_other_hart same_steps
]

-- the number of a hart's own steps depends only on the list, not on the machine
pub same_step_counts : (shown_hart : ℕ) (harts : List ℕ) (one other : MonitoredMachine) (ran other_ran : HartRan) → ran.steps ≡ other_ran.steps
    → (own_steps shown_hart harts one ran).steps ≡ (own_steps shown_hart harts other other_ran).steps
same_step_counts shown_hart [] one other ran other_ran same_steps = same_steps
same_step_counts shown_hart (hart ∷ harts) one other ran other_ran same_steps =
    same_step_counts shown_hart harts (step_of hart one).state (step_of hart other).state _ _
    (same_step_count shown_hart hart (step_of hart one).outcome.step.trap (step_of hart other).outcome.step.trap ran other_ran same_steps)

-- the last trap of a hart stays equal to its observed trap after one more step
same_last_trap_after : (enclave shown_hart hart : ℕ) (machine : MonitoredMachine) (ran other_ran : HartRan) → ran.trap ≡ other_ran.trap
    → (with_own shown_hart hart (step_of hart machine).outcome.step.trap ran).trap
    ≡ (with_observed_step enclave shown_hart hart machine other_ran).trap
same_last_trap_after enclave shown_hart hart machine ran other_ran same_last_trap = elim (cases_Bool (shown_hart == hart)) [
  -- the step is a step of the shown hart: its trap, if it has one, becomes the last trap in both summaries
  | inl is_shown_hart ↦ rw is_shown_hart (ap (option_or (step_of hart machine).outcome.step.trap) same_last_trap)
  -- the step is a step of another hart: both last traps are unchanged
  | inr is_other_hart ↦ rw is_other_hart same_last_trap
]

-- the observed trap of a hart's steps is the last trap of these steps
pub same_last_traps : (enclave shown_hart : ℕ) (harts : List ℕ) (machine : MonitoredMachine) (ran other_ran : HartRan) → ran.trap ≡ other_ran.trap
    → (own_steps shown_hart harts machine ran).trap ≡ (observed_steps enclave shown_hart harts machine other_ran).trap
same_last_traps enclave shown_hart [] machine ran other_ran same_last_trap = same_last_trap
same_last_traps enclave shown_hart (hart ∷ harts) machine ran other_ran same_last_trap =
    same_last_traps enclave shown_hart harts (step_of hart machine).state _ _
    (same_last_trap_after enclave shown_hart hart machine ran other_ran same_last_trap)
