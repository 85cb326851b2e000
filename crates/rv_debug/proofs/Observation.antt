-- While an enclave does not run, the observation of a command is its whole reply, if the command does not enter the enclave and accesses no byte of
-- its region.
use Rattle.std.proofs.Common.{◌≡◌, ℕ, zero, suc, ◌+◌, Bool, true, false, List, [], replicate, refl, ◌∙◌, ap₂, subst, inl, inr, arith}
use Rattle.std.specs.Prelude.{◌&&◌, ◌||◌, ◌++◌, nat_lt, if◌then◌else◌}
use Rattle.std.proofs.lemmas.Bool.{not-true}
use Rattle.rv_enclaves.specs.Table.{runs}
use Rattle.rv_monitor.specs.HartLaws.{AreLowSteps}
use Rattle.rv_monitor.proofs.Beside.{runs_among}
use Rattle.rv_debug.specs.Prelude.{Bare, Command, Csr, Dis, HartRan, Invariant, Machine, Mem, Monitored, MonitoredMachine, Reg, Regs, Run, Sched}
use Rattle.rv_debug.specs.Prelude.{Step, Target, count_of, harts_in, has_all, runs_on, step_of}
use Rattle.rv_debug.specs.Declassification.{DoesNotRun, IsObserved, ObservationLaw}
use Rattle.rv_debug.specs.Execute.{hart_summary_text, harts_summary_text, ran_reply}
use Rattle.rv_debug.specs.Observed.{is_selected, observed_count, observed_hart, observed_harts, observed_run, observed_steps, unless}
use Rattle.rv_debug.specs.Observed.{with_observed_step}
use Rattle.rv_debug.specs.Noninterference.{AvoidsEnclave}
use Rattle.rv_debug.specs.ScheduledSteps.{nothing_ran}
use Rattle.rv_debug.proofs.Prelude.{AfterRun, AfterSchedule, BenchState, Nothing, RunsOnNoHart, Steps, TargetInvariant, both_ways, cases_Bool, done}
use Rattle.rv_debug.proofs.Prelude.{entered_by, eq-eqb, execute, harts_of, is_blind, is_entered, ran_text, run_effect, schedule_start}
use Rattle.rv_debug.proofs.Prelude.{scheduled_steps, selected_at, steps_of, with_selected}
use Rattle.rv_debug.proofs.ExecuteAlike.{bench_of}
use Rattle.rv_debug.proofs.LowCommands.{low_runs}
use Rattle.rv_debug.proofs.NotRunning.{on_no_hart_law}
use Rattle.rv_monitor.proofs.RelatedChanges.{related_itself}
use Rattle.rv_debug.proofs.RunSchedules.{run_done}

-- ---- an enclave that does not run

-- an enclave whose state is not Running runs on no hart
off_every_hart : (enclave : ℕ) (machine : MonitoredMachine) → Invariant machine
    → runs machine.shared.table enclave ≡ false → (hart : ℕ) → runs_on enclave hart machine ≡ false
off_every_hart enclave machine invariant not_running hart = elim (cases_Bool (runs_on enclave hart machine)) [
  | inl on_hart ↦ absurd (both_ways _ not_running (invariant.shared.running enclave ∙ runs_among enclave hart machine on_hart))
  | inr not_on_hart ↦ not_on_hart
]

-- an enclave that runs on no hart is not on the selected hart
not_selected : (enclave : ℕ) (target : Target) → RunsOnNoHart enclave target → is_selected enclave target ≡ false
not_selected enclave (Bare machine) on_no_hart = refl
not_selected enclave (Monitored selected) on_no_hart = on_no_hart selected.hart

-- whether an enclave runs on no hart does not depend on the selected hart
on_no_hart_any_selected : (enclave hart other : ℕ) (target : Target) → RunsOnNoHart enclave (with_selected hart target)
    → RunsOnNoHart enclave (with_selected other target)
on_no_hart_any_selected enclave hart other (Bare machine) on_no_hart = tt
on_no_hart_any_selected enclave hart other (Monitored selected) on_no_hart = on_no_hart

-- a text that is not hidden is observed as a whole
shown_whole : (hidden : Bool) (text : List ℕ) → hidden ≡ false → unless hidden text ≡ text
shown_whole hidden text not_hidden = rw not_hidden refl

-- ---- runs

-- the observed number of steps of a hart counts all of its steps, if they are low: the enclave does not run on the hart before any of them
all_steps_count : (enclave hart count : ℕ) (machine : MonitoredMachine) (ran : HartRan) → AreLowSteps enclave (replicate count hart) machine
    → (observed_steps enclave hart (replicate count hart) machine ran).steps ≡ ran.steps + count
all_steps_count enclave hart zero machine ran low_steps = omega arith
all_steps_count enclave hart (suc count) machine ran (not_on_hart, later_steps_low) =
    let same_hart = eq-eqb hart hart refl in
    let one_more : (with_observed_step enclave hart hart machine ran).steps ≡ ran.steps + 1 = rw (same_hart, not_on_hart) refl in
    all_steps_count enclave hart count (step_of hart machine).state (with_observed_step enclave hart hart machine ran) later_steps_low
    ∙ omega (arith, one_more)

-- the observation of a run is its reply, if all of its steps count and the enclave does not run on the selected hart
run_observed_whole : (enclave : ℕ) (target : Target) (after : AfterRun Target)
    → is_selected enclave after.state ≡ false → observed_count enclave target after.ran.steps ≡ after.ran.steps
    → observed_run enclave target after ≡ ran_reply after
unfolding ran_text
run_observed_whole enclave target after not_on_selected all_counted = rw (not_on_selected, all_counted) refl

-- ---- schedules

-- the schedule begins with hart `hart` of the target selected
module _ (enclave hart : ℕ) (target : Target) where
  -- the observation of a hart is its whole summary, if the enclave runs on no hart
  summary_observed : (after : AfterSchedule) (shown_hart : ℕ) (ran : HartRan) → RunsOnNoHart enclave (with_selected hart after.state)
      → observed_hart enclave after.state shown_hart ran ≡ hart_summary_text after.state shown_hart ran
  summary_observed after shown_hart ran on_no_hart =
      shown_whole (is_selected enclave (with_selected shown_hart after.state)) (hart_summary_text after.state shown_hart ran)
      (not_selected enclave (with_selected shown_hart after.state) (on_no_hart_any_selected enclave hart shown_hart after.state on_no_hart))

  -- the observation of a schedule is the summaries of all harts, if the enclave runs on no hart
  summaries_observed : (after : AfterSchedule) → RunsOnNoHart enclave (with_selected hart after.state)
      → observed_harts enclave after ≡ harts_summary_text after
  summaries_observed after on_no_hart =
      ap₂ (λ (text_0 text_1 : List ℕ). text_0 ++ (if nat_lt 1 (harts_of after.state) then text_1 else []))
      (summary_observed after 0 after.did.first on_no_hart) (summary_observed after 1 after.did.second on_no_hart)

  -- the observation of a schedule is its reply, if the enclave runs on no hart after the schedule
  sched_observed : (harts : List ℕ) (exist : Bool) (refused : List ℕ)
      → RunsOnNoHart enclave (done target (if exist then Steps harts hart else Nothing))
      → (let after = scheduled_steps harts (schedule_start target) in
      (if exist then observed_harts enclave after else refused) ≡ (if exist then harts_summary_text after else refused))
  sched_observed harts true refused on_no_hart = summaries_observed (scheduled_steps harts (schedule_start target)) on_no_hart
  sched_observed harts false refused on_no_hart = refl

-- ---- a monitored bench

-- a machine in which `enclave` does not run
module _ (enclave hart : ℕ) (machine : MonitoredMachine) (invariant : Invariant machine) (not_running : runs machine.shared.table enclave ≡ false)
    (breaks watches : List ℕ) where
  -- `as_target` is the target of the bench
  abbrev as_target : Target
  as_target = selected_at hart machine

  -- `bench` is the bench whose replies are observed
  abbrev bench : BenchState
  bench = bench_of as_target breaks watches

  -- the enclave runs on no hart
  on_no_hart_of_machine : (shown_hart : ℕ) → runs_on enclave shown_hart machine ≡ false
  on_no_hart_of_machine = off_every_hart enclave machine invariant not_running

  -- the observation of a run that does not enter the enclave is its reply
  run_observed : (at_breaks at_watches : List ℕ) (count : ℕ)
      → is_entered enclave (entered_by as_target (run_effect as_target at_breaks at_watches count)) ≡ false
      → RunsOnNoHart enclave (done as_target (run_effect as_target at_breaks at_watches count))
      → observed_run enclave as_target (steps_of as_target at_breaks at_watches count) ≡ ran_reply (steps_of as_target at_breaks at_watches count)
  run_observed at_breaks at_watches count not_entered on_no_hart =
      let low_steps = low_runs enclave hart machine machine invariant invariant (related_itself enclave machine)
      (λ running. absurd (both_ways _ not_running running)) breaks watches
      at_breaks at_watches count (on_no_hart_of_machine hart) not_entered in
      let after = steps_of as_target at_breaks at_watches count in
      run_observed_whole enclave as_target after
      (not_selected enclave after.state (subst (RunsOnNoHart enclave) (run_done as_target at_breaks at_watches count) on_no_hart))
      (all_steps_count enclave hart after.ran.steps machine nothing_ran low_steps.low_moves.low_steps ∙ omega arith)

  -- ---- every command

  -- a block that does not meet the region is not private, even if it meets the window, since the enclave does not run
  not_private : (meets_region meets_window : Bool) → meets_region ≡ false
      → (meets_region || (runs machine.shared.table enclave && meets_window)) ≡ false
  not_private meets_region meets_window outside_region = rw (outside_region, not_running) refl

  -- the observation of each command that avoids the enclave is its reply
  command_observed : (command : Command) → AvoidsEnclave enclave bench command → IsObserved enclave bench command
  unfolding execute is_blind
  command_observed (Step count) avoids =
      run_observed [] [] count avoids.past ((on_no_hart_law enclave bench (Step count) invariant on_no_hart_of_machine).not_running avoids.past)
  command_observed (Run count) avoids =
      run_observed breaks watches count avoids.past
      ((on_no_hart_law enclave bench (Run count) invariant on_no_hart_of_machine).not_running avoids.past)
  command_observed (Sched schedule) avoids =
      sched_observed enclave hart as_target (harts_in schedule) (has_all (count_of machine) (harts_in schedule)) _
      ((on_no_hart_law enclave bench (Sched schedule) invariant on_no_hart_of_machine).not_running avoids.past)
  command_observed (Reg number) avoids = shown_whole _ _ (on_no_hart_of_machine hart)
  command_observed Regs avoids = shown_whole _ _ (on_no_hart_of_machine hart)
  command_observed (Csr number) avoids = shown_whole _ _ (on_no_hart_of_machine hart)
  command_observed (Mem address count) avoids = shown_whole _ _ (not_private _ _ (not-true _ avoids.blind))
  command_observed (Dis address) avoids = shown_whole _ _ (not_private _ _ (not-true _ avoids.blind))
  command_observed _ avoids = refl

-- ---- a bare bench

-- a bare machine, which has no enclave
module _ (enclave : ℕ) (machine : Machine) (breaks watches : List ℕ) where
  -- `bare` is the bench over the bare machine
  abbrev bare : BenchState
  bare = bench_of (Bare machine) breaks watches

  -- the observation of a run of a bare machine is its reply
  bare_run : (at_breaks at_watches : List ℕ) (count : ℕ)
      → RunsOnNoHart enclave (done (Bare machine) (run_effect (Bare machine) at_breaks at_watches count))
      → observed_run enclave (Bare machine) (steps_of (Bare machine) at_breaks at_watches count)
      ≡ ran_reply (steps_of (Bare machine) at_breaks at_watches count)
  bare_run at_breaks at_watches count on_no_hart =
      let after = steps_of (Bare machine) at_breaks at_watches count in
      run_observed_whole enclave (Bare machine) after
      (not_selected enclave after.state (subst (RunsOnNoHart enclave) (run_done (Bare machine) at_breaks at_watches count) on_no_hart)) refl

  -- each command on a bare machine is observed as its reply
  bare_observed : (command : Command) → AvoidsEnclave enclave bare command → IsObserved enclave bare command
  unfolding execute
  bare_observed (Step count) avoids = bare_run [] [] count ((on_no_hart_law enclave bare (Step count) tt tt).not_running avoids.past)
  bare_observed (Run count) avoids = bare_run breaks watches count ((on_no_hart_law enclave bare (Run count) tt tt).not_running avoids.past)
  bare_observed (Sched schedule) avoids =
      sched_observed enclave 0 (Bare machine) (harts_in schedule) (has_all 1 (harts_in schedule)) _
      ((on_no_hart_law enclave bare (Sched schedule) tt tt).not_running avoids.past)
  bare_observed (Reg number) avoids = refl
  bare_observed Regs avoids = refl
  bare_observed (Csr number) avoids = refl
  bare_observed (Mem address count) avoids = refl
  bare_observed (Dis address) avoids = refl
  bare_observed _ avoids = refl

-- ---- any bench

-- each command that avoids an enclave that does not run is observed as its reply, for each target
any_observed : (enclave : ℕ) (target : Target) (breaks watches : List ℕ) (command : Command) → TargetInvariant target → DoesNotRun enclave target
    → AvoidsEnclave enclave (bench_of target breaks watches) command → IsObserved enclave (bench_of target breaks watches) command
any_observed enclave (Bare machine) breaks watches command invariant not_running avoids = bare_observed enclave machine breaks watches command avoids
any_observed enclave (Monitored selected) breaks watches command invariant not_running avoids =
    command_observed enclave selected.hart selected.state invariant not_running breaks watches command avoids

-- proves that a whole reply is observed, if the enclave does not run and the command avoids it
pub observation : ObservationLaw
observation enclave bench command invariant not_running avoids =
    any_observed enclave bench.target bench.breaks bench.watches command invariant not_running avoids
