-- A low command steps no hart on which the enclave runs, and does not enter the enclave. It executes the same steps in two related benches, and each
-- of its steps is a move of both machines.
use Rattle.std.proofs.Common.{◌≡◌, ℕ, zero, suc, ◌+◌, ◌==◌, Bool, true, false, List, [], ◌∷◌, replicate, refl, sym, ◌∙◌, ap, subst, inl, inr, arith}
use Rattle.std.specs.Prelude.{not, if◌then◌else◌, nat_le, nat_lt}
use Rattle.rv_enclaves.specs.Table.{runs, window}
use Rattle.rv_enclaves.proofs.EqualMemory.{same_write, write-none, write-some}
use Rattle.rv_monitor.specs.Declassification.{AreMoves, AreRelated, Both, EquivToGuests, IsLowStep, Move, SameWindow}
use Rattle.rv_monitor.specs.HartLaws.{AreLowSteps}
use Rattle.rv_monitor.specs.declared.outcome.Outcome.{Outcome}
use Rattle.rv_monitor.specs.Events.{StepOf}
use Rattle.rv_monitor.proofs.LowSteps.{window_read}
use Rattle.rv_monitor.proofs.RelatedEquiv.{related_equiv}
use Rattle.rv_monitor.proofs.GuestEquiv.{guest_step_equiv}
use Rattle.rv_monitor.proofs.GuestView.{guest_hart_state}
use Rattle.rv_monitor.proofs.SchedNoninterference.{entered_some, entry_law}
use Rattle.rv_debug.specs.Prelude.{Bare, Command, HartState, Hart, Invariant, Machine, Monitored, MonitoredMachine, Poke, Ran, Run, RunsOnNone, Sched}
use Rattle.rv_debug.specs.Prelude.{Scheduled, Step, Target, count_of, enters, harts_in, has, has_all, is_inside, ram_base, region, is_world_of}
use Rattle.rv_debug.specs.Prelude.{runs_on, sched, step_of, write}
use Rattle.rv_debug.specs.Declassification.{IsLowCommand, LowCommandLaw, StepsAreMoves, TargetsAreRelated, WindowsAreEqual, are_steps, first_steps}
use Rattle.rv_debug.specs.Declassification.{second_steps}
use Rattle.rv_debug.specs.Noninterference.{harts_named}
use Rattle.rv_debug.proofs.Prelude.{AfterRun, AfterSteps, BenchState, Effect, Nothing, RunsOnNoneIn, Selected, Steps, TargetInvariant, and_parts}
use Rattle.rv_debug.proofs.Prelude.{both_ways, cases_Bool, done, effect, entered_by, harts_stepped, execute, invariant_law, is_among, is_entered}
use Rattle.rv_debug.proofs.Prelude.{leb-true, lowest_accessed, ltb-true, no_steps, run, run_effect, sched_invariant, scheduled_steps, seen_block}
use Rattle.rv_debug.proofs.Prelude.{selected_at, steps_of, with_step}
use Rattle.rv_debug.proofs.EffectsInvariant.{effect_stays_bare, poke_of}
use Rattle.rv_debug.proofs.ExecuteAlike.{bench_of}
use Rattle.rv_debug.proofs.RunSchedules.{run_entered}
use Rattle.rv_debug.proofs.SchedAlike.{schedule_enters, runs_on_none_after}
use Rattle.rv_debug.proofs.ScheduledSteps.{after_schedule, bare_target, schedule_is_sched}
use Rattle.rv_debug.proofs.Stepping.{next_cases, next_of}
use Rattle.rv_debug.proofs.StepsAlike.{run_enters}
use Rattle.rv_debug.proofs.TargetRuns.{hart_pc, hart_stepped, run_monitored}

-- ---- a low step of both machines

-- the window of the enclave is equal in equivalent machines, because it shares no byte with the region
same_window : (enclave : ℕ) (one other : MonitoredMachine) → Invariant one → EquivToGuests enclave one other → SameWindow enclave one other
same_window enclave one other invariant equiv =
    let region_block = region one.shared.table enclave in
    let window_block = window one.shared.table enclave in
    let memory = equiv.shared.memory in
    record {
      size = memory.size;
      bytes = λ index in_window. elim (cases_Bool (has region_block (ram_base + index))) [
        -- a byte outside the region is equal in both memories
        | inr outside_region ↦ memory.bytes index outside_region
        -- a byte of the region is not in the window
        | inl in_region ↦
            let (not_below_base, below_end) =
            and_parts (nat_le region_block.base (ram_base + index)) (nat_lt (ram_base + index) (region_block.base + region_block.size)) in_region in
            let outside_window =
            seen_block region_block window_block (invariant.shared.valid.windows_apart enclave enclave) (ram_base + index)
            (leb-true _ _ not_below_base)
            (ltb-true _ _ below_end) in
            let contradiction : not false ≡ false = sym (ap not outside_window) ∙ in_window in cc
      ];
    }

-- a step of a hart on which the enclave does not run is a low step
low_step : (enclave hart : ℕ) (one other : MonitoredMachine) → Invariant one → EquivToGuests enclave one other
    → runs_on enclave hart one ≡ false → IsLowStep enclave hart one other
low_step enclave hart one other invariant equiv not_on_hart =
    record { low = not_on_hart; window = λ running. window_read enclave hart one other (same_window enclave one other invariant equiv) }

-- `moves_of_both` has the moves in which both machines step these harts, in order
abbrev moves_of_both : List ℕ → List Move
moves_of_both [] = []
moves_of_both (hart ∷ harts) = Both (StepOf hart) ∷ moves_of_both harts

-- the moves of `moves_of_both` change no timer line
moves_are_steps : (harts : List ℕ) → are_steps (moves_of_both harts) ≡ true
moves_are_steps [] = refl
moves_are_steps (hart ∷ harts) = moves_are_steps harts

-- the steps of the first machine in the moves of `moves_of_both` are those of the list
first_steps_are : (harts : List ℕ) → first_steps (moves_of_both harts) ≡ harts
first_steps_are [] = refl
first_steps_are (hart ∷ harts) = ap (λ (later_harts : List ℕ). hart ∷ later_harts) (first_steps_are harts)

-- the steps of the second machine in the moves of `moves_of_both` are those of the list
second_steps_are : (harts : List ℕ) → second_steps (moves_of_both harts) ≡ harts
second_steps_are [] = refl
second_steps_are (hart ∷ harts) = ap (λ (later_harts : List ℕ). hart ∷ later_harts) (second_steps_are harts)

-- One step of each of these harts, in order. The steps are low in the first machine (`low_steps`) and are moves of both machines (`moves`). They
-- leave the machines equivalent in the guest view (`equiv_after`).
pub record AreLowMoves (enclave : ℕ) (harts : List ℕ) (one other : MonitoredMachine) : Type 0 where
  pub low_steps : AreLowSteps enclave harts one
  moves : AreMoves enclave (moves_of_both harts) one other
  equiv_after : EquivToGuests enclave (sched harts one).state (sched harts other).state

-- an empty list of steps consists of low moves, if the machines are equivalent in the guest view
no_moves : (enclave : ℕ) (one other : MonitoredMachine) → EquivToGuests enclave one other → AreLowMoves enclave [] one other
no_moves enclave one other equiv = record { low_steps = tt; moves = tt; equiv_after = equiv }

-- a step of a hart on which the enclave does not run, followed by low moves, is a list of low moves
one_more_move : (enclave hart : ℕ) (harts : List ℕ) (one other : MonitoredMachine) → Invariant one → EquivToGuests enclave one other
    → runs_on enclave hart one ≡ false
    → AreLowMoves enclave harts (step_of hart one).state (step_of hart other).state → AreLowMoves enclave (hart ∷ harts) one other
one_more_move enclave hart harts one other invariant equiv not_on_hart rest_moves =
    record {
      low_steps = (not_on_hart, rest_moves.low_steps);
      moves = (inl (low_step enclave hart one other invariant equiv not_on_hart), rest_moves.moves);
      equiv_after = rest_moves.equiv_after;
    }

-- steps that are low moves in two machines are moves of both machines
low_moves_are_moves : (enclave : ℕ) (harts : List ℕ) (one other : MonitoredMachine) → AreLowMoves enclave harts one other
    → StepsAreMoves enclave one other harts harts
low_moves_are_moves enclave harts one other low_moves =
    record {
      moves = moves_of_both harts;
      steps = moves_are_steps harts;
      first = first_steps_are harts;
      second = second_steps_are harts;
      are = low_moves.moves;
    }

-- ---- schedules

-- The steps of a schedule are low moves, if the enclave runs on none of its harts and the schedule does not enter it. The proof is by induction over
-- the harts: a step that entered the enclave would contradict the premise.
low_schedule : (enclave : ℕ) (harts : List ℕ) (one other : Selected) (summary : Scheduled) → Invariant one.state → Invariant other.state
    → EquivToGuests enclave one.state other.state → RunsOnNone enclave harts one.state
    → is_entered enclave (scheduled_steps harts (after_schedule (Monitored one) summary)).did.entered ≡ false
    → AreLowMoves enclave harts one.state other.state
unfolding scheduled_steps
low_schedule enclave [] one other summary invariant other_invariant equiv runs_on_none not_entered = no_moves enclave one.state other.state equiv
low_schedule enclave (hart ∷ harts) one other summary invariant other_invariant equiv (not_on_hart, on_none_of_rest) not_entered =
    let step_of_one = step_of hart one.state in
    let step_of_other = step_of hart other.state in
    let alike_after = guest_step_equiv enclave hart one.state other.state invariant other_invariant equiv not_on_hart in
    elim (cases_Bool (enters enclave step_of_one.outcome.entered)) [
      -- the step enters the enclave: the schedule then enters it too, against the premise
      | inl enters_slot ↦ absurd (both_ways _ not_entered
          (schedule_enters enclave hart harts summary step_of_one.state step_of_one.outcome
          (entered_some enclave step_of_one.outcome.entered enters_slot)))
      -- the step does not enter the enclave: the remaining steps are low moves by induction
      | inr does_not_enter ↦ one_more_move enclave hart harts one.state other.state invariant equiv not_on_hart
          (low_schedule enclave harts (record { hart = hart; state = step_of_one.state }) (record { hart = hart; state = step_of_other.state }) _
          (invariant_law hart one.state invariant) (invariant_law hart other.state other_invariant) alike_after.state
          (runs_on_none_after enclave hart harts one.state does_not_enter on_none_of_rest) not_entered)
    ]

-- ---- runs

-- Two runs, which have executed `before` steps, execute `count` more steps. They end with equal summaries, and the steps are low moves.
record IsLowRun (enclave hart before : ℕ) (one other : MonitoredMachine) (one_run other_run : AfterRun MonitoredMachine) : Type 0 where
  count : ℕ
  steps_are : one_run.ran.steps ≡ before + count
  same_summary : one_run.ran ≡ other_run.ran
  low_moves : AreLowMoves enclave (replicate count hart) one other

-- runs of hart `hart` in two machines that are equivalent in the guest view
module _ (enclave hart : ℕ) (breaks watches : List ℕ) where
  -- `run_from` is the run of a machine with `remaining` steps left, after the steps so far
  abbrev run_from : ℕ → AfterSteps MonitoredMachine → AfterRun MonitoredMachine
  run_from remaining before = run (hart_stepped hart) (hart_pc hart) breaks watches remaining before

  -- the number of steps and the outcomes so far are unchanged, with another machine
  abbrev with_state : AfterSteps MonitoredMachine → MonitoredMachine → AfterSteps MonitoredMachine
  with_state before state = record before { state = state }

  -- `after_step` has the steps so far and one more step
  abbrev after_step : AfterSteps MonitoredMachine → Outcome → MonitoredMachine → AfterSteps MonitoredMachine
  after_step before outcome state = with_step before (record { state = state; outcome = outcome.step; entered = outcome.entered })

  -- `next_run` is the run after one more step
  abbrev next_run : ℕ → AfterSteps MonitoredMachine → Outcome → MonitoredMachine → AfterRun MonitoredMachine
  next_run remaining before outcome state =
      let after = after_step before outcome state in
      next_of after (run_from remaining after) (lowest_accessed watches outcome.step.touched) (remaining == 0) (is_among (hart_pc hart state) breaks)

  -- if the first run does not enter the enclave, then the two runs have equal summaries and their steps are low moves
  abbrev LowUnlessEntered : AfterSteps MonitoredMachine → MonitoredMachine → AfterRun MonitoredMachine → AfterRun MonitoredMachine → Type 0
  LowUnlessEntered before other one_run other_run =
      is_entered enclave one_run.ran.entered ≡ false → IsLowRun enclave hart before.steps before.state other one_run other_run

  -- the pcs of the hart are equal in both machines, if the enclave does not run on the hart
  pc_alike : (one other : MonitoredMachine) → EquivToGuests enclave one other → runs_on enclave hart one ≡ false
      → hart_pc hart one ≡ hart_pc hart other
  pc_alike one other equiv not_on_hart =
      let pc : HartState → ℕ = λ hart_state. hart_state.hart.pc in
      let hart_equiv = equiv.hart_states hart in
      sym (ap pc (guest_hart_state hart one))
      ∙ ap pc (hart_equiv.same (ap (λ (hart_state : HartState). is_world_of enclave hart_state.world) (guest_hart_state hart one) ∙ not_on_hart))
      ∙ ap pc (guest_hart_state hart other)

  -- A run of a hart on which the enclave does not run has the same summary in both machines, and its steps are low moves. The proof is by induction
  -- over the number of steps left.
  low-run : (remaining : ℕ) (before : AfterSteps MonitoredMachine) (other : MonitoredMachine) → Invariant before.state → Invariant other
      → EquivToGuests enclave before.state other → runs_on enclave hart before.state ≡ false
      → LowUnlessEntered before other (run_from remaining before) (run_from remaining (with_state before other))
  unfolding run
  low-run zero before other invariant other_invariant equiv not_on_hart not_entered =
      record { count = 0; steps_are = omega arith; same_summary = refl; low_moves = no_moves enclave before.state other equiv }
  low-run (suc remaining) before other invariant other_invariant equiv not_on_hart not_entered =
      let step_of_one = step_of hart before.state in
      let step_of_other = step_of hart other in
      let after = after_step before step_of_one.outcome step_of_one.state in
      let alike_after = guest_step_equiv enclave hart before.state other invariant other_invariant equiv not_on_hart in
      elim (cases_Bool (enters enclave step_of_one.outcome.entered)) [
        -- the step enters the enclave: the run then enters it too, against the premise
        | inl enters_slot ↦ absurd (both_ways _ not_entered
            (run_enters enclave hart breaks watches remaining before step_of_one.outcome step_of_one.state
            (entered_some enclave step_of_one.outcome.entered enters_slot)))
        | inr does_not_enter ↦
            -- the enclave does not run on the hart after the step, and the rest of the run is low by induction
            let still_off = entry_law enclave hart hart before.state not_on_hart does_not_enter in
            let rest_low = low-run remaining after step_of_other.state (invariant_law hart before.state invariant)
            (invariant_law hart other other_invariant) alike_after.state still_off in
            let first_move : AreLowMoves enclave (hart ∷ []) before.state other =
            one_more_move enclave hart [] before.state other invariant equiv not_on_hart
            (no_moves enclave step_of_one.state step_of_other.state alike_after.state) in
            -- the run ends after this step in both machines, or continues in both
            let alike_in_both =
            next_cases (LowUnlessEntered before other) after (with_state after step_of_other.state) (run_from remaining after)
            (run_from remaining (with_state after step_of_other.state))
            (lowest_accessed watches step_of_one.outcome.step.touched) (remaining == 0) (is_among (hart_pc hart step_of_one.state) breaks)
            (λ stop not_entered. record { count = 1; steps_are = omega arith; same_summary = refl; low_moves = first_move })
            (λ not_entered. let rest_run = rest_low not_entered in record {
              count = suc rest_run.count;
              steps_are = rest_run.steps_are ∙ omega arith;
              same_summary = rest_run.same_summary;
              low_moves = one_more_move enclave hart (replicate rest_run.count hart) before.state other invariant equiv not_on_hart
                  rest_run.low_moves;
            }) in
            -- the outcomes of the step are equal, and the next instruction is at a breakpoint in both machines or in neither
            let same_break = ap (λ (pc : ℕ). is_among pc breaks) (pc_alike step_of_one.state step_of_other.state alike_after.state still_off) in
            subst (λ (outcome : Outcome). LowUnlessEntered before other (next_run remaining before step_of_one.outcome step_of_one.state)
            (next_run remaining (with_state before other) outcome step_of_other.state)) alike_after.outcome
            (subst (λ (at_break : Bool). LowUnlessEntered before other (next_run remaining before step_of_one.outcome step_of_one.state)
            (next_of (with_state after step_of_other.state) (run_from remaining (with_state after step_of_other.state))
            (lowest_accessed watches step_of_one.outcome.step.touched) (remaining == 0) at_break))
            same_break alike_in_both) not_entered
      ]

-- ---- commands

-- two related machines `one` and `other` with hart `hart` selected; the windows of the enclave are equal while it runs
module _ (enclave hart : ℕ) (one other : MonitoredMachine) (invariant : Invariant one) (other_invariant : Invariant other)
    (related : AreRelated enclave one other)
    (window_equal : runs one.shared.table enclave ≡ true → SameWindow enclave one other) (breaks watches : List ℕ) where
  -- the target with the given machine, and hart `hart` selected
  abbrev pub as_target : MonitoredMachine → Target
  as_target machine = selected_at hart machine

  -- the bench with the given machine, and hart `hart` selected
  abbrev as_bench : MonitoredMachine → BenchState
  as_bench machine = bench_of (as_target machine) breaks watches

  -- both machines are equivalent in the guest view
  equiv : EquivToGuests enclave one other
  equiv = related_equiv enclave one other related window_equal

  -- the windows of the enclave are equal in the benches over two targets
  abbrev SameWindowAfter : Target → Target → Type 0
  SameWindowAfter target other_target = WindowsAreEqual enclave (bench_of target breaks watches) (bench_of other_target breaks watches)

  -- the windows are equal after low steps
  same_window_after : (harts : List ℕ) (selected : ℕ) → AreLowMoves enclave harts one other
      → SameWindowAfter (done (as_target one) (Steps harts selected)) (done (as_target other) (Steps harts selected))
  same_window_after harts selected low_moves =
      subst (λ (target : Target). SameWindowAfter target (done (as_target other) (Steps harts selected)))
      (sym (schedule_is_sched harts (record { hart = hart; state = one }) _ selected))
      (subst (SameWindowAfter (selected_at selected (sched harts one).state))
      (sym (schedule_is_sched harts (record { hart = hart; state = other }) _ selected))
      (λ running. same_window enclave (sched harts one).state (sched harts other).state (sched_invariant harts one invariant) low_moves.equiv_after))

  -- `ran_of` is the summary of a run of the machine
  abbrev pub ran_of : MonitoredMachine → List ℕ → List ℕ → ℕ → Ran
  ran_of machine at_breaks at_watches count = (steps_of (as_target machine) at_breaks at_watches count).ran

  -- the runs of a command in the two machines have equal summaries, and their steps are low moves
  pub record LowRuns (at_breaks at_watches : List ℕ) (count : ℕ) : Type 0 where
    same_summary : ran_of one at_breaks at_watches count ≡ ran_of other at_breaks at_watches count
    pub low_moves : AreLowMoves enclave (replicate (ran_of one at_breaks at_watches count).steps hart) one other

  -- a run of a hart without the enclave, which does not enter the enclave, has equal summaries in both machines, and its steps are low moves
  pub low_runs : (at_breaks at_watches : List ℕ) (count : ℕ) → runs_on enclave hart one ≡ false
      → is_entered enclave (entered_by (as_target one) (run_effect (as_target one) at_breaks at_watches count)) ≡ false
      → LowRuns at_breaks at_watches count
  low_runs at_breaks at_watches count not_on_hart not_entered =
      let ran_after : AfterRun Target → Ran = λ after. after.ran in
      let one_ran_is = ap ran_after (run_monitored hart at_breaks at_watches count (no_steps one)) in
      let other_ran_is = ap ran_after (run_monitored hart at_breaks at_watches count (no_steps other)) in
      let run_not_entered = sym (ap (λ (ran : Ran). is_entered enclave ran.entered) one_ran_is)
      ∙ sym (ap (is_entered enclave) (run_entered (as_target one) at_breaks at_watches count)) ∙ not_entered in
      let alike_after = low-run enclave hart at_breaks at_watches count (no_steps one) other invariant other_invariant equiv not_on_hart
      run_not_entered in
      let same_count : (ran_of one at_breaks at_watches count).steps ≡ alike_after.count =
      ap (λ (ran : Ran). ran.steps) one_ran_is ∙ alike_after.steps_are ∙ omega arith in
      record {
        same_summary = one_ran_is ∙ alike_after.same_summary ∙ sym other_ran_is;
        low_moves = subst (λ (count : ℕ). AreLowMoves enclave (replicate count hart) one other) (sym same_count) alike_after.low_moves;
      }

  -- the command `step` or `run` is low: its steps are moves, both runs stop for the same reason, and the windows are equal after the runs
  abbrev LowRunCommand : List ℕ → List ℕ → ℕ → Type 0
  LowRunCommand at_breaks at_watches count =
      let harts_stepped_by : MonitoredMachine → List ℕ = λ machine. replicate (ran_of machine at_breaks at_watches count).steps hart in
      StepsAreMoves enclave one other (harts_stepped_by one) (harts_stepped_by other)
      × ((ran_of one at_breaks at_watches count).stop ≡ (ran_of other at_breaks at_watches count).stop)
      × SameWindowAfter (done (as_target one) (Steps (harts_stepped_by one) hart)) (done (as_target other) (Steps (harts_stepped_by other) hart))

  -- the command `step` or `run` is low, if its runs have equal summaries and low moves
  low_runs_are_low : (at_breaks at_watches : List ℕ) (count : ℕ) → LowRuns at_breaks at_watches count → LowRunCommand at_breaks at_watches count
  low_runs_are_low at_breaks at_watches count runs =
      let harts = replicate (ran_of one at_breaks at_watches count).steps hart in (
        subst (λ (ran : Ran). StepsAreMoves enclave one other harts (replicate ran.steps hart)) runs.same_summary
            (low_moves_are_moves enclave harts one other runs.low_moves),
        ap (λ (ran : Ran). ran.stop) runs.same_summary,
        subst (λ (ran : Ran). SameWindowAfter (done (as_target one) (Steps harts hart))
            (done (as_target other) (Steps (replicate ran.steps hart) hart))) runs.same_summary
            (same_window_after harts hart runs.low_moves),
      )

  -- `sched_of` is the effect of the command `sched`, where `exist` states whether its harts exist
  abbrev sched_of : List ℕ → Bool → Effect
  sched_of harts exist = if exist then Steps harts hart else Nothing

  -- the schedules of the two machines are low: their steps are moves, and the windows are equal after the schedules
  abbrev LowSched : Effect → Effect → Type 0
  LowSched effect other_effect =
      StepsAreMoves enclave one other (harts_stepped effect) (harts_stepped other_effect)
      × SameWindowAfter (done (as_target one) effect) (done (as_target other) other_effect)

  -- two empty lists of steps are an empty list of moves
  no_steps_are_moves : StepsAreMoves enclave one other [] []
  no_steps_are_moves = record { moves = []; steps = refl; first = refl; second = refl; are = tt }

  -- a schedule is low, if the enclave runs on none of its harts and the schedule does not enter the enclave
  sched_is_low : (harts : List ℕ) (exist other_exist : Bool) → exist ≡ other_exist → RunsOnNone enclave harts one
      → is_entered enclave (entered_by (as_target one) (sched_of harts exist)) ≡ false → LowSched (sched_of harts exist) (sched_of harts other_exist)
  sched_is_low harts true true same_exist runs_on_none not_entered =
      let low_moves = low_schedule enclave harts (record { hart = hart; state = one }) (record { hart = hart; state = other })
      _ invariant other_invariant equiv runs_on_none not_entered in
      (low_moves_are_moves enclave harts one other low_moves, same_window_after harts hart low_moves)
  sched_is_low harts false false same_exist runs_on_none not_entered = (no_steps_are_moves, window_equal)
  sched_is_low harts _ _ same_exist runs_on_none not_entered = cc

  -- the command `hart` is low, where `exist` and `other_exist` state whether each machine has the hart
  hart_command_is_low : (number : ℕ) (exist other_exist : Bool)
      → LowSched (if exist then Steps [] number else Nothing) (if other_exist then Steps [] number else Nothing)
  unfolding scheduled_steps
  hart_command_is_low number true true = (no_steps_are_moves, window_equal)
  hart_command_is_low number true false = (no_steps_are_moves, window_equal)
  hart_command_is_low number false true = (no_steps_are_moves, window_equal)
  hart_command_is_low number false false = (no_steps_are_moves, window_equal)

  -- the windows of the enclave are equal after equal pokes
  low_poke : (address byte : ℕ) → SameWindowAfter (poke_of (as_target one) (write one.shared.memory address (byte ∷ [])))
      (poke_of (as_target other) (write other.shared.memory address (byte ∷ [])))
  low_poke address byte =
      let same_size = related.memory.size in
      let bytes = byte ∷ [] in
      elim (cases_Bool (is_inside one.shared.memory address 1)) [
        -- the address is in RAM: the same byte is written to both memories
        | inl in_ram ↦
            let write_to_one = write-some one.shared.memory address bytes in_ram in
            let write_to_other = write-some other.shared.memory address bytes (rw (← same_size) in_ram) in
            rw (write_to_one, write_to_other) (λ running.
            same_write
            (λ (byte_address : ℕ). not (has (window one.shared.table enclave) byte_address)) one.shared.memory other.shared.memory address bytes _ _
            (window_equal running) write_to_one write_to_other)
        -- the address is outside RAM: neither memory changes
        | inr outside_ram ↦
            let write_to_one = write-none one.shared.memory address bytes outside_ram in
            let write_to_other = write-none other.shared.memory address bytes (rw (← same_size) outside_ram) in
            rw (write_to_one, write_to_other) window_equal
      ]

  -- the claim of `command_is_low`: the command is low in the two benches
  abbrev IsLow : Command → Type 0
  IsLow command = IsLowCommand enclave (as_bench one) (as_bench other) command

  -- each command that steps no hart of the enclave, and does not enter the enclave, is low
  command_is_low : (command : Command) → RunsOnNoneIn enclave (harts_named (as_target one) command) (as_target one)
      → is_entered enclave (execute (as_bench one) command).entered ≡ false → IsLow command
  unfolding execute
  -- `step` and `run`: the run has equal summaries and low moves
  command_is_low (Step count) (not_on_hart, _) not_entered =
      let (steps, stop, after) = low_runs_are_low [] [] count (low_runs [] [] count not_on_hart not_entered) in
      record { same = record { same = refl; steps = steps; stop = stop }; window = after }
  command_is_low (Run count) (not_on_hart, _) not_entered =
      let (steps, stop, after) = low_runs_are_low breaks watches count (low_runs breaks watches count not_on_hart not_entered) in
      record { same = record { same = refl; steps = steps; stop = stop }; window = after }
  -- `sched`: both machines have the same harts, and the steps of the schedule are low moves
  command_is_low (Sched schedule) runs_on_none not_entered =
      let harts = harts_in schedule in
      let same_exist = ap (λ (hart_count : ℕ). has_all hart_count harts) related.harts in
      let (steps, after) = sched_is_low harts (has_all (count_of one) harts) (has_all (count_of other) harts) same_exist runs_on_none not_entered in
      record { same = record { same = refl; steps = steps; stop = refl }; window = after }
  -- commands without steps
  command_is_low (Hart number) runs_on_none not_entered =
      let (steps, after) = hart_command_is_low number (nat_lt number (count_of one)) (nat_lt number (count_of other)) in
      record { same = record { same = refl; steps = steps; stop = refl }; window = after }
  command_is_low (Poke address byte) runs_on_none not_entered =
      record { same = record { same = refl; steps = no_steps_are_moves; stop = refl }; window = low_poke address byte }
  command_is_low _ runs_on_none not_entered = record { same = record { same = refl; steps = no_steps_are_moves; stop = refl }; window = window_equal }

-- ---- any two benches

-- each command is low on a bare machine
bare_low : (enclave : ℕ) (machine other : Machine) (breaks watches : List ℕ) (command : Command) → machine ≡ other
    → IsLowCommand enclave (bench_of (Bare machine) breaks watches) (bench_of (Bare other) breaks watches) command
unfolding execute
bare_low enclave machine other breaks watches command same_machine =
    subst (λ (other_machine : Machine). IsLowCommand enclave (bench_of (Bare machine) breaks watches)
    (bench_of (Bare other_machine) breaks watches) command) same_machine
    (record {
      same = record { same = refl; steps = tt; stop = refl };
      window =
          bare_target (λ (target : Target). WindowsAreEqual enclave (bench_of target breaks watches) (bench_of target breaks watches))
          (λ machine. tt) _
          (effect_stays_bare machine (effect (bench_of (Bare machine) breaks watches) command));
    })

-- a command that steps no hart of the enclave and does not enter it is low in two benches with related targets and equal windows
targets_low : (enclave : ℕ) (one other : Target) (breaks watches : List ℕ) (command : Command) → TargetInvariant one → TargetInvariant other
    → TargetsAreRelated enclave one other → WindowsAreEqual enclave (bench_of one breaks watches) (bench_of other breaks watches)
    → RunsOnNoneIn enclave (harts_named one command) one → is_entered enclave (execute (bench_of one breaks watches) command).entered ≡ false
    → IsLowCommand enclave (bench_of one breaks watches) (bench_of other breaks watches) command
targets_low enclave (Monitored one) (Monitored other) breaks watches command invariant other_invariant related windows_equal runs_on_none
    not_entered =
    subst (λ (selected_hart : ℕ). IsLowCommand enclave (bench_of (Monitored one) breaks watches)
    (bench_of (selected_at selected_hart other.state) breaks watches) command) related.hart
    (command_is_low enclave one.hart one.state other.state invariant other_invariant related.state windows_equal breaks watches command runs_on_none
    not_entered)
targets_low enclave (Bare one) (Bare other) breaks watches command invariant other_invariant related windows_equal runs_on_none not_entered =
    bare_low enclave one other breaks watches command related
targets_low enclave (Bare one) (Monitored other) breaks watches command invariant other_invariant related windows_equal runs_on_none not_entered =
    absurd related
targets_low enclave (Monitored one) (Bare other) breaks watches command invariant other_invariant related windows_equal runs_on_none not_entered =
    absurd related

-- Proves the law of low commands. The second bench is rewritten to the breakpoints and watchpoints of the first.
pub low_command : LowCommandLaw
low_command enclave bench other_bench command invariant other_invariant related windows_equal runs_on_none not_entered =
    subst (λ (breaks : List ℕ). IsLowCommand enclave bench (bench_of other_bench.target breaks other_bench.watches) command) related.breaks
    (subst (λ (watches : List ℕ). IsLowCommand enclave bench (bench_of other_bench.target bench.breaks watches) command) related.watches
    (targets_low enclave bench.target other_bench.target bench.breaks bench.watches command invariant other_invariant related.target windows_equal
    runs_on_none not_entered))
