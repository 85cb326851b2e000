-- Two benches stay equivalent except for an enclave after a command that steps no hart on which the enclave runs.
use Rattle.std.proofs.Common.{◌≡◌, ℕ, Bool, true, false, List, if◌then◌else◌, refl, sym, ◌∙◌, ap, subst, inl, inr}
use Rattle.rv_debug.specs.Noninterference.{EquivalenceLaw, StateAlike}
use Rattle.rv_debug.specs.Execute.{harts_summary_text, execute}
use Rattle.rv_debug.specs.BothBenches.{AvoidsHart, RunsOnNoneIn, is_blind}
use Rattle.rv_debug.proofs.EffectsInvariant.{command_keeps_invariant}
use Rattle.rv_debug.specs.Prelude.{Bare, Command, Csr, Invariant, Monitored, MonitoredMachine, Reg, Regs, RunsOnNone, Sched, Scheduled, Target}
use Rattle.rv_debug.specs.Prelude.{harts_in, has_all}
use Rattle.rv_debug.proofs.Prelude.{AfterSchedule, BenchState, BenchesEquivExcept, Effect, Executed, Nothing, Selected, SelectedEquivExcept, Steps}
use Rattle.rv_debug.proofs.Prelude.{TargetInvariant, TargetsEquivExcept, done, entered_by, is_entered, no_hart_text, schedule_start, scheduled_steps}
use Rattle.rv_debug.proofs.Prelude.{selected_at}
use Rattle.rv_debug.proofs.ExecuteAlike.{equiv_again, noninterference, bench_of, schedule_executed}
use Rattle.rv_monitor.specs.MonitoredMachine.{count_of}
use Rattle.rv_script.specs.declared.schedule.Schedule.{Schedule}
use Rattle.rv_debug.proofs.SchedAlike.{NeitherEnters, scheduled_steps_alike}
use Rattle.rv_debug.proofs.ScheduledSteps.{after_schedule}

-- both executions enter `enclave` or neither does; if neither does, the benches after them are equivalent except for `enclave`
record EquivUnlessEntered (enclave : ℕ) (one other : Executed) : Type 0 where
  -- both executions enter `enclave`, or neither does
  entered : is_entered enclave one.entered ≡ is_entered enclave other.entered
  -- if neither enters it, the benches after them are equivalent except for `enclave`
  state : is_entered enclave one.entered ≡ false → BenchesEquivExcept enclave one.state other.state

-- two schedules that do not enter the enclave leave equivalent benches
equiv_if_not_entered : (enclave hart : ℕ) (breaks watches : List ℕ) (start : Selected) (one other : AfterSchedule)
    → NeitherEnters enclave start one other
    → EquivUnlessEntered enclave (schedule_executed hart breaks watches one) (schedule_executed hart breaks watches other)
equiv_if_not_entered enclave hart breaks watches start one other neither_enters =
    subst (λ (target : Target). EquivUnlessEntered enclave (schedule_executed hart breaks watches (after_schedule target one.did))
    (schedule_executed hart breaks watches other))
    (sym neither_enters.one_state_is)
    (subst (λ (target : Target).
    EquivUnlessEntered enclave (schedule_executed hart breaks watches (after_schedule (Monitored neither_enters.end_of_one) one.did))
    (schedule_executed hart breaks watches (after_schedule target other.did))) (sym neither_enters.other_state_is)
    (record {
      entered = ap (λ (summary : Scheduled). is_entered enclave summary.entered) neither_enters.same_summary;
      state = λ not_entered.
          record {
            target = record { hart = refl; state = let equiv_ends = neither_enters.equiv_ends in equiv_ends.state };
            breaks = refl;
            watches = refl;
          };
    }))

-- two equivalent machines with hart `hart` selected
module _ (enclave hart : ℕ) (one other : MonitoredMachine)
    (equiv : SelectedEquivExcept enclave (record { hart = hart; state = one }) (record { hart = hart; state = other }))
    (breaks watches : List ℕ) where
  -- `as_selected` is the given machine with the selected hart
  abbrev as_selected : MonitoredMachine → Selected
  as_selected machine = record { hart = hart; state = machine }

  -- `sched_executed` is the result of a schedule, where the test states whether its harts exist
  abbrev sched_executed : MonitoredMachine → List ℕ → Bool → Executed
  sched_executed machine harts exist =
      let sched_effect : Effect = (if exist then Steps harts hart else Nothing) in
      record {
        state = bench_of (done (Monitored (as_selected machine)) sched_effect) breaks watches;
        reply = if exist then harts_summary_text (scheduled_steps harts (schedule_start (Monitored (as_selected machine)))) else no_hart_text;
        entered = entered_by (Monitored (as_selected machine)) sched_effect;
      }

  -- a schedule of harts on which the enclave does not run leaves equivalent benches, unless it enters the enclave
  sched_equiv : (harts : List ℕ) (exist other_exist : Bool) → exist ≡ other_exist → Invariant one → Invariant other → RunsOnNone enclave harts one
      → EquivUnlessEntered enclave (sched_executed one harts exist) (sched_executed other harts other_exist)
  sched_equiv harts true true same_exist invariant other_invariant runs_on_none =
      elim (scheduled_steps_alike enclave harts (as_selected one) (as_selected other) _ invariant other_invariant equiv runs_on_none) [
        -- both schedules enter the enclave, so nothing is claimed of the benches
        | inl both_enter ↦ record {
          entered = both_enter.one_enters ∙ sym both_enter.other_enters;
          state = λ not_entered. let contradiction : true ≡ false = sym both_enter.one_enters ∙ not_entered in cc;
        }
        | inr neither_enters ↦ equiv_if_not_entered enclave hart breaks watches (as_selected one) _ _ neither_enters
      ]
  sched_equiv harts false false same_exist invariant other_invariant runs_on_none =
      record { entered = refl; state = λ not_entered. record { target = equiv; breaks = refl; watches = refl } }
  sched_equiv harts _ _ same_exist invariant other_invariant runs_on_none = cc

-- the command `sched` leaves two equivalent targets equivalent, if the enclave runs on none of its harts and the schedule does not enter it
sched_targets : (enclave : ℕ) (one other : Target) (breaks watches : List ℕ) (schedule : Schedule) → TargetInvariant one → TargetInvariant other
    → TargetsEquivExcept enclave one other → is_blind enclave (bench_of one breaks watches) (Sched schedule) ≡ true
    → RunsOnNoneIn enclave (harts_in schedule) one
    → EquivUnlessEntered enclave (execute (bench_of one breaks watches) (Sched schedule)) (execute (bench_of other breaks watches) (Sched schedule))
unfolding execute
sched_targets enclave (Monitored one) (Monitored other) breaks watches schedule invariant other_invariant equiv blind runs_on_none =
    let harts = harts_in schedule in
    let state = equiv.state in
    subst (λ (hart : ℕ). EquivUnlessEntered enclave (execute (bench_of (Monitored one) breaks watches) (Sched schedule))
    (execute (bench_of (selected_at hart other.state) breaks watches) (Sched schedule))) equiv.hart
    (sched_equiv enclave one.hart one.state other.state (record { hart = refl; state = state }) breaks watches harts
    (has_all (count_of one.state) harts)
    (has_all (count_of other.state) harts) (ap (λ (hart_count : ℕ). has_all hart_count harts) state.harts) invariant other_invariant runs_on_none)
sched_targets enclave (Bare one) (Bare other) breaks watches schedule invariant other_invariant equiv blind runs_on_none =
    let alike_after =
    noninterference enclave (bench_of (Bare one) breaks watches) (bench_of (Bare other) breaks watches) (Sched schedule) invariant other_invariant
    (record { target = equiv; breaks = refl; watches = refl }) blind tt in
    record {
      entered = alike_after.entered;
      state = λ not_entered. let after = alike_after.passed not_entered in
          let remain_equiv = after.state in remain_equiv.but;
    }
sched_targets enclave _ _ breaks watches schedule invariant other_invariant equiv blind runs_on_none = absurd equiv

-- ---- every command

-- a command that is blind and avoids the hart of the enclave leaves equivalent benches, unless it enters the enclave
state_alike_if_hart_avoided : (enclave : ℕ) (bench other_bench : BenchState) (command : Command) → TargetInvariant bench.target
    → TargetInvariant other_bench.target
    → BenchesEquivExcept enclave bench other_bench → is_blind enclave bench command ≡ true → AvoidsHart enclave bench command
    → StateAlike enclave (execute bench command) (execute other_bench command)
state_alike_if_hart_avoided enclave bench other_bench command invariant other_invariant equiv blind avoids_hart =
    let alike_after = noninterference enclave bench other_bench command invariant other_invariant equiv blind avoids_hart in
    record { entered = alike_after.entered; state = λ not_entered. let after = alike_after.passed not_entered in after.state }

-- Proves that benches stay equivalent after commands that step no hart of the enclave. The commands that show the hart of the enclave have no effect,
-- and a schedule is treated above; noninterference covers all others.
pub equivalence : EquivalenceLaw
unfolding execute
-- commands that show a hart change nothing
equivalence enclave bench other_bench (Reg number) invariant other_invariant equiv blind runs_on_none =
    record { entered = refl; state = λ not_entered. equiv_again enclave bench other_bench invariant equiv }
equivalence enclave bench other_bench Regs invariant other_invariant equiv blind runs_on_none =
    record { entered = refl; state = λ not_entered. equiv_again enclave bench other_bench invariant equiv }
equivalence enclave bench other_bench (Csr number) invariant other_invariant equiv blind runs_on_none =
    record { entered = refl; state = λ not_entered. equiv_again enclave bench other_bench invariant equiv }
-- a schedule steps no hart of the enclave; the second bench is rewritten to the breakpoints and watchpoints of the first bench
equivalence enclave bench other_bench (Sched schedule) invariant other_invariant equiv blind runs_on_none =
    let states_equiv = subst (λ (breaks : List ℕ). EquivUnlessEntered enclave (execute bench (Sched schedule))
    (execute (bench_of other_bench.target breaks other_bench.watches) (Sched schedule)))
    equiv.breaks
    (subst (λ (watches : List ℕ). EquivUnlessEntered enclave (execute bench (Sched schedule))
    (execute (bench_of other_bench.target bench.breaks watches) (Sched schedule))) equiv.watches
    (sched_targets enclave bench.target other_bench.target bench.breaks bench.watches schedule invariant other_invariant equiv.target blind
    runs_on_none)) in
    record {
      entered = states_equiv.entered;
      state = λ not_entered. equiv_again enclave _ _
          (command_keeps_invariant bench (Sched schedule) invariant) (states_equiv.state not_entered);
    }
-- every other command avoids the hart of the enclave
equivalence enclave bench other_bench command invariant other_invariant equiv blind runs_on_none =
    state_alike_if_hart_avoided enclave bench other_bench command invariant other_invariant equiv blind runs_on_none
