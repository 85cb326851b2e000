-- Runs of two monitored machines that are equivalent except for an enclave that does not run on the selected hart. Both execute the same steps, up to
-- a step that enters the enclave.
use Rattle.std.proofs.Common.{◌≡◌, ℕ, zero, suc, ◌⊎◌, ◌==◌, Bool, true, false, List, Option, Some, None, refl, sym, ◌∙◌, ap, subst, inl, inr, arith}
use Rattle.std.specs.Prelude.{bit_or, ◌^◌}
use Rattle.std.proofs.lemmas.Nat.Bits.{bit_at_or, bit_at-lt, bit_at-pow_same}
use Rattle.std.proofs.lemmas.Bool.{eqb-true}
use Rattle.rv_monitor.proofs.SchedNoninterference.{entered_some, entry_law}
use Rattle.rv_monitor.specs.declared.outcome.Outcome.{Outcome}
use Rattle.rv_debug.specs.Prelude.{EquivExcept, Invariant, MonitoredMachine, HartState, Stop, enters, runs_on, step_of}
use Rattle.rv_debug.proofs.Prelude.{AfterRun, AfterSteps, cases_Bool, noninterference, eq-eqb, is_among, is_entered, invariant_law, lowest_accessed}
use Rattle.rv_debug.proofs.Prelude.{run, slots_with, with_step}
use Rattle.rv_debug.proofs.TargetRuns.{hart_pc, hart_stepped}
use Rattle.rv_debug.proofs.Stepping.{next_cases, run_induction, next_of}

-- ---- entered slots

-- a slot among the entered slots stays among them if more slots are entered
stays_entered_with_more : (enclave one other : ℕ) → is_entered enclave one ≡ true → is_entered enclave (bit_or one other) ≡ true
stays_entered_with_more enclave one other has_entered =
    eq-eqb _ 1 (bit_at_or one other enclave ∙ (let bit_is_set = eqb-true _ 1 has_entered in
    let bit_below_2 = bit_at-lt other enclave in omega (arith, bit_is_set, bit_below_2)))

-- a slot that was entered stays among the entered slots
pub stays_entered_with : (enclave slots : ℕ) (entered : Option ℕ) → is_entered enclave slots ≡ true
    → is_entered enclave (slots_with slots entered) ≡ true
stays_entered_with enclave slots None has_entered = has_entered
stays_entered_with enclave slots (Some slot) has_entered = stays_entered_with_more enclave slots (2 ^ slot) has_entered

-- the slot that a step enters is among the entered slots
pub entered_by_step : (enclave slots : ℕ) (entered : Option ℕ) → entered ≡ Some enclave → is_entered enclave (slots_with slots entered) ≡ true
entered_by_step enclave slots entered entered_is =
    let power_has_bit = bit_at-pow_same enclave in
    let bit_below_2 = bit_at-lt slots enclave in
    rw entered_is (eq-eqb _ 1 (bit_at_or slots (2 ^ enclave) enclave ∙ omega (arith, power_has_bit, bit_below_2)))

-- ---- runs

-- both runs enter `enclave`
pub record BothEnter (enclave : ℕ) (one other : AfterRun MonitoredMachine) : Type 0 where
  pub one_enters : is_entered enclave one.ran.entered ≡ true
  pub other_enters : is_entered enclave other.ran.entered ≡ true

-- Neither run entered `enclave`. Both have equal summaries and end in machines that are equivalent except for `enclave`, and the enclave does not run
-- on the hart of the run.
pub record NeitherEnters (enclave hart : ℕ) (one other : AfterRun MonitoredMachine) : Type 0 where
  pub same_summary : one.ran ≡ other.ran
  pub equiv_ends : EquivExcept enclave one.state other.state
  pub not_on_hart : runs_on enclave hart one.state ≡ false

-- either both runs enter `enclave`, or neither enters it and both have equal results
abbrev pub RunAlike : ℕ → ℕ → AfterRun MonitoredMachine → AfterRun MonitoredMachine → Type 0
RunAlike enclave hart one other = BothEnter enclave one other ⊎ NeitherEnters enclave hart one other

-- the number of steps and the outcomes so far are unchanged, with another machine
abbrev with_state : AfterSteps MonitoredMachine → MonitoredMachine → AfterSteps MonitoredMachine
with_state before state = record before { state = state }

-- runs of hart `hart` with these breakpoints and watchpoints, for `enclave`
module _ (enclave hart : ℕ) (breaks watches : List ℕ) where
  -- `run_from` is the run of a machine from the steps so far
  abbrev run_from : ℕ → AfterSteps MonitoredMachine → AfterRun MonitoredMachine
  run_from remaining before = run (hart_stepped hart) (hart_pc hart) breaks watches remaining before

  -- `after_step` has the steps so far and one more step
  abbrev after_step : AfterSteps MonitoredMachine → Outcome → MonitoredMachine → AfterSteps MonitoredMachine
  after_step before outcome state = with_step before (record { state = state; outcome = outcome.step; entered = outcome.entered })

  -- `next_run` is the run after one more step
  abbrev next_run : ℕ → AfterSteps MonitoredMachine → Outcome → MonitoredMachine → AfterRun MonitoredMachine
  next_run remaining before outcome state =
      let after = after_step before outcome state in
      next_of after (run_from remaining after) (lowest_accessed watches outcome.step.touched) (remaining == 0) (is_among (hart_pc hart state) breaks)

  -- The run has entered `enclave` at its end. The second run is there since `next_cases` takes two runs.
  abbrev Enters : AfterRun MonitoredMachine → AfterRun MonitoredMachine → Type 0
  Enters end _ = is_entered enclave end.ran.entered ≡ true

  -- a run that has entered `enclave` has entered `enclave` at its end
  stays_entered_in_run : (remaining : ℕ) (before : AfterSteps MonitoredMachine) → is_entered enclave before.entered ≡ true
      → is_entered enclave (run_from remaining before).ran.entered ≡ true
  stays_entered_in_run =
      run_induction (hart_stepped hart) (hart_pc hart) breaks watches (λ before end. is_entered enclave before.entered ≡ true → Enters end end)
      (λ after stop has_entered. has_entered)
      (λ before end rest_enters has_entered. rest_enters
      (stays_entered_with enclave before.entered (hart_stepped hart before.state).entered has_entered))

  -- a slot that this step enters stays among the entered slots
  pub run_enters : (remaining : ℕ) (before : AfterSteps MonitoredMachine) (outcome : Outcome) (state : MonitoredMachine)
      → outcome.entered ≡ Some enclave
      → is_entered enclave (next_run remaining before outcome state).ran.entered ≡ true
  run_enters remaining before outcome state enters_slot =
      let after = after_step before outcome state in
      let run_after = run_from remaining after in
      let entered_now = entered_by_step enclave before.entered outcome.entered enters_slot in
      next_cases Enters after after run_after run_after (lowest_accessed watches outcome.step.touched) (remaining == 0)
      (is_among (hart_pc hart state) breaks)
      (λ stop. entered_now) (stays_entered_in_run remaining after entered_now)

  -- Noninterference of a run: in two equivalent machines, a run of a hart on which the enclave does not run is alike. The proof is by induction over
  -- the number of steps left.
  pub run-alike : (remaining : ℕ) (before : AfterSteps MonitoredMachine) (other : MonitoredMachine) → Invariant before.state → Invariant other
      → EquivExcept enclave before.state other → runs_on enclave hart before.state ≡ false
      → RunAlike enclave hart (run_from remaining before) (run_from remaining (with_state before other))
  unfolding run
  run-alike zero before other invariant other_invariant equiv not_on_hart = inr (record {
    same_summary = refl;
    equiv_ends = equiv;
    not_on_hart = not_on_hart;
  })
  run-alike (suc remaining) before other invariant other_invariant equiv not_on_hart =
      let step_of_one = step_of hart before.state in
      let step_of_other = step_of hart other in
      let after = after_step before step_of_one.outcome step_of_one.state in
      let watch_hit = lowest_accessed watches step_of_one.outcome.step.touched in
      let alike_after = noninterference hart before.state invariant enclave other other_invariant equiv not_on_hart in
      elim (cases_Bool (enters enclave step_of_one.outcome.entered)) [
        -- the step enters the enclave in both machines, so both runs have entered it at their ends
        | inl enters_slot ↦
            let entered_is = entered_some enclave step_of_one.outcome.entered enters_slot in
            inl (record {
              one_enters = run_enters remaining before step_of_one.outcome step_of_one.state entered_is;
              other_enters = run_enters remaining (with_state before other) step_of_other.outcome step_of_other.state
                  (ap (λ (outcome : Outcome). outcome.entered) (sym alike_after.outcome) ∙ entered_is);
            })
        | inr does_not_enter ↦
            -- the enclave does not run on the hart after the step, and the rest of the run is alike by induction
            let still_off = entry_law enclave hart hart before.state not_on_hart does_not_enter in
            let rest_alike = run-alike remaining after step_of_other.state (invariant_law hart before.state invariant)
            (invariant_law hart other other_invariant) alike_after.state still_off in
            let alike_at_stop = λ (stop : Stop). inr (record { same_summary = refl; equiv_ends = alike_after.state; not_on_hart = still_off }) in
            let alike = next_cases (RunAlike enclave hart) after (with_state after step_of_other.state) _ _ watch_hit (remaining == 0)
            (is_among (hart_pc hart step_of_one.state) breaks) alike_at_stop rest_alike in
            -- the outcomes of the step are equal, and the next instruction is at a breakpoint in both machines or in neither
            let hart_states = (let state = alike_after.state in state.hart_states hart) in
            let same_break = ap (λ (hart_state : HartState). is_among hart_state.hart.pc breaks) (hart_states.same still_off) in
            subst (λ (outcome : Outcome). RunAlike enclave hart (next_run remaining before step_of_one.outcome step_of_one.state)
            (next_run remaining (with_state before other) outcome step_of_other.state)) alike_after.outcome
            (subst (λ (at_break : Bool). RunAlike enclave hart (next_run remaining before step_of_one.outcome step_of_one.state)
            (next_of (with_state after step_of_other.state) (run_from remaining (with_state after step_of_other.state)) watch_hit
            (remaining == 0) at_break)) same_break alike)
      ]
