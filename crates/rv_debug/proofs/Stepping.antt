-- The steps of a run, one by one: case analysis and induction, and how each step of the code's loop continues or ends the run.
use Rattle.std.proofs.Common.{◌≡◌, ℕ, zero, suc, ◌+◌, ◌-◌, ◌<◌, ◌≤◌, ◌==◌, true, false, cond, List, [], Option, Some, None, refl, ◌∙◌, ap, arith, inl}
use Rattle.std.proofs.Common.{inr, Bool}
use Rattle.rv_debug.specs.Prelude.{Break, Done, Stop, Trap, Watch, option_case}
use Rattle.rv_debug.proofs.Prelude.{AfterRun, AfterSteps, Stepped, cases_eq, ended, is_among, lowest_accessed, option_or, run, slots_with, with_step}

-- ---- case analysis of a run

-- How a run ends or continues after a step. The arguments are the steps so far, the run that continues, and the watched byte that the step accessed.
-- The two tests are whether it was the last step, and whether the next instruction is at a breakpoint.
abbrev pub next_of : {A : Type 0} → AfterSteps A → AfterRun A → Option ℕ → Bool → Bool → AfterRun A
next_of after continued watch_hit last at_break =
    option_case watch_hit (cond last (ended after Done) (cond at_break (ended after Break) continued)) (λ address. ended after (Watch address))

-- Case analysis of `next_of` for two runs side by side that stop alike. A property holds after the step, if it holds for each stop and for the runs
-- that continue.
pub next_cases : {A B : Type 0} (P : AfterRun A → AfterRun B → Type 0) (so_far : AfterSteps A) (other_so_far : AfterSteps B) (one : AfterRun A)
    (other : AfterRun B) (hit : Option ℕ) (last at_break : Bool) → ((stop : Stop) → P (ended so_far stop) (ended other_so_far stop)) → P one other
    → P (next_of so_far one hit last at_break) (next_of other_so_far other hit last at_break)
next_cases P so_far other_so_far one other (Some address) last at_break at_stop at_continuation = at_stop (Watch address)
next_cases P so_far other_so_far one other None true at_break at_stop at_continuation = at_stop Done
next_cases P so_far other_so_far one other None false true at_stop at_continuation = at_stop Break
next_cases P so_far other_so_far one other None false false at_stop at_continuation = at_continuation

-- a property of a run holds if it holds at the end of the run, and before a step whenever it holds after the step
pub run_induction : {A : Type 0} (step : A → Stepped A) (pc : A → ℕ) (breaks watches : List ℕ) (P : AfterSteps A → AfterRun A → Type 0)
    → ((after : AfterSteps A) (stop : Stop) → P after (ended after stop))
    → ((before : AfterSteps A) (end : AfterRun A) → P (with_step before (step before.state)) end → P before end)
    → (count : ℕ) (before : AfterSteps A) → P before (run step pc breaks watches count before)
unfolding run
run_induction step pc breaks watches P at_end before_step zero before = at_end before Done
run_induction {A} step pc breaks watches P at_end before_step (suc remaining) before =
    let last = step before.state in
    let after = with_step before last in
    let continued = run step pc breaks watches remaining after in
    let Ends : AfterRun A → AfterRun A → Type 0 = λ end _. P after end in
    before_step before _ (next_cases Ends after after continued continued (lowest_accessed watches last.outcome.touched) (remaining == 0)
    (is_among (pc last.state) breaks) (at_end after) (run_induction step pc breaks watches P at_end before_step remaining after))

-- ---- one step of a run

-- `last` is the next step of a run, and `trap` and `entered` are the last trap and the entered slots after the step
pub record IsNextStep {A : Type 0} (step : A → Stepped A) (before : AfterSteps A) (last : Stepped A) (trap : Option Trap) (entered : ℕ) : Type 0 where
  pub step_is : step before.state ≡ last
  pub trap_is : trap ≡ option_or last.outcome.trap before.trap
  pub entered_is : entered ≡ slots_with before.entered last.entered

-- runs of any machine with a step function
module _ {A : Type 0} (step : A → Stepped A) (pc : A → ℕ) (breaks watches : List ℕ) where
  -- `next` is a run after one step from `before`: it ends, or continues with `remaining` steps left
  abbrev next : ℕ → AfterSteps A → AfterRun A
  next remaining before =
      let last = step before.state in
      let after = with_step before last in
      next_of after (run step pc breaks watches remaining after) (lowest_accessed watches last.outcome.touched) (remaining == 0)
      (is_among (pc last.state) breaks)

  -- a run of at least one step is its first step, and then ends or continues as `next` says
  run-suc : (remaining : ℕ) (before : AfterSteps A) → run step pc breaks watches (suc remaining) before ≡ next remaining before
  unfolding run
  run-suc remaining before = refl

  -- a run of `remaining` + 1 steps is its first step, and then ends or continues as `next` says
  run-next : (count remaining : ℕ) (before : AfterSteps A) → count ≡ remaining + 1 → run step pc breaks watches count before ≡ next remaining before
  run-next count remaining before count_is =
      let count_is_suc : count ≡ suc remaining = omega arith in
      ap (λ total. run step pc breaks watches total before) count_is_suc ∙ run-suc remaining before

  -- a run ends after a step that accesses a watched byte
  run-watch : (count remaining : ℕ) (before : AfterSteps A) (address : ℕ) → count ≡ remaining + 1
      → Some address ≡ lowest_accessed watches (step before.state).outcome.touched
      → run step pc breaks watches count before ≡ ended (with_step before (step before.state)) (Watch address)
  run-watch count remaining before address count_is watch_hit = run-next count remaining before count_is ∙ rw (← watch_hit) refl

  -- a run ends after a step that leads to a breakpoint, if the step accesses no watched byte and is not the last step
  run-break : (count remaining : ℕ) (before : AfterSteps A) → count ≡ remaining + 1 → 0 < remaining
      → None ≡ lowest_accessed watches (step before.state).outcome.touched → true ≡ is_among (pc (step before.state).state) breaks
      → run step pc breaks watches count before ≡ ended (with_step before (step before.state)) Break
  run-break count remaining before count_is steps_left no_watch_hit at_break =
      let not_last : (remaining == 0) ≡ false = grind arith in
      run-next count remaining before count_is ∙ rw (← no_watch_hit, not_last, ← at_break) refl

  -- a run of one step continues with no step left, if the step accesses no watched byte
  run-last : (count remaining : ℕ) (before : AfterSteps A) → count ≡ remaining + 1 → remaining ≡ 0
      → None ≡ lowest_accessed watches (step before.state).outcome.touched
      → run step pc breaks watches count before ≡ run step pc breaks watches remaining (with_step before (step before.state))
  unfolding run
  run-last count remaining before count_is is_last no_watch_hit = run-next count remaining before count_is ∙ rw (← no_watch_hit, is_last) refl

  -- a run continues after a step that accesses no watched byte, if this step is the last step or leads to no breakpoint
  run-more : (count remaining : ℕ) (before : AfterSteps A) → count ≡ remaining + 1
      → None ≡ lowest_accessed watches (step before.state).outcome.touched
      → (0 < remaining → is_among (pc (step before.state).state) breaks ≡ false)
      → run step pc breaks watches count before ≡ run step pc breaks watches remaining (with_step before (step before.state))
  run-more count remaining before count_is no_watch_hit no_break = elim (cases_eq remaining 0) [
    | inl is_last ↦ run-last count remaining before count_is is_last no_watch_hit
    | inr not_zero ↦
        let not_last : (remaining == 0) ≡ false = grind arith in
        let steps_left : 0 < remaining = omega arith in
        run-next count remaining before count_is ∙ rw (← no_watch_hit, not_last, no_break steps_left) refl
  ]

  -- `after_step` has the steps so far and one more, with the last trap and the entered slots after it
  abbrev after_step : AfterSteps A → Stepped A → Option Trap → ℕ → AfterSteps A
  after_step before last trap entered = record { state = last.state; steps = before.steps + 1; trap = trap; entered = entered }

  -- `with_step` of the definitions is `after_step`, which has the trap and the slots that the code computes
  with_step_is_after_step : (before : AfterSteps A) (last : Stepped A) (trap : Option Trap) (entered : ℕ) → IsNextStep step before last trap entered
      → with_step before (step before.state) ≡ after_step before last trap entered
  with_step_is_after_step before last trap entered next =
      let step_is = next.step_is in
      let trap_is = next.trap_is in
      let entered_is = next.entered_is in
      rw (step_is, trap_is, entered_is) refl

  -- the run ends after the next step, if the step accesses a watched byte; `done` of the `count` steps are executed before it
  pub stops-watch : (count done : ℕ) (before : AfterSteps A) (last : Stepped A) (trap : Option Trap) (entered address : ℕ)
      → done < count → IsNextStep step before last trap entered → Some address ≡ lowest_accessed watches last.outcome.touched
      → run step pc breaks watches (count - done) before ≡ ended (after_step before last trap entered) (Watch address)
  stops-watch count done before last trap entered address steps_left next watch_hit =
      let step_is = next.step_is in
      run-watch (count - done) (count - (done + 1)) before address (omega arith) (rw step_is watch_hit)
      ∙ ap (λ after. ended after (Watch address)) (with_step_is_after_step before last trap entered next)

  -- the run ends after the next step, if this step accesses no watched byte, leads to a breakpoint, and is not the last
  pub stops-break : (count done : ℕ) (before : AfterSteps A) (last : Stepped A) (trap : Option Trap) (entered : ℕ)
      → done + 1 < count → IsNextStep step before last trap entered → None ≡ lowest_accessed watches last.outcome.touched
      → true ≡ is_among (pc last.state) breaks
      → run step pc breaks watches (count - done) before ≡ ended (after_step before last trap entered) Break
  stops-break count done before last trap entered steps_left next no_watch_hit at_break =
      let step_is = next.step_is in
      run-break (count - done) (count - (done + 1)) before (omega arith) (omega arith) (rw step_is no_watch_hit) (rw step_is at_break)
      ∙ ap (λ after. ended after Break) (with_step_is_after_step before last trap entered next)

  -- the run continues after a step that is not the last, accesses no watched byte, and leads to no breakpoint
  pub goes-on : (count done : ℕ) (before : AfterSteps A) (last : Stepped A) (trap : Option Trap) (entered : ℕ)
      → done < count → IsNextStep step before last trap entered → None ≡ lowest_accessed watches last.outcome.touched
      → (done + 1 < count → is_among (pc last.state) breaks ≡ false)
      → run step pc breaks watches (count - done) before ≡ run step pc breaks watches (count - (done + 1)) (after_step before last trap entered)
  goes-on count done before last trap entered steps_left next no_watch_hit no_break =
      let step_is = next.step_is in
      run-more (count - done) (count - (done + 1)) before (omega arith) (rw step_is no_watch_hit) (λ more_left. rw step_is (no_break (omega arith)))
      ∙ ap (run step pc breaks watches (count - (done + 1))) (with_step_is_after_step before last trap entered next)

  -- the run continues after the next step, if there is no breakpoint and no watchpoint
  pub goes-on-free : (count done : ℕ) (before : AfterSteps A) (last : Stepped A) (trap : Option Trap) (entered : ℕ)
      → breaks ≡ [] → watches ≡ [] → done < count → IsNextStep step before last trap entered
      → run step pc breaks watches (count - done) before ≡ run step pc breaks watches (count - (done + 1)) (after_step before last trap entered)
  unfolding lowest_accessed
  goes-on-free count done before last trap entered no_breaks no_watches steps_left next =
      goes-on count done before last trap entered steps_left next (rw no_watches refl) (λ _. rw no_breaks refl)

  -- the run ends with `Done` when at least `count` steps are executed
  pub stops-done : (count done : ℕ) (so_far : AfterSteps A) → count ≤ done → run step pc breaks watches (count - done) so_far ≡ ended so_far Done
  unfolding run
  stops-done count done so_far all_executed =
      let nothing_left : count - done ≡ 0 = omega arith in
      rw nothing_left refl
