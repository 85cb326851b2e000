-- Steps of named harts in two machines that are equivalent except for an enclave that runs on none of these harts. The steps have the same outcomes
-- and leave equivalent machines, up to a step that enters the enclave.
use Rattle.std.proofs.Common.{◌≡◌, ℕ, true, false, List, [], ◌∷◌, ◌⊎◌, Some, refl, sym, ◌∙◌, ap, subst, inl, inr}
use Rattle.rv_monitor.proofs.SchedNoninterference.{entered_some, entry_law}
use Rattle.rv_monitor.specs.declared.outcome.Outcome.{Outcome}
use Rattle.rv_debug.specs.Prelude.{Invariant, MonitoredMachine, Monitored, RunsOnNone, Scheduled, enters, runs_on, step_of}
use Rattle.rv_debug.proofs.Prelude.{AfterSchedule, Selected, SelectedEquivExcept, RunsOnNoHart, cases_Bool, noninterference, is_entered}
use Rattle.rv_debug.proofs.Prelude.{invariant_law, target_stepped, scheduled_steps, with_selected, with_scheduled_step}
use Rattle.rv_debug.proofs.StepsAlike.{stays_entered_with, entered_by_step}
use Rattle.rv_debug.proofs.ScheduledSteps.{after_schedule}

-- ---- an entered slot stays entered

-- a slot that was entered stays among the entered slots
stays_entered_in_schedule : (enclave : ℕ) (harts : List ℕ) (before : AfterSchedule) → is_entered enclave before.did.entered ≡ true
    → is_entered enclave (scheduled_steps harts before).did.entered ≡ true
unfolding scheduled_steps
stays_entered_in_schedule enclave [] before has_entered = has_entered
stays_entered_in_schedule enclave (hart ∷ harts) before has_entered =
    let last = target_stepped (with_selected hart before.state) in
    stays_entered_in_schedule enclave harts (with_scheduled_step hart before last)
    (stays_entered_with enclave before.did.entered last.entered has_entered)

-- ---- all steps

-- both schedules entered `enclave`
pub record BothEnter (enclave : ℕ) (one other : AfterSchedule) : Type 0 where
  pub one_enters : is_entered enclave one.did.entered ≡ true
  pub other_enters : is_entered enclave other.did.entered ≡ true

-- Neither schedule entered `enclave`. Both have equal summaries (`same_summary`), and end in monitored machines (`end_of_one`, `end_of_other`) that
-- are equivalent except for `enclave`. If the enclave ran on no hart of `start`, it runs on none at the end.
pub record NeitherEnters (enclave : ℕ) (start : Selected) (one other : AfterSchedule) : Type 0 where
  pub end_of_one : Selected
  pub end_of_other : Selected
  pub one_state_is : one.state ≡ Monitored end_of_one
  pub other_state_is : other.state ≡ Monitored end_of_other
  pub same_summary : one.did ≡ other.did
  pub equiv_ends : SelectedEquivExcept enclave end_of_one end_of_other
  pub on_no_hart : RunsOnNoHart enclave (Monitored start) → RunsOnNoHart enclave (Monitored end_of_one)

-- either both schedules enter `enclave`, or neither enters it and both have equal results
abbrev pub ScheduledStepsAlike : ℕ → Selected → AfterSchedule → AfterSchedule → Type 0
ScheduledStepsAlike enclave start one other = BothEnter enclave one other ⊎ NeitherEnters enclave start one other

-- an enclave that runs on no hart runs on none of the given harts
pub on_none_of : (enclave : ℕ) (harts : List ℕ) (machine : MonitoredMachine) → ((hart : ℕ) → runs_on enclave hart machine ≡ false)
    → RunsOnNone enclave harts machine
on_none_of enclave [] machine on_no_hart = tt
on_none_of enclave (hart ∷ harts) machine on_no_hart = (on_no_hart hart, on_none_of enclave harts machine on_no_hart)

-- Two schedules that are alike from the state `later` are alike from the state `start`. The premise is that an enclave that runs on no hart of
-- `start` runs on no hart of `later`.
alike_from_earlier : (enclave : ℕ) (start later : Selected) (one other : AfterSchedule)
    → (RunsOnNoHart enclave (Monitored start) → RunsOnNoHart enclave (Monitored later))
    → ScheduledStepsAlike enclave later one other → ScheduledStepsAlike enclave start one other
alike_from_earlier enclave start later one other stays_off (inl both_enter) = inl both_enter
alike_from_earlier enclave start later one other stays_off (inr neither_enters) = inr (record {
  end_of_one = neither_enters.end_of_one;
  end_of_other = neither_enters.end_of_other;
  one_state_is = neither_enters.one_state_is;
  other_state_is = neither_enters.other_state_is;
  same_summary = neither_enters.same_summary;
  equiv_ends = neither_enters.equiv_ends;
  on_no_hart = λ on_no_hart. neither_enters.on_no_hart (stays_off on_no_hart);
})

-- an enclave that a step does not enter runs on none of the given harts after the step, if it ran on none before
pub runs_on_none_after : (enclave hart : ℕ) (harts : List ℕ) (machine : MonitoredMachine)
    → enters enclave (step_of hart machine).outcome.entered ≡ false
    → RunsOnNone enclave harts machine → RunsOnNone enclave harts (step_of hart machine).state
runs_on_none_after enclave hart [] machine does_not_enter runs_on_none = tt
runs_on_none_after enclave hart (other_hart ∷ harts) machine does_not_enter (not_on_other_hart, on_none_of_rest) = (
  entry_law enclave hart other_hart machine not_on_other_hart does_not_enter,
  runs_on_none_after enclave hart harts machine does_not_enter on_none_of_rest,
)

-- the machines and the summary after one step of a hart, from its state and outcome
abbrev next : ℕ → Scheduled → MonitoredMachine → Outcome → AfterSchedule
next hart summary state outcome =
    let machine : Selected = record { hart = hart; state = state } in
    with_scheduled_step hart (after_schedule (Monitored machine) summary)
    (record { state = Monitored machine; outcome = outcome.step; entered = outcome.entered })

-- a step that enters `enclave` leaves `enclave` among the entered slots, whatever steps follow
pub schedule_enters : (enclave hart : ℕ) (harts : List ℕ) (summary : Scheduled) (state : MonitoredMachine) (outcome : Outcome)
    → outcome.entered ≡ Some enclave
    → is_entered enclave (scheduled_steps harts (next hart summary state outcome)).did.entered ≡ true
schedule_enters enclave hart harts summary state outcome enters_slot =
    stays_entered_in_schedule enclave harts (next hart summary state outcome) (entered_by_step enclave summary.entered outcome.entered enters_slot)

-- Noninterference of a schedule: in two equivalent machines, a schedule of harts on which the enclave does not run enters it in both or in neither.
-- If in neither, the summaries are equal and the machines stay equivalent. The proof is by induction over the list of harts.
pub scheduled_steps_alike : (enclave : ℕ) (harts : List ℕ) (one other : Selected) (summary : Scheduled) → Invariant one.state → Invariant other.state
    → SelectedEquivExcept enclave one other → RunsOnNone enclave harts one.state
    → ScheduledStepsAlike enclave one (scheduled_steps harts (after_schedule (Monitored one) summary))
    (scheduled_steps harts (after_schedule (Monitored other) summary))
unfolding scheduled_steps
scheduled_steps_alike enclave [] one other summary invariant other_invariant equiv runs_on_none =
    inr (record {
      end_of_one = one;
      end_of_other = other;
      one_state_is = refl;
      other_state_is = refl;
      same_summary = refl;
      equiv_ends = equiv;
      on_no_hart = λ on_no_hart. on_no_hart;
    })
scheduled_steps_alike enclave (hart ∷ harts) one other summary invariant other_invariant equiv (not_on_hart, on_none_of_rest) =
    let step_of_one = step_of hart one.state in
    let step_of_other = step_of hart other.state in
    let alike_after = noninterference hart one.state invariant enclave other.state other_invariant equiv.state not_on_hart in
    elim (cases_Bool (enters enclave step_of_one.outcome.entered)) [
      -- the step enters the enclave in both machines, so both schedules enter it
      | inl enters_slot ↦
          let entered_is = entered_some enclave step_of_one.outcome.entered enters_slot in
          inl (record {
            one_enters = schedule_enters enclave hart harts summary step_of_one.state step_of_one.outcome entered_is;
            other_enters = schedule_enters enclave hart harts summary step_of_other.state step_of_other.outcome
                (ap (λ (outcome : Outcome). outcome.entered) (sym alike_after.outcome) ∙ entered_is);
          })
      -- the step enters the enclave in neither machine: the outcomes are equal, and the remaining schedules are alike by induction
      | inr does_not_enter ↦
          let next_of_one : Selected = record { hart = hart; state = step_of_one.state } in
          let next_of_other : Selected = record { hart = hart; state = step_of_other.state } in
          let next_summary = (next hart summary step_of_one.state step_of_one.outcome).did in
          let stays_off : RunsOnNoHart enclave (Monitored one) → RunsOnNoHart enclave (Monitored next_of_one) =
          λ off_before other_hart. entry_law enclave hart other_hart one.state (off_before other_hart) does_not_enter in
          let alike = scheduled_steps_alike enclave harts next_of_one next_of_other next_summary (invariant_law hart one.state invariant)
          (invariant_law hart other.state other_invariant)
          (record { hart = refl; state = alike_after.state }) (runs_on_none_after enclave hart harts one.state does_not_enter on_none_of_rest) in
          alike_from_earlier enclave one next_of_one _ _ stays_off
          (subst (λ (outcome : Outcome). ScheduledStepsAlike enclave next_of_one
          (scheduled_steps harts (next hart summary step_of_one.state step_of_one.outcome))
          (scheduled_steps harts (next hart summary step_of_other.state outcome)))
          alike_after.outcome alike)
    ]
