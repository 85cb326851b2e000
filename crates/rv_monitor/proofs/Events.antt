-- Lists of events, by the laws of one step. An event is a step of a hart, or a change of the timer line of a hart.
use Rattle.std.proofs.Common.{◌≡◌, ℕ, Bool, true, false, List, [], ◌∷◌, refl, sym, ◌∙◌, ap, ap₂, inl, inr, arith}
use Rattle.rv_monitor.specs.Debugger.{with_timer}
use Rattle.rv_monitor.specs.MonitoredMachine.{timer_line_set}
use Rattle.rv_monitor.specs.Declassification.{AreRelated}
use Rattle.rv_monitor.specs.Events.{AreUndisturbing, Event, EventIntegrityLaw, EventInvariantLaw, EventLaw, IsUntouchedButLine, LineOf, RunningEventLaw}
use Rattle.rv_monitor.specs.Events.{StepOf, StepsNone, event_of, events}
use Rattle.rv_monitor.specs.Prelude.{CsrState, HartState, Outcome, is_live, is_world_of}
use Rattle.rv_monitor.proofs.Prelude.{EquivExcept, HartStatesEquivExcept, Invariant, IsUntouched, MonitoredMachine, cases_lt, count_of, enters, length-set}
use Rattle.rv_monitor.proofs.Prelude.{hart_state_of, reprogrammed, runs_on, step_of}
use Rattle.rv_monitor.proofs.Beside.{running_is_live, running_hart_in_range}
use Rattle.rv_monitor.proofs.HartCases.{hart_cases_of_both}
use Rattle.rv_monitor.proofs.Integrity.{integrity}
use Rattle.rv_monitor.proofs.InvariantLemmas.{change_preserves, invariant_law, no_hart_unchanged, written_invariant}
use Rattle.rv_monitor.proofs.MonitoredAlike.{noninterference}
use Rattle.rv_monitor.proofs.PmpProgramming.{reprogramming_changes_nothing}
use Rattle.rv_monitor.proofs.RelatedChanges.{changed_related}
use Rattle.rv_monitor.proofs.SchedIntegrity.{others_keep_running_law, preserved_twice}
use Rattle.rv_monitor.proofs.SchedNoninterference.{entry_law}

-- ---- the invariant

-- a change of a timer line preserves the invariant
pub line_invariant : (hart : ℕ) (raised : Bool) (machine : MonitoredMachine) → Invariant machine
    → Invariant (with_timer hart machine raised)
line_invariant hart raised machine = written_invariant hart (hart_state_of hart machine).hart.regs raised machine

-- every event preserves the invariant
pub event_invariant : (event : Event) (machine : MonitoredMachine) → Invariant machine
    → Invariant (event_of event machine).state
event_invariant (StepOf hart) machine invariant = invariant_law hart machine invariant
event_invariant (LineOf hart raised) machine invariant = line_invariant hart raised machine invariant

-- proves that every list of events preserves the invariant
pub events_invariant : EventInvariantLaw
events_invariant [] machine invariant = invariant
events_invariant (event ∷ events) machine invariant =
    events_invariant events (event_of event machine).state (event_invariant event machine invariant)

-- ---- noninterference

-- the timer line of the same hart changes in two machines
module _ (enclave hart : ℕ) (raised : Bool) (one other : MonitoredMachine) where
  -- the same change of a timer line leaves equivalent machines equivalent
  line_equiv : EquivExcept enclave one other
      → EquivExcept enclave (with_timer hart one raised) (with_timer hart other raised)
  line_equiv equiv =
      let first_changed = timer_line_set raised (hart_state_of hart one) in
      let second_changed = timer_line_set raised (hart_state_of hart other) in
      let same_harts = equiv.harts in
      let same_hart = equiv.hart_states hart in
      elim (cases_lt hart (count_of one)) [
        | inl in_range ↦ record {
          harts =
              length-set one.hart_states hart first_changed ∙ same_harts
              ∙ sym (length-set other.hart_states hart second_changed);
          -- the changed hart states are equivalent, and every other hart state is unchanged
          hart_states =
              hart_cases_of_both one.hart_states other.hart_states hart first_changed second_changed
              (λ some_hart first_state second_state. HartStatesEquivExcept enclave first_state second_state) same_harts in_range
              (record { world = same_hart.world; same = λ not_running. ap (timer_line_set raised) (same_hart.same not_running) })
              (λ some_hart distinct. equiv.hart_states some_hart);
          shared = equiv.shared;
        }
        -- no hart of the machine has this number
        | inr past_last ↦
            rw (
              no_hart_unchanged hart first_changed one past_last,
              no_hart_unchanged hart second_changed other
                  (omega (arith, same_harts, past_last)),
            ) equiv
      ]

  -- the same change of a timer line leaves related machines related
  pub line_related : AreRelated enclave one other
      → AreRelated enclave (with_timer hart one raised) (with_timer hart other raised)
  line_related related =
      changed_related enclave hart (timer_line_set raised) (timer_line_set raised) one other related (record {
        world = refl;
        state =
            λ equiv_states. record { world = equiv_states.world; same = λ not_running. ap (timer_line_set raised) (equiv_states.same not_running) };
        host =
            λ equiv_states. record { host = equiv_states.host; rest = ap (λ (csrs : CsrState). record csrs { timer = raised }) equiv_states.rest };
      })

-- proves the noninterference law for events, by induction on the list
pub event_law : EventLaw
event_law enclave [] one other invariant_one invariant_other equiv low_steps = record { outcomes = refl; state = equiv }
-- a low step has equal outcomes and leaves equivalent machines
event_law enclave (StepOf hart ∷ rest_events) one other invariant_one invariant_other equiv (not_running, rest_are_low) =
    let first_step = noninterference hart one invariant_one enclave other invariant_other equiv not_running in
    let remaining =
    event_law enclave rest_events (step_of hart one).state (step_of hart other).state (invariant_law hart one invariant_one)
    (invariant_law hart other invariant_other)
    first_step.state rest_are_low in
    record {
      outcomes =
          ap₂ (λ (outcome : Outcome) (outcomes : List Outcome). outcome ∷ outcomes) first_step.outcome remaining.outcomes;
      state = remaining.state;
    }
-- a change of a timer line has no outcome and leaves equivalent machines
event_law enclave (LineOf hart raised ∷ rest_events) one other invariant_one invariant_other equiv (_, rest_are_low) =
    let remaining =
    event_law enclave rest_events (with_timer hart one raised) (with_timer hart other raised) (line_invariant hart raised one invariant_one)
    (line_invariant hart raised other invariant_other) (line_equiv enclave hart raised one other equiv) rest_are_low in
    record {
      outcomes =
          ap (λ (outcomes : List Outcome). (event_of (LineOf hart raised) one).outcome ∷ outcomes) remaining.outcomes;
      state = remaining.state;
    }

-- ---- integrity

-- if two changes of the machine in turn leave the enclave untouched except for the timer line, then so do both together
untouched_but_line_twice : (slot : ℕ) (before middle after : MonitoredMachine) → IsUntouchedButLine slot before middle
    → IsUntouchedButLine slot middle after
    → IsUntouchedButLine slot before after
untouched_but_line_twice slot before middle after first_change second_change = record {
  preserved =
      preserved_twice slot before.shared middle.shared after.shared first_change.preserved second_change.preserved;
  hart_state = λ hart runs.
      let middle_state_is = first_change.hart_state hart runs in
      second_change.hart_state hart (ap (λ (hart_state : HartState). is_world_of slot hart_state.world) middle_state_is ∙ runs)
      ∙ ap (reprogrammed after.shared.table) middle_state_is;
}

-- a change of a timer line leaves each enclave untouched except for the timer line
pub line_change_leaves_untouched : (slot hart : ℕ) (raised : Bool) (machine : MonitoredMachine) → Invariant machine
    → IsUntouchedButLine slot machine (with_timer hart machine raised)
line_change_leaves_untouched slot hart raised machine invariant = record {
  preserved = record { slot = refl; bytes = λ byte in_region. refl; context = refl };
  hart_state = λ other_hart runs.
      change_preserves (timer_line_set false) (timer_line_set raised) (λ hart_state. refl) hart other_hart machine
      ∙ ap (timer_line_set false)
      (sym (reprogramming_changes_nothing machine.shared.table (hart_state_of other_hart machine)
      (invariant.hart_states other_hart (running_hart_in_range slot other_hart machine runs))));
}

-- an enclave that is untouched is untouched except for the timer line
untouched_but_line : (slot : ℕ) (before after : MonitoredMachine) → IsUntouched slot before after
    → IsUntouchedButLine slot before after
untouched_but_line slot before after untouched =
    record { preserved = untouched.preserved; hart_state = λ hart runs. ap (timer_line_set false) (untouched.hart_state hart runs) }

-- an enclave that a list of events leaves undisturbed is live before these events
undisturbed_live : (slot : ℕ) (events : List Event) (machine : MonitoredMachine) → AreUndisturbing slot events machine
    → is_live machine.shared.table slot ≡ true
undisturbed_live slot [] machine undisturbed = undisturbed
undisturbed_live slot (event ∷ rest_events) machine (live, _, _) = live

-- proves the integrity law for events, by induction on the list
pub event_integrity : EventIntegrityLaw
event_integrity slot [] machine invariant undisturbed = record {
  preserved = record { slot = refl; bytes = λ byte in_region. refl; context = refl };
  hart_state = λ hart runs.
      ap (timer_line_set false)
      (sym (reprogramming_changes_nothing machine.shared.table (hart_state_of hart machine)
      (invariant.hart_states hart (running_hart_in_range slot hart machine runs))));
}
-- a step leaves the enclave untouched, by the integrity of one step
event_integrity slot (StepOf hart ∷ rest_events) machine invariant (live, (not_running, not_entered), rest_undisturbed) =
    let after = (step_of hart machine).state in
    untouched_but_line_twice slot machine after (events rest_events after).state
    (untouched_but_line slot machine after
    (integrity hart machine invariant slot not_running live not_entered (undisturbed_live slot rest_events after rest_undisturbed)))
    (event_integrity slot rest_events after (invariant_law hart machine invariant) rest_undisturbed)
-- a change of a timer line leaves the enclave untouched, except for the timer line
event_integrity slot (LineOf hart raised ∷ rest_events) machine invariant (live, _, rest_undisturbed) =
    let after = with_timer hart machine raised in
    untouched_but_line_twice slot machine after (events rest_events after).state (line_change_leaves_untouched slot hart raised machine invariant)
    (event_integrity slot rest_events after (line_invariant hart raised machine invariant) rest_undisturbed)

-- ---- the other harts and every timer line leave a running enclave undisturbed

-- a change of a timer line does not change which enclave runs on which hart
pub line_worlds : (slot hart other_hart : ℕ) (raised : Bool) (machine : MonitoredMachine)
    → runs_on slot other_hart (with_timer hart machine raised) ≡ runs_on slot other_hart machine
line_worlds slot hart other_hart raised machine =
    change_preserves (λ (hart_state : HartState). is_world_of slot hart_state.world) (timer_line_set raised)
    (λ hart_state. refl) hart other_hart machine

-- if no event of a list steps a hart that runs the enclave, then this also holds after a change of a timer line
none_after_line : (slot hart : ℕ) (raised : Bool) (events : List Event) (machine : MonitoredMachine)
    → StepsNone slot events machine
    → StepsNone slot events (with_timer hart machine raised)
none_after_line slot hart raised [] machine steps_none = tt
none_after_line slot hart raised (StepOf stepping_hart ∷ rest_events) machine (not_running, rest_steps_none) =
    (line_worlds slot hart stepping_hart raised machine ∙ not_running, none_after_line slot hart raised rest_events machine rest_steps_none)
none_after_line slot hart raised (LineOf line_hart is_raised ∷ rest_events) machine steps_none =
    none_after_line slot hart raised rest_events machine steps_none

-- if no event of a list steps a hart that runs the enclave, then this also holds after a step that does not enter the enclave
none_after_step : (slot hart : ℕ) (events : List Event) (machine : MonitoredMachine) → StepsNone slot events machine
    → enters slot (step_of hart machine).outcome.entered ≡ false → StepsNone slot events (step_of hart machine).state
none_after_step slot hart [] machine steps_none not_entered = tt
none_after_step slot hart (StepOf stepping_hart ∷ rest_events) machine (not_running, rest_steps_none) not_entered =
    (entry_law slot hart stepping_hart machine not_running not_entered, none_after_step slot hart rest_events machine rest_steps_none not_entered)
none_after_step slot hart (LineOf line_hart is_raised ∷ rest_events) machine steps_none not_entered =
    none_after_step slot hart rest_events machine steps_none not_entered

-- proves that events of other harts leave a running enclave undisturbed
pub running_events : RunningEventLaw
running_events slot running_hart [] machine invariant runs_on_hart steps_none =
    running_is_live slot running_hart machine invariant runs_on_hart
-- a step of another hart neither enters nor destroys the enclave, and the enclave still runs on its hart
running_events slot running_hart (StepOf hart ∷ rest_events) machine invariant runs_on_hart (not_running, rest_steps_none) =
    let after = (step_of hart machine).state in
    let live = running_is_live slot running_hart machine invariant runs_on_hart in
    let continues = others_keep_running_law hart machine invariant slot running_hart runs_on_hart not_running in
    let preserved = integrity hart machine invariant slot not_running live continues.passes continues.live in
    let runs_after : runs_on slot running_hart after ≡ true =
    ap (λ (hart_state : HartState). is_world_of slot hart_state.world) (preserved.hart_state running_hart runs_on_hart) ∙ runs_on_hart in (
      live,
      (not_running, continues.passes),
      running_events slot running_hart rest_events after (invariant_law hart machine invariant) runs_after
          (none_after_step slot hart rest_events machine rest_steps_none continues.passes),
    )
-- a change of a timer line does not change which enclave runs on which hart
running_events slot running_hart (LineOf hart raised ∷ rest_events) machine invariant runs_on_hart steps_none = (
  running_is_live slot running_hart machine invariant runs_on_hart,
  tt,
  running_events slot running_hart rest_events (with_timer hart machine raised) (line_invariant hart raised machine invariant)
      (line_worlds slot hart running_hart raised machine ∙ runs_on_hart)
      (none_after_line slot hart raised rest_events machine steps_none),
)
