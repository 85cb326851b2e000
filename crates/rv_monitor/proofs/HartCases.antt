-- The state of each hart after a step, as two cases: the hart that steps, and each other hart.
use Rattle.std.proofs.Common.{◌≡◌, ◌≢◌, ◌<◌, ◌≤◌, ℕ, false, List, length, slice_set, Option, Some, None, refl, sym, ◌∙◌, ap, subst, inl, inr, arith}
use Rattle.std.specs.Prelude.{map, nat_lt}
use Rattle.rv_monitor.specs.Prelude.{HartState, Slots, Trap}
use Rattle.rv_monitor.proofs.Prelude.{Invariant, HartInvariant, MonitoredMachine, MonitoredStepped, HartView, HartViewStepped, cases_eq, cases_lt}
use Rattle.rv_monitor.proofs.Prelude.{count_of, get_or-map, get_or-set_at, get_or-set_other, get_or_past, hart_state_in, length-map, length-set, lt-ltb}
use Rattle.rv_monitor.proofs.Prelude.{monitored_step, nat_tests, not_stepped, hart_state_at_start, hart_state_of, reprogrammed}
use Rattle.rv_monitor.proofs.Prelude.{hart_states_reprogrammed, hart_view_after}
use Rattle.rv_monitor.proofs.Prelude.{hart_view, step_of, stepped_by}
use Rattle.rv_monitor.proofs.PmpProgramming.{reprogramming_changes_nothing}
use Rattle.rv_monitor.proofs.TrapSteps.{step_cases}

-- a number that is not the number of a hart has the state of the host at reset
pub past_hart_state : (hart_states : List HartState) (hart : ℕ) → length hart_states ≤ hart
    → hart_state_in hart_states hart ≡ hart_state_at_start 0
past_hart_state hart_states hart past_end = get_or_past {X = HartState} hart_states hart (hart_state_at_start 0) past_end

-- Case analysis of the harts of two machines after a change of one hart in each. A claim about both states of each hart holds if it holds for the new
-- states of this hart, and for the old states of every other hart.
pub hart_cases_of_both : (hart_states other_states : List HartState) (hart : ℕ) (hart_state other_state : HartState)
    (Claim : ℕ → HartState → HartState → Type 0) → length hart_states ≡ length other_states
    → hart < length hart_states
    → Claim hart hart_state other_state → ((other_hart : ℕ) → other_hart ≢ hart
    → Claim other_hart (hart_state_in hart_states other_hart) (hart_state_in other_states other_hart))
    → (other_hart : ℕ) → Claim other_hart (hart_state_in (slice_set hart_states hart hart_state) other_hart)
    (hart_state_in (slice_set other_states hart other_state) other_hart)
hart_cases_of_both hart_states other_states hart hart_state other_state Claim same_length in_range claim_for_hart claims_for_others other_hart =
    let FirstClaim : HartState → Type 0 =
    λ some_state. Claim other_hart some_state (hart_state_in (slice_set other_states hart other_state) other_hart) in
    elim (cases_eq other_hart hart) [
      -- the hart is the one that changed: the claim holds for the new states
      | inl is_changed_hart ↦
          subst FirstClaim (sym (get_or-set_at hart_states hart other_hart hart_state (hart_state_at_start 0) is_changed_hart in_range))
          (subst (Claim other_hart hart_state) (sym (get_or-set_at other_states hart other_hart other_state (hart_state_at_start 0) is_changed_hart
          (omega (arith, same_length, in_range))))
          (subst (λ (some_hart : ℕ). Claim some_hart hart_state other_state) (sym is_changed_hart) claim_for_hart))
      -- every other hart keeps its state: the claim holds for the old states
      | inr distinct ↦
          subst FirstClaim (sym (get_or-set_other hart_states hart other_hart hart_state (hart_state_at_start 0) distinct))
          (subst (Claim other_hart (hart_state_in hart_states other_hart))
          (sym (get_or-set_other other_states hart other_hart other_state (hart_state_at_start 0) distinct))
          (claims_for_others other_hart distinct))
    ]

-- Case analysis of the harts of a machine after a change of one hart. A claim about the state of each hart holds if it holds for the new state of
-- this hart, and for the old state of every other hart.
pub hart_cases : (hart_states : List HartState) (hart : ℕ) (hart_state : HartState) (Claim : ℕ → HartState → Type 0) → hart < length hart_states
    → Claim hart hart_state
    → ((other_hart : ℕ) → other_hart ≢ hart → Claim other_hart (hart_state_in hart_states other_hart)) → (other_hart : ℕ)
    → Claim other_hart (hart_state_in (slice_set hart_states hart hart_state) other_hart)
hart_cases hart_states hart hart_state Claim in_range claim_for_hart claims_for_others =
    hart_cases_of_both hart_states hart_states hart hart_state hart_state
    (λ some_hart some_state _. Claim some_hart some_state) refl in_range claim_for_hart claims_for_others

-- ---- the hart states after the trap handler, before that of the stepping hart is replaced

-- the state of a hart after the step of another hart: reprogrammed if the step traps, and unchanged otherwise
abbrev pub hart_state_reprogrammed : Option Trap → Slots → HartState → HartState
hart_state_reprogrammed None table hart_state = hart_state
hart_state_reprogrammed (Some trap) table hart_state = reprogrammed table hart_state

-- the reprogramming after a trap does not change the number of harts
pub reprogrammed_count : (maybe_trap : Option Trap) (table : Slots) (hart_states : List HartState)
    → length (hart_states_reprogrammed maybe_trap table hart_states) ≡ length hart_states
reprogrammed_count None table hart_states = refl
reprogrammed_count (Some trap) table hart_states = length-map hart_states (reprogrammed table)

-- after the reprogramming of all harts, each hart has its reprogrammed state
reprogrammed_hart_state : (maybe_trap : Option Trap) (table : Slots) (hart_states : List HartState) (hart : ℕ) → hart < length hart_states
    → hart_state_in (hart_states_reprogrammed maybe_trap table hart_states) hart ≡ hart_state_reprogrammed maybe_trap table
    (hart_state_in hart_states hart)
reprogrammed_hart_state None table hart_states hart in_range = refl
reprogrammed_hart_state (Some trap) table hart_states hart in_range =
    get_or-map (reprogrammed table) hart_states hart (hart_state_at_start 0) (hart_state_at_start 0) in_range

-- ---- a step of a hart of the machine

-- the view `after` of a hart of the machine is the view after its step
module _ (hart : ℕ) (machine : MonitoredMachine) (after : HartViewStepped) where
  -- the trap of the step, if there is one
  abbrev maybe_trap : Option Trap
  maybe_trap = after.outcome.step.trap

  -- the table after the step
  abbrev table : Slots
  table = after.state.shared.table

  -- a step does not change the number of harts
  pub stepped_count : count_of (stepped_by hart machine after).state ≡ count_of machine
  stepped_count =
      length-set (hart_states_reprogrammed maybe_trap table machine.hart_states) hart after.state.hart_state
      ∙ reprogrammed_count maybe_trap table machine.hart_states

  -- the hart that steps has the state that its view has after the step
  pub stepping_hart_state : (other_hart : ℕ) → other_hart ≡ hart → hart < count_of machine
      → hart_state_of other_hart (stepped_by hart machine after).state ≡ after.state.hart_state
  stepping_hart_state other_hart is_stepping_hart in_range =
      let same_length = reprogrammed_count maybe_trap table machine.hart_states in
      get_or-set_at (hart_states_reprogrammed maybe_trap table machine.hart_states) hart other_hart after.state.hart_state
      (hart_state_at_start 0) is_stepping_hart
      (omega (arith, same_length, in_range))

  -- each other hart keeps its state, reprogrammed if the step traps
  pub other_hart_state : (other_hart : ℕ) → other_hart ≢ hart → other_hart < count_of machine
      → hart_state_of other_hart (stepped_by hart machine after).state ≡ hart_state_reprogrammed maybe_trap table (hart_state_of other_hart machine)
  other_hart_state other_hart distinct in_range =
      get_or-set_other (hart_states_reprogrammed maybe_trap table machine.hart_states) hart other_hart after.state.hart_state
      (hart_state_at_start 0) distinct ∙ reprogrammed_hart_state maybe_trap table machine.hart_states other_hart in_range

-- ---- any step

-- a step of a hart of the machine is the step of the view of this hart
pub machine_step_is : (hart : ℕ) (machine : MonitoredMachine) → hart < count_of machine
    → step_of hart machine ≡ stepped_by hart machine (monitored_step (hart_view hart machine))
unfolding step_of
machine_step_is hart machine in_range = rw (lt-ltb hart (count_of machine) in_range) refl

-- a step with a number that is not the number of a hart has no effect
pub outside : (hart : ℕ) (machine : MonitoredMachine) → count_of machine ≤ hart
    → step_of hart machine ≡ not_stepped machine
unfolding step_of
outside hart machine past_last =
    let not_a_hart : nat_lt hart (count_of machine) ≡ false = grind (arith, nat_tests, past_last) in rw not_a_hart refl

-- a claim about a step holds if the claim holds for a step without effect, and for the step of a hart of the machine
pub by_hart : (hart : ℕ) (machine : MonitoredMachine) (Claim : MonitoredStepped → Type 0) → Claim (not_stepped machine)
    → (hart < count_of machine → Claim (stepped_by hart machine (monitored_step (hart_view hart machine))))
    → Claim (step_of hart machine)
by_hart hart machine Claim no_hart with_hart = elim (cases_lt hart (count_of machine)) [
  | inl in_range ↦ subst Claim (sym (machine_step_is hart machine in_range)) (with_hart in_range)
  -- no hart of the machine has this number
  | inr past_last ↦ subst Claim (sym (outside hart machine past_last)) no_hart
]

-- a step leaves the number of harts unchanged
pub step_count : (hart : ℕ) (machine : MonitoredMachine) → count_of (step_of hart machine).state ≡ count_of machine
step_count hart machine = by_hart hart machine (λ after. count_of after.state ≡ count_of machine) refl
    (λ in_range. stepped_count hart machine (monitored_step (hart_view hart machine)))

-- the view of the hart after its step is the view after the step of the view
pub step_of_view : (hart : ℕ) (machine : MonitoredMachine) → hart < count_of machine
    → hart_view_after hart (step_of hart machine) ≡ monitored_step (hart_view hart machine)
step_of_view hart machine in_range =
    let after = monitored_step (hart_view hart machine) in
    let view_with : HartState → HartViewStepped =
    λ hart_state. record { state = record { hart_state = hart_state; shared = after.state.shared }; outcome = after.outcome } in
    ap (hart_view_after hart) (machine_step_is hart machine in_range)
    ∙ ap view_with (stepping_hart_state hart machine after hart refl in_range)

-- a step of one hart preserves each property of the other harts that does not depend on the PMP entries and mie
pub other_harts_keep : {X : Type 0} (property : HartState → X)
    → ((table : Slots) (hart_state : HartState) → property (reprogrammed table hart_state) ≡ property hart_state)
    → (hart other_hart : ℕ) (machine : MonitoredMachine)
    → other_hart ≢ hart → property (hart_state_of other_hart (step_of hart machine).state) ≡ property (hart_state_of other_hart machine)
other_harts_keep property preserved hart other_hart machine distinct =
    by_hart hart machine (λ after. property (hart_state_of other_hart after.state) ≡ property (hart_state_of other_hart machine)) refl
    (λ in_range.
    let after = monitored_step (hart_view hart machine) in
    let same_length = stepped_count hart machine after in
    elim (cases_lt other_hart (count_of machine)) [
      -- reprogramming after a trap keeps the property
      | inl in_range ↦
          ap property (other_hart_state hart machine after other_hart distinct in_range)
          ∙ reprogramming_keeps_property after.outcome.step.trap after.state.shared.table
      -- a number of no hart has the state of the host at reset, before and after the step
      | inr past_last ↦
          ap property (past_hart_state (stepped_by hart machine after).state.hart_states other_hart (omega (arith, same_length, past_last)) ∙ sym
          (past_hart_state machine.hart_states other_hart past_last))
    ]) where
      -- the property of the other hart is the same before and after the reprogramming of the other hart
      reprogramming_keeps_property : (maybe_trap : Option Trap) (table : Slots)
          → property (hart_state_reprogrammed maybe_trap table (hart_state_of other_hart machine)) ≡ property (hart_state_of other_hart machine)
      reprogramming_keeps_property None table = refl
      reprogramming_keeps_property (Some trap) table = preserved table (hart_state_of other_hart machine)

-- a step without a trap leaves the table unchanged
pub untrapped_table_unchanged : (view : HartView) → (monitored_step view).outcome.step.trap ≡ None
    → (monitored_step view).state.shared.table ≡ view.shared.table
untrapped_table_unchanged view =
    step_cases view (λ after. after.outcome.step.trap ≡ None → after.state.shared.table ≡ view.shared.table) (λ no_trap is_untrapped. refl)
    (λ trap traps is_untrapped. let contradiction : None ≡ Some trap = sym is_untrapped ∙ traps in cc)

-- after a step of another hart, a hart with the invariant has the state that a reprogramming for the new table gives
state_is_reprogrammed : (maybe_trap : Option Trap) (before after : Slots) (hart_state : HartState)
    → (maybe_trap ≡ None → after ≡ before)
    → HartInvariant before hart_state
    → hart_state_reprogrammed maybe_trap after hart_state ≡ reprogrammed after hart_state
state_is_reprogrammed None before after hart_state same_if_untrapped hart_invariant =
    sym (ap (λ (table : Slots). reprogrammed table hart_state) (same_if_untrapped refl)
    ∙ reprogramming_changes_nothing before hart_state hart_invariant)
state_is_reprogrammed (Some trap) before after hart_state same_if_untrapped hart_invariant = refl

-- after a step of another hart, each hart has the state that a reprogramming for the new table gives
pub other_hart_is_programmed : (hart other_hart : ℕ) (machine : MonitoredMachine) → Invariant machine
    → other_hart < count_of machine
    → (let after = monitored_step (hart_view hart machine) in
    hart_state_reprogrammed after.outcome.step.trap after.state.shared.table (hart_state_of other_hart machine)
    ≡ reprogrammed after.state.shared.table (hart_state_of other_hart machine))
other_hart_is_programmed hart other_hart machine invariant in_range =
    let after = monitored_step (hart_view hart machine) in
    state_is_reprogrammed after.outcome.step.trap machine.shared.table after.state.shared.table (hart_state_of other_hart machine)
    (untrapped_table_unchanged (hart_view hart machine))
    (invariant.hart_states other_hart in_range)

-- after a step of another hart, each hart has its old state with the PMP entries and mie of the new table
pub step_programmed : (hart other_hart : ℕ) (machine : MonitoredMachine) → Invariant machine → other_hart ≢ hart
    → other_hart < count_of machine
    → hart_state_of other_hart (step_of hart machine).state ≡ reprogrammed (step_of hart machine).state.shared.table
    (hart_state_of other_hart machine)
step_programmed hart other_hart machine invariant distinct other_in_range =
    by_hart hart machine (λ after. hart_state_of other_hart after.state ≡ reprogrammed after.state.shared.table (hart_state_of other_hart machine))
    (sym (reprogramming_changes_nothing machine.shared.table (hart_state_of other_hart machine) (invariant.hart_states other_hart other_in_range)))
    (λ in_range. other_hart_state hart machine (monitored_step (hart_view hart machine)) other_hart distinct other_in_range
    ∙ other_hart_is_programmed hart other_hart machine invariant other_in_range)

-- ---- a step that traps

-- the machine after a step with a trap that leaves this view of the hart: each other hart is reprogrammed for the new table
abbrev pub programmed_by : ℕ → MonitoredMachine → HartView → MonitoredMachine
programmed_by hart machine after =
    record { hart_states = slice_set (map (reprogrammed after.shared.table) machine.hart_states) hart after.hart_state; shared = after.shared }

-- the hart is a hart of the machine, and its step traps
pub record IsTrapping (hart : ℕ) (machine : MonitoredMachine) (trap : Trap) : Type 0 where
  -- the machine has this hart
  pub has : hart < count_of machine
  -- the step of the hart's view has the trap
  pub trapped : (monitored_step (hart_view hart machine)).outcome.step.trap ≡ Some trap
  -- the hart takes the step of its view, and the PMP entries of all harts are programmed for the new table
  pub state : (step_of hart machine).state ≡ programmed_by hart machine (monitored_step (hart_view hart machine)).state
  -- the step of the machine has the outcome of the step of the view
  pub outcome : (step_of hart machine).outcome ≡ (monitored_step (hart_view hart machine)).outcome

-- a step with a trap is the step of a hart of the machine whose view has the trap
pub is_trapping : (hart : ℕ) (machine : MonitoredMachine) (trap : Trap)
    → (step_of hart machine).outcome.step.trap ≡ Some trap
    → IsTrapping hart machine trap
is_trapping hart machine trap traps = elim (cases_lt hart (count_of machine)) [
  -- a step with the number of no hart has no trap
  | inr past_last ↦
      let contradiction : None ≡ Some trap =
      sym (ap (λ (after : MonitoredStepped). after.outcome.step.trap) (outside hart machine past_last)) ∙ traps in
      cc
  -- the step of the machine has the outcome of the view's step, so the view traps too
  | inl in_range ↦
      let after = monitored_step (hart_view hart machine) in
      let step_is = machine_step_is hart machine in_range in
      let trapped : after.outcome.step.trap ≡ Some trap =
      sym (ap (λ (stepped : MonitoredStepped). stepped.outcome.step.trap) step_is) ∙ traps in
      -- a step with a trap reprograms every hart, and then writes the state of the stepping hart
      let programmed_after : Option Trap → MonitoredMachine = λ maybe_trap. record {
        hart_states =
            slice_set (hart_states_reprogrammed maybe_trap after.state.shared.table machine.hart_states) hart after.state.hart_state;
        shared = after.state.shared;
      } in
      record {
        has = in_range;
        trapped = trapped;
        state = ap (λ (stepped : MonitoredStepped). stepped.state) step_is ∙ ap programmed_after trapped;
        outcome = ap (λ (stepped : MonitoredStepped). stepped.outcome) step_is;
      }
]
