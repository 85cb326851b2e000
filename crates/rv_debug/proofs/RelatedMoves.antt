-- After moves of two related machines the observed steps of each hart are equal, unless the enclave runs there. The machines are related again.
use Rattle.std.proofs.Common.{◌≡◌, ℕ, ◌==◌, Bool, true, false, List, [], ◌∷◌, ◌⊎◌, Option, refl, sym, ◌∙◌, ap, ap₂, subst, inl, inr}
use Rattle.std.proofs.lemmas.Bool.{eqb-true}
use Rattle.rv_monitor.specs.Declassification.{AreMoves, AreRelated, Both, ExitsAlike, First, IsInside, IsLowStep, Move, Second}
use Rattle.rv_monitor.specs.Events.{LineOf, StepOf}
use Rattle.rv_monitor.specs.declared.outcome.Outcome.{Outcome}
use Rattle.rv_monitor.proofs.Declassification.{declassification_law}
use Rattle.rv_monitor.proofs.HartCases.{other_harts_keep}
use Rattle.rv_debug.specs.Prelude.{HartRan, HartState, Invariant, MonitoredMachine, Trap, is_world_of, runs_on, sched, step_of}
use Rattle.rv_debug.specs.Declassification.{StepsAreMoves, are_steps, first_steps, second_steps}
use Rattle.rv_debug.specs.Observed.{observed_steps, one_more_observed, with_observed_step}
use Rattle.rv_debug.specs.ScheduledSteps.{nothing_ran}
use Rattle.rv_debug.proofs.Prelude.{both_ways, cases_Bool, eq-eqb, invariant_law}

-- ---- one step of a hart

-- a step of another hart does not change whether the enclave runs on this one
other_step_keeps_world : (enclave shown_hart hart : ℕ) (machine : MonitoredMachine) → (shown_hart == hart) ≡ false
    → runs_on enclave shown_hart (step_of hart machine).state ≡ runs_on enclave shown_hart machine
other_step_keeps_world enclave shown_hart hart machine is_other =
    other_harts_keep (λ (hart_state : HartState). is_world_of enclave hart_state.world) (λ entered hart_state. refl) hart shown_hart machine
    (λ is_own. both_ways _ is_other (eq-eqb shown_hart hart is_own))

-- the observed summaries of hart `shown_hart` are equal, unless the enclave runs on this hart
abbrev pub SameUnlessOnHart : ℕ → ℕ → MonitoredMachine → HartRan → HartRan → Type 0
SameUnlessOnHart enclave shown_hart machine one_ran other_ran = runs_on enclave shown_hart machine ≡ false → one_ran ≡ other_ran

-- before a step of hart `hart`, the machines are related, and the observed summaries of the hart `shown_hart` are equal unless it runs the enclave
module _ (enclave shown_hart hart : ℕ) (one other : MonitoredMachine) (one_ran other_ran : HartRan) (related : AreRelated enclave one other)
    (same_ran : SameUnlessOnHart enclave shown_hart one one_ran other_ran) where
  -- the observed summaries are equal after a step of the enclave in the first machine alone
  same_after_first : IsInside enclave hart one
      → SameUnlessOnHart enclave shown_hart (step_of hart one).state (with_observed_step enclave shown_hart hart one one_ran) other_ran
  same_after_first stays_inside not_on_hart = elim (cases_Bool (shown_hart == hart)) [
    -- the step is a step of hart `shown_hart`, and the enclave runs on this hart after it, against the premise
    | inl is_own ↦ absurd
        (both_ways _ not_on_hart
        (ap (λ (any_hart : ℕ). runs_on enclave any_hart (step_of hart one).state) (eqb-true shown_hart hart is_own) ∙ stays_inside.after))
    | inr is_other ↦ rw is_other (same_ran (sym (other_step_keeps_world enclave shown_hart hart one is_other) ∙ not_on_hart))
  ]

  -- the observed summaries are equal after a step of the enclave in the second machine alone
  same_after_second : IsInside enclave hart other
      → SameUnlessOnHart enclave shown_hart one one_ran (with_observed_step enclave shown_hart hart other other_ran)
  same_after_second stays_inside not_on_hart = elim (cases_Bool (shown_hart == hart)) [
    | inl is_own ↦
        let on_hart : runs_on enclave hart one ≡ true = ap (is_world_of enclave) (related.hart_states hart).world ∙ stays_inside.before in
        absurd (both_ways _ not_on_hart (ap (λ (any_hart : ℕ). runs_on enclave any_hart one) (eqb-true shown_hart hart is_own) ∙ on_hart))
    | inr is_other ↦ rw is_other (same_ran not_on_hart)
  ]

  -- the claim that the observed summaries are equal again after a step of hart `hart` in both machines
  abbrev SameAfterBoth : Type 0
  SameAfterBoth = SameUnlessOnHart enclave shown_hart (step_of hart one).state (with_observed_step enclave shown_hart hart one one_ran)
      (with_observed_step enclave shown_hart hart other other_ran)

  -- the enclave runs on the hart in both machines or in neither
  same_world : runs_on enclave hart one ≡ runs_on enclave hart other
  same_world = ap (is_world_of enclave) (related.hart_states hart).world

  -- `own_ran` is the observed summary of a hart after one more step of its own
  abbrev own_ran : MonitoredMachine → HartRan → HartRan
  own_ran machine ran = one_more_observed (runs_on enclave hart machine) (step_of hart machine).outcome.step.trap ran

  -- the observed summaries are equal after a step of both machines, if they are equal in the case that the step is a step of hart `shown_hart`
  same_after_both : (shown_hart ≡ hart → own_ran one one_ran ≡ own_ran other other_ran) → SameAfterBoth
  same_after_both equal_if_own_step not_on_hart = elim (cases_Bool (shown_hart == hart)) [
    | inl is_own ↦ rw is_own (equal_if_own_step (eqb-true shown_hart hart is_own))
    | inr is_other ↦ rw is_other (same_ran (sym (other_step_keeps_world enclave shown_hart hart one is_other) ∙ not_on_hart))
  ]

  -- the observed summaries are equal after a low step of both machines
  same_after_low : runs_on enclave hart one ≡ false → (step_of hart one).outcome ≡ (step_of hart other).outcome → SameAfterBoth
  same_after_low not_on_hart same_outcome = same_after_both (λ is_own.
      ap₂ (λ (is_own : Bool) (trap : Option Trap). one_more_observed is_own trap one_ran) same_world
      (ap (λ (outcome : Outcome). outcome.step.trap) same_outcome)
      ∙ ap (one_more_observed (runs_on enclave hart other) (step_of hart other).outcome.step.trap)
      (same_ran (ap (λ (any_hart : ℕ). runs_on enclave any_hart one) is_own ∙ not_on_hart)))

  -- the observed summaries are equal after a step that exits from both machines
  same_after_exit : ExitsAlike enclave hart one other → SameAfterBoth
  same_after_exit exits_alike = same_after_both (λ is_own.
      let other_on_hart : runs_on enclave hart other ≡ true = sym same_world ∙ exits_alike.runs in
      rw (exits_alike.runs, other_on_hart, exits_alike.first, exits_alike.second) refl)

-- ---- all moves

-- after moves that are steps, the machines are related, and the hart `shown_hart` has equal observations in both
pub record RelatedAfterMoves (enclave shown_hart : ℕ) (harts other_harts : List ℕ) (one other : MonitoredMachine)
    (one_ran other_ran : HartRan) : Type 0 where
  pub related_after : AreRelated enclave (sched harts one).state (sched other_harts other).state
  -- the observed summaries of the hart `shown_hart` are equal, unless the enclave runs on this hart
  pub same_summaries : SameUnlessOnHart enclave shown_hart (sched harts one).state (observed_steps enclave shown_hart harts one one_ran)
      (observed_steps enclave shown_hart other_harts other other_ran)

-- Moves that are steps leave related machines and equal observations of the hart `shown_hart`. The proof is by induction over the list of moves.
related_by_moves : (enclave shown_hart : ℕ) (moves : List Move) (one other : MonitoredMachine) (one_ran other_ran : HartRan)
    → Invariant one → Invariant other → AreRelated enclave one other
    → are_steps moves ≡ true → AreMoves enclave moves one other → SameUnlessOnHart enclave shown_hart one one_ran other_ran
    → RelatedAfterMoves enclave shown_hart (first_steps moves) (second_steps moves) one other one_ran other_ran
related_by_moves enclave shown_hart [] one other one_ran other_ran invariant other_invariant related all_steps moves same_ran =
    record { related_after = related; same_summaries = same_ran }
-- a step of the enclave in the first machine
related_by_moves enclave shown_hart (First hart ∷ rest_moves) one other one_ran other_ran
    invariant other_invariant related all_steps (is_permitted, rest_permitted) same_ran =
    let next = (declassification_law enclave (First hart ∷ []) one other invariant other_invariant related (is_permitted, tt)).state in
    let moved_rest =
    related_by_moves enclave shown_hart rest_moves (step_of hart one).state other (with_observed_step enclave shown_hart hart one one_ran) other_ran
    (invariant_law hart one invariant) other_invariant next all_steps rest_permitted
    (same_after_first enclave shown_hart hart one other one_ran other_ran related same_ran is_permitted) in
    record { related_after = moved_rest.related_after; same_summaries = moved_rest.same_summaries }
-- a step of the enclave in the second machine
related_by_moves enclave shown_hart (Second hart ∷ rest_moves) one other one_ran other_ran
    invariant other_invariant related all_steps (is_permitted, rest_permitted) same_ran =
    let next = (declassification_law enclave (Second hart ∷ []) one other invariant other_invariant related (is_permitted, tt)).state in
    let moved_rest =
    related_by_moves enclave shown_hart rest_moves one (step_of hart other).state one_ran
    (with_observed_step enclave shown_hart hart other other_ran) invariant (invariant_law hart other other_invariant) next all_steps rest_permitted
    (same_after_second enclave shown_hart hart one other one_ran other_ran related same_ran is_permitted) in
    record { related_after = moved_rest.related_after; same_summaries = moved_rest.same_summaries }
related_by_moves enclave shown_hart
    (Both (LineOf hart raised) ∷ rest_moves) one other one_ran other_ran invariant other_invariant related all_steps moves same_ran = cc
-- a step of both machines is a low step, or an exit of the enclave from both
related_by_moves enclave shown_hart (Both (StepOf hart) ∷ rest_moves) one other one_ran other_ran
    invariant other_invariant related all_steps (is_permitted, rest_permitted) same_ran =
    let alike = declassification_law enclave (Both (StepOf hart) ∷ []) one other invariant other_invariant related (is_permitted, tt) in
    -- the outcomes of the two steps are equal, if the step is low
    let (same_outcomes_if_low, _) = alike.outcomes in
    let same_after : IsLowStep enclave hart one other ⊎ ExitsAlike enclave hart one other
    → SameUnlessOnHart enclave shown_hart (step_of hart one).state (with_observed_step enclave shown_hart hart one one_ran)
    (with_observed_step enclave shown_hart hart other other_ran) =
    λ step_is. elim step_is [
      | inl low_step ↦
          same_after_low enclave shown_hart hart one other one_ran other_ran related same_ran low_step.low (same_outcomes_if_low low_step.low)
      | inr exits_alike ↦ same_after_exit enclave shown_hart hart one other one_ran other_ran related same_ran exits_alike
    ] in
    let moved_rest =
    related_by_moves enclave shown_hart rest_moves (step_of hart one).state (step_of hart other).state
    (with_observed_step enclave shown_hart hart one one_ran) (with_observed_step enclave shown_hart hart other other_ran)
    (invariant_law hart one invariant) (invariant_law hart other other_invariant) alike.state all_steps rest_permitted
    (same_after is_permitted) in
    record { related_after = moved_rest.related_after; same_summaries = moved_rest.same_summaries }

-- steps of two commands that are moves leave related machines and equal observations
pub related_after_moves : (enclave shown_hart : ℕ) (harts other_harts : List ℕ) (one other : MonitoredMachine) → Invariant one → Invariant other
    → AreRelated enclave one other
    → StepsAreMoves enclave one other harts other_harts → RelatedAfterMoves enclave shown_hart harts other_harts one other nothing_ran nothing_ran
related_after_moves enclave shown_hart harts other_harts one other invariant other_invariant related steps =
    subst (λ (one_harts : List ℕ). RelatedAfterMoves enclave shown_hart one_harts other_harts one other nothing_ran nothing_ran) steps.first
    (subst (λ (other_harts : List ℕ).
    RelatedAfterMoves enclave shown_hart (first_steps steps.moves) other_harts one other nothing_ran nothing_ran) steps.second
    (related_by_moves enclave shown_hart steps.moves one other nothing_ran nothing_ran invariant other_invariant related steps.steps steps.are
    (λ not_on_hart. refl)))
