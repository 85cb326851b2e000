-- A step of a view is the bare step of the hart, followed by the trap handler if the bare step traps.
use Rattle.std.proofs.Common.{◌≡◌, ℕ, false, List, Option, Some, None, IfSome, refl, sym, ap, ◌∙◌}
use Rattle.rv_hart.specs.Hart.{step_counted}
use Rattle.rv_hart.specs.Hart.{trapped}
use Rattle.rv_monitor.specs.Prelude.{Hart, HartState, StepOutcome, Trap, option_case, step}
use Rattle.rv_monitor.proofs.Prelude.{HartView, HartViewStepped, bare_machine, handled, monitored_step, returned, trap_keeps, unhandled}

-- the hart after a trap
abbrev pub hart_after : Hart → Trap → Hart
hart_after hart trap = step_counted (trapped hart trap) false hart.csrs.mcountinhibit None

-- the hart state at the trap, before the trap handler
abbrev pub hart_state_after : HartState → Trap → HartState
hart_state_after hart_state trap = record hart_state { hart = hart_after hart_state.hart trap }

-- ---- the two cases of a step

-- the view after a step without a trap
abbrev pub view_without_trap : HartView → HartViewStepped
view_without_trap view =
    let after = step (bare_machine view) in
    unhandled after.outcome (record view.hart_state { hart = after.state.hart }) (record view.shared { memory = after.state.memory })

-- the view after a step with a trap, which the trap handler handles
abbrev pub view_after_trap : HartView → Trap → HartViewStepped
view_after_trap view trap =
    returned (step (bare_machine view)).outcome (handled (hart_state_after view.hart_state trap) view.shared trap)

-- the claim holds for the end of a step, with a trap or without
by-end : (view : HartView) (Claim : HartViewStepped → Type 0) (maybe_trap : Option Trap) (outcome : StepOutcome) (hart : Hart) (memory : List ℕ)
    → IfSome maybe_trap (λ trap. (hart ≡ hart_after view.hart_state.hart trap) × (memory ≡ view.shared.memory))
    → (let hart_state = record view.hart_state { hart = hart } in
    let shared = record view.shared { memory = memory } in
    (maybe_trap ≡ None → Claim (unhandled outcome hart_state shared))
    → ((trap : Trap) → maybe_trap ≡ Some trap → Claim (returned outcome (handled (hart_state_after view.hart_state trap) view.shared trap)))
    → Claim (option_case maybe_trap (unhandled outcome hart_state shared) (λ trap. returned outcome (handled hart_state shared trap))))
-- without a trap, the bare step is the whole step
by-end view Claim None outcome hart memory keeps claim_without_trap claim_with_trap = claim_without_trap refl
-- a trap leaves the memory unchanged, and the hart that `hart_after` gives
by-end view Claim (Some trap) outcome hart memory (hart_at_trap_is, memory_unchanged) claim_without_trap claim_with_trap =
    rw (hart_at_trap_is, memory_unchanged) (claim_with_trap trap refl)

-- Case analysis of a step of a view. A claim holds for the step if the claim holds for a step without a trap, and for a step with each trap.
pub step_cases : (view : HartView) (Claim : HartViewStepped → Type 0)
    → ((step (bare_machine view)).outcome.trap ≡ None → Claim (view_without_trap view))
    → ((trap : Trap) → (step (bare_machine view)).outcome.trap ≡ Some trap → Claim (view_after_trap view trap)) → Claim (monitored_step view)
unfolding monitored_step
step_cases view Claim claim_without_trap claim_with_trap =
    let after = step (bare_machine view) in
    by-end view Claim after.outcome.trap after.outcome after.state.hart after.state.memory
    (trap_keeps (bare_machine view)) claim_without_trap claim_with_trap

-- the outcome of the step of a view contains the outcome of the bare step
pub same_outcome : (view : HartView) → (monitored_step view).outcome.step ≡ (step (bare_machine view)).outcome
same_outcome view =
    step_cases view (λ after. after.outcome.step ≡ (step (bare_machine view)).outcome) (λ no_trap. refl) (λ trap trapped. refl)

-- a step with a trap is the trap handler on the hart state at the trap, followed by the return
pub trapped_step : (view : HartView) (trap : Trap) → (monitored_step view).outcome.step.trap ≡ Some trap
    → monitored_step view ≡ view_after_trap view trap
trapped_step view trap =
    step_cases view (λ after. after.outcome.step.trap ≡ Some trap → after ≡ view_after_trap view trap)
    (λ no_trap trapped. let contradiction : None ≡ Some trap = sym no_trap ∙ trapped in cc)
    (λ some_trap some_trapped trapped.
    let some_traps_equal : Some some_trap ≡ Some trap = sym some_trapped ∙ trapped in
    let traps_equal : some_trap ≡ trap = cc in
    ap (view_after_trap view) traps_equal)

-- a step without a trap keeps the world
pub untrapped_world_unchanged : (view : HartView) → (monitored_step view).outcome.step.trap ≡ None
    → (monitored_step view).state.hart_state.world ≡ view.hart_state.world
untrapped_world_unchanged view =
    step_cases view (λ after. after.outcome.step.trap ≡ None → after.state.hart_state.world ≡ view.hart_state.world) (λ no_trap is_untrapped. refl)
    (λ trap traps is_untrapped. let contradiction : None ≡ Some trap = sym is_untrapped ∙ traps in cc)
