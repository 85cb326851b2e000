-- The bytes that the instruction of a step accesses are accessible to the running world.
use Rattle.std.proofs.Common.{◌≡◌, ◌⊎◌, ℕ, false, Option, Some, None, Result, Ok, Err, refl, sym, ◌∙◌, subst, inl, inr}
use Rattle.rv_hart.proofs.StepCases.{step_ways}
use Rattle.rv_memory.specs.declared.touched.Touched.{Touched}
use Rattle.rv_monitor.specs.Prelude.{Access, Fetch, Hart, Mode, Read, Span, Machine, Stepped, Trap, Word, Write, data_mode, is_machine}
use Rattle.rv_monitor.specs.Prelude.{retired_or_trapped, span, step}
use Rattle.rv_monitor.specs.Touches.{executes, SpanIsAccessible, IsTouchedAccessible, TouchesAccessible}
use Rattle.rv_monitor.proofs.Prelude.{HartViewInvariant, MayTouch, HartView, bare_machine, touches_permitted, monitored_step}
use Rattle.rv_monitor.proofs.AccessControlLemmas.{below_M, data_below, access_control_law}
use Rattle.rv_monitor.proofs.TrapSteps.{same_outcome}

-- ---- the fetch

-- the end of an instruction, with or without an exception, keeps the fetched bytes
fetched_still : (hart : Hart) (touched : Touched) (written : Option ℕ) (maybe_span : Option Span) (finish : Result Hart Trap)
    → touched.fetched ≡ maybe_span
    → (retired_or_trapped hart touched written finish).outcome.touched.fetched ≡ maybe_span
unfolding retired_or_trapped
fetched_still hart touched written maybe_span (Ok after) fetched_is = fetched_is
fetched_still hart touched written maybe_span (Err trap) fetched_is = fetched_is

-- the step fetches the word at pc, or executes no instruction
abbrev FetchesAtPc : ℕ → Stepped → Type 0
FetchesAtPc pc after =
    (after.outcome.touched.fetched ≡ span pc Word) ⊎ ((after.outcome.touched.fetched ≡ None) × (executes after.outcome.trap ≡ false))

-- each step fetches the word at pc, or executes no instruction
fetches_at_pc : (bare : Machine) → FetchesAtPc bare.hart.pc (step bare)
fetches_at_pc bare = step_ways bare (FetchesAtPc bare.hart.pc) (record {
  -- after an interrupt or a refused fetch, no instruction is executed
  interrupt = λ interrupt pending_is. inr (refl, refl);
  fetch_refused = λ fault fetched_word. inr (refl, refl);
  -- in every other case, the step fetched the word at pc
  illegal = λ word fetched_word. inl refl;
  no_access = λ word instr fetched_word. inl (fetched_still bare.hart _ _ _ _ refl);
  load = λ word instr address width number fetched_word is_done. inl (fetched_still bare.hart _ _ _ _ refl);
  load_refused = λ word instr address width fault fetched_word not_loaded. inl refl;
  store = λ word instr address width value memory fetched_word is_done. inl (fetched_still bare.hart _ _ _ _ refl);
  store_refused = λ word instr address width value fault fetched_word not_stored. inl refl;
})

-- ---- the accesses

-- a view with the invariant
module _ (view : HartView) (view_invariant : HartViewInvariant view) where
  -- a permitted access below M is accessible to the running world
  accessible : (mode : Mode) (access : Access) (maybe_span : Option Span) → is_machine mode ≡ false
      → MayTouch (bare_machine view) mode access maybe_span
      → SpanIsAccessible view access maybe_span
  accessible mode access None mode_below_m may_touch = tt
  accessible mode access (Some span) mode_below_m (inside_memory, permitted) =
      sym (access_control_law view mode access span.addr span.len view_invariant (below_M mode mode_below_m) inside_memory) ∙ permitted

  -- each access of the bare step is accessible to the running world
  touches_accessible : IsTouchedAccessible view (step (bare_machine view)).outcome
  touches_accessible =
      let touches_permitted_bytes = touches_permitted (bare_machine view) in
      let mode_below_m = data_below view view_invariant in
      let touched = (step (bare_machine view)).outcome.touched in
      record {
        at_pc = fetches_at_pc (bare_machine view);
        fetched =
            accessible view.hart_state.hart.mode Fetch touched.fetched view_invariant.hart.layout.mode touches_permitted_bytes.fetched;
        loaded =
            accessible (data_mode view.hart_state.hart) Read touched.loaded mode_below_m touches_permitted_bytes.loaded;
        stored =
            accessible (data_mode view.hart_state.hart) Write touched.stored mode_below_m touches_permitted_bytes.stored;
      }

-- proves that a step accesses only bytes that its world may access
pub touch_law : (view : HartView) → HartViewInvariant view → TouchesAccessible view (monitored_step view)
touch_law view view_invariant =
    subst (IsTouchedAccessible view) (sym (same_outcome view)) (touches_accessible view view_invariant)
