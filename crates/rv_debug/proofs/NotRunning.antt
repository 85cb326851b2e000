-- An enclave that runs on no hart: every command avoids its hart. After a command that does not enter the enclave, the enclave still runs on no hart.
use Rattle.std.proofs.Common.{◌≡◌, ℕ, true, false, List, [], ◌∷◌, Option, Some, None, refl, sym, ◌∙◌, ap, subst, inl, inr}
use Rattle.rv_enclaves.proofs.Scrambled.{slot_is_live_and_rests}
use Rattle.rv_monitor.proofs.Beside.{runs_among}
use Rattle.rv_debug.specs.Prelude.{Bare, Command, Monitored, Poke, HartState, Target, changed, is_world_of, reg_set, runs_on, slot_at, timer_line_set}
use Rattle.rv_debug.specs.Prelude.{write}
use Rattle.rv_debug.proofs.Prelude.{CommandsAvoidHart, BenchState, Selected, SelectedEquivExcept, Effect, TargetInvariant, Nothing, OneByte}
use Rattle.rv_debug.proofs.Prelude.{PokesInto, Register, RunsOnNoHartLaw, RunsOnNoHart, RunsOnNoneIn, Steps, TimerLine, equiv_itself, execute}
use Rattle.rv_debug.proofs.Prelude.{both_ways, can_scramble_in, cases_Bool, change_preserves, selected_at, effect, done, entered_by, harts_shown}
use Rattle.rv_debug.proofs.Prelude.{is_entered, itself, schedule_start, scheduled_steps, with_selected}
use Rattle.rv_debug.proofs.EffectsInvariant.{effect_stays_bare, command_keeps_invariant, poke_of}
use Rattle.rv_debug.proofs.SchedAlike.{on_none_of, scheduled_steps_alike}
use Rattle.rv_debug.proofs.ScheduledSteps.{bare_target}

-- ---- every command avoids the hart of an enclave that runs on no hart

-- an enclave that runs on no hart of a target runs on none of the given harts
pub on_none_in : (enclave : ℕ) (harts : List ℕ) (target : Target) → RunsOnNoHart enclave target → RunsOnNoneIn enclave harts target
on_none_in enclave harts (Bare machine) on_no_hart = tt
on_none_in enclave harts (Monitored selected) on_no_hart = on_none_of enclave harts selected.state on_no_hart

-- ---- an effect enters the enclave, or leaves it on no hart

-- steps that do not enter an enclave that runs on no hart leave the enclave on no hart
steps_on_no_hart : (enclave selected : ℕ) (harts : List ℕ) (machine : Selected) → TargetInvariant (Monitored machine)
    → RunsOnNoHart enclave (Monitored machine)
    → is_entered enclave (scheduled_steps harts (schedule_start (Monitored machine))).did.entered ≡ false
    → RunsOnNoHart enclave (done (Monitored machine) (Steps harts selected))
steps_on_no_hart enclave selected harts machine invariant on_no_hart not_entered =
    let equiv_with_itself : SelectedEquivExcept enclave machine machine =
    record { hart = refl; state = equiv_itself enclave machine.state (itself enclave machine.state.shared) } in
    elim (scheduled_steps_alike enclave harts machine machine _ invariant invariant equiv_with_itself
    (on_none_of enclave harts machine.state on_no_hart)) [
      | inl both_enter ↦ absurd (let contradiction : true ≡ false = sym both_enter.one_enters ∙ not_entered in cc)
      | inr neither_enters ↦ selection_on_no_hart _
          (subst (RunsOnNoHart enclave) (sym neither_enters.one_state_is) (neither_enters.on_no_hart on_no_hart))
    ] where
      -- the selection of a hart leaves the enclave on no hart
      selection_on_no_hart : (target : Target) → RunsOnNoHart enclave target → RunsOnNoHart enclave (with_selected selected target)
      selection_on_no_hart (Bare machine) on_no_hart = tt
      selection_on_no_hart (Monitored machine) on_no_hart = on_no_hart

-- a change of a hart's state that keeps its world leaves the enclave on no hart
write_on_no_hart : (enclave : ℕ) (machine : Selected) (change : HartState → HartState)
    → ((hart_state : HartState) → (change hart_state).world ≡ hart_state.world) → RunsOnNoHart enclave (Monitored machine)
    → RunsOnNoHart enclave (selected_at machine.hart (changed machine.hart change machine.state))
write_on_no_hart enclave machine change same_world on_no_hart hart =
    change_preserves (λ (hart_state : HartState). is_world_of enclave hart_state.world) change
    (λ hart_state. ap (is_world_of enclave) (same_world hart_state)) machine.hart hart machine.state ∙ on_no_hart hart

-- a poke leaves the enclave on no hart
poke_on_no_hart : (enclave : ℕ) (machine : Selected) (memory : Option (List ℕ))
    → RunsOnNoHart enclave (Monitored machine) → RunsOnNoHart enclave (poke_of (Monitored machine) memory)
poke_on_no_hart enclave machine None on_no_hart = on_no_hart
poke_on_no_hart enclave machine (Some memory) on_no_hart = on_no_hart

-- an effect that does not enter the enclave leaves it on no hart
effect_on_no_hart : (enclave : ℕ) (target : Target) (change : Effect) → TargetInvariant target
    → RunsOnNoHart enclave target → is_entered enclave (entered_by target change) ≡ false → RunsOnNoHart enclave (done target change)
effect_on_no_hart enclave (Bare machine) change invariant on_no_hart not_entered =
    bare_target (RunsOnNoHart enclave) (λ bare_machine. tt) _ (effect_stays_bare machine change)
effect_on_no_hart enclave (Monitored machine) Nothing invariant on_no_hart not_entered = on_no_hart
effect_on_no_hart enclave (Monitored machine) (Steps harts selected) invariant on_no_hart not_entered =
    steps_on_no_hart enclave selected harts machine invariant on_no_hart not_entered
effect_on_no_hart enclave (Monitored machine) (Register number value) invariant on_no_hart not_entered =
    write_on_no_hart enclave machine (reg_set number value) (λ hart_state. refl) on_no_hart
effect_on_no_hart enclave (Monitored machine) (TimerLine raised) invariant on_no_hart not_entered =
    write_on_no_hart enclave machine (timer_line_set raised) (λ hart_state. refl) on_no_hart
effect_on_no_hart enclave (Monitored machine) (OneByte address byte) invariant on_no_hart not_entered =
    poke_on_no_hart enclave machine (write machine.state.shared.memory address (byte ∷ [])) on_no_hart

-- proves that an enclave that runs on no hart still runs on no hart after each command that does not enter it
pub on_no_hart_law : RunsOnNoHartLaw
unfolding execute
on_no_hart_law enclave bench command invariant on_no_hart = record {
  by = on_none_in enclave (harts_shown bench.target command) bench.target on_no_hart;
  not_running = λ not_entered. effect_on_no_hart enclave bench.target (effect bench command) invariant on_no_hart not_entered;
}

-- while the enclave runs on no hart, each command avoids its hart
pub all_avoid_hart : (enclave : ℕ) (bench : BenchState) (commands : List Command) → TargetInvariant bench.target → RunsOnNoHart enclave bench.target
    → CommandsAvoidHart enclave bench commands
all_avoid_hart enclave bench [] invariant on_no_hart = tt
all_avoid_hart enclave bench (command ∷ commands) invariant on_no_hart =
    let stays = on_no_hart_law enclave bench command invariant on_no_hart in (
      stays.by,
      λ not_entered. all_avoid_hart enclave (execute bench command).state commands (command_keeps_invariant bench command invariant)
          (stays.not_running not_entered),
    )

-- a poke of a byte into the region of an enclave leaves the enclave on no hart
pub poked_on_no_hart : (enclave : ℕ) (bench : BenchState) (command : Command) → TargetInvariant bench.target
    → RunsOnNoHart enclave bench.target → PokesInto enclave bench command → RunsOnNoHart enclave (execute bench command).state.target
unfolding execute
poked_on_no_hart enclave bench (Poke address byte) invariant on_no_hart pokes_region = written bench.target invariant on_no_hart where
  -- a write of a byte leaves the enclave on no hart
  written : (target : Target) → TargetInvariant target → RunsOnNoHart enclave target → RunsOnNoHart enclave (done target (OneByte address byte))
  written (Bare machine) invariant on_no_hart =
      bare_target (RunsOnNoHart enclave) (λ bare_machine. tt) _ (effect_stays_bare machine (OneByte address byte))
  written (Monitored machine) invariant on_no_hart =
      poke_on_no_hart enclave machine (write machine.state.shared.memory address (byte ∷ [])) on_no_hart
poked_on_no_hart enclave bench _ invariant on_no_hart pokes_region = absurd pokes_region

-- an enclave that can be scrambled runs on no hart
pub scrambled_on_no_hart : (enclave : ℕ) (target : Target) → TargetInvariant target → can_scramble_in enclave target ≡ true
    → RunsOnNoHart enclave target
scrambled_on_no_hart enclave (Bare machine) invariant can_be_scrambled = tt
scrambled_on_no_hart enclave (Monitored selected) invariant can_be_scrambled = λ hart. elim (cases_Bool (runs_on enclave hart selected.state)) [
  -- the table says that the enclave does not run, but it runs on the hart
  | inl on_hart ↦
      let (_, not_running) = slot_is_live_and_rests (slot_at selected.state.shared.table enclave) can_be_scrambled in
      absurd (both_ways _ not_running (invariant.shared.running enclave ∙ runs_among enclave hart selected.state on_hart))
  | inr not_on_hart ↦ not_on_hart
]
