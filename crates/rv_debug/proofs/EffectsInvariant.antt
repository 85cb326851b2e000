-- Effects and commands preserve the invariant of a target, and leave a bare machine bare.
use Rattle.std.proofs.Common.{◌≡◌, ℕ, List, [], ◌∷◌, Option, Some, None, refl, sym, subst}
use Rattle.rv_debug.specs.Prelude.{Bare, Command, Invariant, Monitored, Machine, Target, option_case, with_register, write}
use Rattle.rv_debug.proofs.Prelude.{BenchState, Selected, Effect, IsBare, TargetInvariant, Nothing, OneByte, Register, Steps, TimerLine, execute}
use Rattle.rv_debug.proofs.Prelude.{selected_hart_state, effect, done, invariant_by_size, length-write, schedule_start, option_map, over_memory}
use Rattle.rv_debug.proofs.Prelude.{sched_invariant, written_invariant}
use Rattle.rv_debug.proofs.ScheduledSteps.{bare_target, schedule_stays_bare, selected_stays_bare, schedule_is_sched}

-- `poke_of` is the target after a poke: with the memory after the write, or unchanged if the address is not in RAM
abbrev pub poke_of : Target → Option (List ℕ) → Target
poke_of target memory = option_case (option_map (over_memory target) memory) target (λ after. after)

-- ---- a bare machine stays bare

-- a bare machine is a bare machine after a poke, whether or not the address is in RAM
bare_poked : (machine : Machine) (memory : Option (List ℕ)) → IsBare (poke_of (Bare machine) memory)
bare_poked machine None = tt
bare_poked machine (Some memory) = tt

-- every effect leaves a bare machine bare
pub effect_stays_bare : (machine : Machine) (change : Effect) → IsBare (done (Bare machine) change)
effect_stays_bare machine (Steps harts selected) = selected_stays_bare selected _ (schedule_stays_bare harts (schedule_start (Bare machine)) tt)
effect_stays_bare machine (OneByte address byte) = bare_poked machine (write machine.memory address (byte ∷ []))
effect_stays_bare machine _ = tt

-- ---- a monitored machine

-- a poke preserves the invariant, where `memory` is the result of the write
poke_keeps_invariant : (machine : Selected) (address byte : ℕ) (memory : Option (List ℕ))
    → write machine.state.shared.memory address (byte ∷ []) ≡ memory
    → Invariant machine.state → TargetInvariant (poke_of (Monitored machine) memory)
poke_keeps_invariant machine address byte None written invariant = invariant
poke_keeps_invariant machine address byte (Some memory) written invariant =
    invariant_by_size machine.state memory invariant (sym (length-write machine.state.shared.memory address (byte ∷ []) memory written))

-- ---- any target

-- every effect preserves the invariant of a target
pub effect_keeps_invariant : (target : Target) (change : Effect) → TargetInvariant target → TargetInvariant (done target change)
effect_keeps_invariant (Bare machine) change invariant = bare_target TargetInvariant (λ bare_machine. tt) _ (effect_stays_bare machine change)
effect_keeps_invariant (Monitored machine) Nothing invariant = invariant
effect_keeps_invariant (Monitored machine) (Steps harts selected) invariant =
    subst TargetInvariant (sym (schedule_is_sched harts machine _ selected)) (sched_invariant harts machine.state invariant)
effect_keeps_invariant (Monitored machine) (Register number value) invariant =
    let hart = (selected_hart_state machine).hart in
    written_invariant machine.hart (with_register hart.regs number value) hart.csrs.timer machine.state invariant
effect_keeps_invariant (Monitored machine) (TimerLine raised) invariant =
    written_invariant machine.hart (selected_hart_state machine).hart.regs raised machine.state invariant
effect_keeps_invariant (Monitored machine) (OneByte address byte) invariant =
    poke_keeps_invariant machine address byte (write machine.state.shared.memory address (byte ∷ [])) refl invariant

-- each command preserves the invariant of the target
pub command_keeps_invariant : (bench : BenchState) (command : Command) → TargetInvariant bench.target
    → TargetInvariant (execute bench command).state.target
unfolding execute
command_keeps_invariant bench command = effect_keeps_invariant bench.target (effect bench command)
