-- The isolation laws: access control, integrity of each enclave that is left undisturbed, and the bytes that a command may change. Each is proved for
-- an effect, then for a command; integrity also for a list of commands.
use Rattle.std.proofs.Common.{◌≡◌, ◌≢◌, ℕ, ◌+◌, ◌<◌, ◌≤◌, ◌⊎◌, true, false, List, [], ◌∷◌, Option, Some, None, refl, sym, ◌∙◌, subst, inl, inr, arith}
use Rattle.std.proofs.Common.{ap, IfSome}
use Rattle.std.specs.Prelude.{IsSomeAnd}
use Rattle.rv_monitor.proofs.SchedIntegrity.{running_law, sched_changes, sched_integrity, preserved_twice}
use Rattle.rv_monitor.proofs.AccessControlLemmas.{access_control_law}
use Rattle.rv_debug.specs.Prelude.{Access, Bare, Command, Invariant, Monitored, RunsOnNone, Target, byte_at, has, read, region, MonitoredMachine}
use Rattle.rv_debug.specs.Prelude.{is_live, runs_on, hart_view, write}
use Rattle.rv_debug.proofs.Prelude.{BenchState, ChangesMemory, Selected, Effect, IntegrityLaw, IsPreservedIn, TargetInvariant, MayChange, OneByte}
use Rattle.rv_debug.proofs.Prelude.{PokesNone, UndisturbedByEffect, RunningLaw, PreservesUndisturbed, Steps, ReportsAccess, after_commands, execute}
use Rattle.rv_debug.proofs.Prelude.{byte_at-write, cases_eq, cases_lt, selected_of, effect, done, harts_of, harts_stepped, machine_in, memory_of}
use Rattle.rv_debug.proofs.Prelude.{hart_view_invariant}
use Rattle.rv_debug.proofs.EffectsInvariant.{command_keeps_invariant, poke_of}
use Rattle.rv_debug.proofs.ScheduledSteps.{schedule_is_sched}

-- ---- access control

-- Proves that the command `access` reports exactly the accesses that are accessible to the world of the selected hart, by the law of access control
-- of the monitor.
pub access_reports_accessible : (target : Target) (command : Command) → TargetInvariant target
    → selected_of target < harts_of target → ReportsAccess target command
unfolding read
access_reports_accessible (Monitored selected) (Access mode access address width) invariant in_range = λ not_in_m in_ram. record {
  reply_is_verdict = rw in_ram refl;
  exact = access_control_law (hart_view selected.hart selected.state) mode access address width
      (hart_view_invariant selected.hart selected.state invariant in_range) not_in_m in_ram;
}
access_reports_accessible _ _ invariant in_range = tt

-- ---- preservation

-- each enclave is preserved without a change
preserved_unchanged : (slot : ℕ) (selected : Selected) → IsPreservedIn slot (Monitored selected) (Monitored selected)
preserved_unchanged slot selected = record { slot = refl; bytes = λ byte in_region. refl; context = refl }

-- another address is before the byte or after it
before_or_after : (byte address : ℕ) → byte ≢ address → byte < address ⊎ address + 1 ≤ byte
before_or_after byte address differs = elim (cases_lt byte address) [ inl is_before ↦ inl is_before | inr not_below ↦ inr (omega (arith, differs)) ]

-- a poke outside the region preserves the enclave
poke_preserves : (slot address byte : ℕ) (machine : Selected) (memory : Option (List ℕ))
    → write machine.state.shared.memory address (byte ∷ []) ≡ memory
    → has (region machine.state.shared.table slot) address ≡ false → IsPreservedIn slot (Monitored machine) (poke_of (Monitored machine) memory)
poke_preserves slot address byte machine None written outside_region = preserved_unchanged slot machine
poke_preserves slot address byte machine (Some memory) written outside_region =
    let own_region = region machine.state.shared.table slot in
    record {
      slot = refl;
      bytes = λ other in_region.
          let differs : other ≢ address = λ is_address. let contradiction : true ≡ false =
          sym (subst (λ (other_address : ℕ). has own_region other_address ≡ true) is_address in_region) ∙ outside_region in cc in
          byte_at-write machine.state.shared.memory address (byte ∷ []) memory other written (before_or_after other address differs);
      context = refl;
    }

-- an effect preserves each enclave that it leaves undisturbed
effect_preserves : (target : Target) (change : Effect) → TargetInvariant target → (slot : ℕ)
    → IsSomeAnd (machine_in target) (λ machine. UndisturbedByEffect slot machine change) → IsPreservedIn slot target (done target change)
effect_preserves (Bare machine) change invariant slot is_undisturbed = absurd is_undisturbed
effect_preserves (Monitored machine) (Steps harts selected) invariant slot is_undisturbed =
    subst (IsPreservedIn slot (Monitored machine)) (sym (schedule_is_sched harts machine _ selected))
    (sched_integrity slot harts machine.state invariant is_undisturbed).preserved
effect_preserves (Monitored machine) (OneByte address byte) invariant slot (slot_is_live, outside_region) =
    poke_preserves slot address byte machine (write machine.state.shared.memory address (byte ∷ [])) refl outside_region
effect_preserves (Monitored machine) _ invariant slot is_undisturbed = preserved_unchanged slot machine

-- proves that a command preserves each enclave that it leaves undisturbed
pub command_preserves : (bench : BenchState) (command : Command) → TargetInvariant bench.target
    → PreservesUndisturbed bench command (execute bench command).state
unfolding execute
command_preserves bench command invariant = effect_preserves bench.target (effect bench command) invariant

-- ---- an enclave that runs on a hart that does not step

-- an effect of other harts leaves a running enclave undisturbed
undisturbed_by_others : (slot own_hart : ℕ) (machine : MonitoredMachine) (change : Effect) → Invariant machine → runs_on slot own_hart machine ≡ true
    → RunsOnNone slot (harts_stepped change) machine → PokesNone slot machine change → UndisturbedByEffect slot machine change
undisturbed_by_others slot own_hart machine (Steps harts last) invariant on_hart runs_on_none pokes_none =
    running_law slot own_hart harts machine invariant on_hart runs_on_none
undisturbed_by_others slot own_hart machine (OneByte address byte) invariant on_hart runs_on_none pokes_none =
    (running_law slot own_hart [] machine invariant on_hart tt, pokes_none)
undisturbed_by_others slot own_hart machine _ invariant on_hart runs_on_none pokes_none = running_law slot own_hart [] machine invariant on_hart tt

-- proves that commands that step other harts and poke no byte of the region leave a running enclave undisturbed
pub running_undisturbed : RunningLaw
running_undisturbed slot own_hart bench command = undisturbed_in (machine_in bench.target) where
  -- the command leaves the enclave undisturbed in the machine of the target, if the target has a machine
  undisturbed_in : (maybe_machine : Option MonitoredMachine) → IfSome maybe_machine Invariant → IfSome maybe_machine (λ machine.
      let does = effect bench command in
      runs_on slot own_hart machine ≡ true → RunsOnNone slot (harts_stepped does) machine → PokesNone slot machine does
      → UndisturbedByEffect slot machine does)
  undisturbed_in None invariant = tt
  undisturbed_in (Some machine) invariant = undisturbed_by_others slot own_hart machine (effect bench command) invariant

-- ---- the changed bytes

-- the byte is the same in two targets, or another condition holds
abbrev ByteIsOr : ℕ → Target → Target → Type 0 → Type 0
ByteIsOr byte before after other = byte_at (memory_of after) byte ≡ byte_at (memory_of before) byte ⊎ other

-- a poke changes its byte only
poke_changes : (address value byte : ℕ) (machine : Selected) (memory : Option (List ℕ))
    → write machine.state.shared.memory address (value ∷ []) ≡ memory
    → ByteIsOr byte (Monitored machine) (poke_of (Monitored machine) memory) (byte ≡ address)
poke_changes address value byte machine None written = inl refl
poke_changes address value byte machine (Some memory) written = elim (cases_eq byte address) [
  | inl is_address ↦ inr is_address
  | inr differs ↦ inl (byte_at-write machine.state.shared.memory address (value ∷ []) memory byte written (before_or_after byte address differs))
]

-- an effect changes only bytes that it may change
effect_changes : (target : Target) (change : Effect) → TargetInvariant target → (byte : ℕ)
    → IfSome (machine_in target) (λ machine. ByteIsOr byte target (done target change) (MayChange machine change byte))
effect_changes (Bare machine) change invariant byte = tt
effect_changes (Monitored machine) (Steps harts selected) invariant byte = elim (sched_changes harts machine.state byte invariant) [
  | inl unchanged ↦ inl (ap (λ (target : Target). byte_at (memory_of target) byte) (schedule_is_sched harts machine _ selected) ∙ unchanged)
  | inr changed ↦ inr changed
]
effect_changes (Monitored machine) (OneByte address value) invariant byte =
    poke_changes address value byte machine (write machine.state.shared.memory address (value ∷ [])) refl
effect_changes (Monitored machine) _ invariant byte = inl refl

-- proves that a command changes only bytes that its effect may change
pub changes_memory : (bench : BenchState) (command : Command) → TargetInvariant bench.target
    → ChangesMemory bench command (execute bench command).state
unfolding execute
changes_memory bench command invariant byte = in_target bench.target (effect bench command) invariant where
  -- the effect changes only bytes that it may change, in the machine of the target
  in_target : (target : Target) (change : Effect) → TargetInvariant target → IfSome (machine_in target) (λ machine.
      byte_at (memory_of (done target change)) byte ≡ byte_at machine.shared.memory byte ⊎ MayChange machine change byte)
  in_target (Bare machine) change invariant = tt
  in_target (Monitored machine) change invariant = effect_changes (Monitored machine) change invariant byte

-- ---- a list of commands

-- an enclave that is preserved from `before` to `between`, and from there to `after`, is preserved from `before` to `after`
preserved_after : (slot : ℕ) (before between after : Target) → IsPreservedIn slot before between
    → IsPreservedIn slot between after → IsPreservedIn slot before after
preserved_after slot (Monitored before) (Monitored between) (Monitored after) preserved_to_between preserved_to_after =
    preserved_twice slot before.state.shared between.state.shared after.state.shared preserved_to_between preserved_to_after
preserved_after slot (Bare before) between after preserved_to_between preserved_to_after = absurd preserved_to_between
preserved_after slot (Monitored before) (Bare between) after preserved_to_between preserved_to_after = absurd preserved_to_between
preserved_after slot (Monitored before) (Monitored between) (Bare after) preserved_to_between preserved_to_after = absurd preserved_to_after

-- a live enclave is preserved by an empty list of commands
preserved_itself : (slot : ℕ) (target : Target) → IsSomeAnd (machine_in target) (λ machine. is_live machine.shared.table slot ≡ true)
    → IsPreservedIn slot target target
preserved_itself slot (Monitored machine) is_live = preserved_unchanged slot machine
preserved_itself slot (Bare machine) is_live = is_live

-- proves the integrity law for lists of commands, by induction
pub integrity : IntegrityLaw
integrity slot bench [] invariant is_undisturbed = preserved_itself slot bench.target is_undisturbed
integrity slot bench (command ∷ commands) invariant (undisturbed_first, undisturbed_later) =
    let after = (execute bench command).state in
    preserved_after slot bench.target after.target (after_commands after commands).target
    (command_preserves bench command invariant slot undisturbed_first)
    (integrity slot after commands (command_keeps_invariant bench command invariant) undisturbed_later)
