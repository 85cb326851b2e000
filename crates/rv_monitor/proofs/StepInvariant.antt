-- A step of one hart preserves the invariant of this hart and of the shared state.
use Rattle.std.proofs.Common.{◌≡◌, ℕ, false, List, ◌∷◌, Option, Some, None, IfSome, length, refl, sym, ap, ◌∙◌, subst, inl, inr, arith}
use Rattle.std.specs.Prelude.{IfNone}
use Rattle.std.proofs.lemmas.List.FromFn.{get_or-map-range_with_len}
use Rattle.rv_state.specs.MachineParts.{machine_parts}
use Rattle.rv_hart.specs.StepLaws.{TrapKeeps, StaysBelow}
use Rattle.rv_enclaves.proofs.InvariantLemmas.{entry_is_plain}
use Rattle.rv_memory.proofs.MemoryLaws.{length-write}
use Rattle.rv_memory.specs.declared.touched.Touched.{Touched}
use Rattle.rv_state.specs.declared.mstatus.Mstatus.{Mstatus}
use Rattle.rv_monitor.specs.Prelude.{CsrState, Hart, SharedInvariant, HartState, Shared, Slots, Span, Machine, StepOutcome, Stepped, Trap, World}
use Rattle.rv_monitor.specs.Prelude.{entry_at, is_machine, layout, mie_of, step}
use Rattle.rv_monitor.specs.MonitoredMachine.{pmp_programmed}
use Rattle.rv_monitor.proofs.Prelude.{EqualOn, Handled, HasPmpLayout, IsUnlocked, IsConfined, HartViewInvariant, HartInvariant, HostContextInvariant, HartView}
use Rattle.rv_monitor.proofs.Prelude.{HartViewStepped, SameIn, Stores, bare_machine, cases_lt, cfg_of, confined, get_or_past, handled}
use Rattle.rv_monitor.proofs.Prelude.{keeps_machine_parts, keeps_mprv_clear, monitored_step, returned, returned_to, reprogrammed, sound_by_size}
use Rattle.rv_monitor.proofs.Prelude.{unhandled}
use Rattle.rv_monitor.proofs.Ready.{IsTrapped, InvariantAfterHandler, IsLaidOut, invariant_after_handler, layout_after_handler}
use Rattle.rv_monitor.proofs.TrapSteps.{step_cases, hart_after, hart_state_after}
use Rattle.rv_monitor.proofs.Alignment.{aligned_is_multiple}

-- ---- no entry of a layout is locked

-- no PMP entry of the layout of a world is locked
pub layout_unlocked : (table : Slots) (world : World) → IsUnlocked (layout table world)
unfolding layout
layout_unlocked table world entry = elim (cases_lt entry 16) [
  | inl in_range ↦
      let cfg_is : cfg_of (layout table world) entry ≡ (entry_at table world entry).cfg =
      get_or-map-range_with_len (λ some_entry. (entry_at table world some_entry).cfg) 0 16 entry entry 0 in_range (omega arith) in
      rw cfg_is (entry_is_plain table world entry).unlocked
  | inr past_last ↦
      let cfg_is_0 : cfg_of (layout table world) entry ≡ 0 =
      get_or_past {X = ℕ} (layout table world).cfgs entry 0 past_last in
      rw cfg_is_0 refl
]

-- no PMP entry of a hart with the invariant is locked
pub hart_state_unlocked : (table : Slots) (hart_state : HartState) → HartInvariant table hart_state
    → IsUnlocked hart_state.hart.csrs.pmp
hart_state_unlocked table hart_state hart_invariant =
    let layout = hart_invariant.layout in subst IsUnlocked (sym layout.entries) (layout_unlocked table hart_state.world)

-- no PMP entry of a hart is locked at a trap, if the hart has the invariant before the step
unlocked_at_trap : (table : Slots) (hart_state : HartState) (maybe_trap : Option Trap) (hart : Hart) (memory memory_after : List ℕ) (trap : Trap)
    → maybe_trap ≡ Some trap
    → HartInvariant table hart_state
    → IfSome maybe_trap (λ some_trap. (hart ≡ hart_after hart_state.hart some_trap) × (memory_after ≡ memory)) → IsUnlocked hart.csrs.pmp
unlocked_at_trap table hart_state None hart memory memory_after trap trapped hart_invariant keeps = cc
unlocked_at_trap table hart_state (Some some_trap) hart memory memory_after trap trapped hart_invariant (hart_at_trap_is, memory_unchanged) =
    subst (λ (hart : Hart). IsUnlocked hart.csrs.pmp) (sym hart_at_trap_is) (hart_state_unlocked table hart_state hart_invariant)

-- no PMP entry is locked after a bare step that traps
pub unlocked_after : (hart_state : HartState) (shared : Shared) (after : Stepped) (trap : Trap)
    → after.outcome.trap ≡ Some trap
    → HartInvariant shared.table hart_state
    → TrapKeeps (record { hart = hart_state.hart; memory = shared.memory }) after → IsUnlocked after.state.hart.csrs.pmp
unlocked_after hart_state shared after trap trapped hart_invariant keeps =
    unlocked_at_trap shared.table hart_state after.outcome.trap after.state.hart shared.memory after.state.memory trap trapped hart_invariant keeps

-- ---- the bare step

-- a store does not change the size of the memory
stored_size : (bytes memory memory_after : List ℕ) (span : Option Span) → Stores bytes memory memory_after span
    → length memory ≡ length memory_after
stored_size bytes memory memory_after None stores = sym (ap length stores)
stored_size bytes memory memory_after (Some span) (bytes_fill_span, write_is) = sym (length-write memory span.addr bytes memory_after write_is)

-- a memory has the same bytes as itself in each span
same_in_span : (memory : List ℕ) (span : Option Span) → SameIn memory memory span
same_in_span memory None = tt
same_in_span memory (Some span) = refl

-- a memory is equal to itself on all accessed bytes
pub equal_to_itself : (memory : List ℕ) (touched : Touched) → EqualOn memory memory touched
equal_to_itself memory touched =
    record { size = refl; fetched = same_in_span memory touched.fetched; loaded = same_in_span memory touched.loaded }

-- a step whose stores are confined keeps the size of the memory
pub step_size : (before : Machine) (after : Stepped) → IsConfined before after
    → length before.memory ≡ length after.state.memory
step_size before after is_confined =
    let same_memory = equal_to_itself before.memory after.outcome.touched in
    stored_size is_confined.bytes before.memory after.state.memory after.outcome.touched.stored (is_confined.alike before.memory same_memory).here

-- CSRs with equal machine's parts have equal PMP entries, mie and bits of mstatus
equal_machine_parts : (csrs other_csrs : CsrState) → machine_parts csrs ≡ machine_parts other_csrs
    → (csrs.pmp ≡ other_csrs.pmp) × (csrs.mie ≡ other_csrs.mie) × (csrs.mstatus.mie ≡ other_csrs.mstatus.mie) ×
    (csrs.mstatus.tvm ≡ other_csrs.mstatus.tvm) × (csrs.mstatus.tw ≡ other_csrs.mstatus.tw)
    × (csrs.mstatus.tsr ≡ other_csrs.mstatus.tsr)
unfolding machine_parts
equal_machine_parts csrs other_csrs machine_parts_is = (
  ap (λ (csrs : CsrState). csrs.pmp) machine_parts_is,
  ap (λ (csrs : CsrState). csrs.mie) machine_parts_is,
  ap (λ (csrs : CsrState). csrs.mstatus.mie) machine_parts_is,
  ap (λ (csrs : CsrState). csrs.mstatus.tvm) machine_parts_is,
  ap (λ (csrs : CsrState). csrs.mstatus.tw) machine_parts_is,
  ap (λ (csrs : CsrState). csrs.mstatus.tsr) machine_parts_is,
)

-- a claim that holds if there is no trap holds for a step without a trap
pub without_trap : (maybe_trap : Option Trap) (Claim : Type 0) → maybe_trap ≡ None → IfNone maybe_trap Claim → Claim
without_trap None Claim no_trap claim = claim
without_trap (Some trap) Claim no_trap claim = cc

-- ---- the state of a hart

-- the hart state has the invariant with another hart whose PMP entries, mie, mode and mstatus satisfy the invariant
invariant_with_hart : (table : Slots) (hart_state : HartState) (hart : Hart) → HostContextInvariant hart_state
    → HasPmpLayout table (record hart_state { hart = hart })
    → HartInvariant table (record hart_state { hart = hart })
invariant_with_hart table hart_state hart host layout =
    record { host = record { kept = host.kept; held = host.held }; layout = layout }

-- the hart state has the invariant for a new table with another hart that keeps the mode and mstatus, and has the PMP entries and mie of the new
-- table
pub reprogrammed_by : (before after : Slots) (hart_state : HartState) (hart : Hart) → HartInvariant before hart_state
    → hart.csrs.pmp ≡ layout after hart_state.world
    → hart.csrs.mie ≡ mie_of hart_state.world → hart.mode ≡ hart_state.hart.mode
    → hart.csrs.mstatus ≡ hart_state.hart.csrs.mstatus
    → HartInvariant after (record hart_state { hart = hart })
reprogrammed_by before after hart_state hart hart_invariant entries mie mode_unchanged mstatus_unchanged =
    let layout_before = hart_invariant.layout in
    invariant_with_hart after hart_state hart hart_invariant.host (record {
      -- the PMP entries and mie are those of the new table, and the mode and mstatus are unchanged
      entries = entries;
      mie = mie;
      mode = ap is_machine mode_unchanged ∙ layout_before.mode;
      mstatus_mie = ap (λ (mstatus : Mstatus). mstatus.mie) mstatus_unchanged ∙ layout_before.mstatus_mie;
      mprv = ap (λ (mstatus : Mstatus). mstatus.mprv) mstatus_unchanged ∙ layout_before.mprv;
      tvm = ap (λ (mstatus : Mstatus). mstatus.tvm) mstatus_unchanged ∙ layout_before.tvm;
      tw = ap (λ (mstatus : Mstatus). mstatus.tw) mstatus_unchanged ∙ layout_before.tw;
      tsr = ap (λ (mstatus : Mstatus). mstatus.tsr) mstatus_unchanged ∙ layout_before.tsr;
    })

-- a hart has the invariant for a new table after it is reprogrammed for this table
pub reprogrammed_invariant : (before after : Slots) (hart_state : HartState) → HartInvariant before hart_state
    → HartInvariant after (reprogrammed after hart_state)
reprogrammed_invariant before after hart_state hart_invariant =
    reprogrammed_by before after hart_state (pmp_programmed after hart_state.world hart_state.hart) hart_invariant refl refl refl refl

-- ---- a step of one hart, for given worlds of the other harts

-- the view of a hart has the invariant, if the shared state and the hart have their invariants
pub view_invariant_of_parts : (hart_state : HartState) (shared : Shared) (worlds : List World)
    → SharedInvariant shared worlds
    → HartInvariant shared.table hart_state
    → HartViewInvariant (record { hart_state = hart_state; shared = shared })
view_invariant_of_parts hart_state shared worlds shared_invariant hart_invariant =
    record { valid = shared_invariant.valid; hart = hart_invariant }

-- the shared invariant holds after the step with the new world of the hart and the worlds of the other harts, and the hart has the invariant
abbrev pub InvariantBeside : List World → HartViewStepped → Type 0
InvariantBeside other_worlds after =
    SharedInvariant after.state.shared (after.state.hart_state.world ∷ other_worlds) × HartInvariant after.state.shared.table after.state.hart_state

-- the hart and the shared state have their invariants, with the worlds of the other harts
module _ (other_worlds : List World) (hart_state : HartState) (shared : Shared)
    (shared_invariant : SharedInvariant shared (hart_state.world ∷ other_worlds))
    (hart_invariant : HartInvariant shared.table hart_state) where
  -- the view of the hart before the step
  abbrev view : HartView
  view = record { hart_state = hart_state; shared = shared }

  -- the hart state at a trap satisfies `IsTrapped`
  trapped_hart_state : (trap : Trap) → IsTrapped other_worlds (hart_state_after hart_state trap) shared
  trapped_hart_state trap =
      let host = hart_invariant.host in
      let layout = hart_invariant.layout in
      record {
        ready = record {
          sound = shared_invariant;
          host = record { kept = host.kept; held = host.held };
          quiet =
              record { mpie = layout.mstatus_mie; mprv = layout.mprv; tvm = layout.tvm; tw = layout.tw; tsr = layout.tsr };
        };
        layout = record { entries = layout.entries; mie = layout.mie };
        mode = layout.mode;
        pc = aligned_is_multiple hart_state.hart.pc;
      }

  -- a step without a trap, whose bare step stays below M and leaves MPRV 0, satisfies `InvariantBeside`
  invariant_without_trap : (after : Stepped) → IsConfined (bare_machine view) after
      → StaysBelow hart_state.hart after.state.hart
      → after.state.hart.csrs.mstatus.mprv ≡ false
      → InvariantBeside other_worlds (unhandled after.outcome (record hart_state { hart = after.state.hart })
      (record shared { memory = after.state.memory }))
  invariant_without_trap after is_confined stays_below mprv =
      let hart = after.state.hart in
      let (machine_parts_unchanged, below_m) = stays_below in
      let (pmp_unchanged, mie_unchanged, mstatus_mie_unchanged, tvm_unchanged, tw_unchanged, tsr_unchanged) =
      equal_machine_parts hart.csrs hart_state.hart.csrs machine_parts_unchanged in
      let layout = hart_invariant.layout in (
        -- the memory keeps its size
        sound_by_size shared (hart_state.world ∷ other_worlds) after.state.memory shared_invariant (step_size (bare_machine view) after is_confined),
        -- the hart keeps its PMP entries, mie and the fixed bits of mstatus
        invariant_with_hart shared.table hart_state hart hart_invariant.host (record {
          entries = pmp_unchanged ∙ layout.entries;
          mie = mie_unchanged ∙ layout.mie;
          mode = below_m;
          mstatus_mie = mstatus_mie_unchanged ∙ layout.mstatus_mie;
          mprv = mprv;
          tvm = tvm_unchanged ∙ layout.tvm;
          tw = tw_unchanged ∙ layout.tw;
          tsr = tsr_unchanged ∙ layout.tsr;
        }),
      )

  -- the return from a result of the trap handler that satisfies `InvariantAfterHandler` satisfies `InvariantBeside`
  invariant_after_return : (outcome : StepOutcome) (result : Handled) → InvariantAfterHandler other_worlds result
      → IsLaidOut result.shared.table result.hart_state
      → InvariantBeside other_worlds (returned outcome result)
  invariant_after_return outcome result invariant_after is_laid_out =
      let ready = invariant_after.ready in (
        ready.sound,
        invariant_with_hart result.shared.table result.hart_state (returned_to result.hart_state.hart result.next.pc result.next.mode) ready.host
            (record {
              -- the trap handler programmed the PMP entries and mie last
              entries = is_laid_out.entries;
              mie = is_laid_out.mie;
              mode = invariant_after.mode;
              -- the return from the trap copies MPIE to MIE, and MPRV stays 0
              mstatus_mie = ready.quiet.mpie;
              mprv = rw ready.quiet.mprv refl;
              tvm = ready.quiet.tvm;
              tw = ready.quiet.tw;
              tsr = ready.quiet.tsr;
            }),
      )

  -- a step of a view satisfies `InvariantBeside`
  pub step_invariant : InvariantBeside other_worlds (monitored_step view)
  step_invariant =
      let after = step (bare_machine view) in
      let layout = hart_invariant.layout in
      step_cases view (InvariantBeside other_worlds)
      -- without a trap, the bare step keeps the PMP entries, mie and the mode below M
      (λ no_trap.
      let parts_and_mode_kept =
      without_trap after.outcome.trap (StaysBelow hart_state.hart after.state.hart) no_trap
      (keeps_machine_parts (bare_machine view) layout.mode layout.mprv) in
      let (_, below_m) = parts_and_mode_kept in
      invariant_without_trap after (confined (bare_machine view)) parts_and_mode_kept
      (keeps_mprv_clear (bare_machine view) (λ some_bit. layout.mprv) below_m))
      -- with a trap, the trap handler gives the invariant again
      (λ trap traps.
      let hart_state_at_trap = hart_state_after hart_state trap in
      invariant_after_return after.outcome (handled hart_state_at_trap shared trap)
      (invariant_after_handler other_worlds hart_state_at_trap shared trap (trapped_hart_state trap))
      (layout_after_handler hart_state_at_trap shared trap))
