-- Integrity: a step preserves the private state of each live enclave that is not the running world, unless the step enters or destroys this enclave.
use Rattle.std.proofs.Common.{◌≡◌, ◌≢◌, ◌<◌, ℕ, ◌==◌, true, false, Option, Some, None, refl, sym, ap, inl, inr, arith}
use Rattle.std.specs.Prelude.{is_some}
use Rattle.rv_memory.proofs.BlockLaws.{apart_at}
use Rattle.rv_enclaves.specs.declared.create_args.CreateArgs.{CreateArgs}
use Rattle.rv_enclaves.specs.SlotNumbers.{slot_count}
use Rattle.rv_enclaves.proofs.SharedInvariantLemmas.{live_slot_in_range}
use Rattle.rv_monitor.specs.Prelude.{Context, Destroy, Enclave, EnclaveState, Host, IsValid, Running, HartState, Shared, Trap, Write, byte_at, bytes_in}
use Rattle.rv_monitor.specs.Prelude.{context_at, created, destroyed, first_context, has, is_live, is_world_of, measured, new_slot}
use Rattle.rv_monitor.specs.Prelude.{World, create_args_of, recorded, region, register, running_slot, slot_at, with_context, with_slot}
use Rattle.rv_monitor.specs.Prelude.{with_state}
use Rattle.rv_monitor.specs.Integrity.{PreservesOthers}
use Rattle.rv_monitor.proofs.Prelude.{Handled, HartViewInvariant, IsPreserved, SlotIsAccepted, MayCreate, HartView, SlotInfo, a0, at_other_slot}
use Rattle.rv_monitor.proofs.Prelude.{at_written_slot, both_ways, cases_eq, entered_slot, enters, eq-eqb, free_slot_from, handled, left}
use Rattle.rv_monitor.proofs.Prelude.{live_in_range, monitored_step, ne_eqb, accessible_apart, hart_view, enclave_state_after}
use Rattle.rv_monitor.proofs.Prelude.{MonitoredMachine, Invariant, step_of}
use Rattle.rv_monitor.proofs.Beside.{hart_state_preserved}
use Rattle.rv_monitor.proofs.Changes.{changes}
use Rattle.rv_monitor.proofs.InvariantLemmas.{hart_view_invariant}
use Rattle.rv_monitor.proofs.HartCases.{by_hart}
use Rattle.rv_monitor.proofs.TrapSteps.{step_cases, hart_state_after}
use Rattle.rv_monitor.proofs.HandlerCases.{handler_cases, context_saved_by}
use Rattle.rv_monitor.proofs.Records.{new_state_keeps_other_slot}

-- ---- the record and the saved context of the enclave

-- the record and the saved context of the slot are unchanged
record KeepsSlot (slot_number : ℕ) (before after : Shared) : Type 0 where
  -- the record of the slot is unchanged
  pub slot : slot_at after.table slot_number ≡ slot_at before.table slot_number
  -- the saved context of the slot is unchanged
  pub context : context_at after.contexts slot_number ≡ context_at before.contexts slot_number

-- a new state and a new saved context of one slot leave each other slot unchanged
state_keeps_other_slots : (other_slot slot : ℕ) (shared : Shared) (state : EnclaveState) (maybe_context : Option Context)
    → (slot == other_slot) ≡ false
    → KeepsSlot other_slot shared (record shared {
      table = with_state shared.table slot state;
      contexts = with_context shared.contexts slot maybe_context;
    })
state_keeps_other_slots other_slot slot shared state maybe_context distinct =
    let is_other_slot : other_slot ≢ slot =
    λ slots_equal. both_ways _ distinct (eq-eqb slot other_slot (sym slots_equal)) in
    record {
      slot = new_state_keeps_other_slot shared.table other_slot slot (slot_at shared.table slot) state is_other_slot;
      context = at_other_slot shared.contexts slot other_slot maybe_context is_other_slot;
    }

-- the slot of the running world is not the slot of an enclave that does not run
running_slot_is_other : (slot : ℕ) (world : World) → slot < slot_count → is_world_of slot world ≡ false
    → (running_slot world == slot) ≡ false
running_slot_is_other slot Host in_table not_running =
    ne_eqb slot_count slot (λ slots_equal. omega (arith, in_table, slots_equal))
running_slot_is_other slot (Enclave running) in_table not_running = not_running

-- if the trap handler does not enter the slot, and the slot is live after the trap handler, then the slot is unchanged
abbrev KeepsLiveSlot : ℕ → Shared → Handled → Type 0
KeepsLiveSlot slot before result =
    enters slot result.next.entered ≡ false → is_live result.shared.table slot ≡ true → KeepsSlot slot before result.shared

-- the enclave of the slot is live before the trap handler of a hart that does not run this enclave
module _ (slot : ℕ) (hart_state : HartState) (shared : Shared) (valid : IsValid shared.memory shared.table)
    (not_running : is_world_of slot hart_state.world ≡ false)
    (live : is_live shared.table slot ≡ true) where
  -- a create leaves the live slot unchanged
  create_keeps_slot : (new : CreateArgs) → MayCreate shared new → KeepsSlot slot shared (created shared new)
  unfolding created
  create_keeps_slot new no_refusal =
      let free = (free_slot_from shared.table (new_slot shared.table) no_refusal.free).free in
      let distinct : slot ≢ new_slot shared.table =
      λ slots_equal. both_ways _ (ap (λ (maybe_info : Option SlotInfo). is_some maybe_info) free) (rw (← slots_equal) live) in
      let info = recorded shared.memory new in
      record {
        slot = at_other_slot shared.table (new_slot shared.table) slot (Some info) distinct;
        context = at_other_slot shared.contexts (new_slot shared.table) slot (Some (first_context info)) distinct;
      }

  -- a destroy after which the slot is live leaves the slot unchanged
  destroy_keeps_slot : (other_slot : ℕ) → SlotIsAccepted shared.table Destroy other_slot
      → is_live (destroyed shared other_slot).table slot ≡ true
      → KeepsSlot slot shared (destroyed shared other_slot)
  unfolding destroyed
  destroy_keeps_slot other_slot slot_accepted live_after = elim (cases_eq slot other_slot) [
    -- the destroyed slot is free after the destroy, but `slot` is live
    | inl slots_equal ↦
        let slot_in_range = live_in_range shared.table other_slot slot_accepted.info valid.count slot_accepted.is in
        let slot_is_free : slot_at (with_slot shared.table other_slot None) other_slot ≡ None =
        at_written_slot shared.table other_slot None (omega (arith, valid.count)) in
        absurd (both_ways _ (ap (λ (maybe_info : Option SlotInfo). is_some maybe_info) slot_is_free) (rw slots_equal at live_after))
    -- a destroy of another slot leaves `slot` unchanged
    | inr distinct ↦
        record {
          slot = at_other_slot shared.table other_slot slot None distinct;
          context = at_other_slot shared.contexts other_slot slot None distinct;
        }
  ]

  -- the trap handler satisfies `KeepsLiveSlot` for the slot
  handler_keeps_slot : (trap : Trap) → KeepsLiveSlot slot shared (handled hart_state shared trap)
  unfolding measured entered_slot left
  -- a create fills a free slot, a destroy ends the slot that it names, and an entry or exit changes only the slot of its enclave
  handler_keeps_slot trap = handler_cases hart_state trap shared (KeepsLiveSlot slot shared) (record {
    answers = λ status result not_entered live_after. record { slot = refl; context = refl };
    creates =
        λ requests no_refusal not_entered live_after. create_keeps_slot (create_args_of hart_state.hart.regs) no_refusal;
    destroys = λ requests slot_accepted not_entered live_after. destroy_keeps_slot (a0 hart_state) slot_accepted live_after;
    measures = λ requests no_refusal not_entered live_after. record { slot = refl; context = refl };
    enters =
        λ call requests is_entry_call from_host slot_accepted not_entered live_after. state_keeps_other_slots slot
        (a0 hart_state) shared Running None not_entered;
    leaves = λ not_entered live_after.
        state_keeps_other_slots slot (running_slot hart_state.world) shared (enclave_state_after trap.cause hart_state.hart.regs)
        (Some (context_saved_by trap.cause hart_state))
        (running_slot_is_other slot hart_state.world (live_slot_in_range shared.table slot
        (slot_at shared.table slot) valid.count refl live) not_running);
    redirects = λ not_entered live_after. record { slot = refl; context = refl };
  })

-- ---- the bytes in the region of the enclave

-- a step changes no byte in the region of an enclave that is not the running world and is live after the step
region_byte_unchanged : (view : HartView) (slot byte : ℕ) → HartViewInvariant view
    → is_world_of slot view.hart_state.world ≡ false
    → is_live (monitored_step view).state.shared.table slot ≡ true
    → has (region view.shared.table slot) byte ≡ true
    → byte_at (monitored_step view).state.shared.memory byte ≡ byte_at view.shared.memory byte
region_byte_unchanged view slot byte view_invariant not_running live_after in_region =
    let shared = view.shared in
    let valid = view_invariant.valid in
    let outside_other_regions = accessible_apart shared.memory shared.table view.hart_state.world Write in
    elim (changes view view_invariant byte) [
      -- a byte that no instruction and no call changed
      | inl unchanged ↦ unchanged
      -- a byte that the instruction stored, or that a call changed
      | inr changed ↦ elim changed [
        -- the instruction can store only bytes that are accessible to the running world, and the region of another enclave is not
        | inl stored ↦
            absurd
            (both_ways _ (outside_other_regions stored.span.addr
            (bytes_in stored.span.len) slot valid not_running stored.accessible byte stored.low stored.high) in_region)
        -- the call is a destroy or a measure
        | inr call ↦ elim call.change [
          -- a destroy zeroes the region of the destroyed enclave, which is not live after the step, or is another enclave with another region
          | inl destroyed ↦ elim (cases_eq slot (register view.hart_state.hart.regs 10)) [
            -- the destroyed enclave is not live after the step, but the enclave of `slot` is
            | inl slots_equal ↦ absurd (both_ways _ (rw (← slots_equal) at destroyed.gone) live_after)
            -- the regions of two different slots have no common byte
            | inr slots_differ ↦
                absurd (both_ways _ (apart_at (region shared.table slot) (region shared.table (register view.hart_state.hart.regs 10)) byte
                (valid.regions_apart slot (register view.hart_state.hart.regs 10) slots_differ) in_region) destroyed.own)
          ]
          -- a measure writes only bytes that are accessible to the running world
          | inr measured ↦
              absurd (both_ways _ (outside_other_regions byte 1 slot valid not_running measured.accessible byte (omega arith)
              (omega arith)) in_region)
        ]
      ]
    ]

-- ---- the step

-- a step of a view preserves each live enclave that is not the running world, unless the step enters or destroys this enclave
pub integrity_in : (view : HartView) → HartViewInvariant view → (slot : ℕ)
    → is_world_of slot view.hart_state.world ≡ false
    → is_live view.shared.table slot ≡ true
    → enters slot (monitored_step view).outcome.entered ≡ false
    → is_live (monitored_step view).state.shared.table slot ≡ true
    → IsPreserved slot view.shared (monitored_step view).state.shared
integrity_in view view_invariant slot not_running live not_entered live_after =
    let keeps_slot = step_cases view
    (λ after. enters slot after.outcome.entered ≡ false → is_live after.state.shared.table slot ≡ true
    → KeepsSlot slot view.shared after.state.shared)
    (λ no_trap not_entered live_after. record { slot = refl; context = refl })
    (λ trap trapped. handler_keeps_slot slot (hart_state_after view.hart_state trap) view.shared view_invariant.valid not_running live trap) in
    let slot_unchanged = keeps_slot not_entered live_after in
    -- the bytes of the region are unchanged, because the step neither runs nor destroys the enclave
    record {
      slot = slot_unchanged.slot;
      bytes =
          λ byte in_its_region. region_byte_unchanged view slot byte view_invariant not_running live_after in_its_region;
      context = slot_unchanged.context;
    }

-- proves integrity: a step leaves each other live enclave untouched, unless the step enters or destroys this enclave
pub integrity : (hart : ℕ) (machine : MonitoredMachine) → Invariant machine
    → PreservesOthers hart machine (step_of hart machine)
integrity hart machine invariant slot not_running live not_entered live_after = record {
  preserved = by_hart hart machine
      (λ after. enters slot after.outcome.entered ≡ false → is_live after.state.shared.table slot ≡ true
      → IsPreserved slot machine.shared after.state.shared)
      (λ not_entered live_after. record { slot = refl; bytes = λ byte in_its_region. refl; context = refl })
      (λ in_range. integrity_in (hart_view hart machine)
      (hart_view_invariant hart machine invariant in_range) slot not_running live) not_entered live_after;
  hart_state = hart_state_preserved slot hart machine invariant not_running;
}
