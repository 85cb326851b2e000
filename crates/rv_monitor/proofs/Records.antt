-- No step changes the identity of an enclave that stays live: the record of the enclave without its state.
use Rattle.std.proofs.Common.{◌≡◌, ◌≢◌, ℕ, true, length, Option, Some, None, refl, sym, ◌∙◌, ap, inl, inr, arith}
use Rattle.std.specs.Prelude.{is_some}
use Rattle.std.specs.Option.{option_map}
use Rattle.rv_enclaves.specs.declared.create_args.CreateArgs.{CreateArgs}
use Rattle.rv_enclaves.specs.SlotNumbers.{slot_count}
use Rattle.rv_monitor.specs.Prelude.{Destroy, EnclaveState, IsValid, Running, HartState, Shared, Slots, Trap, created, destroyed, is_live, measured}
use Rattle.rv_monitor.specs.Prelude.{new_slot, option_case, create_args_of, recorded, running_slot, slot_at, with_slot, with_state}
use Rattle.rv_monitor.specs.Records.{PreservesRecords, identity_at, identity_of}
use Rattle.rv_monitor.proofs.Prelude.{Handled, Invariant, SlotIsAccepted, MayCreate, MonitoredMachine, HartView, SlotInfo, a0, at_other_slot, at_written_slot, both_ways, cases_eq}
use Rattle.rv_monitor.proofs.Prelude.{enclave_state_after, entered_slot, free_slot_from, handled, left, live_in_range, hart_view, step_of}
use Rattle.rv_monitor.proofs.InvariantLemmas.{hart_view_invariant}
use Rattle.rv_monitor.proofs.HartCases.{by_hart}
use Rattle.rv_monitor.proofs.TrapSteps.{step_cases, hart_state_after}
use Rattle.rv_monitor.proofs.HandlerCases.{handler_cases}

-- a new state of one slot leaves the record of each other slot unchanged
pub new_state_keeps_other_slot : (table : Slots) (slot other_slot : ℕ) (maybe_info : Option SlotInfo) (state : EnclaveState) → slot ≢ other_slot
    → slot_at (option_case maybe_info table (λ info. with_slot table other_slot (Some (record info { state = state })))) slot ≡ slot_at table slot
new_state_keeps_other_slot table slot other_slot None state distinct = refl
new_state_keeps_other_slot table slot other_slot (Some info) state distinct =
    at_other_slot table other_slot slot (Some (record info { state = state })) distinct

-- a new state of `slot` leaves the identity of `slot` unchanged
new_state_keeps_identity : (table : Slots) (slot : ℕ) (maybe_info : Option SlotInfo) (state : EnclaveState) → length table ≡ slot_count
    → slot_at table slot ≡ maybe_info
    → identity_at (option_case maybe_info table (λ info. with_slot table slot (Some (record info { state = state })))) slot ≡ identity_at table slot
new_state_keeps_identity table slot None state table_length slot_is = refl
new_state_keeps_identity table slot (Some info) state table_length slot_is =
    let slot_in_range = live_in_range table slot info table_length slot_is in
    let written_record =
    at_written_slot table slot (Some (record info { state = state })) (omega (arith, table_length, slot_in_range)) in
    ap (option_map identity_of) written_record ∙ sym (ap (option_map identity_of) slot_is)

-- a new state of the other slot leaves the identity of each slot unchanged
pub new_state_keeps_identities : (table : Slots) (slot other_slot : ℕ) (state : EnclaveState) → length table ≡ slot_count
    → identity_at (with_state table other_slot state) slot ≡ identity_at table slot
new_state_keeps_identities table slot other_slot state table_length = elim (cases_eq slot other_slot) [
  -- a new state keeps the identity of its own slot
  | inl slots_equal ↦ rw (← slots_equal) (new_state_keeps_identity table slot (slot_at table slot) state table_length refl)
  -- a write to another slot leaves the record unchanged
  | inr slots_differ ↦
      ap (option_map identity_of) (new_state_keeps_other_slot table slot other_slot (slot_at table other_slot) state slots_differ)
]

-- enclave `slot` is live before the trap handler
module _ (slot : ℕ) (hart_state : HartState) (shared : Shared) (valid : IsValid shared.memory shared.table)
    (live : is_live shared.table slot ≡ true) where
  -- a create leaves the identity of the live `slot` unchanged
  create_keeps_identity : (new : CreateArgs) → MayCreate shared new
      → identity_at (created shared new).table slot ≡ identity_at shared.table slot
  unfolding created
  create_keeps_identity new no_refusal =
      let free = (free_slot_from shared.table (new_slot shared.table) no_refusal.free).free in
      let distinct : slot ≢ new_slot shared.table =
      λ slots_equal. both_ways _ (ap (λ (maybe_info : Option SlotInfo). is_some maybe_info) free) (rw (← slots_equal) live) in
      ap (option_map identity_of) (at_other_slot shared.table (new_slot shared.table) slot (Some (recorded shared.memory new)) distinct)

  -- a destroy after which `slot` is live leaves the identity of `slot` unchanged
  destroy_keeps_identity : (other_slot : ℕ) → SlotIsAccepted shared.table Destroy other_slot
      → is_live (destroyed shared other_slot).table slot ≡ true
      → identity_at (destroyed shared other_slot).table slot ≡ identity_at shared.table slot
  unfolding destroyed
  destroy_keeps_identity other_slot slot_accepted live_after = elim (cases_eq slot other_slot) [
    -- the destroyed slot is not live after the destroy
    | inl slots_equal ↦
        let slot_in_range = live_in_range shared.table other_slot slot_accepted.info valid.count slot_accepted.is in
        let slot_is_free : slot_at (with_slot shared.table other_slot None) other_slot ≡ None =
        at_written_slot shared.table other_slot None (omega (arith, valid.count)) in
        absurd (both_ways _ (ap (λ (maybe_info : Option SlotInfo). is_some maybe_info) slot_is_free) (rw slots_equal at live_after))
    -- a destroy of another slot leaves the record unchanged
    | inr slots_differ ↦ ap (option_map identity_of) (at_other_slot shared.table other_slot slot None slots_differ)
  ]

  -- if `slot` is live after the trap handler, then its identity is unchanged
  abbrev KeepsIdentityIfLive : Handled → Type 0
  KeepsIdentityIfLive result =
      is_live result.shared.table slot ≡ true → identity_at result.shared.table slot ≡ identity_at shared.table slot

  -- the trap handler satisfies `KeepsIdentityIfLive`
  handler_keeps_identity : (trap : Trap) → KeepsIdentityIfLive (handled hart_state shared trap)
  unfolding measured entered_slot left
  -- no case changes the region, the window, the entry or the measurement of an enclave that stays live
  handler_keeps_identity trap = handler_cases hart_state trap shared KeepsIdentityIfLive (record {
    answers = λ status result live_after. refl;
    creates = λ requests no_refusal live_after. create_keeps_identity (create_args_of hart_state.hart.regs) no_refusal;
    destroys = λ requests slot_accepted live_after. destroy_keeps_identity (a0 hart_state) slot_accepted live_after;
    measures = λ requests no_refusal live_after. refl;
    enters =
        λ call requests is_entry_call from_host slot_accepted live_after. new_state_keeps_identities shared.table slot
        (a0 hart_state) Running valid.count;
    leaves =
        λ live_after. new_state_keeps_identities shared.table slot (running_slot hart_state.world)
        (enclave_state_after trap.cause hart_state.hart.regs) valid.count;
    redirects = λ live_after. refl;
  })

-- proves that a step keeps the identity of each enclave that stays live
pub record_law : (hart : ℕ) (machine : MonitoredMachine) → Invariant machine
    → PreservesRecords machine (step_of hart machine)
record_law hart machine invariant slot live =
    by_hart hart machine
    (λ after. is_live after.state.shared.table slot ≡ true → identity_at after.state.shared.table slot ≡ identity_at machine.shared.table slot)
    (λ live_after. refl)
    (λ in_range.
    let view : HartView = hart_view hart machine in
    let view_invariant = hart_view_invariant hart machine invariant in_range in
    step_cases view (λ after. is_live after.state.shared.table slot ≡ true
    → identity_at after.state.shared.table slot ≡ identity_at view.shared.table slot)
    (λ no_trap live_after. refl)
    (λ trap trapped. handler_keeps_identity slot (hart_state_after view.hart_state trap) view.shared view_invariant.valid live trap))
