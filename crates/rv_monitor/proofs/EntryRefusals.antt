-- No step that obeys the laws of the entry and of a new enclave is a create that enters the new enclave at once.
use Rattle.std.proofs.Common.{◌≡◌, ℕ, true, false, Option, Some, None, sym, ◌∙◌, ap}
use Rattle.std.specs.Prelude.{is_some}
use Rattle.rv_enclaves.specs.SharedInvariant.{is_held}
use Rattle.rv_enclaves.specs.declared.slot_info.EnclaveState.TheVariants.{Fresh}
use Rattle.rv_monitor.specs.Attestation.{KeepsAsCreated}
use Rattle.rv_monitor.specs.Entering.{EntersOnly}
use Rattle.rv_monitor.specs.Prelude.{Context, Enclave, Host, Running, context_at, slot_at}
use Rattle.rv_monitor.proofs.Prelude.{Invariant, MonitoredMachine, MonitoredStepped, SlotInfo, hart_state_of}

-- a free slot has no saved context
free_has_none : (slot : ℕ) (machine : MonitoredMachine) → Invariant machine → slot_at machine.shared.table slot ≡ None
    → is_some (context_at machine.shared.contexts slot) ≡ false
free_has_none slot machine invariant slot_is_free = invariant.shared.contexts.kept slot ∙ ap is_held slot_is_free

-- no step of the host that obeys the law of the entry enters a slot that is free before the step
pub never_enters_new : (hart slot : ℕ) (before : MonitoredMachine) (after : MonitoredStepped) → Invariant before
    → EntersOnly hart before after
    → slot_at before.shared.table slot ≡ None → (hart_state_of hart before).world ≡ Host
    → (hart_state_of hart after.state).world ≡ Enclave slot → ⊥
never_enters_new hart slot before after invariant_before enters_only slot_is_free from_host enclave_runs_after =
    let entry = enters_only slot from_host enclave_runs_after in
    let contradiction : false ≡ true =
    sym (free_has_none slot before invariant_before slot_is_free)
    ∙ ap (λ (maybe_context : Option Context). is_some maybe_context) entry.call.kept in
    cc

-- no step that obeys the law of a new enclave leaves this enclave with the state Running
pub never_runs_new : (slot : ℕ) (info : SlotInfo) (before : MonitoredMachine) (after : MonitoredStepped) → KeepsAsCreated before after
    → slot_at before.shared.table slot ≡ None
    → slot_at after.state.shared.table slot ≡ Some info → info.state ≡ Running → ⊥
never_runs_new slot info before after as_created slot_is_free slot_is runs =
    let new_enclave =
    as_created.creates slot (ap (λ (maybe_info : Option SlotInfo). is_some maybe_info) slot_is_free)
    (ap (λ (maybe_info : Option SlotInfo). is_some maybe_info) slot_is) in
    let some_infos_equal : Some new_enclave.info ≡ Some info = sym new_enclave.is ∙ slot_is in
    let infos_equal : new_enclave.info ≡ info = cc in
    let contradiction : Fresh ≡ Running =
    sym new_enclave.fresh ∙ ap (λ (info : SlotInfo). info.state) infos_equal ∙ runs in
    cc
