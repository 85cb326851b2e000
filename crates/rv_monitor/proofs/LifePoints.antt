-- The point of life of an enclave: the hart on which it runs or its saved context, its identity, and what S and U see of its hart.
use Rattle.std.proofs.Common.{◌≡◌, ◌<◌, ℕ, zero, suc, Bool, true, false, List, [], ◌∷◌, length, Option, Some, None, refl, sym, ◌∙◌, ap, ap₂}
use Rattle.std.proofs.Common.{inl, inr, arith}
use Rattle.std.proofs.lemmas.List.Folds.{list_any_at}
use Rattle.std.specs.Prelude.{◌||◌, is_some, not, slice_index_or}
use Rattle.std.specs.Option.{option_map}
use Rattle.rv_state.specs.CsrState.{at_reset}
use Rattle.rv_state.specs.GuestCsrs.{below_m_csrs}
use Rattle.rv_state.specs.declared.s_context.SContext.{SContext}
use Rattle.rv_hart.specs.GuestView.{below_m_hart}
use Rattle.rv_memory.specs.declared.block.Block.{Block}
use Rattle.rv_enclaves.specs.SharedInvariant.{is_held}
use Rattle.rv_enclaves.specs.Table.{runs, window, window_of}
use Rattle.rv_monitor.specs.EnclaveSteps.{is_beyond}
use Rattle.rv_monitor.specs.Life.{ContinuesWith}
use Rattle.rv_monitor.specs.Records.{identity_at, identity_of}
use Rattle.rv_monitor.specs.SwitchLaws.{continuation}
use Rattle.rv_monitor.specs.Prelude.{AreApart, Context, CsrState, EnclaveState, Hart, HartState, Host}
use Rattle.rv_monitor.specs.Prelude.{Running, Slots, World, context_at, has, is_live, is_running}
use Rattle.rv_monitor.specs.Prelude.{is_world_of, option_case, region, region_of, slot_at}
use Rattle.rv_monitor.proofs.Prelude.{HartInvariant, Invariant, MonitoredMachine, SlotInfo, both_ways}
use Rattle.rv_monitor.proofs.Prelude.{cases_lt, get_or_past, hart_state_of}
use Rattle.rv_monitor.proofs.Prelude.{runs_on, worlds}
use Rattle.rv_monitor.proofs.Attestation.{identity_if_live}
use Rattle.rv_monitor.proofs.Beside.{runs_among, running_hart_in_range}
use Rattle.rv_monitor.proofs.InvariantLemmas.{world_at}
use Rattle.std.proofs.lemmas.Bool.{not-true}

-- ---- an enclave runs on one hart

-- an index at which the list of worlds has the enclave is below the length of the list
hart_is_in_list : (slot : ℕ) (worlds : List World) (index : ℕ)
    → is_world_of slot (slice_index_or worlds index Host) ≡ true → index < length worlds
hart_is_in_list slot worlds index runs_at_index = elim (cases_lt index (length worlds)) [
  | inl in_range ↦ in_range
  -- past the end of the list the world counts as the host, which is not the enclave
  | inr past_end ↦
      let contradiction : false ≡ true =
      sym (ap (is_world_of slot) (get_or_past {X = World} worlds index Host past_end)) ∙ runs_at_index in
      cc
]

-- two indices at which the list of worlds has the enclave are equal, because no two harts run the same enclave
runs_at_one_index : (slot : ℕ) (worlds : List World) → AreApart worlds → (index other_index : ℕ)
    → is_world_of slot (slice_index_or worlds index Host) ≡ true
    → is_world_of slot (slice_index_or worlds other_index Host) ≡ true → index ≡ other_index
runs_at_one_index slot [] worlds_apart index other_index runs_at_index runs_at_other =
    absurd (both_ways _ (ap (is_world_of slot) (get_or_past {X = World} [] index Host (omega arith))) runs_at_index)
runs_at_one_index slot (world ∷ worlds) worlds_apart zero zero runs_at_index runs_at_other = refl
runs_at_one_index slot (world ∷ worlds) (first_apart, _) zero (suc other_index) runs_at_index runs_at_other =
    absurd (both_ways _ (first_apart slot runs_at_index) (list_any_at (is_world_of slot) worlds other_index Host
    (hart_is_in_list slot worlds other_index runs_at_other) runs_at_other))
runs_at_one_index slot (world ∷ worlds) (first_apart, _) (suc index) zero runs_at_index runs_at_other =
    absurd (both_ways _ (first_apart slot runs_at_other) (list_any_at (is_world_of slot) worlds index Host
    (hart_is_in_list slot worlds index runs_at_index) runs_at_index))
runs_at_one_index slot (world ∷ worlds) (_, rest_apart) (suc index) (suc other_index) runs_at_index runs_at_other =
    ap suc (runs_at_one_index slot worlds rest_apart index other_index runs_at_index runs_at_other)

-- an enclave runs on at most one hart
runs_on_one_hart : (slot hart other_hart : ℕ) (machine : MonitoredMachine) → Invariant machine
    → runs_on slot hart machine ≡ true
    → runs_on slot other_hart machine ≡ true → hart ≡ other_hart
runs_on_one_hart slot hart other_hart machine invariant runs_on_hart runs_on_other =
    runs_at_one_index slot (worlds machine) invariant.shared.apart hart other_hart
    (ap (is_world_of slot) (world_at hart machine (running_hart_in_range slot hart machine runs_on_hart)) ∙ runs_on_hart)
    (ap (is_world_of slot) (world_at other_hart machine (running_hart_in_range slot other_hart machine runs_on_other)) ∙ runs_on_other)

-- an enclave that runs on a hart has the state Running
pub runs_if_on_hart : (slot hart : ℕ) (machine : MonitoredMachine) → Invariant machine → runs_on slot hart machine ≡ true
    → runs machine.shared.table slot ≡ true
runs_if_on_hart slot hart machine invariant runs_on_hart =
    invariant.shared.running slot ∙ runs_among slot hart machine runs_on_hart

-- an enclave with a saved context does not have the state Running
not_running_if_saved : (maybe_info : Option SlotInfo) → is_held maybe_info ≡ true
    → option_case maybe_info false (λ info. is_running info.state) ≡ false
not_running_if_saved None has_context = cc
not_running_if_saved (Some info) has_context = not-true (is_running info.state) has_context

-- a slot with a saved context is live
live_if_saved : (maybe_info : Option SlotInfo) → is_held maybe_info ≡ true → is_some maybe_info ≡ true
live_if_saved None has_context = cc
live_if_saved (Some info) has_context = refl

-- the slot of a machine with the invariant has the saved context `context`
module _ (slot : ℕ) (machine : MonitoredMachine) (context : Context) (invariant : Invariant machine)
    (has_saved_context : context_at machine.shared.contexts slot ≡ Some context) where
  -- the slot has a live enclave that does not run, because it has a saved context
  slot_has_saved_context : is_held (slot_at machine.shared.table slot) ≡ true
  slot_has_saved_context =
      sym (invariant.shared.contexts.kept slot) ∙ ap (λ (maybe_context : Option Context). is_some maybe_context) has_saved_context

  -- the enclave of the slot does not have the state Running
  pub saved_enclave_not_running : runs machine.shared.table slot ≡ false
  saved_enclave_not_running = not_running_if_saved (slot_at machine.shared.table slot) slot_has_saved_context

  -- the enclave of the slot is live
  pub saved_enclave_is_live : is_live machine.shared.table slot ≡ true
  saved_enclave_is_live = live_if_saved (slot_at machine.shared.table slot) slot_has_saved_context

  -- the enclave of the slot continues with its saved context
  pub saved_continues : ContinuesWith slot context machine
  saved_continues = record {
    running =
        λ hart runs_on_hart. absurd (both_ways _ saved_enclave_not_running (runs_if_on_hart slot hart machine invariant runs_on_hart));
    resting = λ not_running. has_saved_context;
  }

-- an enclave that runs continues with the registers of its hart
pub running_continues : (slot hart : ℕ) (machine : MonitoredMachine) (context : Context) → Invariant machine
    → runs_on slot hart machine ≡ true
    → continuation (hart_state_of hart machine).hart ≡ context → ContinuesWith slot context machine
running_continues slot hart machine context invariant runs_on_hart continuation_is = record {
  running =
      λ other_hart runs_on_other. ap (λ (some_hart : ℕ). continuation (hart_state_of some_hart machine).hart)
      (runs_on_one_hart slot other_hart hart machine invariant runs_on_other runs_on_hart)
      ∙ continuation_is;
  resting = λ not_running. absurd (both_ways _ not_running (runs_if_on_hart slot hart machine invariant runs_on_hart));
}

-- ---- the identity of an enclave: its record without the state

-- a record and its identity have the same region
identity_region : (maybe_info : Option SlotInfo) → region_of (option_map identity_of maybe_info) ≡ region_of maybe_info
identity_region None = refl
identity_region (Some info) = refl

-- a record and its identity have the same window
identity_window : (maybe_info : Option SlotInfo) → window_of (option_map identity_of maybe_info) ≡ window_of maybe_info
identity_window None = refl
identity_window (Some info) = refl

-- two slots with equal identities have the same region
pub same_region : (table other_table : Slots) (slot other_slot : ℕ)
    → identity_at table slot ≡ identity_at other_table other_slot
    → region table slot ≡ region other_table other_slot
same_region table other_table slot other_slot same_identity =
    sym (identity_region (slot_at table slot)) ∙ ap region_of same_identity
    ∙ identity_region (slot_at other_table other_slot)

-- two slots with equal identities have the same window
same_window : (table other_table : Slots) (slot other_slot : ℕ)
    → identity_at table slot ≡ identity_at other_table other_slot
    → window table slot ≡ window other_table other_slot
same_window table other_table slot other_slot same_identity =
    sym (identity_window (slot_at table slot)) ∙ ap window_of same_identity
    ∙ identity_window (slot_at other_table other_slot)

-- two slots with equal identities are both live, or both free
pub same_liveness : (table other_table : Slots) (slot other_slot : ℕ)
    → identity_at table slot ≡ identity_at other_table other_slot
    → is_live table slot ≡ is_live other_table other_slot
same_liveness table other_table slot other_slot same_identity =
    sym (identity_if_live (slot_at table slot)) ∙ ap (λ (maybe_info : Option SlotInfo). is_some maybe_info) same_identity
    ∙ identity_if_live (slot_at other_table other_slot)

-- two slots with equal identities have the same bytes beyond their region and window
pub same_beyond : (table other_table : Slots) (slot other_slot byte : ℕ)
    → identity_at table slot ≡ identity_at other_table other_slot
    → is_beyond table slot byte ≡ is_beyond other_table other_slot byte
same_beyond table other_table slot other_slot byte same_identity =
    ap₂ (λ (region window : Block). not (has region byte || has window byte)) (same_region table other_table slot other_slot same_identity)
    (same_window table other_table slot other_slot same_identity)

-- a state that passes the test `is_running` is Running
state_is_running : (state : EnclaveState) → is_running state ≡ true → state ≡ Running
state_is_running Running running = refl
state_is_running _ running = cc

-- two Running records with equal identities are equal
pub running_records_equal : (maybe_info other_info : Option SlotInfo)
    → option_map identity_of maybe_info ≡ option_map identity_of other_info
    → option_case maybe_info false (λ info. is_running info.state) ≡ true
    → option_case other_info false (λ info. is_running info.state) ≡ true
    → maybe_info ≡ other_info
running_records_equal None other_info same_identity info_runs other_runs = cc
running_records_equal (Some info) None same_identity info_runs other_runs = cc
running_records_equal (Some info) (Some second_info) same_identity info_runs other_runs =
    let identities_equal : identity_of info ≡ identity_of second_info = cc in
    let some : SlotInfo → Option SlotInfo = λ info. Some info in
    ap some (ap (λ (state : EnclaveState). record info { state = state }) (state_is_running info.state info_runs)
    ∙ ap (λ (info : SlotInfo). record info { state = Running }) identities_equal
    ∙ sym (ap (λ (state : EnclaveState). record second_info { state = state }) (state_is_running second_info.state other_runs)))

-- ---- a hart of an enclave, from the context with which it continues

-- CSRs with the S-mode registers of a context and the given timer line, as S and U see them
abbrev context_csrs : Bool → SContext → CsrState
context_csrs timer supervisor =
    let csrs = below_m_csrs (record at_reset { timer = timer }) in
    record csrs {
      stvec = supervisor.stvec;
      sscratch = supervisor.sscratch;
      sepc = supervisor.sepc;
      scause = supervisor.scause;
      stval = supervisor.stval;
      mstatus =
          record csrs.mstatus { sie = supervisor.sie; spie = supervisor.spie; spp = supervisor.spp; mxr = supervisor.mxr };
    }

-- the hart with the registers of a context and the given timer line, as S and U see it
abbrev pub context_hart : Bool → Context → Hart
context_hart timer context =
    record { regs = context.regs; csrs = context_csrs timer context.supervisor; pc = context.pc; mode = context.mode }

-- what S and U see of a hart with the invariant is its timer line and its context
pub below_m_hart_of_context : (table : Slots) (hart_state : HartState) → HartInvariant table hart_state
    → below_m_hart hart_state.hart ≡ context_hart hart_state.hart.csrs.timer (continuation hart_state.hart)
below_m_hart_of_context table hart_state hart_invariant =
    -- the invariant fixes MIE, MPRV, TVM, TW and TSR of mstatus; the other CSRs that S and U see are in the context, or are the timer line
    let mie = hart_invariant.layout.mstatus_mie in
    let mprv = hart_invariant.layout.mprv in
    let tvm = hart_invariant.layout.tvm in
    let tw = hart_invariant.layout.tw in
    let tsr = hart_invariant.layout.tsr in
    rw (mie, mprv, tvm, tw, tsr) refl
