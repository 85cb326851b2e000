-- A step of an enclave that does not exit changes only the hart, the region and the window of the enclave.
use Rattle.std.proofs.Common.{◌≡◌, ◌≢◌, ◌<◌, ◌≤◌, ℕ, ◌+◌, ◌-◌, true, false, List, length, Some, None, refl, sym, ◌∙◌, ap}
use Rattle.std.proofs.Common.{subst, inl, inr, arith}
use Rattle.std.specs.Prelude.{◌⊎◌, slice_index}
use Rattle.rv_memory.proofs.MemoryLaws.{byte_at-index}
use Rattle.rv_state.specs.MachineParts.{machine_parts}
use Rattle.rv_state.specs.GuestCsrs.{guest_csrs}
use Rattle.rv_hart.specs.StepLaws.{StaysBelow}
use Rattle.rv_monitor.specs.Prelude.{CsrState, Enclave, HartState, Shared}
use Rattle.rv_monitor.specs.Prelude.{Slots, StepOutcome, Trap, World, Write, byte_at, bytes_from, bytes_in, is_accessible}
use Rattle.rv_monitor.specs.Prelude.{is_host, is_inside, measured, ram_base, step}
use Rattle.rv_monitor.proofs.Prelude.{Handled, IsChanged, Invariant, HartViewInvariant, MonitoredMachine}
use Rattle.rv_monitor.proofs.Prelude.{HartView, HartViewStepped, and_from, bare_machine}
use Rattle.rv_monitor.proofs.Prelude.{cases_lt, confined, count_of, with_redirected_trap, get_or_past, handled, keeps_machine_parts, le-leb}
use Rattle.rv_monitor.proofs.Prelude.{left, monitored_step, returned, returned_to, runs_on, hart_state_of}
use Rattle.rv_monitor.proofs.Prelude.{reprogrammed, hart_view, step_of}
use Rattle.rv_monitor.proofs.Beside.{running_hart_in_range}
use Rattle.rv_monitor.proofs.Changes.{changes}
use Rattle.rv_monitor.proofs.InvariantLemmas.{hart_view_invariant}
use Rattle.rv_monitor.proofs.PmpProgramming.{reprogramming_changes_nothing}
use Rattle.rv_monitor.proofs.HartCases.{past_hart_state, step_count, step_programmed, step_of_view}
use Rattle.rv_monitor.proofs.StepInvariant.{without_trap, step_size}
use Rattle.rv_monitor.proofs.TrapSteps.{step_cases, hart_state_after, view_without_trap}
use Rattle.rv_monitor.proofs.HandlerCases.{requested-is_offered, handler_cases}
use Rattle.rv_monitor.specs.Declassification.{SameHostOn, unswitched}
use Rattle.rv_monitor.specs.EnclaveSteps.{is_beyond}
use Rattle.rv_monitor.proofs.EnclaveMemory.{handler_keeps_extent, create_not_offered, destroy_not_offered, not_host, enclave_world_is_not_host, accessible_bytes_are_own, world_is_enclave}

-- ---- a step of the hart that runs the enclave

-- the CSRs in the guest view, without those that a context switch replaces
abbrev rest : CsrState → CsrState
rest csrs = unswitched (guest_csrs csrs)

-- the saved context of the host, the CSRs that no context switch replaces, the table, the saved contexts and the size of memory are unchanged
record StaysBehind (before : HartView) (after : HartViewStepped) : Type 0 where
  -- the saved context of the host is unchanged
  host : before.hart_state.host_context ≡ after.state.hart_state.host_context
  rest : rest before.hart_state.hart.csrs ≡ rest after.state.hart_state.hart.csrs
  -- the table is unchanged
  table : before.shared.table ≡ after.state.shared.table
  -- the saved contexts of the enclaves are unchanged
  contexts : before.shared.contexts ≡ after.state.shared.contexts
  -- the size of the memory is unchanged
  size : length before.shared.memory ≡ length after.state.shared.memory

-- the CSRs that no context switch replaces do not depend on what `machine_parts` leaves out
rest_ignores_machine_parts : (csrs : CsrState) → rest (machine_parts csrs) ≡ rest csrs
unfolding machine_parts
rest_ignores_machine_parts csrs = refl

-- the hart of the view runs the enclave in `slot`
module _ (slot : ℕ) (view : HartView) (view_invariant : HartViewInvariant view) (runs_enclave : view.hart_state.world ≡ Enclave slot) where
  -- a step of an enclave without a trap leaves unchanged what `StaysBehind` names
  stays_without_trap : (step (bare_machine view)).outcome.trap ≡ None → StaysBehind view (view_without_trap view)
  stays_without_trap no_trap =
      let after = step (bare_machine view) in
      let (machine_parts_unchanged, _) = without_trap after.outcome.trap (StaysBelow view.hart_state.hart after.state.hart) no_trap
      (keeps_machine_parts (bare_machine view) view_invariant.hart.layout.mode view_invariant.hart.layout.mprv) in
      record {
        host = refl;
        rest =
            sym (rest_ignores_machine_parts view.hart_state.hart.csrs) ∙ ap rest (sym machine_parts_unchanged)
            ∙ rest_ignores_machine_parts after.state.hart.csrs;
        table = refl;
        contexts = refl;
        size = step_size (bare_machine view) after (confined (bare_machine view));
      }

  -- the bare step has this trap and this outcome
  module _ (trap : Trap) (outcome : StepOutcome) where
    -- the hart state at the trap, before the trap handler
    abbrev hart_state : HartState
    hart_state = hart_state_after view.hart_state trap

    -- if an enclave still runs after the trap handler, then what `StaysBehind` names is unchanged, except for the size of memory
    abbrev StaysIfRunning : Handled → Type 0
    StaysIfRunning result = is_host result.hart_state.world ≡ false
        → (view.hart_state.host_context ≡ result.hart_state.host_context)
        × (rest view.hart_state.hart.csrs ≡ rest (returned_to result.hart_state.hart result.next.pc result.next.mode).csrs)
        × (view.shared.table ≡ result.shared.table) × (view.shared.contexts ≡ result.shared.contexts)

    -- the result of the trap handler satisfies `StaysIfRunning`
    handler_stays : StaysIfRunning (handled hart_state view.shared trap)
    unfolding measured left with_redirected_trap
    handler_stays =
        let mprv = view_invariant.hart.layout.mprv in
        -- an enclave may neither create, destroy nor enter; an exit leaves for the host; every other case keeps what `StaysBehind` names
        handler_cases hart_state trap view.shared StaysIfRunning (record {
          answers = λ status result enclave_runs_after. (refl, rw mprv refl, refl, refl);
          creates =
              λ requests no_refusal.
              let (_, create_is_offered) = requested-is_offered hart_state.world hart_state.hart.regs _ requests.asked in
              create_not_offered _ slot hart_state.world runs_enclave create_is_offered;
          destroys =
              λ requests slot_accepted.
              let (_, destroy_is_offered) = requested-is_offered hart_state.world hart_state.hart.regs _ requests.asked in
              destroy_not_offered _ slot hart_state.world runs_enclave destroy_is_offered;
          measures = λ requests no_refusal enclave_runs_after. (refl, rw mprv refl, refl, refl);
          enters =
              λ call requests is_entry_call from_host slot_accepted. not_host _ slot hart_state.world runs_enclave from_host;
          leaves = λ enclave_runs_after. cc;
          redirects = λ enclave_runs_after. (refl, rw mprv refl, refl, refl);
        })

    -- a step with a trap after which an enclave still runs leaves unchanged what `StaysBehind` names
    stays_with_trap : is_host (returned outcome (handled hart_state view.shared trap)).state.hart_state.world ≡ false
        → StaysBehind view (returned outcome (handled hart_state view.shared trap))
    stays_with_trap enclave_runs_after =
        let (host_unchanged, rest_unchanged, table_unchanged, contexts_unchanged) = handler_stays enclave_runs_after in
        let (_, size_unchanged) = handler_keeps_extent slot hart_state runs_enclave trap view.shared view_invariant.valid.count in
        record {
          host = host_unchanged;
          rest = rest_unchanged;
          table = table_unchanged;
          contexts = contexts_unchanged;
          size = sym size_unchanged;
        }

  -- each step after which an enclave still runs leaves unchanged what `StaysBehind` names
  stays_behind : is_host (monitored_step view).state.hart_state.world ≡ false → StaysBehind view (monitored_step view)
  stays_behind = step_cases view (λ after. is_host after.state.hart_state.world ≡ false → StaysBehind view after)
      (λ no_trap enclave_runs_after. stays_without_trap no_trap) (λ trap trapped. stays_with_trap trap (step (bare_machine view)).outcome)

  -- a byte is not both within and beyond the enclave's memory
  not_within_and_beyond : (byte : ℕ) → is_beyond view.shared.table slot byte ≡ false
      → is_beyond view.shared.table slot byte ≡ true
      → (Claim : Type 0) → Claim
  not_within_and_beyond byte byte_within byte_beyond Claim =
      let contradiction : false ≡ true = sym byte_within ∙ byte_beyond in cc

  -- each byte that the enclave may write is in its region or window
  writes_within : (address size byte : ℕ)
      → is_accessible view.shared.memory view.shared.table view.hart_state.world Write (bytes_from address size) ≡ true
      → address ≤ byte → byte < address + size → is_beyond view.shared.table slot byte ≡ false
  writes_within address size byte may_write from_start before_end =
      accessible_bytes_are_own view.shared.memory view.shared.table slot Write address size
      (subst (λ (world : World). is_accessible view.shared.memory view.shared.table world Write
      (bytes_from address size) ≡ true) runs_enclave may_write) byte from_start before_end

  -- a byte that the step leaves unchanged, or changes as the enclave may, is unchanged if the byte is beyond the enclave's memory
  unchanged_beyond : (byte : ℕ) → is_beyond view.shared.table slot byte ≡ true
      → byte_at (monitored_step view).state.shared.memory byte ≡ byte_at view.shared.memory byte ⊎ IsChanged view (monitored_step view) byte
      → byte_at (monitored_step view).state.shared.memory byte ≡ byte_at view.shared.memory byte
  unchanged_beyond byte byte_beyond (inl unchanged) = unchanged
  unchanged_beyond byte byte_beyond (inr (inl stored)) =
      not_within_and_beyond byte
      (writes_within stored.span.addr (bytes_in stored.span.len) byte stored.accessible stored.low stored.high) byte_beyond _
  unchanged_beyond byte byte_beyond (inr (inr call)) = elim call.change [
    -- no destroy is offered to an enclave
    | inl destroyed ↦
        let (_, destroy_is_offered) = requested-is_offered view.hart_state.world view.hart_state.hart.regs _ destroyed.asked in
        destroy_not_offered _ slot view.hart_state.world runs_enclave destroy_is_offered
    -- a measure writes only bytes in the region and the window
    | inr measured ↦
        not_within_and_beyond byte (writes_within byte 1 byte measured.accessible (omega arith) (omega arith)) byte_beyond _
  ]

  -- a step after which the enclave still runs changes no byte outside its region and window
  pub bytes_beyond_unchanged : (byte : ℕ) → is_beyond view.shared.table slot byte ≡ true
      → byte_at (monitored_step view).state.shared.memory byte ≡ byte_at view.shared.memory byte
  bytes_beyond_unchanged byte byte_beyond = unchanged_beyond byte byte_beyond (changes view view_invariant byte)

-- ---- a step of the machine

-- the machine after the step differs only in the hart of the enclave and in the bytes of its region and window
pub record Unchanged (enclave hart : ℕ) (before after : MonitoredMachine) : Type 0 where
  -- the number of harts is unchanged
  pub harts : count_of before ≡ count_of after
  -- the states of the other harts are unchanged
  pub others : (other_hart : ℕ) → other_hart ≢ hart → hart_state_of other_hart before ≡ hart_state_of other_hart after
  -- the hart keeps its saved context of the host, and the CSRs that no context switch replaces
  pub behind : SameHostOn hart before after
  -- the table is unchanged
  pub table : before.shared.table ≡ after.shared.table
  -- the saved contexts of the enclaves are unchanged
  pub contexts : before.shared.contexts ≡ after.shared.contexts
  -- the size of the memory is unchanged
  pub size : length before.shared.memory ≡ length after.shared.memory
  -- each byte outside the region and the window of `enclave` is unchanged
  pub bytes : (byte : ℕ) → is_beyond before.shared.table enclave byte ≡ true
      → byte_at after.shared.memory byte ≡ byte_at before.shared.memory byte

-- a step of an enclave after which the enclave still runs changes only its hart, its region and its window
pub enclave_step_unchanged : (enclave hart : ℕ) (machine : MonitoredMachine) → Invariant machine
    → runs_on enclave hart machine ≡ true
    → runs_on enclave hart (step_of hart machine).state ≡ true
    → Unchanged enclave hart machine (step_of hart machine).state
enclave_step_unchanged enclave hart machine invariant runs_on_hart runs_after =
    let in_range = running_hart_in_range enclave hart machine runs_on_hart in
    let view = hart_view hart machine in
    let view_invariant = hart_view_invariant hart machine invariant in_range in
    let world_is = world_is_enclave enclave view.hart_state.world runs_on_hart in
    let step_is = step_of_view hart machine in_range in
    let after = monitored_step view in
    -- the hart still runs the enclave after the step, so the step left unchanged what `StaysBehind` names
    let enclave_runs_after : is_host after.state.hart_state.world ≡ false =
    ap (λ (stepped : HartViewStepped). is_host stepped.state.hart_state.world) (sym step_is)
    ∙ enclave_world_is_not_host enclave (hart_state_of hart (step_of hart machine).state).world runs_after in
    let stays = stays_behind enclave view view_invariant world_is enclave_runs_after in
    let shared_is = ap (λ (stepped : HartViewStepped). stepped.state.shared) step_is in
    let hart_state_is = ap (λ (stepped : HartViewStepped). stepped.state.hart_state) step_is in
    let table_unchanged = stays.table ∙ sym (ap (λ (shared : Shared). shared.table) shared_is) in
    record {
      harts = sym (step_count hart machine);
      -- the table is unchanged, so a hart that the monitor reprograms for the table keeps its state
      others = λ other_hart distinct. elim (cases_lt other_hart (count_of machine)) [
        | inl in_range ↦
            sym (step_programmed hart other_hart machine invariant distinct in_range
            ∙ ap (λ (table : Slots). reprogrammed table (hart_state_of other_hart machine)) (sym table_unchanged)
            ∙ reprogramming_changes_nothing machine.shared.table (hart_state_of other_hart machine) (invariant.hart_states other_hart in_range))
        -- no hart of the machine has this number
        | inr past_last ↦
            let count = step_count hart machine in
            past_hart_state machine.hart_states other_hart past_last
            ∙ sym (past_hart_state (step_of hart machine).state.hart_states other_hart (omega (arith, count, past_last)))
      ];
      -- the saved host and the CSRs that no context switch replaces are unchanged
      behind = record {
        host = stays.host ∙ sym (ap (λ (hart_state : HartState). hart_state.host_context) hart_state_is);
        rest = stays.rest ∙ sym (ap (λ (hart_state : HartState). rest hart_state.hart.csrs) hart_state_is);
      };
      table = table_unchanged;
      contexts = stays.contexts ∙ sym (ap (λ (shared : Shared). shared.contexts) shared_is);
      size = stays.size ∙ sym (ap (λ (shared : Shared). length shared.memory) shared_is);
      -- a step of an enclave changes no byte beyond its region and window
      bytes =
          λ byte is_beyond_enclave. ap (λ (shared : Shared). byte_at shared.memory byte) shared_is
          ∙ bytes_beyond_unchanged enclave view view_invariant world_is byte is_beyond_enclave;
    }

-- ---- bytes of equal memories

-- the byte at the address of an index is the byte of the memory at this index
byte_at_index : (memory : List ℕ) (index : ℕ) → index < length memory
    → byte_at memory (ram_base + index) ≡ Some (slice_index memory index)
byte_at_index memory index in_range =
    let inside : is_inside memory (ram_base + index) 1 ≡ true =
    and_from _ _ (le-leb ram_base (ram_base + index) (omega arith))
    (le-leb (ram_base + index + 1) (ram_base + length memory) (omega (arith, in_range))) in
    let index_is : ram_base + index - ram_base ≡ index = omega arith in
    byte_at-index memory (ram_base + index) ∙ (rw (inside, index_is) refl)

-- two memories of the same size with equal bytes at the address of an index have equal bytes at this index
pub equal_bytes_at_index : (memory other_memory : List ℕ) (index : ℕ) → length memory ≡ length other_memory
    → byte_at other_memory (ram_base + index) ≡ byte_at memory (ram_base + index)
    → slice_index memory index ≡ slice_index other_memory index
equal_bytes_at_index memory other_memory index same_length bytes_equal = elim (cases_lt index (length memory)) [
  | inl in_range ↦
      let some_bytes_equal : Some (slice_index other_memory index) ≡ Some (slice_index memory index) =
      sym (byte_at_index other_memory index (omega (arith, same_length, in_range))) ∙ bytes_equal
      ∙ byte_at_index memory index in_range in
      let same_element : slice_index other_memory index ≡ slice_index memory index = cc in
      sym same_element
  | inr past_last ↦
      get_or_past {X = ℕ} memory index 0 past_last
      ∙ sym (get_or_past {X = ℕ} other_memory index 0 (omega (arith, same_length, past_last)))
]
