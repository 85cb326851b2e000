-- Two machines that are equivalent except `enclave` stay equivalent except `enclave` after `enclave` exits from both, if `enclave` hands over equal
-- registers in both.
use Rattle.std.proofs.Common.{◌≡◌, ◌<◌, ℕ, ◌+◌, true, false, length, Option, Some, None, refl, sym, ◌∙◌, ap, ap₂, subst, inl, inr, arith}
use Rattle.std.specs.Prelude.{is_some, map, not}
use Rattle.rv_state.specs.declared.cause.Cause.TheVariants as causes
use Rattle.rv_memory.specs.declared.block.Block.{Block}
use Rattle.rv_monitor.specs.Prelude.{Cause, Context, CsrState, EnclaveState, Hart, Host, HartState, Slots, Trap, has, is_host}
use Rattle.rv_monitor.specs.Prelude.{is_live, option_case, ram_base, slot_at, with_return_values, with_slot, with_state}
use Rattle.rv_monitor.proofs.LeftMachine.{left_csrs, left_machine}
use Rattle.rv_monitor.specs.Declassification.{SameHandoverBy, SameHost, unswitched}
use Rattle.rv_monitor.proofs.Prelude.{EquivExcept, Invariant, MonitoredMachine, HartStatesEquivExcept, SlotInfo, at_other_slot, at_written_slot, both_ways, cases_lt, count_of}
use Rattle.rv_monitor.proofs.Prelude.{enclave_state_after, get_or-map, saved_after, left_hart, length-map, length-set, live_in_range}
use Rattle.rv_monitor.proofs.Prelude.{reason, runs_on, hart_state_at_start, hart_state_of, reprogrammed, step_of, value}
use Rattle.rv_monitor.proofs.Beside.{running_is_live, running_hart_in_range}
use Rattle.rv_monitor.proofs.Leaving.{leave_law}
use Rattle.rv_monitor.proofs.EnclaveMemory.{new_state_keeps_extent, world_is_enclave}
use Rattle.rv_monitor.proofs.HartCases.{hart_cases_of_both, past_hart_state}
use Rattle.rv_monitor.specs.MonitoredMachine.{hart_state_in}
use Rattle.rv_enclaves.specs.SlotNumbers.{slot_count}

-- two exits that hand over the same leave the enclave in the same state
same_state : (cause : Cause) (one other : Hart) → SameHandoverBy cause one other
    → enclave_state_after cause one.regs ≡ enclave_state_after cause other.regs
same_state (causes.Interrupt interrupt) one other same_handover = refl
-- the number of the call in a6 is equal on both harts
same_state (causes.Exception exception) one other same_handover = let same_a6 = same_handover.a6 in rw same_a6 refl

-- two exits that hand over the same give the host the same reason
same_reason : (cause : Cause) (one other : Hart) → SameHandoverBy cause one other
    → reason cause one.regs ≡ reason cause other.regs
same_reason (causes.Interrupt interrupt) one other same_handover = refl
-- the number of the call in a6 is equal on both harts
same_reason (causes.Exception exception) one other same_handover = let same_a6 = same_handover.a6 in rw same_a6 refl

-- two exits that hand over the same give the host the same value
same_value : (cause : Cause) (one other : Hart) → SameHandoverBy cause one other
    → value cause one.regs ≡ value cause other.regs
same_value (causes.Interrupt interrupt) one other same_handover = refl
same_value (causes.Exception exception) one other same_handover = same_handover.a0

-- a new state of `slot` does not change whether `slot` is live
new_state_keeps_liveness : (table : Slots) (slot : ℕ) (maybe_info : Option SlotInfo) (state : EnclaveState) → length table ≡ slot_count
    → slot_at table slot ≡ maybe_info
    → is_live (option_case maybe_info table (λ info. with_slot table slot (Some (record info { state = state })))) slot ≡ is_some maybe_info
new_state_keeps_liveness table slot None state table_length slot_is =
    ap (λ (maybe_info : Option SlotInfo). is_some maybe_info) slot_is
new_state_keeps_liveness table slot (Some info) state table_length slot_is =
    let slot_in_range = live_in_range table slot info table_length slot_is in
    ap (λ (maybe_info : Option SlotInfo). is_some maybe_info)
    (at_written_slot table slot (Some (record info { state = state })) (omega (arith, table_length, slot_in_range)))

-- `enclave` exits by the same trap from the same hart of two machines that are equivalent except `enclave`. The enclave hands over the same, and
-- both harts have the same saved host.
module _ (enclave hart : ℕ) (one other : MonitoredMachine) (trap : Trap) (host : Context) (table_length : length one.shared.table ≡ slot_count)
    (live : is_live one.shared.table enclave ≡ true)
    (equiv : EquivExcept enclave one other) (in_range : hart < count_of one)
    (same_host : SameHost (hart_state_of hart one) (hart_state_of hart other))
    (same_handover : SameHandoverBy trap.cause (hart_state_of hart one).hart (hart_state_of hart other).hart) where
  -- the first hart at the trap
  abbrev first_hart : Hart
  first_hart = (hart_state_of hart one).hart

  -- the second hart at the trap
  abbrev second_hart : Hart
  second_hart = (hart_state_of hart other).hart

  -- the state of the enclave after the exit
  abbrev state_after : EnclaveState
  state_after = enclave_state_after trap.cause first_hart.regs

  -- the first table after the exit
  abbrev first_table : Slots
  first_table = with_state one.shared.table enclave state_after

  -- the second table after the exit
  abbrev second_table : Slots
  second_table = with_state other.shared.table enclave (enclave_state_after trap.cause second_hart.regs)

  -- the tables after both exits are equal
  same_table : first_table ≡ second_table
  same_table = ap₂ (λ (table : Slots) (state : EnclaveState). with_state table enclave state) equiv.shared.table
      (same_state trap.cause first_hart second_hart same_handover)

  -- the hart that runs the host after an exit: its PMP entries follow from the table, and a0 and a1 have the reason and the value
  abbrev returned_hart : Slots → CsrState → ℕ → ℕ → Hart
  returned_hart table csrs reason_value value_value =
      record { regs = with_return_values host.regs reason_value value_value; csrs = left_csrs csrs table trap host; pc = host.pc; mode = host.mode }

  -- both harts are equal after the exit
  same_hart_after_exit : left_hart first_hart first_table trap host ≡ left_hart second_hart second_table trap host
  same_hart_after_exit =
      let tables_replaced : returned_hart first_table (unswitched first_hart.csrs) (reason trap.cause first_hart.regs)
      (value trap.cause first_hart.regs)
      ≡ returned_hart second_table (unswitched second_hart.csrs) (reason trap.cause first_hart.regs) (value trap.cause first_hart.regs) =
      ap₂
      (λ (table : Slots) (csrs : CsrState). returned_hart table csrs (reason trap.cause first_hart.regs)
      (value trap.cause first_hart.regs)) same_table same_host.rest in
      tables_replaced
      ∙ ap₂ (λ (some_reason some_value : ℕ). returned_hart second_table (unswitched second_hart.csrs) some_reason some_value)
      (same_reason trap.cause first_hart second_hart same_handover)
      (same_value trap.cause first_hart second_hart same_handover)

  -- the state of the hart after the exit, which runs the host
  abbrev host_state : Hart → HartState
  host_state hart = record { hart = hart; host_context = None; world = Host }

  -- both machines have the same number of harts
  same_count : length (map (reprogrammed first_table) one.hart_states) ≡ length (map (reprogrammed second_table) other.hart_states)
  same_count =
      length-map one.hart_states (reprogrammed first_table) ∙ equiv.harts
      ∙ sym (length-map other.hart_states (reprogrammed second_table))

  -- the states of each other hart are equivalent after the exit
  other_harts_equiv : (hart : ℕ)
      → HartStatesEquivExcept enclave (hart_state_in (map (reprogrammed first_table) one.hart_states) hart)
      (hart_state_in (map (reprogrammed second_table) other.hart_states) hart)
  other_harts_equiv hart =
      let same_harts = equiv.harts in
      let first_length = length-map one.hart_states (reprogrammed first_table) in
      let second_length = length-map other.hart_states (reprogrammed second_table) in
      elim (cases_lt hart (count_of one)) [
        -- both machines have this hart: its two states are reprogrammed for equal tables
        | inl in_range ↦
            let first_state_is =
            get_or-map (reprogrammed first_table) one.hart_states hart (hart_state_at_start 0) (hart_state_at_start 0) in_range in
            let second_state_is =
            get_or-map (reprogrammed second_table) other.hart_states hart (hart_state_at_start 0) (hart_state_at_start 0)
            (omega (arith, same_harts, in_range)) in
            -- the reprogrammed states are equivalent, because both tables are equal
            let hart_states = equiv.hart_states hart in
            let harts_alike : HartStatesEquivExcept enclave (reprogrammed first_table (hart_state_of hart one))
            (reprogrammed second_table (hart_state_of hart other)) =
            record {
              world = hart_states.world;
              same =
                  λ not_running. ap₂ (λ (table : Slots) (state : HartState). reprogrammed table state) same_table (hart_states.same not_running);
            } in
            subst (λ (hart_state : HartState). HartStatesEquivExcept enclave hart_state
            (hart_state_in (map (reprogrammed second_table) other.hart_states) hart))
            (sym first_state_is)
            (subst (HartStatesEquivExcept enclave (reprogrammed first_table (hart_state_of hart one))) (sym second_state_is) harts_alike)
        -- neither machine has this hart
        | inr past_last ↦
            let first_state_is =
            past_hart_state (map (reprogrammed first_table) one.hart_states) hart (omega (arith, first_length, past_last)) in
            let second_state_is =
            past_hart_state (map (reprogrammed second_table) other.hart_states) hart (omega (arith, second_length, same_harts, past_last)) in
            let reset_states_equiv : HartStatesEquivExcept enclave (hart_state_at_start 0) (hart_state_at_start 0) =
            record { world = refl; same = λ not_running. refl } in
            subst (λ (hart_state : HartState). HartStatesEquivExcept enclave hart_state
            (hart_state_in (map (reprogrammed second_table) other.hart_states) hart))
            (sym first_state_is)
            (subst (HartStatesEquivExcept enclave (hart_state_at_start 0)) (sym second_state_is) reset_states_equiv)
      ]

  -- both machines are equivalent after the exit
  machines_equiv_after_exit : EquivExcept enclave (left_machine hart one enclave trap host) (left_machine hart other enclave trap host)
  machines_equiv_after_exit =
      let first_length = length-map one.hart_states (reprogrammed first_table) in
      let extent_unchanged =
      new_state_keeps_extent one.shared.table enclave (slot_at one.shared.table enclave) state_after table_length refl in
      let first_contexts = one.shared.contexts in
      let second_contexts = other.shared.contexts in
      let first_saved = Some (saved_after trap.cause first_hart) in
      let second_saved = Some (saved_after trap.cause second_hart) in
      record {
        harts =
            length-set (map (reprogrammed first_table) one.hart_states) hart (host_state (left_hart first_hart first_table trap host)) ∙ same_count
            ∙ sym (length-set (map (reprogrammed second_table) other.hart_states) hart (host_state (left_hart second_hart second_table trap host)));
        -- the hart that exits has the same state in both machines, and the other harts are equivalent
        hart_states =
            hart_cases_of_both (map (reprogrammed first_table) one.hart_states) (map (reprogrammed second_table) other.hart_states) hart
            (host_state (left_hart first_hart first_table trap host))
            (host_state (left_hart second_hart second_table trap host))
            (λ some_hart first_state second_state. HartStatesEquivExcept enclave first_state second_state) same_count
            (omega (arith, first_length, in_range))
            (record { world = refl; same = λ not_running. ap host_state same_hart_after_exit }) (λ some_hart distinct. other_harts_equiv some_hart);
        shared = record {
          table = same_table;
          memory = record {
            size = equiv.shared.memory.size;
            -- the exit keeps the region of `enclave`, in which alone the memories may differ
            bytes =
                λ index not_hidden. equiv.shared.memory.bytes index
                (ap (λ (block : Block). has block (ram_base + index)) (sym extent_unchanged.region) ∙ not_hidden);
          };
          -- the exit saves a context only for `enclave`, so the other saved contexts stay equal
          contexts = record {
            size =
                length-set first_contexts enclave first_saved ∙ equiv.shared.contexts.size
                ∙ sym (length-set second_contexts enclave second_saved);
            others =
                λ slot distinct. at_other_slot first_contexts enclave slot first_saved distinct
                ∙ equiv.shared.contexts.others slot distinct
                ∙ sym (at_other_slot second_contexts enclave slot second_saved distinct);
          };
          gone =
              λ not_live. absurd (both_ways _ not_live (new_state_keeps_liveness one.shared.table enclave
              (slot_at one.shared.table enclave) state_after table_length
              refl ∙ live));
        };
      }

-- An exit from both machines leaves them equivalent. The proof is by cases of the saved host context of the first hart, which cannot be None.
equiv_after_exit : (enclave hart : ℕ) (one other : MonitoredMachine) (trap : Trap) (saved_host : Option Context)
    → (hart_state_of hart one).host_context ≡ saved_host
    → Invariant one
    → Invariant other
    → EquivExcept enclave one other → runs_on enclave hart one ≡ true
    → SameHost (hart_state_of hart one) (hart_state_of hart other)
    → SameHandoverBy trap.cause (hart_state_of hart one).hart (hart_state_of hart other).hart
    → (step_of hart one).outcome.step.trap ≡ Some trap → (step_of hart other).outcome.step.trap ≡ Some trap
    → (hart_state_of hart (step_of hart one).state).world ≡ Host
    → (hart_state_of hart (step_of hart other).state).world ≡ Host
    → EquivExcept enclave (step_of hart one).state (step_of hart other).state
-- a hart that runs an enclave has a saved host context
equiv_after_exit enclave hart one other trap None host_context_is invariant_one invariant_other equiv runs_enclave same_host same_handover traps
    other_traps one_exits other_exits =
    let in_range = running_hart_in_range enclave hart one runs_enclave in
    let world = world_is_enclave enclave (hart_state_of hart one).world runs_enclave in
    let has_host_context = (invariant_one.hart_states hart in_range).host.kept in
    let contradiction : false ≡ true =
    ap (λ (maybe_context : Option Context). is_some maybe_context) (sym host_context_is) ∙ has_host_context
    ∙ ap (λ world. not (is_host world)) world in
    cc
-- `leave_law` gives both machines after the exits
equiv_after_exit enclave hart one other trap (Some host) host_context_is invariant_one invariant_other equiv runs_enclave same_host same_handover
    traps other_traps one_exits other_exits =
    let in_range = running_hart_in_range enclave hart one runs_enclave in
    let world = world_is_enclave enclave (hart_state_of hart one).world runs_enclave in
    let (first_left_machine_is, _) = leave_law hart one invariant_one enclave host trap world host_context_is traps one_exits in
    let (second_left_machine_is, _) =
    leave_law hart other invariant_other enclave host trap (sym (equiv.hart_states hart).world ∙ world)
    (sym same_host.host ∙ host_context_is) other_traps other_exits in
    let live = running_is_live enclave hart one invariant_one runs_enclave in
    rw (first_left_machine_is, second_left_machine_is)
    (machines_equiv_after_exit enclave hart one other trap host invariant_one.shared.valid.count live equiv in_range same_host same_handover)

-- an exit from both machines to the same host that hands over the same leaves the machines equivalent except `enclave`
pub release : (enclave hart : ℕ) (one other : MonitoredMachine) (trap : Trap) → Invariant one → Invariant other
    → EquivExcept enclave one other → runs_on enclave hart one ≡ true
    → SameHost (hart_state_of hart one) (hart_state_of hart other)
    → SameHandoverBy trap.cause (hart_state_of hart one).hart (hart_state_of hart other).hart
    → (step_of hart one).outcome.step.trap ≡ Some trap → (step_of hart other).outcome.step.trap ≡ Some trap
    → (hart_state_of hart (step_of hart one).state).world ≡ Host
    → (hart_state_of hart (step_of hart other).state).world ≡ Host
    → EquivExcept enclave (step_of hart one).state (step_of hart other).state
release enclave hart one other trap =
    equiv_after_exit enclave hart one other trap (hart_state_of hart one).host_context refl
