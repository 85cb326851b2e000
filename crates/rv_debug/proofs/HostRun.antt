-- The closed instance of the law about the whole life of an enclave, by computing its steps. The machines and moves are defined in specs/HostRun.
use Rattle.std.proofs.Common.{◌≡◌, ℕ, ◌+◌, true, false, List, [], length, Some, refl, sym, ◌∙◌, ap, subst, inl, inr}
use Rattle.std.specs.Prelude.{Bool, ◌&&◌, not, slice_index}
use Rattle.rv_memory.specs.Memory.{ram_base, read, write}
use Rattle.rv_word.specs.Logic.{by_bits}
use Rattle.rv_state.specs.Bits.{kept_bits, aligned_to_4}
use Rattle.rv_encoding.specs.Decoding.{decoded}
use Rattle.rv_pmp.specs.Covers.{covers, ones_at_end}
use Rattle.rv_pmp.specs.Verdicts.{matching_entry, verdict}
use Rattle.rv_hart.specs.Step.{from_access, from_decode, from_fetch, retired_or_trapped, step}
use Rattle.rv_hart.specs.Instructions.{executed, request}
use Rattle.rv_hart.specs.CsrInstructions.{csr_changed, written_csr}
use Rattle.rv_enclaves.specs.Layout.{entry_at, layout}
use Rattle.rv_memory.specs.Blocks.{has}
use Rattle.rv_enclaves.specs.SharedEquivExcept.{EqualOutside}
use Rattle.rv_enclaves.specs.Table.{free_slot, is_live, is_window, region, window}
use Rattle.rv_enclaves.specs.Create.{create_refusals, created, is_entry, overlaps}
use Rattle.rv_enclaves.specs.Refusals.{state_refusals}
use Rattle.rv_enclaves.specs.ValidBlocks.{is_valid_block}
use Rattle.rv_enclaves.specs.Calls.{call_requested}
use Rattle.rv_enclaves.specs.Contexts.{IsLegal, context_at, first_context}
use Rattle.rv_enclaves.specs.declared.slot_info.EnclaveState.TheVariants.{Fresh}
use Rattle.rv_state.specs.SContexts.{s_context}
use Rattle.rv_monitor.specs.declared.hart_state.HartState.{HartState}
use Rattle.rv_enclaves.specs.declared.context.Context.{Context}
use Rattle.rv_monitor.specs.Debugger.{with_timer}
use Rattle.rv_monitor.specs.EquivExcept.{runs_on}
use Rattle.rv_monitor.specs.Events.{StepOf}
use Rattle.rv_monitor.specs.LegalMachine.{IsLegalMachine}
use Rattle.rv_monitor.specs.Life.{AreAtOnePoint, AreLifeMoves, IsOwnStep, at}
use Rattle.rv_monitor.specs.MonitoredMachine.{Invariant, MonitoredMachine, at_start, hart_state_of}
use Rattle.rv_monitor.specs.Reads.{reads_byte}
use Rattle.rv_monitor.specs.Records.{identity_at}
use Rattle.rv_monitor.specs.Step.{call_handled, called, handled, monitored_step, performed, step_of, timer_stopped}
use Rattle.rv_monitor.specs.Switches.{entered_slot, left}
use Rattle.rv_monitor.proofs.InvariantLemmas.{change_preserves, invariant_by_size, invariant_law, written, written_invariant}
use Rattle.rv_monitor.proofs.LegalMachine.{event_stored, legal_law}
use Rattle.rv_monitor.proofs.Life.{life_law}
use Rattle.rv_monitor.proofs.LifePoints.{saved_continues}
use Rattle.rv_monitor.proofs.Start.{start_invariant}
use Rattle.rv_debug.proofs.SecretRun.{and_then, host_code, other_byte}
use Rattle.rv_debug.proofs.Prelude.{both_ways, cases_eq}
use Rattle.rv_debug.specs.HostRun.{HostRunLaw, after_byte, hosted_asking, before_byte, first_machine, hosted_moves, hosted_new, hosted_next, hosted_ram}
use Rattle.rv_debug.specs.HostRun.{hosted_reset, second_machine, hosted_start}

-- ---- the points in the runs

-- `entered_machine` is the first machine after the two steps of the host to the call run
abbrev entered_machine : ℕ → MonitoredMachine
entered_machine choice = hosted_next 0 (hosted_next 0 (first_machine choice))

-- `loaded_machine` is the first machine after the enclave's load, with the timer line set
abbrev loaded_machine : ℕ → MonitoredMachine
loaded_machine choice = with_timer 0 (hosted_next 0 (entered_machine choice)) true

-- `interrupted_machine` is the first machine after the timer interrupt
abbrev interrupted_machine : ℕ → MonitoredMachine
interrupted_machine choice = hosted_next 0 (loaded_machine choice)

-- `resumed_machine` is the first machine after the call resume
abbrev resumed_machine : ℕ → MonitoredMachine
resumed_machine choice = hosted_next 0 (hosted_next 0 (hosted_next 0 (interrupted_machine choice)))

-- `second_entered_machine` is the second machine after the call run
abbrev second_entered_machine : ℕ → MonitoredMachine
second_entered_machine choice = hosted_next 1 (hosted_next 1 (second_machine choice))

-- `refused_machine` is the second machine after the refused call of hart 0
abbrev refused_machine : ℕ → MonitoredMachine
refused_machine b = hosted_next 0 (hosted_next 1 (second_entered_machine b))

-- ---- what is computed

-- the address of the byte of the host's choice, which is in the window
abbrev choice_address : ℕ
choice_address = 0x80014010

-- the offset of this byte in RAM
abbrev choice_offset : ℕ
choice_offset = 81936

-- the offset in RAM of the word that the enclave stores, at 80014008 in the window
abbrev stored_offset : ℕ
stored_offset = 0x14008

-- the enclave of slot 0 does not run on the hart, and is live after a step of the hart
record IsOtherStep (hart : ℕ) (machine : MonitoredMachine) : Type 0 where
  not_on_hart : runs_on 0 hart machine ≡ false
  live : is_live (hosted_next hart machine).shared.table 0 ≡ true

-- the enclave runs on a hart whose timer line is clear, and the memory has the image for this byte of the host
record IsBeforeOwnStep (hart byte : ℕ) (machine : MonitoredMachine) : Type 0 where
  on_hart : runs_on 0 hart machine ≡ true
  line_is_clear : (hart_state_of hart machine).hart.csrs.timer ≡ false
  memory_is : machine.shared.memory ≡ hosted_ram byte

-- the next step of the hart does not read the byte of the host's choice in the window
abbrev ignores_choice : ℕ → MonitoredMachine → Bool
ignores_choice hart machine =
    not (has (window machine.shared.table 0) choice_address && reads_byte (step_of hart machine).outcome.step.touched choice_address)

-- `context` is the saved context of a new enclave
abbrev context : Context
context = first_context (record {
  region = record { base = 0x80018000; size = 0x1000 };
  window = record { base = 0x80014000; size = 0x1000 };
  entry = 0x80018000;
  measurement = [];
  state = Fresh;
})

-- The facts of the first machine that are computed. `same_size`, `live`, `saved_context_is` and `choice_outside_region` hold after create: slot 0 has
-- the context of a new enclave, and the byte of the host's choice is outside the region. The other fields follow the moves. These are the two
-- steps of the host to the call run, the load, the interrupt, the three steps of the host to the call resume, and the store.
record FirstMachineFacts (choice : ℕ) : Type 0 where
  same_size : length (hosted_next 0 (hosted_start 1 0)).shared.memory ≡ length (hosted_ram choice)
  live : is_live (first_machine choice).shared.table 0 ≡ true
  saved_context_is : context_at (first_machine choice).shared.contexts 0 ≡ Some context
  choice_outside_region : not (has (region (first_machine choice).shared.table 0) choice_address) ≡ true
  -- the two steps of the host that call run
  run_step_1 : IsOtherStep 0 (first_machine choice)
  run_step_2 : IsOtherStep 0 (hosted_next 0 (first_machine choice))
  -- the load of the enclave, which does not read the byte of the host's choice
  before_load : IsBeforeOwnStep 0 choice (entered_machine choice)
  load_ignores_choice : ignores_choice 0 (entered_machine choice) ≡ true
  -- the timer interrupt
  line_is_set : (hart_state_of 0 (loaded_machine choice)).hart.csrs.timer ≡ true
  interrupted_live : is_live (interrupted_machine choice).shared.table 0 ≡ true
  -- the three steps of the host that call resume
  resume_1 : IsOtherStep 0 (interrupted_machine choice)
  resume_2 : IsOtherStep 0 (hosted_next 0 (interrupted_machine choice))
  resume_3 : IsOtherStep 0 (hosted_next 0 (hosted_next 0 (interrupted_machine choice)))
  -- the store of the enclave, which stores 7
  before_store : IsBeforeOwnStep 0 choice (resumed_machine choice)
  store_ignores_choice : ignores_choice 0 (resumed_machine choice) ≡ true
  stored_word_is : slice_index (hosted_next 0 (resumed_machine choice)).shared.memory stored_offset ≡ 7

-- The facts of the second machine that are computed, in the order of the moves. These are create, the call run on hart 1, the load, the refused call
-- of hart 0, and the store.
record SecondMachineFacts (choice : ℕ) : Type 0 where
  same_size : length (hosted_next 1 (hosted_start 2 1)).shared.memory ≡ length (hosted_ram choice)
  saved_context_is : context_at (second_machine choice).shared.contexts 0 ≡ Some context
  -- the two steps of hart 1 that call run
  run_step_1 : IsOtherStep 1 (second_machine choice)
  run_step_2 : IsOtherStep 1 (hosted_next 1 (second_machine choice))
  -- the load of the enclave
  before_load : IsBeforeOwnStep 1 choice (second_entered_machine choice)
  -- the refused call of hart 0
  refused_call : IsOtherStep 0 (hosted_next 1 (second_entered_machine choice))
  -- the store of the enclave, which stores 7
  before_store : IsBeforeOwnStep 1 choice (refused_machine choice)
  stored_word_is : slice_index (hosted_next 1 (refused_machine choice)).shared.memory stored_offset ≡ 7

-- Proves the facts of the first machine by computation of the steps, whatever byte the host chooses.
first_machine_facts : (choice : ℕ) → FirstMachineFacts choice
unfolding at_start step_of monitored_step handled call_handled called performed created create_refusals is_valid_block is_window overlaps is_entry
    free_slot call_requested first_context layout entry_at step request executed retired_or_trapped from_access from_decode from_fetch
    written_csr csr_changed
    decoded by_bits read write verdict matching_entry covers ones_at_end kept_bits state_refusals entered_slot left timer_stopped
first_machine_facts choice = record {
  same_size = refl;
  live = refl;
  saved_context_is = refl;
  choice_outside_region = refl;
  run_step_1 = record { not_on_hart = refl; live = refl };
  run_step_2 = record { not_on_hart = refl; live = refl };
  before_load = record { on_hart = refl; line_is_clear = refl; memory_is = refl };
  load_ignores_choice = refl;
  line_is_set = refl;
  interrupted_live = refl;
  resume_1 = record { not_on_hart = refl; live = refl };
  resume_2 = record { not_on_hart = refl; live = refl };
  resume_3 = record { not_on_hart = refl; live = refl };
  before_store = record { on_hart = refl; line_is_clear = refl; memory_is = refl };
  store_ignores_choice = refl;
  stored_word_is = refl;
}

-- Proves the facts of the second machine by computation of the steps, whatever byte the host chooses.
second_machine_facts : (choice : ℕ) → SecondMachineFacts choice
unfolding at_start step_of monitored_step handled call_handled called performed created create_refusals is_valid_block is_window overlaps is_entry
    free_slot call_requested first_context layout entry_at step request executed retired_or_trapped from_access from_decode from_fetch
    written_csr csr_changed
    decoded by_bits read write verdict matching_entry covers ones_at_end kept_bits state_refusals entered_slot left timer_stopped
second_machine_facts choice = record {
  same_size = refl;
  saved_context_is = refl;
  run_step_1 = record { not_on_hart = refl; live = refl };
  run_step_2 = record { not_on_hart = refl; live = refl };
  before_load = record { on_hart = refl; line_is_clear = refl; memory_is = refl };
  refused_call = record { not_on_hart = refl; live = refl };
  before_store = record { on_hart = refl; line_is_clear = refl; memory_is = refl };
  stored_word_is = refl;
}

-- the two calls of create made the same record
same_identity : (choice other_choice : ℕ)
    → identity_at (first_machine choice).shared.table 0 ≡ identity_at (second_machine other_choice).shared.table 0
unfolding at_start step_of monitored_step handled call_handled called performed created create_refusals is_valid_block is_window overlaps is_entry
    free_slot call_requested layout entry_at step request executed retired_or_trapped from_access from_decode from_fetch written_csr csr_changed
    decoded by_bits read verdict matching_entry covers ones_at_end kept_bits
same_identity choice other_choice = refl

-- ---- the two machines

-- the machine after create has the invariant, whatever byte the host chooses
invariant_after_create : (harts hart byte : ℕ) → length (hosted_next hart (hosted_start harts hart)).shared.memory ≡ length (hosted_ram byte)
    → Invariant (hosted_new harts hart byte)
invariant_after_create harts hart byte same_length =
    invariant_by_size (hosted_next hart (hosted_start harts hart)) (hosted_ram byte)
    (invariant_law hart (hosted_start harts hart)
    (written_invariant hart hosted_asking false (hosted_reset harts) (start_invariant (hosted_ram 0) host_code harts refl))) same_length

-- the machine before create is legal
legal_before_create : (harts hart : ℕ) → IsLegalMachine (hosted_start harts hart)
legal_before_create harts hart =
    let legal = legal_law.start (hosted_ram 0) host_code harts refl in
    record {
      harts = λ any_hart.
          let pc =
          change_preserves (λ (hart_state : HartState). hart_state.hart.pc) (written hosted_asking false) (λ hart_state. refl) hart any_hart
          (hosted_reset harts) in
          let supervisor =
          change_preserves (λ (hart_state : HartState). s_context hart_state.hart.csrs) (written hosted_asking false)
          (λ hart_state. refl) hart any_hart (hosted_reset harts) in
          record {
            pc = ap aligned_to_4 pc ∙ (legal.harts any_hart).pc ∙ sym pc;
            supervisor = subst IsLegal (sym supervisor) (legal.harts any_hart).supervisor;
          };
      contexts = legal.contexts;
    }

-- the machine after create is legal
legal_after_create : (harts hart byte : ℕ) → IsLegalMachine (hosted_new harts hart byte)
legal_after_create harts hart byte =
    let after = event_stored (StepOf hart) (hosted_start harts hart)
    (written_invariant hart hosted_asking false (hosted_reset harts) (start_invariant (hosted_ram 0) host_code harts refl))
    (legal_before_create harts hart) in
    record { harts = after.harts; contexts = after.contexts }

-- ---- the bytes

-- the byte of the host's choice is at `choice_offset` in RAM
choice_is_at_offset : length before_byte ≡ choice_offset
choice_is_at_offset = refl

-- the images of RAM for two bytes of the host are equal outside a set of hidden addresses that has the address of the byte
equal_images : (hidden : ℕ → Bool) (choice other_choice : ℕ) → hidden choice_address ≡ true
    → EqualOutside hidden (hosted_ram choice) (hosted_ram other_choice)
equal_images hidden choice other_choice hides_choice = record {
  size = refl;
  bytes = λ index not_hidden. elim (cases_eq index choice_offset) [
    | inl is_choice ↦ absurd (both_ways _ (ap (λ (any_index : ℕ). hidden (ram_base + any_index)) (sym is_choice) ∙ not_hidden) hides_choice)
    | inr is_other ↦ other_byte before_byte after_byte choice other_choice index (λ equal. is_other (equal ∙ choice_is_at_offset))
  ];
}

-- two memories that are the images of RAM for two bytes of the host are equal outside a set of hidden addresses that has the address of the byte
equal_memories : (hidden : ℕ → Bool) (choice other_choice : ℕ) (memory other_memory : List ℕ) → memory ≡ hosted_ram choice
    → other_memory ≡ hosted_ram other_choice → hidden choice_address ≡ true → EqualOutside hidden memory other_memory
equal_memories hidden choice other_choice memory other_memory memory_is other_memory_is hides_choice =
    rw (memory_is, other_memory_is) (equal_images hidden choice other_choice hides_choice)

-- ---- the law

-- the two enclaves are at the same point of their lives after the call `create`
at_one_point : (choice other_choice : ℕ) → AreAtOnePoint 0 0 (first_machine choice) (second_machine other_choice)
at_one_point choice other_choice =
    let first_facts = first_machine_facts choice in
    let second_facts = second_machine_facts other_choice in
    record {
      context = context;
      first = saved_continues 0 (first_machine choice) context (invariant_after_create 1 0 choice first_facts.same_size) first_facts.saved_context_is;
      second = saved_continues 0 (second_machine other_choice) context (invariant_after_create 2 1 other_choice second_facts.same_size)
          second_facts.saved_context_is;
      live = first_facts.live;
      identity = same_identity choice other_choice;
      memory = equal_images (λ byte. not (has (region (first_machine choice).shared.table 0) byte)) choice other_choice
          first_facts.choice_outside_region;
    }

-- A step of the enclave that does not read the byte of the host's choice is an own step of both machines. The bytes of the window that it reads are
-- equal in both.
own_step : (choice other_choice : ℕ) (one other : MonitoredMachine) → IsBeforeOwnStep 0 choice one
    → IsBeforeOwnStep 1 other_choice other → ignores_choice 0 one ≡ true → IsOwnStep (at 0 0) (at 0 1) one other
own_step choice other_choice one other first_facts second_facts ignores_choice_byte = record {
  first = first_facts.on_hart;
  second = second_facts.on_hart;
  line = first_facts.line_is_clear;
  line_too = second_facts.line_is_clear;
  window = equal_memories _ choice other_choice one.shared.memory other.shared.memory first_facts.memory_is second_facts.memory_is
      ignores_choice_byte;
}

-- the moves of the example are permitted, for any two bytes
moves_permitted : (choice other_choice : ℕ) → AreLifeMoves 0 0 hosted_moves (first_machine choice) (second_machine other_choice)
moves_permitted choice other_choice =
    let first_facts = first_machine_facts choice in
    let second_facts = second_machine_facts other_choice in
    -- the host of each machine calls run
    and_then (inl first_facts.run_step_1.not_on_hart, first_facts.run_step_1.live)
    (and_then (inl first_facts.run_step_2.not_on_hart, first_facts.run_step_2.live)
    (and_then (inl second_facts.run_step_1.not_on_hart, second_facts.run_step_1.live)
    (and_then (inl second_facts.run_step_2.not_on_hart, second_facts.run_step_2.live)
    -- the load in both machines; then the timer line is set in the first
    (and_then
    (own_step choice other_choice (entered_machine choice)
    (second_entered_machine other_choice) first_facts.before_load second_facts.before_load first_facts.load_ignores_choice)
    (and_then tt
    -- the first machine: the interrupt, and the call resume
    (and_then (inr first_facts.line_is_set, first_facts.interrupted_live)
    (and_then (inl first_facts.resume_1.not_on_hart, first_facts.resume_1.live)
    (and_then (inl first_facts.resume_2.not_on_hart, first_facts.resume_2.live)
    (and_then (inl first_facts.resume_3.not_on_hart, first_facts.resume_3.live)
    -- the second machine: the refused call of hart 0; then the store in both machines
    (and_then (inl second_facts.refused_call.not_on_hart, second_facts.refused_call.live)
    (and_then
    (own_step choice other_choice (resumed_machine choice)
    (refused_machine other_choice) first_facts.before_store second_facts.before_store first_facts.store_ignores_choice) tt)))))))))))

-- proves the example of a host's influence, by computation of its steps
pub host_run : HostRunLaw
host_run choice other_choice =
    let first_facts = first_machine_facts choice in
    let second_facts = second_machine_facts other_choice in
    record {
      moves_permitted = moves_permitted choice other_choice;
      steps_equal =
          life_law 0 0 hosted_moves (first_machine choice) (second_machine other_choice) (invariant_after_create 1 0 choice first_facts.same_size)
          (invariant_after_create 2 1 other_choice second_facts.same_size) (legal_after_create 1 0 choice) (legal_after_create 2 1 other_choice)
          (at_one_point choice other_choice) (moves_permitted choice other_choice);
      stored = first_facts.stored_word_is;
      stored_too = second_facts.stored_word_is;
    }
