-- The monitor accepts each call whose arguments meet the conditions of the call. The conditions are in numbers (specs/CallNumbers).
use Rattle.std.proofs.Common.{◌≡◌, ◌≢◌, ◌≤◌, ◌<◌, ◌⊎◌, ℕ, ◌+◌, zero, suc, Bool, true, false, List, [], ◌∷◌, length, Option, Some, None, refl, sym, ◌∙◌, ap}
use Rattle.std.proofs.Common.{subst, inl, inr, arith}
use Rattle.std.proofs.Math.Bool.{or-true}
use Rattle.std.proofs.lemmas.Bool.{cases_eq, cond-false, cond-true, eq-eqb, le-leb, lt-ltb}
use Rattle.std.specs.Prelude.{◌&&◌, ◌%◌, ◌^◌, ◌||◌, ◌==◌, is_some, not, slice_index_or}
use Rattle.std.specs.List.{find, list_all, list_any, range_with_len}
use Rattle.std.specs.Option.{is_none}
use Rattle.rv_state.specs.Registers.{register}
use Rattle.rv_enclaves.specs.CallNumbers.{AcceptsCalls, AcceptsCallsLaw, IsAccepted, IsBlockOf, IsCreatable, IsMeasurable, Requests, call_numbered}
use Rattle.rv_enclaves.specs.CallNumbers.{call_rows, call_status, create_rows, does_not_run, first_status, is_block_of, is_fresh, is_stopped, is_storable}
use Rattle.rv_enclaves.specs.CallNumbers.{lowest_free, measure_rows, overlap_enclave, record_at, region_named, slot_named, state_rows, window_named}
use Rattle.rv_enclaves.specs.declared.call.Call.TheVariants.{Create, Destroy, Exit, Measure, Resume, Run, Stop}
use Rattle.rv_enclaves.specs.declared.slot_info.EnclaveState.TheVariants as states
use Rattle.rv_enclaves.specs.SlotNumbers.{slot_count}
use Rattle.rv_enclaves.proofs.Prelude.{Block, Call, Enclave, EnclaveState, Entries, Host, Shared, SlotInfo, Slots, World}

-- ---- lists

-- if a test holds for one number of a range, then `list_any` finds that the test holds for some number of the range
any_if_one_passes : (test : ℕ → Bool) (start count number : ℕ) → start ≤ number → number < start + count → test number ≡ true
    → list_any test (range_with_len start count) ≡ true
any_if_one_passes test start zero number from_start before_end number_passes = absurd (omega (arith, from_start, before_end))
any_if_one_passes test start (suc count) number from_start before_end number_passes = elim (cases_eq number start) [
  | inl is_start ↦
      let passes_at_start : test start ≡ true = subst (λ (lower : ℕ). test lower ≡ true) is_start number_passes in
      rw passes_at_start refl
  | inr not_start ↦
      let passes_later =
      any_if_one_passes test (start + 1) count number (omega (arith, from_start, not_start)) (omega (arith, before_end)) number_passes in
      rw passes_later (or-true (test start))
]

-- if a test holds for each number of a range, then `list_all` finds that the test holds for all numbers of the range
all_if_each_passes : (test : ℕ → Bool) (start count : ℕ) → ((number : ℕ) → start ≤ number → number < start + count → test number ≡ true)
    → list_all test (range_with_len start count) ≡ true
all_if_each_passes test start zero each_holds = refl
all_if_each_passes test start (suc count) each_holds =
    let passes_at_start = each_holds start (omega arith) (omega arith) in
    let passes_later =
    all_if_each_passes test (start + 1) count
    (λ number from_start before_end. each_holds number (omega (arith, from_start)) (omega (arith, before_end))) in
    rw (passes_at_start, passes_later) refl

-- the search `find` returns the lowest number of a range that passes the test
find_is : (test : ℕ → Bool) (start count number : ℕ) → start ≤ number → number < start + count
    → ((lower : ℕ) → start ≤ lower → lower < number → test lower ≡ false) → test number ≡ true
    → find test (range_with_len start count) ≡ Some number
find_is test start zero number from_start before_end lower_fail number_passes = absurd (omega (arith, from_start, before_end))
find_is test start (suc count) number from_start before_end lower_fail number_passes = elim (cases_eq number start) [
  | inl is_start ↦
      cond-true (test start) _ _ (subst (λ (lower : ℕ). test lower ≡ true) is_start number_passes) ∙ ap (λ (lower : ℕ). Some lower) (sym is_start)
  | inr not_start ↦
      cond-false (test start) _ _ (lower_fail start (omega arith) (omega (arith, from_start, not_start)))
      ∙ find_is test (start + 1) count number (omega (arith, from_start, not_start)) (omega (arith, before_end))
      (λ lower from_start before_end. lower_fail lower (omega (arith, from_start)) before_end) number_passes
]

-- if a test fails for each entry of a list, then `list_any` finds no entry that passes the test
any_fails_if_each_fails : (test : Option SlotInfo → Bool) (contents : List (Option SlotInfo))
    → ((index : ℕ) → test (slice_index_or contents index None) ≡ false)
    → list_any test contents ≡ false
any_fails_if_each_fails test [] each_fails = refl
any_fails_if_each_fails test (content ∷ contents) each_fails =
    let fails_first : test content ≡ false = each_fails 0 in
    let fails_later = any_fails_if_each_fails test contents (λ index. each_fails (suc index)) in
    rw (fails_first, fails_later) refl

-- ---- the conditions

-- a block that the numbers of a create describe passes the test of a valid block
is_block_of-passes : (memory : List ℕ) (block : Block) → IsBlockOf memory block → is_block_of memory block ≡ true
is_block_of-passes memory block valid_block =
    let size_holds =
    any_if_one_passes (λ exponent. block.size == 2 ^ exponent) 12 20 valid_block.exponent valid_block.exponent_at_least_12
    (omega (arith, valid_block.exponent_below_32))
    (eq-eqb block.size (2 ^ valid_block.exponent) valid_block.size_is_power) in
    let multiple_holds = eq-eqb (block.base % block.size) 0 valid_block.base_is_multiple in
    let from_ram_base = le-leb 0x80000000 block.base valid_block.from_ram_base in
    let to_ram_end = le-leb (block.base + block.size) (0x80000000 + length memory) valid_block.to_ram_end in
    rw (size_holds, multiple_holds, from_ram_base, to_ram_end) refl

-- a window that is empty, or is a valid block, passes the test of a window
window_passes : (memory : List ℕ) (regs : List ℕ) → (register regs 13 ≡ 0) ⊎ IsBlockOf memory (window_named regs)
    → (register regs 13 == 0 || is_block_of memory (window_named regs)) ≡ true
window_passes memory regs (inl size_is_0) =
    let test_is = eq-eqb (register regs 13) 0 size_is_0 in
    rw test_is refl
window_passes memory regs (inr block) =
    let is_valid = is_block_of-passes memory (window_named regs) block in rw is_valid (or-true (register regs 13 == 0))

-- a slot with a record is not free
not_free_if_present : (maybe_info : Option SlotInfo) → is_some maybe_info ≡ true → is_none maybe_info ≡ false
not_free_if_present None is_present = cc
not_free_if_present (Some info) is_present = refl

-- the slot of a create is the lowest free one
lowest_free_is : (shared : Shared) (regs : List ℕ) (slot : ℕ) → IsCreatable shared regs slot → lowest_free shared.table ≡ Some slot
lowest_free_is shared regs slot creatable =
    find_is (λ number. is_none (record_at shared.table number)) 0 slot_count slot (omega arith) (omega (arith, creatable.in_range))
    (λ lower from_0 before_slot. not_free_if_present (record_at shared.table lower) (creatable.lowest lower before_slot))
    (ap (λ (maybe_info : Option SlotInfo). is_none maybe_info) creatable.free)

-- a create has status 0 if none of its five refusals applies
no_condition_holds : (region_valid window_valid overlap entry_valid no_free_slot : Bool) → region_valid ≡ true → window_valid ≡ true
    → overlap ≡ false → entry_valid ≡ true → no_free_slot ≡ false
    → first_status
    ((not region_valid, 0xFFFFFFFE) ∷ (not window_valid, 0xFFFFFFFD) ∷ (overlap, 0xFFFFFFFC) ∷ (not entry_valid, 0xFFFFFFFB)
    ∷ (no_free_slot, 0xFFFFFFFA) ∷ []) ≡ 0
no_condition_holds region_valid window_valid overlap entry_valid no_free_slot region_holds window_holds no_overlap entry_holds slot_found =
    rw (region_holds, window_holds, no_overlap, entry_holds, slot_found) refl

-- a disjunction of four tests fails if each of the four tests fails
four_tests_fail : (a b c d : Bool) → a ≡ false → b ≡ false → c ≡ false → d ≡ false → (a || (b || (c || d))) ≡ false
four_tests_fail a b c d a_fails b_fails c_fails d_fails = rw (a_fails, b_fails, c_fails, d_fails) refl

-- a conjunction of three tests holds if each of the three tests holds
three_tests_hold : (a b c : Bool) → a ≡ true → b ≡ true → c ≡ true → (a && (b && c)) ≡ true
three_tests_hold a b c a_holds b_holds c_holds = rw (a_holds, b_holds, c_holds) refl

-- a create has status 0 if its arguments meet the conditions of create
create_passes : (shared : Shared) (regs : List ℕ) (slot : ℕ) → IsCreatable shared regs slot → first_status (create_rows shared regs) ≡ 0
unfolding create_rows
create_passes shared regs slot creatable =
    no_condition_holds _ _ _ _ _ (is_block_of-passes shared.memory (region_named regs) creatable.region)
    (window_passes shared.memory regs creatable.window)
    (four_tests_fail _ _ _ _ creatable.region_outside_monitor creatable.window_outside_monitor creatable.window_outside_region
    (any_fails_if_each_fails (overlap_enclave (region_named regs) (window_named regs)) shared.table creatable.others_apart))
    (three_tests_hold _ _ _ (eq-eqb (register regs 14 % 4) 0 creatable.entry_aligned)
    (le-leb (register regs 10) (register regs 14) creatable.entry_from)
    (lt-ltb (register regs 14) (register regs 10 + register regs 11) creatable.entry_to))
    (ap (λ (found : Option ℕ). is_none found) (lowest_free_is shared regs slot creatable))

-- a destroy, run or resume has status 0 if the enclave is in a state that the call accepts
state_passes : (accepts : EnclaveState → Bool) (table : Slots) (slot : ℕ) (info : SlotInfo) → record_at table slot ≡ Some info
    → accepts info.state ≡ true
    → first_status (state_rows accepts table slot) ≡ 0
unfolding state_rows
state_passes accepts table slot info slot_is state_is_accepted = rw (slot_is, state_is_accepted) refl

-- destroy accepts an enclave in each state other than Running
not_running_is_accepted : (state : EnclaveState) → state ≢ states.Running → does_not_run state ≡ true
not_running_is_accepted states.Fresh not_running = refl
not_running_is_accepted states.Running not_running = absurd (not_running refl)
not_running_is_accepted states.Stopped not_running = refl
not_running_is_accepted states.Exited not_running = refl

-- a measure has status 0 if its arguments meet the conditions of measure
measure_passes : (shared : Shared) (entries : Entries) (slot address : ℕ) → IsMeasurable shared entries slot address
    → first_status (measure_rows shared entries slot address) ≡ 0
unfolding measure_rows
measure_passes shared entries slot address measurable =
    let live = measurable.live in
    let end_in_ram = measurable.to_ram_end in
    let start_in_ram = measurable.from_ram_base in
    let may_store_all = all_if_each_passes (is_storable shared.memory entries) address 32 (λ byte from_address before_end.
    let byte_from_ram_base = le-leb 0x80000000 byte (omega (arith, start_in_ram, from_address)) in
    let byte_before_ram_end = le-leb (byte + 1) (0x80000000 + length shared.memory) (omega (arith, end_in_ram, before_end)) in
    let may_store_byte = measurable.storable byte from_address before_end in
    rw (byte_from_ram_base, byte_before_ram_end, may_store_byte) refl) in
    rw (live, may_store_all) refl

-- ---- the law

-- if the host traps with the key in a7 and the number of a call in a6, then the host requests this call
asks_host : (a7 a6 number : ℕ) (call : Call) → a7 ≡ 0x0A454E43 → a6 ≡ number → call_numbered Host 0x0A454E43 number ≡ Some call
    → call_numbered Host a7 a6 ≡ Some call
asks_host a7 a6 number call key_in_a7 number_in_a6 call_numbered_is = rw (key_in_a7, number_in_a6) call_numbered_is

-- if an enclave traps with the key in a7 and the number of a call in a6, then the enclave requests this call
asks_enclave : (slot a7 a6 number : ℕ) (call : Call) → a7 ≡ 0x0A454E43 → a6 ≡ number → call_numbered (Enclave slot) 0x0A454E43 number ≡ Some call
    → call_numbered (Enclave slot) a7 a6 ≡ Some call
asks_enclave slot a7 a6 number call key_in_a7 number_in_a6 call_numbered_is = rw (key_in_a7, number_in_a6) call_numbered_is

-- the shared state, the PMP entries of the hart, and its registers at the ecall
module _ (shared : Shared) (entries : Entries) (regs : List ℕ) where
  -- the monitor refuses no requested call whose status is 0
  accepted_if_status_0 : (world : World) (call : Call) → call_numbered world (register regs 17) (register regs 16) ≡ Some call
      → first_status (call_rows world shared entries regs call) ≡ 0 → IsAccepted world shared entries regs call
  unfolding call_status
  accepted_if_status_0 world call requested status_is_0 = record { requested = requested; status = rw requested status_is_0 }

  -- if any world traps with the key in a7 and 5 in a6, then this world requests measure
  numbers_asked : (world : World) → Requests 5 regs → call_numbered world (register regs 17) (register regs 16) ≡ Some Measure
  unfolding call_numbered
  numbers_asked Host requested = asks_host _ _ 5 Measure requested.a7 requested.a6 refl
  numbers_asked (Enclave slot) requested = asks_enclave slot _ _ 5 Measure requested.a7 requested.a6 refl

  -- each call succeeds under the conditions that its numbers must meet
  pub succeeds : AcceptsCalls shared entries regs
  unfolding call_numbered
  succeeds = record {
    create = λ slot requested conditions. (
      accepted_if_status_0 Host Create (asks_host _ _ 1 Create requested.a7 requested.a6 refl) (create_passes shared regs slot conditions),
      lowest_free_is shared regs slot conditions,
    );
    destroy = λ requested conditions. accepted_if_status_0 Host Destroy (asks_host _ _ 2 Destroy requested.a7 requested.a6 refl)
        (state_passes does_not_run shared.table (register regs 10) conditions.info conditions.record_is
        (not_running_is_accepted conditions.info.state conditions.not_running));
    run = λ requested conditions. accepted_if_status_0 Host Run (asks_host _ _ 3 Run requested.a7 requested.a6 refl)
        (state_passes is_fresh shared.table (register regs 10) conditions.info conditions.record_is (ap is_fresh conditions.state_is));
    resume = λ requested conditions. accepted_if_status_0 Host Resume (asks_host _ _ 4 Resume requested.a7 requested.a6 refl)
        (state_passes is_stopped shared.table (register regs 10) conditions.info conditions.record_is (ap is_stopped conditions.state_is));
    measure = λ world requested conditions. accepted_if_status_0 world Measure (numbers_asked world requested)
        (measure_passes shared entries (slot_named world regs) (register regs 11) conditions);
    stop = λ slot requested. accepted_if_status_0 (Enclave slot) Stop (asks_enclave slot _ _ 6 Stop requested.a7 requested.a6 refl) refl;
    exit = λ slot requested. accepted_if_status_0 (Enclave slot) Exit (asks_enclave slot _ _ 7 Exit requested.a7 requested.a6 refl) refl;
  }

-- proves that each call is accepted under its conditions
pub accepts_calls : AcceptsCallsLaw
accepts_calls = succeeds
