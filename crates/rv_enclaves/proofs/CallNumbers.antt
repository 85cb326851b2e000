-- The definitions of the calls agree with the tables of specs/CallNumbers, which describe the calls in numbers.
use Rattle.std.proofs.Common.{◌≡◌, ◌≢◌, ℕ, Bool, true, false, List, [], ◌∷◌, Option, Some, None, refl, arith}
use Rattle.std.specs.Prelude.{◌||◌, ◌==◌, if◌then◌else◌}
use Rattle.std.specs.List.{list_any}
use Rattle.std.proofs.Math.Bool.{and-false, and-true}
use Rattle.std.proofs.lemmas.Bool.Decides.{nat_tests}
use Rattle.rv_state.specs.Registers.{register}
use Rattle.rv_enclaves.specs.CallNumbers.{CallNumbersLaw, call_numbered, create_rows, does_not_run, in_numbers, is_block_of, is_fresh}
use Rattle.rv_enclaves.specs.CallNumbers.{is_stopped, measure_rows, overlap_enclave, region_named, shared_with_measurement, shared_with_new}
use Rattle.rv_enclaves.specs.CallNumbers.{shared_without, slot_named, state_rows, window_named}
use Rattle.rv_enclaves.specs.Calls.{call_requested, status_of, takes}
use Rattle.rv_enclaves.specs.Create.{collides, create_args_of, create_refusals, is_entry}
use Rattle.rv_enclaves.specs.Measure.{measure_refusals, measured_slot, may_store_all}
use Rattle.rv_enclaves.specs.Refusals.{state_refusals}
use Rattle.rv_enclaves.specs.Table.{free_slot}
use Rattle.rv_enclaves.specs.declared.call.Call.TheVariants as calls
use Rattle.rv_enclaves.specs.declared.refusal.Refusal.TheVariants as refusals
use Rattle.rv_enclaves.specs.declared.slot_info.EnclaveState.TheVariants as states
use Rattle.rv_enclaves.proofs.Prelude.{Call, CreateArgs, Enclave, EnclaveState, Entries, Host, Refusal, Shared, SlotInfo, Slots, World, created}
use Rattle.rv_enclaves.proofs.Prelude.{destroyed, first_context, is_valid_block, is_window, measured, measurement_of, option_case, overlaps, slot_at}

-- ---- the request

-- the Boolean test of equality is symmetric
equality_symmetric : (left right : ℕ) → (left == right) ≡ (right == left)
equality_symmetric left right = grind (arith, nat_tests)

-- the requested call is the call whose number is in a6
requests : (world : World) (a7 a6 : ℕ) → call_requested world a7 a6 ≡ call_numbered world a7 a6
unfolding call_requested call_numbered
-- the monitor offers the calls 1 to 5 to the host
requests Host a7 a6 =
    rw (
      equality_symmetric 1 a6,
      equality_symmetric 2 a6,
      equality_symmetric 3 a6,
      equality_symmetric 4 a6,
      equality_symmetric 5 a6,
      equality_symmetric 6 a6,
      equality_symmetric 7 a6,
      and-true (a6 == 1),
      and-true (a6 == 2),
      and-true (a6 == 3),
      and-true (a6 == 4),
      and-true (a6 == 5),
      and-false (a6 == 6),
      and-false (a6 == 7),
    ) refl
-- the monitor offers the calls 5 to 7 to an enclave
requests (Enclave slot) a7 a6 =
    rw (
      equality_symmetric 1 a6,
      equality_symmetric 2 a6,
      equality_symmetric 3 a6,
      equality_symmetric 4 a6,
      equality_symmetric 5 a6,
      equality_symmetric 6 a6,
      equality_symmetric 7 a6,
      and-false (a6 == 1),
      and-false (a6 == 2),
      and-false (a6 == 3),
      and-false (a6 == 4),
      and-true (a6 == 5),
      and-true (a6 == 6),
      and-true (a6 == 7),
    ) refl

-- No refusal has the status 0, which is the status of success. Each case holds by computation, or has a false premise.
pub no_success : (refusal : Refusal) → status_of refusal ≢ 0
no_success refusals.NotSupported status_is_0 = cc
no_success refusals.BadRegion status_is_0 = cc
no_success refusals.BadWindow status_is_0 = cc
no_success refusals.Overlap status_is_0 = cc
no_success refusals.BadEntry status_is_0 = cc
no_success refusals.NoSlot status_is_0 = cc
no_success refusals.NoEnclave status_is_0 = cc
no_success refusals.BadState status_is_0 = cc
no_success refusals.BadAddress status_is_0 = cc

-- ---- create

-- two tests that are equal for each element agree on whether a list has an element that passes
any_same : {X : Type 0} (test other_test : X → Bool) → ((x : X) → test x ≡ other_test x) → (elements : List X)
    → list_any test elements ≡ list_any other_test elements
any_same test other_test same_tests [] = refl
any_same test other_test same_tests (x ∷ elements) =
    let same_first = same_tests x in
    let same_rest = any_same test other_test same_tests elements in
    rw (same_first, same_rest) refl

-- both definitions of the test for overlap agree
same_overlap : (new : CreateArgs) (maybe_info : Option SlotInfo) → collides new maybe_info ≡ overlap_enclave new.region new.window maybe_info
same_overlap new None = refl
same_overlap new (Some info) = refl

-- a window passes the test `is_window` if and only if the window has size 0 or is a valid block
window_test_agrees : (memory : List ℕ) (base size : ℕ) (is_empty : Bool) → (size == 0) ≡ is_empty
    → is_window memory (if is_empty then record { base = 0; size = 0 } else record { base = base; size = size })
    ≡ (is_empty || is_block_of memory (if is_empty then record { base = 0; size = 0 } else record { base = base; size = size }))
unfolding is_window is_valid_block
window_test_agrees memory base size true test_is = refl
window_test_agrees memory base size false test_is = rw (test_is, and-false (base == 0)) refl

-- the refusals of create agree with the table
creates : (shared : Shared) (regs : List ℕ) → in_numbers (create_refusals shared (create_args_of regs)) ≡ create_rows shared regs
unfolding create_refusals create_rows is_valid_block overlaps is_entry free_slot
creates shared regs =
    let window_agrees = window_test_agrees shared.memory (register regs 12) (register regs 13) (register regs 13 == 0) refl in
    let overlap_agrees =
    any_same (collides (create_args_of regs)) (overlap_enclave (region_named regs) (window_named regs))
    (same_overlap (create_args_of regs)) shared.table in
    rw (window_agrees, overlap_agrees) refl

-- ---- destroy, run and resume

-- both definitions of a test of an enclave's state agree
same_state_test : (call : Call) (accepts : EnclaveState → Bool) → ((state : EnclaveState) → takes call state ≡ accepts state)
    → (maybe_info : Option SlotInfo)
    → option_case maybe_info false (λ info. takes call info.state) ≡ option_case maybe_info false (λ info. accepts info.state)
same_state_test call accepts same_tests None = refl
same_state_test call accepts same_tests (Some info) = same_tests info.state

-- the refusals of destroy, run and resume agree with the table
state_refusals_agree : (table : Slots) (call : Call) (accepts : EnclaveState → Bool) (slot : ℕ)
    → ((state : EnclaveState) → takes call state ≡ accepts state)
    → in_numbers (state_refusals table call slot) ≡ state_rows accepts table slot
unfolding state_refusals state_rows
state_refusals_agree table call accepts slot same_tests =
    let state_tests_agree = same_state_test call accepts same_tests (slot_at table slot) in rw state_tests_agree refl

-- Destroy accepts each state except Running. Each case holds by computation.
destroy_accepts_idle : (state : EnclaveState) → takes calls.Destroy state ≡ does_not_run state
destroy_accepts_idle states.Fresh = refl
destroy_accepts_idle states.Running = refl
destroy_accepts_idle states.Stopped = refl
destroy_accepts_idle states.Exited = refl

-- Run accepts only the state Fresh. Each case holds by computation.
run_accepts_fresh : (state : EnclaveState) → takes calls.Run state ≡ is_fresh state
run_accepts_fresh states.Fresh = refl
run_accepts_fresh states.Running = refl
run_accepts_fresh states.Stopped = refl
run_accepts_fresh states.Exited = refl

-- Resume accepts only the state Stopped. Each case holds by computation.
resume_accepts_stopped : (state : EnclaveState) → takes calls.Resume state ≡ is_stopped state
resume_accepts_stopped states.Fresh = refl
resume_accepts_stopped states.Running = refl
resume_accepts_stopped states.Stopped = refl
resume_accepts_stopped states.Exited = refl

-- ---- measure

-- the refusals of measure agree with the table
measures : (shared : Shared) (entries : Entries) (slot address : ℕ)
    → in_numbers (measure_refusals shared entries slot address) ≡ measure_rows shared entries slot address
unfolding measure_refusals measure_rows may_store_all
measures shared entries slot address = refl

-- both definitions of the slot that measure names agree
measured_slots_agree : (world : World) (regs : List ℕ) → measured_slot world (register regs 10) ≡ slot_named world regs
measured_slots_agree Host regs = refl
measured_slots_agree (Enclave slot) regs = refl

-- ---- the effects

-- both definitions of the effect of create agree
create_effects_agree : (shared : Shared) (regs : List ℕ) → created shared (create_args_of regs) ≡ shared_with_new shared regs
unfolding created shared_with_new measurement_of first_context free_slot
create_effects_agree shared regs = refl

-- both definitions of the effect of destroy agree
destroy_effects_agree : (shared : Shared) (slot : ℕ) (maybe_info : Option SlotInfo) → slot_at shared.table slot ≡ maybe_info
    → destroyed shared slot ≡ shared_without shared slot
unfolding destroyed shared_without
destroy_effects_agree shared slot None slot_is = rw slot_is refl
destroy_effects_agree shared slot (Some info) slot_is = rw slot_is refl

-- both definitions of the effect of measure agree
measure_effects_agree : (shared : Shared) (slot address : ℕ) → measured shared slot address ≡ shared_with_measurement shared slot address
unfolding measured shared_with_measurement
measure_effects_agree shared slot address = refl

-- proves that the definitions of the calls agree with the tables in numbers
pub call_numbers : CallNumbersLaw
call_numbers shared entries regs = record {
  call = λ world. requests world (register regs 17) (register regs 16);
  status = no_success;
  create = creates shared regs;
  destroy = λ slot. state_refusals_agree shared.table calls.Destroy does_not_run slot destroy_accepts_idle;
  run = λ slot. state_refusals_agree shared.table calls.Run is_fresh slot run_accepts_fresh;
  resume = λ slot. state_refusals_agree shared.table calls.Resume is_stopped slot resume_accepts_stopped;
  measure = measures shared entries;
  slot = λ world. measured_slots_agree world regs;
  created = create_effects_agree shared regs;
  destroyed = λ slot. destroy_effects_agree shared slot (slot_at shared.table slot) refl;
  measured = measure_effects_agree shared;
  host_mie = refl;
  enclave_mie = λ slot. refl;
}
