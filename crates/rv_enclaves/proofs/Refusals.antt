-- The facts about a call that the monitor does not refuse. A call has a table of conditions, each with its refusal (specs/Create, Refusals and
-- Measure). The monitor refuses the call with the first refusal whose condition holds. If there is no such refusal, then every condition is false.
use Rattle.std.proofs.Common.{◌≡◌, ℕ, Bool, true, false, List, ◌∷◌, length, Option, Some, None, refl}
use Rattle.std.specs.Prelude.{not}
use Rattle.std.specs.Option.{is_none}
use Rattle.std.proofs.lemmas.Bool.{false≢true, not-false}
use Rattle.rv_enclaves.specs.Calls.{takes}
use Rattle.rv_enclaves.specs.Create.{create_refusals, is_entry}
use Rattle.rv_enclaves.specs.Measure.{measure_refusals, may_store_all}
use Rattle.rv_enclaves.specs.Refusals.{state_refusals, has_state_for}
use Rattle.rv_enclaves.specs.Table.{free_slot}
use Rattle.rv_enclaves.specs.declared.slot_info.EnclaveState.TheVariants as states
use Rattle.rv_enclaves.specs.SlotNumbers.{slot_count}
use Rattle.rv_enclaves.proofs.Prelude.{Call, Contexts, EnclaveState, Entries, CreateArgs, Refusal, Shared, SlotInfo, Slots}
use Rattle.rv_enclaves.proofs.Prelude.{first_refusal, is_valid_block, is_live, is_running, is_window, new_slot, option_case, overlaps, slot_at}
use Rattle.rv_enclaves.proofs.Valid.{well_formed_by_size, window_by_size}

-- if no condition of a table holds, then the first condition is false, and no condition of the rest holds
pub no_condition_holds : (condition : Bool) (refusal : Refusal) (rows : List (Bool × Refusal)) → first_refusal ((condition, refusal) ∷ rows) ≡ None
    → (condition ≡ false) × (first_refusal rows ≡ None)
no_condition_holds true refusal rows no_refusal = cc
no_condition_holds false refusal rows no_refusal = (refl, no_refusal)

-- ---- create

-- the arguments of a create pass every check: no condition that refuses the create holds
pub record MayCreate (shared : Shared) (new : CreateArgs) : Type 0 where
  pub well_formed : is_valid_block shared.memory new.region ≡ true
  pub window : is_window shared.memory new.window ≡ true
  pub apart : overlaps shared.table new ≡ false
  pub entry : is_entry new ≡ true
  pub free : free_slot shared.table ≡ Some (new_slot shared.table)

-- an option of a slot that is not None has some slot
is_slot : (maybe_slot : Option ℕ) → is_none maybe_slot ≡ false → maybe_slot ≡ Some (option_case maybe_slot slot_count (λ slot. slot))
is_slot None is_present = cc
is_slot (Some slot) is_present = refl

-- a create without a refusal passes every check
pub may_create : (shared : Shared) (new : CreateArgs) → first_refusal (create_refusals shared new) ≡ None → MayCreate shared new
unfolding create_refusals
may_create shared new no_refusal =
    -- each step takes the condition of one row, which is false, and the rows after it
    let (region_passes, window_rows) = no_condition_holds _ _ _ no_refusal in
    let (window_passes, overlap_rows) = no_condition_holds _ _ _ window_rows in
    let (no_overlap, entry_rows) = no_condition_holds _ _ _ overlap_rows in
    let (entry_passes, slot_rows) = no_condition_holds _ _ _ entry_rows in
    let (slot_found, no_more_rows) = no_condition_holds _ _ _ slot_rows in
    record {
      well_formed = not-false _ region_passes;
      window = not-false _ window_passes;
      apart = no_overlap;
      entry = not-false _ entry_passes;
      free = is_slot (free_slot shared.table) slot_found;
    }

-- ---- destroy, run and resume

-- `slot` has an enclave in a state that the call accepts, and `info` is its record
pub record SlotIsAccepted (table : Slots) (call : Call) (slot : ℕ) : Type 0 where
  pub info : SlotInfo
  pub is : slot_at table slot ≡ Some info
  pub taken : takes call info.state ≡ true

-- a slot that passes the test for a call's state has an enclave in a state that the call accepts
taken_at : (table : Slots) (call : Call) (slot : ℕ) (maybe_info : Option SlotInfo) → slot_at table slot ≡ maybe_info
    → option_case maybe_info false (λ info. takes call info.state) ≡ true → SlotIsAccepted table call slot
taken_at table call slot None slot_is state_accepted = absurd (false≢true state_accepted)
taken_at table call slot (Some info) slot_is state_accepted = record { info = info; is = slot_is; taken = state_accepted }

-- a destroy, run or resume without a refusal names an enclave in a state that the call accepts
pub may_take : (table : Slots) (call : Call) (slot : ℕ) → first_refusal (state_refusals table call slot) ≡ None → SlotIsAccepted table call slot
unfolding state_refusals
may_take table call slot no_refusal =
    let (live_test, state_rows) = no_condition_holds (not (is_live table slot)) _ _ no_refusal in
    let (state_test, no_more_rows) = no_condition_holds (not (has_state_for table call slot)) _ _ state_rows in
    taken_at table call slot (slot_at table slot) refl (not-false (has_state_for table call slot) state_test)

-- No call accepts an enclave that runs. Each case holds by computation, or has a false premise.
pub takes_rests : (call : Call) (state : EnclaveState) → takes call state ≡ true → is_running state ≡ false
takes_rests call states.Fresh state_accepted = refl
takes_rests call states.Stopped state_accepted = refl
takes_rests call states.Exited state_accepted = refl
takes_rests call states.Running state_accepted = cc

-- ---- measure

-- the arguments of a measure pass every check: no condition that refuses the measure holds
pub record MayMeasure (shared : Shared) (entries : Entries) (slot address : ℕ) : Type 0 where
  pub live : is_live shared.table slot ≡ true
  pub stores : may_store_all shared.memory entries address ≡ true

-- a measure without a refusal passes every check
pub may_measure : (shared : Shared) (entries : Entries) (slot address : ℕ) → first_refusal (measure_refusals shared entries slot address) ≡ None
    → MayMeasure shared entries slot address
unfolding measure_refusals
may_measure shared entries slot address no_refusal =
    let (live_test, store_rows) = no_condition_holds (not (is_live shared.table slot)) _ _ no_refusal in
    let (store_test, no_more_rows) = no_condition_holds (not (may_store_all shared.memory entries address)) _ _ store_rows in
    record { live = not-false (is_live shared.table slot) live_test; stores = not-false (may_store_all shared.memory entries address) store_test }

-- ---- the rows depend on memory only by its size

-- two shared states have the same table, and memories of the same size
module _ (table : Slots) (one_memory other_memory : List ℕ) (one_contexts other_contexts : Contexts) where
  -- the shared state with `one_memory` and `one_contexts`
  abbrev one : Shared
  one = record { memory = one_memory; table = table; contexts = one_contexts }

  -- the shared state with `other_memory` and `other_contexts`
  abbrev other : Shared
  other = record { memory = other_memory; table = table; contexts = other_contexts }

  -- the refusals of create do not depend on the bytes of the memory or on the saved contexts, only on the size of the memory
  pub same_create_refusals : (new : CreateArgs) → length one_memory ≡ length other_memory → create_refusals one new ≡ create_refusals other new
  unfolding create_refusals
  same_create_refusals new same_length =
      let same_region_check = well_formed_by_size one_memory other_memory new.region same_length in
      let same_window_check = window_by_size one_memory other_memory new.window same_length in
      rw (← same_region_check, ← same_window_check) refl

  -- whether S may store the measurement depends only on the size of the memory
  same_stores : (entries : Entries) (address : ℕ) → length one_memory ≡ length other_memory
      → may_store_all one_memory entries address ≡ may_store_all other_memory entries address
  unfolding may_store_all
  same_stores entries address same_length = rw same_length (refl {a = may_store_all other_memory entries address})

  -- the refusals of measure do not depend on the bytes of the memory or on the saved contexts, only on the size of the memory
  pub same_measure_refusals : (entries : Entries) (slot address : ℕ) → length one_memory ≡ length other_memory
      → measure_refusals one entries slot address ≡ measure_refusals other entries slot address
  unfolding measure_refusals
  same_measure_refusals entries slot address same_length =
      let same_store_check = same_stores entries address same_length in rw (← same_store_check) refl
