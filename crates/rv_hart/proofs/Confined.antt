-- A step depends only on the bytes of memory that it fetched and loaded, and changes only those that it stored. It takes the same case over
-- every memory with the same bytes there. (The lemma compares two steps, so it uses `step_ways` and not `step_cases`.)
use Rattle.std.proofs.Common.{◌≡◌, ℕ, ◌-◌, List, [], length, Option, Some, None, Result, Ok, Err, refl, sym, ap, ◌∙◌}
use Rattle.rv_word.specs.Widths.{bytes_in}
use Rattle.rv_word.specs.declared.width.Width.{Width}
use Rattle.rv_word.specs.declared.width.Width.TheVariants.{Word}
use Rattle.rv_encoding.specs.declared.instr.Instr.{Instr}
use Rattle.rv_memory.specs.Memory.{ram_base, write_bytes, bytes_of}
use Rattle.rv_memory.specs.declared.access_fault.AccessFault.{AccessFault}
use Rattle.rv_memory.specs.declared.touched.Touched.{Touched}
use Rattle.rv_memory.proofs.AccessLaws.{store_done, fetch_refused_too, load_refused_too, store_refused_too, store_done_too, fetch_same, load_same}
use Rattle.rv_memory.proofs.MemoryLaws.{length-bytes_of, write_at}
use Rattle.rv_hart.specs.Confinement.{SameIn, EqualOn, EndAlike, IsConfined}
use Rattle.rv_hart.specs.HartRecord.{Hart}
use Rattle.rv_hart.specs.Machine.{Machine, Ended, over}
use Rattle.rv_hart.specs.Step.{step, from_fetch, from_decode, from_access, retired_or_trapped, data_mode, from_execute, span, fetch_of, load_of}
use Rattle.rv_hart.specs.Step.{store_of}
use Rattle.rv_hart.specs.declared.request.Request.{Request}
use Rattle.rv_hart.specs.declared.request.Request.TheVariants.{Nothing, Load, Store}
use Rattle.rv_hart.specs.declared.trap.Trap.{Trap}
use Rattle.rv_hart.proofs.StepCases.{Fetches, Decodes, Requests, Loads, Stores, requested_step, step_ways}

-- `with_memory` is the machine with another memory
abbrev with_memory : Machine → List ℕ → Machine
with_memory state memory = record state { memory = memory }

-- ---- the step over the other memory takes the same case

-- the fetch has the same result over another memory that has the same word at the pc
fetches-too : {state : Machine} (other_memory : List ℕ) {given : Result ℕ AccessFault} → SameIn state.memory other_memory (span state.hart.pc Word)
    → Fetches state given → Fetches (with_memory state other_memory) given
fetches-too {state} other_memory same_word fetch_is = record {
  pending = fetch_is.pending;
  fetched = sym (fetch_same state.memory other_memory state.hart.csrs.pmp state.hart.mode state.hart.pc same_word) ∙ fetch_is.fetched;
}

-- the word decodes to the same instruction over the other memory
decodes-too : {state : Machine} (other_memory : List ℕ) {word : ℕ} {given : Option Instr} → SameIn state.memory other_memory (span state.hart.pc Word)
    → Decodes state word given → Decodes (with_memory state other_memory) word given
decodes-too other_memory same_word decode_is =
    record { fetch = fetches-too other_memory same_word decode_is.fetch; decoded = decode_is.decoded }

-- the instruction requests the same access over the other memory
op_request-too : {state : Machine} (other_memory : List ℕ) {word : ℕ} {instr : Instr} {access : Request}
    → SameIn state.memory other_memory (span state.hart.pc Word) → Requests state word instr access
    → Requests (with_memory state other_memory) word instr access
op_request-too other_memory same_word requested =
    record { decode = decodes-too other_memory same_word requested.decode; request = requested.request }

-- ---- the results of both steps

-- a step that stores nothing changes neither memory, and has the same outcome over both
unchanged : (state : Machine) (other_memory : List ℕ) (ended : Ended) → ended.outcome.touched.stored ≡ None
    → step (with_memory state other_memory) ≡ over other_memory ended
    → EndAlike state.memory other_memory [] (over state.memory ended) (step (with_memory state other_memory))
unchanged state other_memory ended no_store other_step_is =
    rw other_step_is (record { hart = refl; outcome = refl; here = rw no_store refl; there = rw no_store refl })

-- the end of an instruction has the accesses of the step, whether it retires or traps
touched-ended : (hart : Hart) (touched : Touched) (written : Option ℕ) (finish : Result Hart Trap)
    → (retired_or_trapped hart touched written finish).outcome.touched ≡ touched
unfolding retired_or_trapped
touched-ended hart touched written (Ok after) = refl
touched-ended hart touched written (Err trap) = refl

-- the end of an instruction stores nothing if the step stored nothing
none-stored : (hart : Hart) (touched : Touched) (written : Option ℕ) (finish : Result Hart Trap) → touched.stored ≡ None
    → (retired_or_trapped hart touched written finish).outcome.touched.stored ≡ None
none-stored hart touched written finish no_store = ap (λ (accesses : Touched). accesses.stored) (touched-ended hart touched written finish) ∙ no_store

-- a step that stores changes both memories alike: the stored bytes are the same
stored-alike : (state : Machine) (other_memory : List ℕ) (word : ℕ) (instr : Instr) (address : ℕ) (width : Width) (value : ℕ) (memory : List ℕ)
    → length state.memory ≡ length other_memory → Stores state address width value (Ok memory)
    → step (with_memory state other_memory)
    ≡ over (write_bytes other_memory (address - ram_base) (bytes_of (bytes_in width) value))
    (from_execute state.hart (store_of state.hart address width) word instr 0)
    → EndAlike state.memory other_memory (bytes_of (bytes_in width) value)
    (over memory (from_execute state.hart (store_of state.hart address width) word instr 0)) (step (with_memory state other_memory))
stored-alike state other_memory word instr address width value memory same_size is_stored other_step_is =
    let value_length = length-bytes_of width value in
    let store_is = store_done state.memory state.hart.csrs.pmp (data_mode state.hart) address width value memory is_stored in
    let other_put = store_done other_memory state.hart.csrs.pmp (data_mode state.hart) address width value _
    (store_done_too state.memory other_memory state.hart.csrs.pmp (data_mode state.hart) address width value memory same_size is_stored) in
    rw other_step_is (record {
      hart = refl;
      outcome = refl;
      here = rw touched-ended (value_length, write_at state.memory address _ memory (rw value_length store_is.0) (sym store_is.2));
      there = rw touched-ended (value_length, write_at other_memory address _ _ (rw value_length other_put.0) refl);
    })

-- ---- the step

-- proves that a step depends on no byte outside its memory footprint: over another memory that agrees on it, the step takes the same case
pub confined : (state : Machine) → IsConfined state (step state)
unfolding step from_fetch from_decode from_access
confined state = step_ways state (IsConfined state) (record {
  -- the same interrupt is taken over the other memory
  interrupt = λ interrupt pending_is. record { bytes = []; alike = λ other_memory agrees. unchanged state other_memory _ refl (rw pending_is refl) };
  -- the fetch is refused over the other memory too, which has the same size
  fetch_refused = λ fault fetch_is. record {
    bytes = [];
    alike = λ other_memory agrees.
        let same_refusal = fetch_refused_too state.memory other_memory state.hart.csrs.pmp state.hart.mode state.hart.pc fault agrees.size
        fetch_is.fetched in
        unchanged state other_memory _ refl (rw (fetch_is.pending, same_refusal) refl);
  };
  -- the same word is fetched, and encodes no instruction
  illegal = λ word decode_is. record {
    bytes = [];
    alike = λ other_memory agrees.
        let other_decode_is = decodes-too other_memory agrees.fetched decode_is in
        unchanged state other_memory _ refl (rw (other_decode_is.fetch.pending, other_decode_is.fetch.fetched, other_decode_is.decoded) refl);
  };
  -- the same instruction is executed, without an access
  no_access = λ word instr requested. record {
    bytes = [];
    alike = λ other_memory agrees.
        let equal_on_accesses : EqualOn state.memory other_memory (fetch_of state.hart) = rw touched-ended at agrees in
        unchanged state other_memory _ (none-stored state.hart (fetch_of state.hart) _ _ refl)
        (requested_step _ word instr Nothing (op_request-too other_memory equal_on_accesses.fetched requested));
  };
  -- the same number is loaded
  load = λ word instr address width number requested is_loaded. record {
    bytes = [];
    alike = λ other_memory agrees.
        let equal_on_accesses : EqualOn state.memory other_memory (load_of state.hart address width) = rw touched-ended at agrees in
        let other_step_is = requested_step _ word instr (Load address width) (op_request-too other_memory equal_on_accesses.fetched requested) in
        let same_load : Loads (with_memory state other_memory) address width (Ok number) =
        sym (load_same state.memory other_memory state.hart.csrs.pmp (data_mode state.hart) address width equal_on_accesses.loaded) ∙ is_loaded in
        unchanged state other_memory _ (none-stored state.hart (load_of state.hart address width) _ _ refl) (rw same_load at other_step_is);
  };
  -- the load is refused over the other memory too
  load_refused = λ word instr address width fault requested not_loaded. record {
    bytes = [];
    alike = λ other_memory agrees.
        let other_step_is = requested_step _ word instr (Load address width) (op_request-too other_memory agrees.fetched requested) in
        let same_refusal = load_refused_too state.memory other_memory state.hart.csrs.pmp (data_mode state.hart) address width fault agrees.size
        not_loaded in
        unchanged state other_memory _ refl (rw same_refusal at other_step_is);
  };
  -- the same bytes are stored
  store = λ word instr address width value memory requested is_stored. record {
    bytes = bytes_of (bytes_in width) value;
    alike = λ other_memory agrees.
        let equal_on_accesses : EqualOn state.memory other_memory (store_of state.hart address width) = rw touched-ended at agrees in
        let other_step_is =
        requested_step _ word instr (Store address width value) (op_request-too other_memory equal_on_accesses.fetched requested) in
        let same_store = store_done_too state.memory other_memory state.hart.csrs.pmp (data_mode state.hart) address width value memory
        equal_on_accesses.size is_stored in
        stored-alike state other_memory word instr address width value memory equal_on_accesses.size is_stored (rw same_store at other_step_is);
  };
  -- the store is refused over the other memory too
  store_refused = λ word instr address width value fault requested not_stored. record {
    bytes = [];
    alike = λ other_memory agrees.
        let other_step_is = requested_step _ word instr (Store address width value) (op_request-too other_memory agrees.fetched requested) in
        let same_refusal = store_refused_too state.memory other_memory state.hart.csrs.pmp (data_mode state.hart) address width value fault
        agrees.size not_stored in
        unchanged state other_memory _ refl (rw same_refusal at other_step_is);
  };
})
