-- This file is the case analysis over a step: a property that holds of each way in which a step can go holds of every step.
use Rattle.std.proofs.Common.{◌≡◌, ℕ, List, Option, Some, None, Result, Ok, Err, refl, ◌∙◌, sym}
use Rattle.rv_word.specs.Cases.{option_case, result_case}
use Rattle.rv_word.specs.declared.width.Width.{Width}
use Rattle.rv_encoding.specs.declared.instr.Instr.{Instr}
use Rattle.rv_encoding.specs.Decoding.{decoded}
use Rattle.rv_memory.specs.Accesses.{loaded, fetched, stored}
use Rattle.rv_memory.proofs.AccessLaws.{fetch_done, load_done, store_done}
use Rattle.rv_memory.specs.declared.access_fault.AccessFault.{AccessFault}
use Rattle.rv_memory.specs.declared.touched.Touched.{Touched}
use Rattle.rv_state.specs.Interrupts.{pending}
use Rattle.rv_state.specs.declared.cause.Exception.TheVariants.{InstructionAccessFault, LoadAccessFault, StoreAccessFault}
use Rattle.rv_state.specs.declared.cause.Interrupt.{Interrupt}
use Rattle.rv_hart.proofs.InstructionCases.{store_retires}
use Rattle.rv_hart.specs.CsrInstructions.{written_csr}
use Rattle.rv_hart.specs.Exceptions.{illegal, access_fault, interrupted}
use Rattle.rv_hart.specs.Hart.{advanced}
use Rattle.rv_hart.specs.HartRecord.{Hart}
use Rattle.rv_hart.specs.Instructions.{request, executed}
use Rattle.rv_hart.specs.Permitted.{MayTouchAll}
use Rattle.rv_hart.specs.Machine.{Machine, Ended, Stepped, over}
use Rattle.rv_hart.specs.Step.{step, from_fetch, from_decode, from_access, retired_or_trapped, data_mode, from_execute}
use Rattle.rv_hart.specs.Step.{trap_end, retired_end, fetch_of, load_of, store_of, nothing}
use Rattle.rv_hart.specs.declared.request.Request.{Request}
use Rattle.rv_hart.specs.declared.request.Request.TheVariants.{Nothing, Load, Store}
use Rattle.rv_hart.specs.declared.trap.Trap.{Trap}

-- ---- the ways of a step

-- no interrupt is taken, and the fetch at the pc has the result `given`
pub record Fetches (state : Machine) (given : Result ℕ AccessFault) : Type 0 where
  -- no interrupt is pending
  pub pending : pending state.hart.csrs state.hart.mode ≡ None
  -- the fetch has this result
  pub fetched : fetched state.memory state.hart.csrs.pmp state.hart.mode state.hart.pc ≡ given

-- the fetched word decodes to the instruction `given`, or to none
pub record Decodes (state : Machine) (word : ℕ) (given : Option Instr) : Type 0 where
  -- the word is fetched
  pub fetch : Fetches state (Ok word)
  -- the word decodes to this instruction, or to none
  pub decoded : decoded word ≡ given

-- the decoded instruction requests this access
pub record Requests (state : Machine) (word : ℕ) (instr : Instr) (access : Request) : Type 0 where
  -- the fetched word decodes to the instruction
  pub decode : Decodes state word (Some instr)
  -- the instruction requests the access
  pub request : request instr state.hart ≡ access

-- the load of the step has the result `given`
abbrev pub Loads : Machine → ℕ → Width → Result ℕ AccessFault → Type 0
Loads state address width given = loaded state.memory state.hart.csrs.pmp (data_mode state.hart) address width ≡ given

-- the store of the step has the result `given`
abbrev pub Stores : Machine → ℕ → Width → ℕ → Result (List ℕ) AccessFault → Type 0
Stores state address width value given = stored state.memory state.hart.csrs.pmp (data_mode state.hart) address width value ≡ given

-- the claim P holds after each way in which a step can go: an interrupt, a refused access, an illegal word, or an instruction
pub record StepWays (state : Machine) (P : Stepped → Type 0) : Type 0 where
  -- a pending interrupt is taken
  pub interrupt : (interrupt : Interrupt) → pending state.hart.csrs state.hart.mode ≡ Some interrupt
      → P (over state.memory (trap_end state.hart nothing (interrupted interrupt)))
  -- the fetch is refused
  pub fetch_refused : (fault : AccessFault) → Fetches state (Err fault)
      → P (over state.memory (trap_end state.hart nothing (access_fault InstructionAccessFault state.hart.pc)))
  -- the fetched word encodes no instruction
  pub illegal : (word : ℕ) → Decodes state word None → P (over state.memory (trap_end state.hart (fetch_of state.hart) (illegal word)))
  -- the instruction requests no access
  pub no_access : (word : ℕ) (instr : Instr) → Requests state word instr Nothing
      → P (over state.memory (from_execute state.hart (fetch_of state.hart) word instr 0))
  -- the load of the instruction succeeds
  pub load : (word : ℕ) (instr : Instr) (address : ℕ) (width : Width) (number : ℕ) → Requests state word instr (Load address width)
      → Loads state address width (Ok number) → P (over state.memory (from_execute state.hart (load_of state.hart address width) word instr number))
  -- the load of the instruction is refused
  pub load_refused : (word : ℕ) (instr : Instr) (address : ℕ) (width : Width) (fault : AccessFault) → Requests state word instr (Load address width)
      → Loads state address width (Err fault)
      → P (over state.memory (trap_end state.hart (fetch_of state.hart) (access_fault LoadAccessFault address)))
  -- the store of the instruction succeeds
  pub store : (word : ℕ) (instr : Instr) (address : ℕ) (width : Width) (value : ℕ) (memory : List ℕ)
      → Requests state word instr (Store address width value)
      → Stores state address width value (Ok memory) → P (over memory (from_execute state.hart (store_of state.hart address width) word instr 0))
  -- the store of the instruction is refused
  pub store_refused : (word : ℕ) (instr : Instr) (address : ℕ) (width : Width) (value : ℕ) (fault : AccessFault)
      → Requests state word instr (Store address width value) → Stores state address width value (Err fault)
      → P (over state.memory (trap_end state.hart (fetch_of state.hart) (access_fault StoreAccessFault address)))

-- a claim P that holds after each way in which a step can go
module _ (state : Machine) (P : Stepped → Type 0) (ways : StepWays state P) where
  -- the claim P holds after a load, whatever its result is
  by-load : (word : ℕ) (instr : Instr) (address : ℕ) (width : Width) → Requests state word instr (Load address width)
      → (result : Result ℕ AccessFault) → Loads state address width result
      → P (result_case result (λ number. over state.memory (from_execute state.hart (load_of state.hart address width) word instr number))
      (λ _. over state.memory (trap_end state.hart (fetch_of state.hart) (access_fault LoadAccessFault address))))
  by-load word instr address width requested (Ok number) loads = ways.load word instr address width number requested loads
  by-load word instr address width requested (Err fault) loads = ways.load_refused word instr address width fault requested loads

  -- the claim P holds after a store, whatever its result is
  by-store : (word : ℕ) (instr : Instr) (address : ℕ) (width : Width) (value : ℕ) → Requests state word instr (Store address width value)
      → (result : Result (List ℕ) AccessFault) → Stores state address width value result
      → P (result_case result (λ after. over after (from_execute state.hart (store_of state.hart address width) word instr 0))
      (λ _. over state.memory (trap_end state.hart (fetch_of state.hart) (access_fault StoreAccessFault address))))
  by-store word instr address width value requested (Ok memory) stores = ways.store word instr address width value memory requested stores
  by-store word instr address width value requested (Err fault) stores = ways.store_refused word instr address width value fault requested stores

  -- the claim P holds after an instruction, whatever access it requests
  by-request : (word : ℕ) (instr : Instr) (access : Request) → Requests state word instr access
      → P (from_access state.hart state.memory word instr access)
  unfolding from_access
  by-request word instr Nothing requested = ways.no_access word instr requested
  by-request word instr (Load address width) requested = by-load word instr address width requested _ refl
  by-request word instr (Store address width value) requested = by-store word instr address width value requested _ refl

  -- the claim P holds after a fetch that returned a word, whether the word encodes an instruction or not
  by-decode : (word : ℕ) → Fetches state (Ok word) → (instr_found : Option Instr) → decoded word ≡ instr_found
      → P (option_case instr_found (over state.memory (trap_end state.hart (fetch_of state.hart) (illegal word)))
      (λ instr. from_access state.hart state.memory word instr (request instr state.hart)))
  by-decode word fetch_is None decoded_is = ways.illegal word (record { fetch = fetch_is; decoded = decoded_is })
  by-decode word fetch_is (Some instr) decoded_is =
      by-request word instr _ (record { decode = record { fetch = fetch_is; decoded = decoded_is }; request = refl })

  -- the claim P holds after a fetch, whatever its result is
  by-fetch : (result : Result ℕ AccessFault) → Fetches state result → P (result_case result (from_decode state.hart state.memory)
      (λ _. over state.memory (trap_end state.hart nothing (access_fault InstructionAccessFault state.hart.pc))))
  unfolding from_decode
  by-fetch (Ok word) fetch_is = by-decode word fetch_is _ refl
  by-fetch (Err fault) fetch_is = ways.fetch_refused fault fetch_is

  -- the claim P holds after the step, whether an interrupt is pending or not
  by-interrupt : (interrupt_found : Option Interrupt) → pending state.hart.csrs state.hart.mode ≡ interrupt_found
      → P (option_case interrupt_found (from_fetch state.hart state.memory)
      (λ interrupt. over state.memory (trap_end state.hart nothing (interrupted interrupt))))
  unfolding from_fetch
  by-interrupt None pending_is = by-fetch _ (record { pending = pending_is; fetched = refl })
  by-interrupt (Some interrupt) pending_is = ways.interrupt interrupt pending_is

  -- a claim about a step holds if it holds after each way in which a step can go
  pub step_ways : P (step state)
  unfolding step
  step_ways = by-interrupt _ refl

-- the step of an instruction that requests an access is the step of this access
pub requested_step : (state : Machine) (word : ℕ) (instr : Instr) (access : Request) → Requests state word instr access
    → step state ≡ from_access state.hart state.memory word instr access
unfolding step from_fetch from_decode
requested_step state word instr access requested =
    rw (requested.decode.fetch.pending, requested.decode.fetch.fetched, requested.decode.decoded, requested.request) refl

-- ---- in four cases

-- The four cases of a step. It ends in a trap, or an instruction retires that made no access, loaded, or stored. In each case the PMP entries
-- permit every access of the step.
pub record Cases (state : Machine) (P : Stepped → Type 0) : Type 0 where
  -- the step ends in a trap and stores nothing
  pub trap : (touched : Touched) (trap : Trap) → MayTouchAll state touched → touched.stored ≡ None
      → P (over state.memory (trap_end state.hart touched trap))
  -- an instruction without an access retires
  pub no_access : (instr : Instr) (word : ℕ) (after : Hart) → MayTouchAll state (fetch_of state.hart) → executed state.hart word 0 instr ≡ Ok after
      → P (over state.memory (retired_end state.hart (fetch_of state.hart) (written_csr instr) after))
  -- an instruction that loaded retires
  pub load : (instr : Instr) (word address : ℕ) (width : Width) (number : ℕ) (after : Hart) → MayTouchAll state (load_of state.hart address width)
      → Loads state address width (Ok number) → executed state.hart word number instr ≡ Ok after
      → P (over state.memory (retired_end state.hart (load_of state.hart address width) (written_csr instr) after))
  -- an instruction that stored retires
  pub store : (instr : Instr) (word address : ℕ) (width : Width) (value : ℕ) (memory : List ℕ) (after : Hart)
      → MayTouchAll state (store_of state.hart address width)
      → Stores state address width value (Ok memory) → executed state.hart word 0 instr ≡ Ok after
      → P (over memory (retired_end state.hart (store_of state.hart address width) (written_csr instr) after))

-- a claim about the end of a step holds if it holds after the instruction retires and after it traps
by-end : (hart : Hart) (touched : Touched) (written : Option ℕ) (P : Ended → Type 0) (finish : Result Hart Trap)
    → ((after : Hart) → finish ≡ Ok after → P (retired_end hart touched written after))
    → ((trap : Trap) → finish ≡ Err trap → P (trap_end hart touched trap)) → P (retired_or_trapped hart touched written finish)
unfolding retired_or_trapped
by-end hart touched written P (Ok after) if_retires if_traps = if_retires after refl
by-end hart touched written P (Err trap) if_retires if_traps = if_traps trap refl

-- a step that accesses nothing is permitted
touches-nothing : (state : Machine) → MayTouchAll state nothing
touches-nothing state = record { fetched = tt; loaded = tt; stored = tt }

-- a step that only fetches is permitted, if the fetch succeeds
touches-fetch : (state : Machine) (word : ℕ) → Fetches state (Ok word) → MayTouchAll state (fetch_of state.hart)
touches-fetch state word fetch_is =
    record { fetched = fetch_done state.memory state.hart.csrs.pmp state.hart.mode state.hart.pc word fetch_is.fetched; loaded = tt; stored = tt }

-- a step that fetches and loads is permitted, if both succeed
touches-load : (state : Machine) (word address : ℕ) (width : Width) (number : ℕ) → Fetches state (Ok word) → Loads state address width (Ok number)
    → MayTouchAll state (load_of state.hart address width)
touches-load state word address width number fetch_is is_loaded =
    let load_permitted = load_done state.memory state.hart.csrs.pmp (data_mode state.hart) address width number is_loaded in
    record { fetched = (touches-fetch state word fetch_is).fetched; loaded = load_permitted; stored = tt }

-- a step that fetches and stores is permitted, if both succeed
touches-store : (state : Machine) (word address : ℕ) (width : Width) (value : ℕ) (memory : List ℕ) → Fetches state (Ok word)
    → Stores state address width value (Ok memory)
    → MayTouchAll state (store_of state.hart address width)
touches-store state word address width value memory fetch_is is_stored =
    let store_permitted = store_done state.memory state.hart.csrs.pmp (data_mode state.hart) address width value memory is_stored in
    record { fetched = (touches-fetch state word fetch_is).fetched; loaded = tt; stored = (store_permitted.0, store_permitted.1) }

-- an instruction whose store succeeds does not trap
stores-without-trap : (state : Machine) (word : ℕ) (instr : Instr) (address : ℕ) (width : Width) (value : ℕ) (trap : Trap) (P : Type 0)
    → Requests state word instr (Store address width value) → executed state.hart word 0 instr ≡ Err trap → P
stores-without-trap state word instr address width value trap P requested executed_is =
    let retires : executed state.hart word 0 instr ≡ Ok (advanced state.hart) = store_retires instr state.hart address value word width
    requested.request in
    let ok_is_err : Ok (advanced state.hart) ≡ Err trap = sym retires ∙ executed_is in cc

-- a claim about a step holds if it holds in each of the four cases of a step
pub step_cases : (state : Machine) (P : Stepped → Type 0) → Cases state P → P (step state)
-- each way in which a step can go is one of the four cases
step_cases state P cases = step_ways state P (record {
  interrupt = λ interrupt pending_is. cases.trap nothing _ (touches-nothing state) refl;
  fetch_refused = λ fault refusal_is. cases.trap nothing _ (touches-nothing state) refl;
  illegal = λ word decode_is. cases.trap (fetch_of state.hart) _ (touches-fetch state word decode_is.fetch) refl;
  no_access = λ word instr requested.
      let is_permitted = touches-fetch state word requested.decode.fetch in
      by-end state.hart (fetch_of state.hart) (written_csr instr) (λ ended. P (over state.memory ended)) (executed state.hart word 0 instr)
      (λ after executed_is. cases.no_access instr word after is_permitted executed_is) (λ trap executed_is. cases.trap _ trap is_permitted refl);
  load = λ word instr address width number requested is_loaded.
      let is_permitted = touches-load state word address width number requested.decode.fetch is_loaded in
      by-end state.hart (load_of state.hart address width) (written_csr instr) (λ ended. P (over state.memory ended))
      (executed state.hart word number instr)
      (λ after executed_is. cases.load instr word address width number after is_permitted is_loaded executed_is)
      (λ trap executed_is. cases.trap _ trap is_permitted refl);
  load_refused = λ word instr address width fault requested not_loaded. cases.trap (fetch_of state.hart) _
      (touches-fetch state word requested.decode.fetch) refl;
  store = λ word instr address width value memory requested is_stored.
      let is_permitted = touches-store state word address width value memory requested.decode.fetch is_stored in
      by-end state.hart (store_of state.hart address width) (written_csr instr) (λ ended. P (over memory ended)) (executed state.hart word 0 instr)
      (λ after executed_is. cases.store instr word address width value memory after is_permitted is_stored executed_is)
      (λ trap executed_is. stores-without-trap state word instr address width value trap _ requested executed_is);
  store_refused = λ word instr address width value fault requested not_stored. cases.trap (fetch_of state.hart) _
      (touches-fetch state word requested.decode.fetch) refl;
})

-- a claim about the hart alone has two cases: the step ends in a trap, or an instruction retires
pub by_hart : (state : Machine) (P : Stepped → Type 0)
    → ((touched : Touched) (trap : Trap) → P (over state.memory (trap_end state.hart touched trap)))
    → ((memory : List ℕ) (touched : Touched) (instr : Instr) (word loaded : ℕ) (after : Hart) → executed state.hart word loaded instr ≡ Ok after
    → P (over memory (retired_end state.hart touched (written_csr instr) after)))
    → P (step state)
by_hart state P if_traps if_retires = step_cases state P (record {
  trap = λ touched trap is_permitted no_store. if_traps touched trap;
  no_access = λ instr word after is_permitted executed_is. if_retires _ _ instr word 0 after executed_is;
  load = λ instr word address width number after is_permitted load_is executed_is. if_retires _ _ instr word number after executed_is;
  store = λ instr word address width value memory after is_permitted store_is executed_is. if_retires _ _ instr word 0 after executed_is;
})
