-- Case analysis of the trap handler: a claim that holds in each case holds for the trap handler. The claim is about one shared state, or about two
-- shared states with the same table and memories of the same size. In two such states, a trap requests the same call, with the same refusals and the
-- same slot.
use Rattle.std.proofs.Common.{◌≡◌, ℕ, Bool, true, false, List, [], ◌∷◌, length, Option, Some, None, refl, sym, ◌∙◌, subst, inl, inr, arith}
use Rattle.std.specs.Prelude.{◌&&◌, ◌==◌, if◌then◌else◌}
use Rattle.rv_state.specs.declared.cause.Cause.TheVariants as causes
use Rattle.rv_monitor.specs.Prelude.{Call, Cause, Context, Contexts, Create, Destroy, Enclave, EnvironmentCallFromS, Exception, Exit, Host}
use Rattle.rv_monitor.specs.Prelude.{Measure, NotSupported, Refusal, Resume, Run, HartState, Shared, Slots, Stop, Trap, World, call_requested}
use Rattle.rv_monitor.specs.Prelude.{requested_call, call_key, call_number, calls, created, destroyed, exited_context, first_refusal, is_offered}
use Rattle.rv_monitor.specs.Prelude.{saved_context, measured, measured_slot, new_slot, option_case, create_args_of, register, status_of}
use Rattle.rv_monitor.specs.declared.enclave_exit.EnclaveExit.{EnclaveExit}
use Rattle.rv_monitor.proofs.Prelude.{Handled, SlotIsAccepted, MayCreate, MayMeasure, a0, a1, and_parts, returned_to_caller, call_handled, call_refusals}
use Rattle.rv_monitor.proofs.Prelude.{called, cases_Bool, cond-false, cond-true, entered_slot, find, redirected, handled, handled_cause}
use Rattle.rv_monitor.proofs.Prelude.{handled_exception, is_entering, left, line_after, may_create, may_measure, may_take}
use Rattle.rv_monitor.proofs.Prelude.{nat_tests, past_call, performed, reason, refused, same_create_refusals, same_measure_refusals, saved}
use Rattle.rv_monitor.proofs.Prelude.{enclave_state_after, stopped_context, timer_stopped, trapped_mode, trapped_pc, value, with_reprogrammed_hart}

-- ---- the requested call

-- the element that a search finds passes the test
find-passes : {X : Type 0} (test : X → Bool) (xs : List X) (value : X) → find test xs ≡ Some value → test value ≡ true
find-passes test [] value found = cc
find-passes {X} test (first ∷ rest) value found = elim (cases_Bool (test first)) [
  -- the search finds the first element, which passes the test
  | inl first_passes ↦
      let some_values_equal : Some first ≡ Some value = sym (cond-true (test first) _ _ first_passes) ∙ found in
      let values_equal : first ≡ value = cc in
      subst (λ (some_value : X). test some_value ≡ true) values_equal first_passes
  -- the first element fails the test, so the search continues in the rest
  | inr first_fails ↦
      let found_in_rest : find test rest ≡ Some value = sym (cond-false (test first) _ _ first_fails) ∙ found in
      find-passes test rest value found_in_rest
]

-- a call that the search for the call number finds has this number, and is offered to the world
found-call : (world : World) (a7 a6 : ℕ) (key : Bool) (call : Call)
    → (if key then find (λ some_call. call_number some_call == a6 && is_offered world some_call) calls else None) ≡ Some call
    → ((call_number call == a6) ≡ true) × (is_offered world call ≡ true)
found-call world a7 a6 true call found =
    and_parts (call_number call == a6) (is_offered world call)
    (find-passes (λ some_call. call_number some_call == a6 && is_offered world some_call) calls call found)
found-call world a7 a6 false call found = cc

-- a requested call has its number in a6, and is offered to the world
pub requested-is_offered : (world : World) (regs : List ℕ) (call : Call) → requested_call world regs ≡ Some call
    → ((call_number call == register regs 16) ≡ true) × (is_offered world call ≡ true)
unfolding call_requested
requested-is_offered world regs call requested =
    found-call world (register regs 17) (register regs 16) (register regs 17 == call_key) call requested

-- A call that enters an enclave is offered only to the host. Each case holds by computation, or has a false premise.
pub entered-by-host : (world : World) (call : Call) → is_entering (Some call) ≡ true
    → is_offered world call ≡ true → world ≡ Host
entered-by-host Host call is_entry_call offered = refl
entered-by-host (Enclave slot) Run is_entry_call offered = cc
entered-by-host (Enclave slot) Resume is_entry_call offered = cc
entered-by-host (Enclave slot) _ is_entry_call offered = cc

-- if a6 has the number of stop, then a6 does not have the number of exit
stop_is_not_exit : (a6 : ℕ) → (call_number Stop == a6) ≡ true → (a6 == call_number Exit) ≡ false
stop_is_not_exit a6 is_stop = grind (arith, nat_tests)

-- if the number of exit is in a6, then a6 has the number of exit
exit_is_exit : (a6 : ℕ) → (call_number Exit == a6) ≡ true → (a6 == call_number Exit) ≡ true
exit_is_exit a6 number_is_exit = grind (arith, nat_tests)

-- ---- the cases

-- the shared state with this table, memory and saved contexts
abbrev pub shared_of : Slots → List ℕ → Contexts → Shared
shared_of table memory contexts = record { memory = memory; table = table; contexts = contexts }

-- the trap is an ecall from S, and requests this call
pub record Requests (hart_state : HartState) (cause : Cause) (call : Call) : Type 0 where
  -- the cause is an ecall from S
  pub is_call : cause ≡ causes.Exception EnvironmentCallFromS
  -- the registers of the hart request the call
  pub asked : requested_call hart_state.world hart_state.hart.regs ≡ Some call

-- the context that the monitor saves when an enclave exits by this cause, from the state of the hart at the trap
abbrev pub context_saved_by : Cause → HartState → Context
context_saved_by (causes.Interrupt interrupt) hart_state =
    saved hart_state.hart (trapped_pc hart_state) (trapped_mode hart_state)
context_saved_by (causes.Exception exception) hart_state =
    if register hart_state.hart.regs 16 == call_number Exit then exited_context else stopped_context hart_state

-- the hart state at the trap, with the timer line cleared if the cause is the timer interrupt
abbrev pub lowered_by : Cause → HartState → HartState
lowered_by cause hart_state =
    record hart_state { hart = record hart_state.hart { csrs = record hart_state.hart.csrs { timer = line_after cause hart_state.hart.csrs.timer } } }

-- the exit of the running enclave by this cause
abbrev pub enclave_exit_of : Cause → HartState → EnclaveExit
enclave_exit_of cause hart_state = record {
  state = enclave_state_after cause hart_state.hart.regs;
  kept = context_saved_by cause hart_state;
  reason = reason cause hart_state.hart.regs;
  value = value cause hart_state.hart.regs;
}

-- the result of the trap handler if the running enclave exits by this cause
abbrev pub leaving : Cause → HartState → Shared → Handled
leaving cause hart_state shared = left (lowered_by cause hart_state) shared (enclave_exit_of cause hart_state)

-- the result of the trap handler if the host enters the enclave that a0 names
abbrev pub entering : HartState → Shared → Handled
entering hart_state shared =
    entered_slot hart_state shared (a0 hart_state) (saved_context shared.contexts (a0 hart_state)) (past_call hart_state)

-- A proof by cases of a claim about the results of the trap handler on two shared states with the same table.
module _ (hart_state : HartState) (trap : Trap) (table : Slots) (memory other_memory : List ℕ) (contexts other_contexts : Contexts)
    (Claim : Handled → Handled → Type 0) where
  -- the shared state with the first memory and the first saved contexts
  abbrev first_shared : Shared
  first_shared = shared_of table memory contexts

  -- the shared state with the second memory and the second saved contexts
  abbrev second_shared : Shared
  second_shared = shared_of table other_memory other_contexts

  -- the claim holds for the results of one case of the trap handler on both shared states
  abbrev HoldsForBoth : (Shared → Handled) → Type 0
  HoldsForBoth case_result = Claim (case_result first_shared) (case_result second_shared)

  -- the proof obligations of a proof by cases: the claim for each case of the trap handler on both shared states
  pub record CauseCases : Type 0 where
    -- a refusal, or a call that changes nothing in the shared state
    pub answers : (status result : ℕ) → HoldsForBoth (λ shared. returned_to_caller hart_state shared status result)
    -- an accepted create returns 0 and the slot of the new enclave
    pub creates : Requests hart_state trap.cause Create → MayCreate first_shared (create_args_of hart_state.hart.regs)
        → HoldsForBoth (λ shared. returned_to_caller hart_state (created shared (create_args_of hart_state.hart.regs)) 0 (new_slot shared.table))
    -- an accepted destroy returns 0
    pub destroys : Requests hart_state trap.cause Destroy → SlotIsAccepted table Destroy (a0 hart_state)
        → HoldsForBoth (λ shared. returned_to_caller hart_state (destroyed shared (a0 hart_state)) 0 0)
    -- an accepted measure returns 0
    pub measures : Requests hart_state trap.cause Measure
        → MayMeasure first_shared hart_state.hart.csrs.pmp (measured_slot hart_state.world (a0 hart_state)) (a1 hart_state)
        → HoldsForBoth (λ shared.
        returned_to_caller hart_state (measured shared (measured_slot hart_state.world (a0 hart_state)) (a1 hart_state)) 0 0)
    -- an accepted run or resume of the host enters the enclave that a0 names
    pub enters : (call : Call) → Requests hart_state trap.cause call
        → is_entering (Some call) ≡ true → hart_state.world ≡ Host
        → SlotIsAccepted table call (a0 hart_state)
        → HoldsForBoth (entering hart_state)
    -- the running enclave exits by stop, by exit or by the timer interrupt
    pub leaves : HoldsForBoth (leaving trap.cause hart_state)
    -- an exception other than an ecall from S continues at stvec
    pub redirects : HoldsForBoth (λ shared. redirected hart_state shared trap)

  -- the claim holds in each case, and the memories have the same size
  module _ (cases : CauseCases) (same_length : length memory ≡ length other_memory) where
    -- the claim holds for an exit by each cause
    by-leaving : (cause : Cause) → trap.cause ≡ cause → HoldsForBoth (leaving cause hart_state)
    by-leaving cause cause_is = subst (λ (cause : Cause). HoldsForBoth (leaving cause hart_state)) cause_is cases.leaves

    -- the claim holds for each requested call that is not refused
    by-accepted : (call : Call) → Requests hart_state trap.cause call
        → first_refusal (call_refusals hart_state first_shared call) ≡ None
        → HoldsForBoth (λ shared. performed hart_state shared call)
    unfolding performed
    by-accepted Create requests no_refusal =
        cases.creates requests (may_create first_shared (create_args_of hart_state.hart.regs) no_refusal)
    by-accepted Destroy requests no_refusal = cases.destroys requests (may_take table Destroy (a0 hart_state) no_refusal)
    -- run and resume are offered only to the host
    by-accepted Run requests no_refusal =
        let (_, call_is_offered) = requested-is_offered hart_state.world hart_state.hart.regs Run requests.asked in
        cases.enters Run requests refl (entered-by-host hart_state.world Run refl call_is_offered) (may_take table Run (a0 hart_state) no_refusal)
    by-accepted Resume requests no_refusal =
        let (_, call_is_offered) = requested-is_offered hart_state.world hart_state.hart.regs Resume requests.asked in
        cases.enters Resume requests refl (entered-by-host hart_state.world Resume refl call_is_offered)
        (may_take table Resume (a0 hart_state) no_refusal)
    by-accepted Measure requests no_refusal =
        cases.measures requests
        (may_measure first_shared hart_state.hart.csrs.pmp (measured_slot hart_state.world (a0 hart_state)) (a1 hart_state) no_refusal)
    -- a6 has the number of stop, so the exit is that of stop
    by-accepted Stop requests no_refusal =
        let (a6_has_number, _) = requested-is_offered hart_state.world hart_state.hart.regs Stop requests.asked in
        let a6_test = stop_is_not_exit (register hart_state.hart.regs 16) a6_has_number in
        rw a6_test at (by-leaving (causes.Exception EnvironmentCallFromS) requests.is_call)
    -- a6 has the number of exit, so the exit is that of the call exit
    by-accepted Exit requests no_refusal =
        let (a6_has_number, _) = requested-is_offered hart_state.world hart_state.hart.regs Exit requests.asked in
        let a6_test = exit_is_exit (register hart_state.hart.regs 16) a6_has_number in
        rw a6_test at (by-leaving (causes.Exception EnvironmentCallFromS) requests.is_call)

    -- a call has the same refusals in both shared states
    same-refusals : (call : Call) → call_refusals hart_state first_shared call ≡ call_refusals hart_state second_shared call
    same-refusals Create =
        same_create_refusals table memory other_memory contexts other_contexts (create_args_of hart_state.hart.regs) same_length
    same-refusals Measure =
        same_measure_refusals table memory other_memory contexts other_contexts hart_state.hart.csrs.pmp
        (measured_slot hart_state.world (a0 hart_state))
        (a1 hart_state) same_length
    same-refusals _ = refl

    -- the claim holds for a call, refused or not
    by-refusal : (maybe_refusal : Option Refusal) (one other : Handled) → (maybe_refusal ≡ None → Claim one other)
        → Claim (option_case maybe_refusal one (refused hart_state first_shared)) (option_case maybe_refusal other (refused hart_state second_shared))
    -- no refusal applies, so the results are those of the accepted call
    by-refusal None one other claim_if_accepted = claim_if_accepted refl
    -- the refused call returns the status of the refusal
    by-refusal (Some refusal) one other claim_if_accepted = cases.answers (status_of refusal) 0

    -- the claim holds for a requested call with its refusals
    by-called : (call : Call) → Requests hart_state trap.cause call
        → HoldsForBoth (λ shared. called hart_state shared call)
    unfolding called
    by-called call requests =
        -- the call has the same refusals in both shared states
        let refusals_equal = same-refusals call in
        rw (← refusals_equal) (by-refusal (first_refusal (call_refusals hart_state first_shared call)) _ _ (by-accepted call requests))

    -- the claim holds for an ecall from S that requests a call, and for one that requests no call
    by-call : (maybe_call : Option Call) → requested_call hart_state.world hart_state.hart.regs ≡ maybe_call
        → trap.cause ≡ causes.Exception EnvironmentCallFromS
        → HoldsForBoth (λ shared. option_case maybe_call (refused hart_state shared NotSupported) (called hart_state shared))
    -- an ecall that requests no call is refused with `NotSupported`
    by-call None requested by_ecall = cases.answers (status_of NotSupported) 0
    by-call (Some call) requested by_ecall = by-called call (record { is_call = by_ecall; asked = requested })

    -- the claim holds for each exception
    by-exception : (exception : Exception) → trap.cause ≡ causes.Exception exception
        → HoldsForBoth (λ shared. handled_exception hart_state shared trap exception)
    unfolding call_handled
    by-exception EnvironmentCallFromS cause_is =
        by-call (requested_call hart_state.world hart_state.hart.regs) refl cause_is
    by-exception _ cause_is = cases.redirects

    -- the claim holds for each cause
    by-cause : (cause : Cause) → trap.cause ≡ cause → HoldsForBoth (λ shared. handled_cause hart_state shared trap cause)
    unfolding timer_stopped
    by-cause (causes.Interrupt interrupt) cause_is = by-leaving (causes.Interrupt interrupt) cause_is
    by-cause (causes.Exception exception) cause_is = by-exception exception cause_is

    -- if the claim holds in each case, then the claim holds for the trap handler before the trap handler reprograms the PMP of the hart
    pub by_cause_cases : Claim (handled_cause hart_state first_shared trap trap.cause) (handled_cause hart_state second_shared trap trap.cause)
    by_cause_cases = by-cause trap.cause refl

-- ---- the case analysis principles. The trap handler reprograms the PMP entries and mie last

-- the proof obligations for a claim about the trap handler on two shared states, with the PMP entries and mie reprogrammed at the end
abbrev pub HandlerCasesOfBoth : HartState → Trap → Slots → List ℕ → List ℕ → Contexts → Contexts → (Handled → Handled → Type 0) → Type 0
HandlerCasesOfBoth hart_state trap table memory other_memory contexts other_contexts Claim =
    CauseCases hart_state trap table memory other_memory contexts other_contexts
    (λ one other. Claim (with_reprogrammed_hart one) (with_reprogrammed_hart other))

-- a claim about the trap handler on two shared states with one table holds if the claim holds in each case
pub handler_cases_of_both : (hart_state : HartState) (trap : Trap) (table : Slots) (memory other_memory : List ℕ) (contexts other_contexts : Contexts)
    (Claim : Handled → Handled → Type 0)
    → HandlerCasesOfBoth hart_state trap table memory other_memory contexts other_contexts Claim
    → length memory ≡ length other_memory
    → Claim (handled hart_state (shared_of table memory contexts) trap) (handled hart_state (shared_of table other_memory other_contexts) trap)
unfolding handled
handler_cases_of_both hart_state trap table memory other_memory contexts other_contexts Claim cases same_length =
    by_cause_cases hart_state trap table memory other_memory contexts other_contexts
    (λ one other. Claim (with_reprogrammed_hart one) (with_reprogrammed_hart other)) cases same_length

-- the proof obligations for a claim about the trap handler on one shared state
abbrev pub OneHandlerCases : HartState → Trap → Shared → (Handled → Type 0) → Type 0
OneHandlerCases hart_state trap shared Claim =
    HandlerCasesOfBoth hart_state trap shared.table shared.memory shared.memory shared.contexts shared.contexts (λ one _. Claim one)

-- a claim about the trap handler on one shared state holds if the claim holds in each case
pub handler_cases : (hart_state : HartState) (trap : Trap) (shared : Shared) (Claim : Handled → Type 0)
    → OneHandlerCases hart_state trap shared Claim
    → Claim (handled hart_state shared trap)
handler_cases hart_state trap shared Claim cases =
    handler_cases_of_both hart_state trap shared.table shared.memory shared.memory shared.contexts shared.contexts (λ one _. Claim one) cases refl
