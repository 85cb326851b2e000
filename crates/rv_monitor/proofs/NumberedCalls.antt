-- The monitor answers each call with the result, the status and the effect that the call's table in numbers gives (specs/NumberedCalls).
use Rattle.std.proofs.Common.{◌≡◌, ◌≢◌, ℕ, Bool, true, false, List, [], ◌∷◌, Option, Some, None, refl, sym, ◌∙◌, ap, subst, arith}
use Rattle.std.proofs.Math.Bool.{or-false}
use Rattle.std.proofs.lemmas.Bool.Decides.{nat_tests}
use Rattle.std.specs.Prelude.{◌==◌, if◌then◌else◌}
use Rattle.rv_state.specs.declared.cause.Cause.TheVariants as causes
use Rattle.rv_enclaves.specs.CallNumbers.{AreCallNumbers, IsAccepted, call_numbered, call_rows, call_status, first_status, in_numbers, lowest_free}
use Rattle.rv_enclaves.specs.CallNumbers.{shared_with_measurement, shared_with_new, shared_without, slot_named}
use Rattle.rv_enclaves.specs.Table.{free_slot}
use Rattle.rv_enclaves.specs.SlotNumbers.{slot_count}
use Rattle.rv_enclaves.proofs.CallNumbers.{call_numbers, no_success}
use Rattle.rv_enclaves.proofs.AcceptedCalls.{accepts_calls}
use Rattle.rv_monitor.specs.NumberedCalls.{AnswersCalls, CallsSucceed, EntersByCall, InterruptsEnclave, Returns, answered_machine, by_exit_call, by_interrupt, by_stop_call}
use Rattle.rv_monitor.specs.NumberedCalls.{call_at, handed_over_machine, status_at}
use Rattle.rv_state.specs.declared.cause.Interrupt.{Interrupt}
use Rattle.rv_monitor.specs.Exits.{causes_exit, is_exit_call}
use Rattle.rv_monitor.proofs.LeftMachine.{left_machine}
use Rattle.rv_monitor.specs.Prelude.{Call, Cause, Context, Create, Destroy, Enclave, EnvironmentCallFromS, Exit, Hart, Host, Measure, NotSupported, Outcome}
use Rattle.rv_monitor.specs.Prelude.{Refusal, Resume, Run, HartState, Shared, StepOutcome, Stop, Trap, World}
use Rattle.rv_monitor.specs.Prelude.{first_refusal, is_set, measure_refusals, measured, option_case, register}
use Rattle.rv_monitor.specs.Prelude.{call_number, requested_call, saved_context, step}
use Rattle.rv_monitor.proofs.Prelude.{Handled, HartViewInvariant, Invariant, MonitoredMachine, HartView, HartViewStepped, a0, a1, bare_machine}
use Rattle.rv_monitor.proofs.Prelude.{call_handled, call_refusals, called, entered_slot, handled, handled_cause, hart_state_of, hart_view}
use Rattle.rv_monitor.proofs.Prelude.{performed, refused, returned, returned_to_caller, step_of, with_reprogrammed_hart, past_call}
use Rattle.rv_monitor.proofs.Availability.{world_is_host}
use Rattle.rv_monitor.proofs.Entering.{enter_law}
use Rattle.rv_monitor.proofs.Exits.{exits_law}
use Rattle.rv_monitor.proofs.InvariantLemmas.{hart_view_invariant}
use Rattle.rv_monitor.proofs.Leaving.{leave_law}
use Rattle.rv_monitor.proofs.HartCases.{IsTrapping, is_trapping, programmed_by, step_of_view}
use Rattle.rv_monitor.proofs.TrapSteps.{hart_state_after, trapped_step}
use Rattle.rv_monitor.proofs.Alignment.{next_is_aligned}

-- ---- the tables of the refusals

-- if the status of a table is 0, then no refusal of the table applies
no_row_holds : (rows : List (Bool × Refusal)) → first_status (in_numbers rows) ≡ 0 → first_refusal rows ≡ None
no_row_holds [] status_is_0 = refl
no_row_holds ((true, refusal) ∷ rows) status_is_0 = absurd (no_success refusal status_is_0)
no_row_holds ((false, refusal) ∷ rows) status_is_0 = no_row_holds rows status_is_0

-- if the status of a table is not 0, then the monitor returns this status to the caller
refused_by_status : (hart_state : HartState) (shared : Shared) (result : Handled) (rows : List (Bool × Refusal))
    → first_status (in_numbers rows) ≢ 0
    → option_case (first_refusal rows) result (refused hart_state shared) ≡ returned_to_caller hart_state shared (first_status (in_numbers rows)) 0
refused_by_status hart_state shared result [] status_is_not_0 = absurd (status_is_not_0 refl)
refused_by_status hart_state shared result ((true, refusal) ∷ rows) status_is_not_0 = refl
refused_by_status hart_state shared result ((false, refusal) ∷ rows) status_is_not_0 =
    refused_by_status hart_state shared result rows status_is_not_0

-- ---- the trap handler

-- the hart state at an ecall, and the shared state
module _ (hart_state : HartState) (shared : Shared) where
  -- the definitions of the calls agree with the tables in numbers
  numbers : AreCallNumbers shared hart_state.hart.csrs.pmp hart_state.hart.regs
  numbers = call_numbers shared hart_state.hart.csrs.pmp hart_state.hart.regs

  -- the table of a call in numbers
  abbrev rows_of : Call → List (Bool × ℕ)
  rows_of call = call_rows hart_state.world shared hart_state.hart.csrs.pmp hart_state.hart.regs call

  -- the refusals of a call agree with the table of the call in numbers
  refusals_are_rows : (call : Call) → in_numbers (call_refusals hart_state shared call) ≡ rows_of call
  refusals_are_rows Create = numbers.create
  refusals_are_rows Destroy = numbers.destroy (a0 hart_state)
  refusals_are_rows Run = numbers.run (a0 hart_state)
  refusals_are_rows Resume = numbers.resume (a0 hart_state)
  refusals_are_rows Measure =
      ap (λ (slot : ℕ). in_numbers (measure_refusals shared hart_state.hart.csrs.pmp slot (a1 hart_state))) (numbers.slot hart_state.world)
      ∙ numbers.measure (slot_named hart_state.world hart_state.hart.regs) (a1 hart_state)
  refusals_are_rows Stop = refl
  refusals_are_rows Exit = refl

  -- the requested call, which the numbers in a7 and a6 determine
  abbrev numbered_call : Option Call
  numbered_call = call_numbered hart_state.world (register hart_state.hart.regs 17) (register hart_state.hart.regs 16)

  -- the status of the requested call
  abbrev status : ℕ
  status = call_status hart_state.world shared hart_state.hart.csrs.pmp hart_state.hart.regs

  -- no refusal of a call applies, if the status of its table is 0
  no_refusal_if_status_0 : (call : Call) → first_status (rows_of call) ≡ 0
      → first_refusal (call_refusals hart_state shared call) ≡ None
  no_refusal_if_status_0 call status_is_0 =
      no_row_holds (call_refusals hart_state shared call) (ap first_status (refusals_are_rows call) ∙ status_is_0)

  -- if the status of a call's table is not 0, then the monitor refuses the call with this status
  call_is_refused : (call : Call) → first_status (rows_of call) ≢ 0
      → called hart_state shared call ≡ returned_to_caller hart_state shared (first_status (rows_of call)) 0
  unfolding called
  call_is_refused call status_is_not_0 =
      subst
      (λ (rows : List (Bool × ℕ)). first_status rows ≢ 0 → option_case (first_refusal (call_refusals hart_state shared call))
      (performed hart_state shared call)
      (refused hart_state shared) ≡ returned_to_caller hart_state shared (first_status rows) 0) (refusals_are_rows call)
      (refused_by_status hart_state shared (performed hart_state shared call) (call_refusals hart_state shared call)) status_is_not_0

  -- If the status of an ecall is not 0, then the monitor refuses the ecall with this status. The status is 0xFFFFFFFF if the ecall requests no call.
  ecall_is_refused : (maybe_call : Option Call) → option_case maybe_call 0xFFFFFFFF (λ call. first_status (rows_of call)) ≢ 0
      → option_case maybe_call (refused hart_state shared NotSupported) (called hart_state shared)
      ≡ returned_to_caller hart_state shared (option_case maybe_call 0xFFFFFFFF (λ call. first_status (rows_of call))) 0
  ecall_is_refused None status_is_not_0 = refl
  ecall_is_refused (Some call) status_is_not_0 = call_is_refused call status_is_not_0

  -- an ecall whose status is not 0 returns this status and 0, and leaves the shared state unchanged
  pub handler_refuses_call : (trap : Trap) (cause : Cause) → cause ≡ causes.Exception EnvironmentCallFromS → status ≢ 0
      → handled_cause hart_state shared trap cause ≡ returned_to_caller hart_state shared status 0
  unfolding call_handled call_status
  handler_refuses_call trap cause by_ecall status_is_not_0 =
      let requested = numbers.call hart_state.world in rw (by_ecall, requested) (ecall_is_refused numbered_call status_is_not_0)

  -- if the status of an ecall is 0, then the table of the requested call gives the status 0
  status_of_call : (call : Call) (maybe_call : Option Call) → maybe_call ≡ Some call
      → option_case maybe_call 0xFFFFFFFF (λ some_call. first_status (rows_of some_call)) ≡ 0
      → first_status (rows_of call) ≡ 0
  status_of_call call maybe_call call_is status_is_0 =
      subst (λ (maybe_call : Option Call). option_case maybe_call 0xFFFFFFFF (λ some_call. first_status (rows_of some_call)) ≡ 0) call_is status_is_0

  -- no refusal of the requested call applies, if the status is 0
  pub no_refusal_of_call : (call : Call) → numbered_call ≡ Some call → status ≡ 0
      → first_refusal (call_refusals hart_state shared call) ≡ None
  unfolding call_status
  no_refusal_of_call call numbered_is status_is_0 =
      no_refusal_if_status_0 call (status_of_call call numbered_call numbered_is status_is_0)

  -- the call with the numbers in a7 and a6 is the requested call
  pub numbered_call_is_requested : (call : Call) → numbered_call ≡ Some call
      → requested_call hart_state.world hart_state.hart.regs ≡ Some call
  numbered_call_is_requested call numbered_is = numbers.call hart_state.world ∙ numbered_is

  -- the trap handler performs the requested call, if the status is 0
  pub handler_performs_call : (trap : Trap) (cause : Cause) (call : Call) → cause ≡ causes.Exception EnvironmentCallFromS
      → numbered_call ≡ Some call → status ≡ 0
      → handled_cause hart_state shared trap cause ≡ performed hart_state shared call
  unfolding call_handled called
  handler_performs_call trap cause call by_ecall numbered_is status_is_0 =
      let requested = numbered_call_is_requested call numbered_is in
      let no_refusal = no_refusal_of_call call numbered_is status_is_0 in
      -- the cause is an ecall, the ecall requests this call, and no refusal of the call applies
      rw (by_ecall, requested, no_refusal) refl

  -- create returns 0 and the lowest free slot, and puts the new enclave into the shared state
  pub performs_create : performed hart_state shared Create
      ≡ returned_to_caller hart_state (shared_with_new shared hart_state.hart.regs) 0
      (option_case (lowest_free shared.table) slot_count (λ slot. slot))
  unfolding performed free_slot
  performs_create =
      ap (λ (after : Shared). returned_to_caller hart_state after 0
      (option_case (lowest_free shared.table) slot_count (λ slot. slot))) numbers.created

  -- destroy returns 0 and 0, and removes the enclave in the slot of a0 from the shared state
  pub performs_destroy : performed hart_state shared Destroy ≡ returned_to_caller hart_state (shared_without shared (a0 hart_state)) 0 0
  unfolding performed
  performs_destroy =
      ap (λ (shared : Shared). returned_to_caller hart_state shared 0 0) (numbers.destroyed (a0 hart_state))

  -- measure returns 0 and 0, and writes the measurement of the named slot at a1
  pub performs_measure : performed hart_state shared Measure
      ≡ returned_to_caller hart_state (shared_with_measurement shared (slot_named hart_state.world hart_state.hart.regs) (a1 hart_state)) 0 0
  unfolding performed
  performs_measure =
      ap (λ (slot : ℕ). returned_to_caller hart_state (measured shared slot (a1 hart_state)) 0 0) (numbers.slot hart_state.world)
      ∙ ap (λ (shared : Shared). returned_to_caller hart_state shared 0 0)
      (numbers.measured (slot_named hart_state.world hart_state.hart.regs) (a1 hart_state))

  -- the result of an entry of the slot in a0
  abbrev entry : Handled
  entry =
      entered_slot hart_state shared (a0 hart_state) (saved_context shared.contexts (a0 hart_state)) (past_call hart_state)

  -- run enters the slot in a0
  pub performs_run : performed hart_state shared Run ≡ entry
  unfolding performed
  performs_run = refl

  -- resume enters the slot in a0
  pub performs_resume : performed hart_state shared Resume ≡ entry
  unfolding performed
  performs_resume = refl

-- ---- the step of a call that enters or leaves no enclave

-- the view after a return to the caller
abbrev answered_view : HartView → Trap → Shared → ℕ → ℕ → HartView
answered_view view trap shared a0_value a1_value =
    let machine : MonitoredMachine = record { hart_states = view.hart_state ∷ []; shared = view.shared } in
    record { hart_state = hart_state_of 0 (answered_machine 0 machine trap shared a0_value a1_value); shared = shared }

-- the trap handler returns to the caller with values in a0 and a1, and leaves this shared state
module _ (view : HartView) (view_invariant : HartViewInvariant view) (trap : Trap) (shared : Shared) (a0_value a1_value : ℕ) where
  -- the return to the caller gives the view after a return to the caller
  return_gives_answered_view : (outcome : StepOutcome)
      → (returned outcome (with_reprogrammed_hart (returned_to_caller (hart_state_after view.hart_state trap) shared a0_value a1_value))).state
      ≡ answered_view view trap shared a0_value a1_value
  return_gives_answered_view outcome =
      let hart = view.hart_state.hart in
      let mprv = view_invariant.hart.layout.mprv in
      -- the pc after the ecall is a multiple of 4, `|| false` after the test of bit 0 of mcountinhibit changes nothing, and MPRV is 0
      rw (next_is_aligned hart.pc, or-false (is_set hart.csrs.mcountinhibit 0), mprv) refl

  -- the view after the step is the view after a return to the caller, and the step enters no slot
  abbrev StepAnswers : HartViewStepped → Type 0
  StepAnswers after = (after.state ≡ answered_view view trap shared a0_value a1_value) × (after.outcome.entered ≡ None)

  -- if the trap handler returns to the caller, then the step satisfies `StepAnswers`
  handler_answer_is_step_answer : (outcome : StepOutcome)
      → handled_cause (hart_state_after view.hart_state trap) view.shared trap trap.cause
      ≡ returned_to_caller (hart_state_after view.hart_state trap) shared a0_value a1_value
      → StepAnswers (returned outcome (handled (hart_state_after view.hart_state trap) view.shared trap))
  unfolding handled
  handler_answer_is_step_answer outcome handled_is = rw handled_is (return_gives_answered_view outcome, refl)

-- the step of a hart of the machine has this trap
module _ (hart : ℕ) (machine : MonitoredMachine) (invariant : Invariant machine) (trap : Trap) (trapping : IsTrapping hart machine trap) where
  -- the view of the hart before the step
  abbrev view_before : HartView
  view_before = hart_view hart machine

  -- the hart state at the trap, before the trap handler
  abbrev state_at_trap : HartState
  state_at_trap = hart_state_after view_before.hart_state trap

  -- if the trap handler returns to the caller, then the step of the machine returns to the caller
  returns : (shared : Shared) (a0_value a1_value : ℕ)
      → handled_cause state_at_trap machine.shared trap trap.cause ≡ returned_to_caller state_at_trap shared a0_value a1_value
      → Returns hart machine (step_of hart machine) trap shared a0_value a1_value
  returns shared a0_value a1_value handled_is =
      let (view_state_is, view_entered_is) =
      subst (StepAnswers view_before (hart_view_invariant hart machine invariant trapping.has) trap shared a0_value a1_value)
      (sym (trapped_step view_before trap trapping.trapped))
      (handler_answer_is_step_answer view_before (hart_view_invariant hart machine invariant trapping.has) trap shared a0_value a1_value
      (step (bare_machine view_before)).outcome handled_is) in
      (trapping.state ∙ ap (programmed_by hart machine) view_state_is, ap (λ (outcome : Outcome). outcome.entered) trapping.outcome ∙ view_entered_is)

  -- ---- entry

  -- if the trap handler enters the slot in a0, then the enclave in this slot runs after the step
  slot_runs_after_entry : handled_cause state_at_trap machine.shared trap trap.cause ≡ entry state_at_trap machine.shared
      → (hart_state_of hart (step_of hart machine).state).world ≡ Enclave (a0 state_at_trap)
  unfolding handled entered_slot
  slot_runs_after_entry handled_is =
      ap (λ (after : HartViewStepped). after.state.hart_state.world)
      (step_of_view hart machine trapping.has ∙ trapped_step view_before trap trapping.trapped)
      ∙ ap (λ (result : Handled). result.hart_state.world) handled_is

  -- a step of the host after which the enclave runs is an entry of the slot by a call
  entry_is_by_call : (slot : ℕ) → view_before.hart_state.world ≡ Host
      → (step_of hart machine).outcome.step.trap ≡ Some trap
      → (hart_state_of hart (step_of hart machine).state).world ≡ Enclave slot
      → EntersByCall hart machine (step_of hart machine) trap slot
  entry_is_by_call slot from_host traps enclave_runs_after =
      let has_entered = enter_law hart machine invariant slot from_host enclave_runs_after in
      let some_traps_equal : Some has_entered.trap ≡ Some trap = sym has_entered.trapped ∙ traps in
      let traps_equal : has_entered.trap ≡ trap = cc in
      subst (λ (entry_trap : Trap). EntersByCall hart machine (step_of hart machine) entry_trap slot) traps_equal has_entered.call

  -- a call that enters the slot in a0 makes the step of the machine an entry of this slot
  entering_call_enters : (call : Call) → performed state_at_trap machine.shared call ≡ entry state_at_trap machine.shared
      → handled_cause state_at_trap machine.shared trap trap.cause ≡ performed state_at_trap machine.shared call
      → view_before.hart_state.world ≡ Host
      → (step_of hart machine).outcome.step.trap ≡ Some trap
      → EntersByCall hart machine (step_of hart machine) trap (a0 state_at_trap)
  entering_call_enters call performs_entry handled_is from_host trapped =
      entry_is_by_call (a0 state_at_trap) from_host trapped (slot_runs_after_entry (handled_is ∙ performs_entry))

-- ---- exit

-- If an enclave requests exit, then a6 has the number 7. The four tests say whether a7 has the key, and whether a6 has 5, 6 or 7.
exit_numbered : (is_key is_5 is_6 is_7 : Bool)
    → (if is_key then (if is_5 then Some Measure else (if is_6 then Some Stop else (if is_7 then Some Exit else None))) else None) ≡ Some Exit
    → is_7 ≡ true
exit_numbered true false false true is_exit = refl
exit_numbered true true is_6 is_7 is_exit = cc
exit_numbered true false true is_7 is_exit = cc
exit_numbered true false false false is_exit = cc
exit_numbered false is_5 is_6 is_7 is_exit = cc

-- If an enclave requests stop, then a6 has the number 6. The four tests say whether a7 has the key, and whether a6 has 5, 6 or 7.
stop_numbered : (is_key is_5 is_6 is_7 : Bool)
    → (if is_key then (if is_5 then Some Measure else (if is_6 then Some Stop else (if is_7 then Some Exit else None))) else None) ≡ Some Stop
    → is_6 ≡ true
stop_numbered true false true is_7 is_stop = refl
stop_numbered true true is_6 is_7 is_stop = cc
stop_numbered true false false true is_stop = cc
stop_numbered true false false false is_stop = cc
stop_numbered false is_5 is_6 is_7 is_stop = cc

-- a register with the number of stop (6) does not have the number of exit (7)
stop_is_not_exit_number : (a6 : ℕ) → (a6 == 6) ≡ true → (a6 == 7) ≡ false
stop_is_not_exit_number a6 is_six = grind (arith, nat_tests)

-- if an enclave requests stop, then a6 does not have the number of exit
requests_stop-a6 : (slot a7 a6 : ℕ) → call_numbered (Enclave slot) a7 a6 ≡ Some Stop → (a6 == call_number Exit) ≡ false
unfolding call_numbered
requests_stop-a6 slot a7 a6 call_numbered_is =
    stop_is_not_exit_number a6 (stop_numbered (a7 == 0x0A454E43) (a6 == 5) (a6 == 6) (a6 == 7) call_numbered_is)

-- if an enclave requests exit, then a6 has the number of exit
requests_exit-a6 : (slot a7 a6 : ℕ) → call_numbered (Enclave slot) a7 a6 ≡ Some Exit → (a6 == call_number Exit) ≡ true
unfolding call_numbered
requests_exit-a6 slot a7 a6 call_numbered_is =
    exit_numbered (a7 == 0x0A454E43) (a6 == 5) (a6 == 6) (a6 == 7) call_numbered_is

-- an ecall that requests stop or exit is a cause that exits
exit_call_is_exit_cause : (hart_state : HartState) (cause : Cause) (call : Call)
    → cause ≡ causes.Exception EnvironmentCallFromS
    → requested_call hart_state.world hart_state.hart.regs ≡ Some call → is_exit_call (Some call) ≡ true
    → causes_exit hart_state cause ≡ true
exit_call_is_exit_cause hart_state cause call by_ecall requested is_exit = rw (by_ecall, requested) is_exit

-- the enclave of the slot exits from a hart by this trap, to the host with this saved context
module _ (hart : ℕ) (machine : MonitoredMachine) (slot : ℕ) (trap : Trap) (host : Context) where
  -- the hart before the step
  abbrev hart_before : Hart
  hart_before = (hart_state_of hart machine).hart

  -- both definitions of the machine after a stop agree
  machines_after_stop_equal : trap.cause ≡ causes.Exception EnvironmentCallFromS
      → (register hart_before.regs 16 == call_number Exit) ≡ false
      → left_machine hart machine slot trap host ≡ handed_over_machine hart machine slot trap host (by_stop_call hart_before)
  machines_after_stop_equal by_ecall is_not_exit = rw (by_ecall, is_not_exit) refl

  -- both definitions of the machine after an exit agree
  machines_after_exit_equal : trap.cause ≡ causes.Exception EnvironmentCallFromS
      → (register hart_before.regs 16 == call_number Exit) ≡ true
      → left_machine hart machine slot trap host ≡ handed_over_machine hart machine slot trap host (by_exit_call hart_before)
  machines_after_exit_equal by_ecall is_exit = rw (by_ecall, is_exit) refl

  -- both definitions of the machine after a timer interrupt agree
  machines_after_interrupt_equal : (interrupt : Interrupt) → trap.cause ≡ causes.Interrupt interrupt
      → left_machine hart machine slot trap host ≡ handed_over_machine hart machine slot trap host (by_interrupt hart_before)
  machines_after_interrupt_equal interrupt cause_is = rw cause_is refl

-- ---- the law

-- proves that an interrupt of an enclave hands its hart over to the host
pub interrupts_enclave : (hart : ℕ) (machine : MonitoredMachine) → Invariant machine
    → InterruptsEnclave hart machine (step_of hart machine)
interrupts_enclave hart machine invariant slot host trap interrupt runs host_is_saved traps cause_is =
    let (left_machine_is, entered_none) = leave_law hart machine invariant slot host trap runs host_is_saved traps
    (world_is_host _ ((exits_law hart machine invariant slot runs).exits trap traps ∙ ap (causes_exit (hart_state_of hart machine)) cause_is)) in
    (left_machine_is ∙ machines_after_interrupt_equal hart machine slot trap host interrupt cause_is, entered_none)

-- proves the result of each call by its number and its status
pub answers_calls : (hart : ℕ) (machine : MonitoredMachine) → Invariant machine
    → AnswersCalls hart machine (step_of hart machine)
answers_calls hart machine invariant trap traps by_ecall =
    let trapping = is_trapping hart machine trap traps in
    let shared = machine.shared in
    let before = hart_state_of hart machine in
    let hart_state = hart_state_after before trap in
    -- the trap handler performs a requested call with status 0
    let handler_performs : (call : Call) → call_at hart machine ≡ Some call → status_at hart machine ≡ 0
    → handled_cause hart_state shared trap trap.cause ≡ performed hart_state shared call =
    λ call is_call status_is_0. handler_performs_call hart_state shared trap trap.cause call by_ecall is_call status_is_0 in
    -- a stop or an exit leaves the machine that `left_machine` gives, and enters no slot
    let leaves_machine : (slot : ℕ) (host : Context) (call : Call)
    → before.world ≡ Enclave slot → before.host_context ≡ Some host → call_at hart machine ≡ Some call
    → is_exit_call (Some call) ≡ true
    → ((step_of hart machine).state ≡ left_machine hart machine slot trap host) × ((step_of hart machine).outcome.entered ≡ None) =
    λ slot host call runs host_is_saved is_call exits.
    leave_law hart machine invariant slot host trap runs host_is_saved traps
    (world_is_host _ ((exits_law hart machine invariant slot runs).exits trap traps
    ∙ exit_call_is_exit_cause before trap.cause call by_ecall (numbered_call_is_requested before shared call is_call) exits)) in
    -- the numbers in a7 and a6 are those of the call
    let numbers_of_call : (slot : ℕ) (call : Call) → before.world ≡ Enclave slot → call_at hart machine ≡ Some call
    → call_numbered (Enclave slot) (register before.hart.regs 17) (register before.hart.regs 16) ≡ Some call =
    λ slot call runs is_call. subst
    (λ (world : World). call_numbered world (register before.hart.regs 17) (register before.hart.regs 16) ≡ Some call) runs is_call in
    record {
      -- a refused call returns its status
      refuses = λ status_is_not_0.
          returns hart machine invariant trap trapping shared (status_at hart machine) 0
          (handler_refuses_call hart_state shared trap trap.cause by_ecall status_is_not_0);
      -- an accepted create, destroy or measure returns to the caller
      creates =
          λ is_call status_is_0. returns hart machine invariant trap trapping _ 0 _
          (handler_performs Create is_call status_is_0 ∙ performs_create hart_state shared);
      destroys =
          λ is_call status_is_0. returns hart machine invariant trap trapping _ 0 0
          (handler_performs Destroy is_call status_is_0 ∙ performs_destroy hart_state shared);
      measures =
          λ is_call status_is_0. returns hart machine invariant trap trapping _ 0 0
          (handler_performs Measure is_call status_is_0 ∙ performs_measure hart_state shared);
      -- an accepted run or resume enters the enclave that a0 names
      runs = λ host is_call status_is_0.
          entering_call_enters hart machine invariant trap trapping Run (performs_run hart_state shared)
          (handler_performs Run is_call status_is_0) host traps;
      resumes = λ host is_call status_is_0.
          entering_call_enters hart machine invariant trap trapping Resume (performs_resume hart_state shared)
          (handler_performs Resume is_call status_is_0) host traps;
      -- the number in a6 decides between stop and exit
      stops = λ slot host runs host_is_saved is_call.
          let (left_machine_is, entered_none) = leaves_machine slot host Stop runs host_is_saved is_call refl in
          let a6_test =
          requests_stop-a6 slot (register before.hart.regs 17) (register before.hart.regs 16) (numbers_of_call slot Stop runs is_call) in
          (left_machine_is ∙ machines_after_stop_equal hart machine slot trap host by_ecall a6_test, entered_none);
      exits = λ slot host runs host_is_saved is_call.
          let (left_machine_is, entered_none) = leaves_machine slot host Exit runs host_is_saved is_call refl in
          let a6_test =
          requests_exit-a6 slot (register before.hart.regs 17) (register before.hart.regs 16) (numbers_of_call slot Exit runs is_call) in
          (left_machine_is ∙ machines_after_exit_equal hart machine slot trap host by_ecall a6_test, entered_none);
    }

-- proves that each call succeeds under its conditions in numbers
pub calls_succeed : (hart : ℕ) (machine : MonitoredMachine) → Invariant machine
    → CallsSucceed hart machine (step_of hart machine)
calls_succeed hart machine invariant trap traps by_ecall =
    let before = hart_state_of hart machine in
    let regs = before.hart.regs in
    let call_results = answers_calls hart machine invariant trap traps by_ecall in
    let accepted_calls = accepts_calls machine.shared before.hart.csrs.pmp regs in
    -- `AcceptsCall world call`: the monitor accepts this call of this world
    let AcceptsCall : World → Call → Type 0 =
    λ world call. IsAccepted world machine.shared before.hart.csrs.pmp regs call in
    let accepted_of_world : (world : World) (call : Call) → before.world ≡ world → AcceptsCall world call → AcceptsCall before.world call =
    λ world call world_is_enclave. subst (λ (world : World). AcceptsCall world call) (sym world_is_enclave) in
    record {
      -- the conditions of each call imply that the monitor accepts the call, which then has the result of an accepted call
      create = λ slot host is_request conditions.
          -- the monitor accepts the create, and the new enclave gets this slot
          let (is_accepted, new_slot_is) = accepted_calls.create slot is_request conditions in
          let accepted = accepted_of_world Host Create host is_accepted in
          subst
          (λ (maybe_number : Option ℕ). Returns hart machine (step_of hart machine) trap (shared_with_new machine.shared regs) 0
          (option_case maybe_number slot_count (λ new_slot. new_slot)))
          new_slot_is (call_results.creates accepted.requested accepted.status);
      destroy = λ host is_request conditions.
          let accepted = accepted_of_world Host Destroy host (accepted_calls.destroy is_request conditions) in
          call_results.destroys accepted.requested accepted.status;
      run = λ host is_request conditions.
          let accepted = accepted_of_world Host Run host (accepted_calls.run is_request conditions) in
          call_results.runs host accepted.requested accepted.status;
      resume = λ host is_request conditions.
          let accepted = accepted_of_world Host Resume host (accepted_calls.resume is_request conditions) in
          call_results.resumes host accepted.requested accepted.status;
      measure = λ is_request conditions.
          let accepted = accepted_calls.measure before.world is_request conditions in
          call_results.measures accepted.requested accepted.status;
      -- stop and exit have no conditions, except that the host has a saved context
      stop = λ slot host runs host_is_saved is_request.
          let accepted = accepted_of_world (Enclave slot) Stop runs (accepted_calls.stop slot is_request) in
          call_results.stops slot host runs host_is_saved accepted.requested;
      exit = λ slot host runs host_is_saved is_request.
          let accepted = accepted_of_world (Enclave slot) Exit runs (accepted_calls.exit slot is_request) in
          call_results.exits slot host runs host_is_saved accepted.requested;
    }
