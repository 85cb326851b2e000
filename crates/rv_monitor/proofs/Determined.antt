-- The laws of a step determine the step: two results of one step that both obey the laws are equal.
use Rattle.std.proofs.Common.{◌≡◌, ◌≢◌, ◌<◌, ℕ, true, false, Option, Some, None, refl, sym, ◌∙◌, ap, inl, inr}
use Rattle.std.specs.Prelude.{is_some, not}
use Rattle.rv_state.specs.declared.cause.Cause.TheVariants as causes
use Rattle.rv_state.specs.declared.cause.Interrupt.{Interrupt}
use Rattle.rv_enclaves.specs.CallNumbers.{call_status}
use Rattle.rv_monitor.specs.Determined.{DeterminedLaw, ObeysCases}
use Rattle.rv_monitor.specs.Exits.{is_redirected}
use Rattle.rv_monitor.specs.NumberedCalls.{AnswersInNumbers, EntersByCall, call_at, entered_by_call, status_at}
use Rattle.rv_monitor.specs.Prelude.{Call, Cause, Context, Create, Destroy, Enclave, EnvironmentCallFromS, Exit, HartState, Host, Measure, Outcome}
use Rattle.rv_monitor.specs.Prelude.{Resume, Run, StepOutcome, Stop, Trap, World, is_host, is_offered, register}
use Rattle.rv_monitor.proofs.Prelude.{Invariant, MonitoredMachine, MonitoredStepped, cases_eq, count_of, hart_state_of, step_of}
use Rattle.rv_monitor.proofs.Exits.{exits_law}
use Rattle.rv_monitor.proofs.HandlerCases.{requested-is_offered}
use Rattle.rv_monitor.proofs.NumberedCalls.{answers_calls, numbered_call_is_requested, interrupts_enclave}
use Rattle.rv_monitor.proofs.PlainSteps.{host_continues, steps_plainly}

-- the status of an unknown call is not 0
unknown_status_not_zero : (status : ℕ) → status ≡ 0xFFFFFFFF → status ≢ 0
unknown_status_not_zero status all_ones is_zero = cc

-- two results are equal if their states, their step outcomes and their entered slots are equal
results_equal : (stepped other_stepped : MonitoredStepped) → stepped.state ≡ other_stepped.state
    → stepped.outcome.step ≡ other_stepped.outcome.step
    → stepped.outcome.entered ≡ other_stepped.outcome.entered → stepped ≡ other_stepped
results_equal stepped other_stepped same_state same_step same_entered =
    -- the three parts are replaced one after the other
    let states_replaced : stepped ≡ record { state = other_stepped.state; outcome = stepped.outcome } =
    ap (λ (machine : MonitoredMachine). let after : MonitoredStepped = record { state = machine; outcome = stepped.outcome } in after) same_state in
    let step_outcomes_replaced : stepped.outcome ≡ record { step = other_stepped.outcome.step; entered = stepped.outcome.entered } =
    ap (λ (outcome : StepOutcome). let monitored : Outcome = record { step = outcome; entered = stepped.outcome.entered } in monitored) same_step in
    let same_outcome : stepped.outcome ≡ other_stepped.outcome =
    step_outcomes_replaced ∙ ap (λ (entered_slot : Option ℕ). let monitored : Outcome = record {
      step = other_stepped.outcome.step;
      entered = entered_slot;
    } in monitored) same_entered in
    states_replaced ∙ ap (λ (monitored : Outcome). let after : MonitoredStepped = record {
      state = other_stepped.state;
      outcome = monitored;
    } in after) same_outcome

-- two results of one step both obey the five laws
module _ (hart : ℕ) (machine : MonitoredMachine) (invariant : Invariant machine) (in_range : hart < count_of machine)
    (stepped other_stepped : MonitoredStepped)
    (first_obeys : ObeysCases hart machine stepped) (second_obeys : ObeysCases hart machine other_stepped) where
  -- both results have the same state and the same entered slot
  abbrev SameResult : Type 0
  SameResult = (stepped.state ≡ other_stepped.state) × (stepped.outcome.entered ≡ other_stepped.outcome.entered)

  -- two results that have a given state and a given entered slot are equal
  same_if_given : {state : MonitoredMachine} {entered : Option ℕ}
      → (stepped.state ≡ state) × (stepped.outcome.entered ≡ entered)
      → (other_stepped.state ≡ state) × (other_stepped.outcome.entered ≡ entered) → SameResult
  same_if_given (first_state_is, first_entered_is) (second_state_is, second_entered_is) =
      (first_state_is ∙ sym second_state_is, first_entered_is ∙ sym second_entered_is)

  -- two results that are both an entry of one slot by a call are equal
  same_entry : (trap : Trap) (slot : ℕ) → EntersByCall hart machine stepped trap slot
      → EntersByCall hart machine other_stepped trap slot → SameResult
  same_entry trap slot first_entry second_entry =
      let some_contexts_equal : Some first_entry.context ≡ Some second_entry.context =
      sym first_entry.kept ∙ second_entry.kept in
      let contexts_equal : first_entry.context ≡ second_entry.context = cc in (
        first_entry.state ∙ ap (entered_by_call hart machine slot trap) contexts_equal ∙ sym second_entry.state,
        first_entry.entered
            ∙ sym second_entry.entered,
      )

  -- the state of the hart before the step
  abbrev hart_state : HartState
  hart_state = hart_state_of hart machine

  -- both step outcomes are the outcome of the bare step
  same_step_outcome : stepped.outcome.step ≡ other_stepped.outcome.step
  same_step_outcome = (first_obeys.plain in_range).outcome ∙ sym (second_obeys.plain in_range).outcome

  -- while an enclave runs, the hart has a saved context of the host
  with_saved_host : (slot : ℕ) (Claim : Type 0) → hart_state.world ≡ Enclave slot
      → ((host : Context) → hart_state.host_context ≡ Some host → Claim)
      → Claim
  with_saved_host slot Claim runs claim_for_host = by_context hart_state.host_context refl where
    -- a claim that holds for each saved context of the host holds for a hart that runs an enclave
    by_context : (maybe_context : Option Context) → hart_state.host_context ≡ maybe_context → Claim
    by_context None context_is =
        let contradiction : false ≡ true =
        sym (ap (λ (maybe_context : Option Context). is_some maybe_context) context_is)
        ∙ (invariant.hart_states hart in_range).host.kept
        ∙ ap (λ (world : World). not (is_host world)) runs in
        cc
    by_context (Some host) context_is = claim_for_host host context_is

  -- the step has this trap in both results
  module _ (trap : Trap) (traps : stepped.outcome.step.trap ≡ Some trap) (other_traps : other_stepped.outcome.step.trap ≡ Some trap) where
    -- two results of an interrupt of an enclave are equal, because the interrupt exits the enclave
    same_by_interrupt : (interrupt : Interrupt) → trap.cause ≡ causes.Interrupt interrupt → (world : World)
        → hart_state.world ≡ world → SameResult
    same_by_interrupt interrupt cause_is Host host =
        absurd ((first_obeys.host host).uninterrupted trap interrupt traps cause_is)
    same_by_interrupt interrupt cause_is (Enclave slot) world_is =
        with_saved_host slot SameResult world_is (λ host host_is_saved.
        same_if_given (first_obeys.interrupts slot host trap interrupt world_is host_is_saved traps cause_is)
        (second_obeys.interrupts slot host trap interrupt world_is host_is_saved other_traps cause_is))

    -- two results of a redirected exception are equal
    same_by_redirection : is_redirected trap.cause ≡ true → (world : World) → hart_state.world ≡ world → SameResult
    same_by_redirection is_redirection Host host_runs =
        same_if_given ((first_obeys.host host_runs).redirects trap traps is_redirection)
        ((second_obeys.host host_runs).redirects trap other_traps is_redirection)
    same_by_redirection is_redirection (Enclave slot) world_is =
        same_if_given ((first_obeys.exits slot world_is).redirects trap traps is_redirection)
        ((second_obeys.exits slot world_is).redirects trap other_traps is_redirection)

    -- the trap is an ecall from S, and both results have the answer in numbers
    module _ (first_answers : AnswersInNumbers hart machine stepped trap) (second_answers : AnswersInNumbers hart machine other_stepped trap) where
      -- a call that `call_at` finds is offered to the running world
      found_call_is_offered : (call : Call) → call_at hart machine ≡ Some call → is_offered hart_state.world call ≡ true
      found_call_is_offered call requested =
          let (_, call_is_offered) =
          requested-is_offered hart_state.world hart_state.hart.regs call (numbered_call_is_requested hart_state machine.shared call requested) in
          call_is_offered

      -- two results of a run or resume are equal
      same_by_entry : (call : Call) (world : World) → hart_state.world ≡ world → is_offered hart_state.world call ≡ true
          → (hart_state.world ≡ Host → EntersByCall hart machine stepped trap (register hart_state.hart.regs 10))
          → (hart_state.world ≡ Host → EntersByCall hart machine other_stepped trap (register hart_state.hart.regs 10))
          → ((slot : ℕ) → is_offered (Enclave slot) call ≡ false) → SameResult
      same_by_entry call Host world_is is_allowed first_enters second_enters not_for_enclaves =
          same_entry trap (register hart_state.hart.regs 10) (first_enters world_is) (second_enters world_is)
      same_by_entry call (Enclave slot) world_is is_allowed first_enters second_enters not_for_enclaves =
          let contradiction : true ≡ false =
          sym is_allowed ∙ ap (λ (world : World). is_offered world call) world_is ∙ not_for_enclaves slot in
          cc

      -- two results of a stop are equal
      same_by_stop : (world : World) → hart_state.world ≡ world → call_at hart machine ≡ Some Stop → SameResult
      same_by_stop Host host requested =
          let contradiction : true ≡ false =
          sym (found_call_is_offered Stop requested) ∙ ap (λ (world : World). is_offered world Stop) host in
          cc
      same_by_stop (Enclave slot) world_is requested =
          with_saved_host slot SameResult world_is
          (λ host host_is_saved. same_if_given (first_answers.stops slot host world_is host_is_saved requested)
          (second_answers.stops slot host world_is host_is_saved requested))

      -- two results of an exit are equal
      same_by_exit : (world : World) → hart_state.world ≡ world → call_at hart machine ≡ Some Exit → SameResult
      same_by_exit Host world_is requested =
          let contradiction : true ≡ false =
          sym (found_call_is_offered Exit requested) ∙ ap (λ (world : World). is_offered world Exit) world_is in
          cc
      same_by_exit (Enclave slot) world_is requested =
          with_saved_host slot SameResult world_is
          (λ host host_is_saved. same_if_given (first_answers.exits slot host world_is host_is_saved requested)
          (second_answers.exits slot host world_is host_is_saved requested))

      -- a call that the monitor does not offer to the running world has the status of an unknown call
      unknown_call_status : call_at hart machine ≡ None → status_at hart machine ≡ 0xFFFFFFFF
      unfolding call_status
      unknown_call_status requested = rw requested refl

      -- two results of a call with status 0 are equal
      same_by_call : (maybe_call : Option Call) → call_at hart machine ≡ maybe_call
          → status_at hart machine ≡ 0 → SameResult
      -- an unknown call has a status other than 0
      same_by_call None requested status_is_0 =
          absurd (unknown_status_not_zero (status_at hart machine) (unknown_call_status requested) status_is_0)
      -- the answers of create, destroy and measure give the state after the call
      same_by_call (Some Create) requested status_is_0 =
          same_if_given (first_answers.creates requested status_is_0) (second_answers.creates requested status_is_0)
      same_by_call (Some Destroy) requested status_is_0 =
          same_if_given (first_answers.destroys requested status_is_0) (second_answers.destroys requested status_is_0)
      same_by_call (Some Measure) requested status_is_0 =
          same_if_given (first_answers.measures requested status_is_0) (second_answers.measures requested status_is_0)
      -- run and resume enter an enclave, and stop and exit leave the running enclave
      same_by_call (Some Run) requested status_is_0 =
          same_by_entry Run hart_state.world refl (found_call_is_offered Run requested) (λ host. first_answers.runs host requested status_is_0)
          (λ host. second_answers.runs host requested status_is_0) (λ slot. refl)
      same_by_call (Some Resume) requested status_is_0 =
          same_by_entry Resume hart_state.world refl (found_call_is_offered Resume requested)
          (λ host. first_answers.resumes host requested status_is_0)
          (λ host. second_answers.resumes host requested status_is_0) (λ slot. refl)
      same_by_call (Some Stop) requested status_is_0 = same_by_stop hart_state.world refl requested
      same_by_call (Some Exit) requested status_is_0 = same_by_exit hart_state.world refl requested

      -- two results of an ecall from S are equal, whether the status is 0 or not
      same_by_status : SameResult
      same_by_status = elim (cases_eq (status_at hart machine) 0) [
        | inl status_is_0 ↦ same_by_call (call_at hart machine) refl status_is_0
        -- a call whose status is not 0 is refused
        | inr status_is_not_0 ↦ same_if_given (first_answers.refuses status_is_not_0) (second_answers.refuses status_is_not_0)
      ]

    -- two results of a trap are equal, whatever its cause
    same_by_cause : (cause : Cause) → trap.cause ≡ cause → SameResult
    same_by_cause (causes.Interrupt interrupt) cause_is = same_by_interrupt interrupt cause_is hart_state.world refl
    same_by_cause (causes.Exception EnvironmentCallFromS) cause_is =
        same_by_status (first_obeys.answers trap traps cause_is) (second_obeys.answers trap other_traps cause_is)
    same_by_cause (causes.Exception _) cause_is = same_by_redirection (ap is_redirected cause_is) hart_state.world refl

  -- two results of a step are equal, with or without a trap
  same_by_trap : (maybe_trap : Option Trap) → stepped.outcome.step.trap ≡ maybe_trap → SameResult
  same_by_trap None trapped =
      same_if_given ((first_obeys.plain in_range).quiet trapped) ((second_obeys.plain in_range).quiet
      (sym (ap (λ (outcome : StepOutcome). outcome.trap) same_step_outcome) ∙ trapped))
  same_by_trap (Some trap) trapped =
      same_by_cause trap trapped (sym (ap (λ (outcome : StepOutcome). outcome.trap) same_step_outcome) ∙ trapped) trap.cause refl

  -- two results of one step that both obey the five laws are equal
  pub same_steps : stepped ≡ other_stepped
  same_steps =
      let (states_equal, entered_slots_equal) = same_by_trap stepped.outcome.step.trap refl in
      results_equal stepped other_stepped states_equal same_step_outcome entered_slots_equal

-- proves that the five laws determine the step
pub determined_law : DeterminedLaw
determined_law hart machine after invariant in_range obeys =
    same_steps hart machine invariant in_range after (step_of hart machine) obeys (record {
      plain = steps_plainly hart machine;
      answers = answers_calls hart machine invariant;
      interrupts = interrupts_enclave hart machine invariant;
      exits = exits_law hart machine invariant;
      host = host_continues hart machine invariant;
    })
