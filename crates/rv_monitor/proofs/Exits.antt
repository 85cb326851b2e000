-- An enclave exits only by the calls stop and exit, or by the timer interrupt. Every other exception of the enclave is redirected to its own S-mode.
use Rattle.std.proofs.Common.{◌≡◌, ◌<◌, ℕ, Bool, true, false, List, slice_set, Option, Some, None, refl, sym, ◌∙◌, ap, subst}
use Rattle.std.proofs.Math.Bool.{and-false, and-true, or-false}
use Rattle.std.specs.Prelude.{◌&&◌, if◌then◌else◌}
use Rattle.rv_state.specs.declared.cause.Cause.TheVariants as causes
use Rattle.rv_state.specs.Interrupts.{mip_word, pending}
use Rattle.rv_state.proofs.RaisedLemmas.{timer_part}
use Rattle.rv_state.specs.declared.cause.Interrupt.{Interrupt}
use Rattle.rv_state.specs.declared.cause.Interrupt.TheVariants.{MachineExternal, MachineSoftware, MachineTimer, SupervisorExternal, SupervisorSoftware}
use Rattle.rv_state.specs.declared.cause.Interrupt.TheVariants.{SupervisorTimer}
use Rattle.rv_hart.proofs.Interrupted.{takes_pending}
use Rattle.rv_monitor.specs.Exits.{ExitsOnRequest, is_exit_call, redirected_hart, redirected_machine, is_redirected, causes_exit, spp_of}
use Rattle.rv_monitor.specs.Prelude.{Call, Cause, Create, Destroy, Enclave, EnvironmentCallFromS, Exception, Exit, Measure, Outcome, Refusal, Resume}
use Rattle.rv_monitor.specs.Prelude.{Run, HartState, M, S, U, Shared, StepOutcome, Stop, Trap, World, requested_call, first_refusal, is_host, is_offered}
use Rattle.rv_monitor.specs.Prelude.{NotSupported, is_machine, is_set, is_world_of, mie_of, option_case, step, CsrState, Mode}
use Rattle.rv_monitor.proofs.Prelude.{HartViewInvariant, Invariant, MonitoredMachine, HartView, HartViewStepped, bare_machine, call_handled, call_refusals, called, count_of}
use Rattle.rv_monitor.proofs.Prelude.{eq-eqb, redirected, with_redirected_trap, handled, handled_cause, left, monitored_step, performed, refused, returned, hart_view}
use Rattle.rv_monitor.proofs.Prelude.{hart_state_of, step_of, timer_stopped, with_reprogrammed_hart}
use Rattle.rv_monitor.specs.Step.{is_supervisor}
use Rattle.rv_monitor.proofs.Beside.{running_hart_in_range}
use Rattle.rv_monitor.proofs.InvariantLemmas.{hart_view_invariant}
use Rattle.rv_monitor.proofs.PmpProgramming.{programmed_harts_unchanged}
use Rattle.rv_monitor.proofs.HartCases.{is_trapping, programmed_by, step_of_view}
use Rattle.rv_monitor.proofs.TrapSteps.{same_outcome, hart_state_after, untrapped_world_unchanged, trapped_step}
use Rattle.rv_monitor.proofs.HandlerCases.{requested-is_offered}
use Rattle.rv_monitor.proofs.Alignment.{aligned_twice}

-- ---- the world after the trap handler

-- the hart runs the enclave in `slot` at the trap
module _ (slot : ℕ) (hart_state : HartState) (shared : Shared) (runs_enclave : hart_state.world ≡ Enclave slot) where
  -- an enclave still runs after a measure, refused or not
  enclave_runs_after_measure : (maybe_refusal : Option Refusal) (call : Call)
      → is_host (option_case maybe_refusal (performed hart_state shared Measure) (refused hart_state shared)).hart_state.world ≡ false
  unfolding performed
  enclave_runs_after_measure None call = ap is_host runs_enclave
  enclave_runs_after_measure (Some refusal) call = ap is_host runs_enclave

  -- a claim about a call that is not offered to the enclave holds, because such a call is not requested
  not_offered : (Claim : Type 0) (call : Call) → is_offered (Enclave slot) call ≡ false
      → is_offered hart_state.world call ≡ true → Claim
  not_offered Claim call is_not_offered offered =
      let offered_to_enclave : is_offered (Enclave slot) call ≡ true =
      sym (ap (λ (world : World). is_offered world call) runs_enclave) ∙ offered in
      let contradiction : false ≡ true = sym is_not_offered ∙ offered_to_enclave in
      cc

  -- after a call that is offered to the enclave, the host runs if and only if the call is stop or exit
  exits_by_call : (call : Call) → is_offered hart_state.world call ≡ true
      → is_host (called hart_state shared call).hart_state.world ≡ is_exit_call (Some call)
  unfolding called performed left
  exits_by_call Stop offered = refl
  exits_by_call Exit offered = refl
  exits_by_call Measure offered =
      enclave_runs_after_measure (first_refusal (call_refusals hart_state shared Measure)) Measure
  exits_by_call Create offered = not_offered _ Create refl offered
  exits_by_call Destroy offered = not_offered _ Destroy refl offered
  exits_by_call Run offered = not_offered _ Run refl offered
  exits_by_call Resume offered = not_offered _ Resume refl offered

  -- after the requested call, if there is one, the host runs if and only if the call is stop or exit
  exits_by_requested_call : (maybe_call : Option Call) → requested_call hart_state.world hart_state.hart.regs ≡ maybe_call
      → is_host (option_case maybe_call (refused hart_state shared NotSupported) (called hart_state shared)).hart_state.world
      ≡ is_exit_call maybe_call
  exits_by_requested_call None requested = ap is_host runs_enclave
  exits_by_requested_call (Some call) requested =
      let (_, call_is_offered) = requested-is_offered hart_state.world hart_state.hart.regs call requested in
      exits_by_call call call_is_offered

  -- after an exception, the host runs if and only if the exception is an ecall that requests stop or exit
  exits_by_exception : (trap : Trap) (exception : Exception)
      → is_host (handled_cause hart_state shared trap (causes.Exception exception)).hart_state.world
      ≡ causes_exit hart_state (causes.Exception exception)
  unfolding call_handled
  exits_by_exception trap EnvironmentCallFromS =
      exits_by_requested_call (requested_call hart_state.world hart_state.hart.regs) refl
  exits_by_exception trap _ = ap is_host runs_enclave

  -- after a trap, the host runs if and only if the cause is one that exits
  exits_by_cause_of_trap : (trap : Trap) (cause : Cause)
      → is_host (handled_cause hart_state shared trap cause).hart_state.world ≡ causes_exit hart_state cause
  unfolding timer_stopped left
  exits_by_cause_of_trap trap (causes.Interrupt interrupt) = refl
  exits_by_cause_of_trap trap (causes.Exception exception) = exits_by_exception trap exception

-- ---- redirection

-- the trap handler redirects each exception that is not an ecall from S. Each case holds by computation, or has a false premise
cause_is_redirected : (hart_state : HartState) (shared : Shared) (trap : Trap) (cause : Cause) → is_redirected cause ≡ true
    → handled_cause hart_state shared trap cause ≡ redirected hart_state shared trap
cause_is_redirected hart_state shared trap (causes.Interrupt interrupt) is_redirection = cc
cause_is_redirected hart_state shared trap (causes.Exception EnvironmentCallFromS) is_redirection = cc
cause_is_redirected hart_state shared trap (causes.Exception _) is_redirection = refl

-- Both definitions of the bit SPP for a mode agree. Each case holds by computation.
same_spp : (mode : Mode) → is_supervisor mode ≡ spp_of mode
same_spp U = refl
same_spp S = refl
same_spp M = refl

-- a view with the invariant, and the trap of its step
module _ (state : HartView) (view_invariant : HartViewInvariant state) (trap : Trap) where
  -- the view after a redirected trap
  abbrev redirected_view : HartView
  redirected_view = record state { hart_state = record state.hart_state { hart = redirected_hart state.hart_state.hart trap } }

  -- the return from a redirection gives the view after a redirected trap
  return_after_redirection : (outcome : StepOutcome)
      → (returned outcome (with_reprogrammed_hart (redirected (hart_state_after state.hart_state trap) state.shared trap))).state ≡ redirected_view
  unfolding with_redirected_trap
  return_after_redirection outcome =
      let hart = state.hart_state.hart in
      let mprv = view_invariant.hart.layout.mprv in
      let entries = view_invariant.hart.layout.entries in
      let mie = view_invariant.hart.layout.mie in
      -- Both definitions of SPP agree, a second rounding of stvec and `|| false` change nothing, and MPRV is 0. The PMP entries and mie are those of
      -- the table and the world.
      rw (same_spp hart.mode, aligned_twice hart.csrs.stvec, or-false (is_set hart.csrs.mcountinhibit 0), mprv, ← entries, ← mie) refl

  -- the view after the step is the view after a redirected trap, and the step enters no slot
  abbrev IsRedirectedTo : HartViewStepped → Type 0
  IsRedirectedTo after = (after.state ≡ redirected_view) × (after.outcome.entered ≡ None)

  -- the return from the trap handler after a redirected exception gives the view after a redirected trap
  handler_redirects : (outcome : StepOutcome) → is_redirected trap.cause ≡ true
      → IsRedirectedTo (returned outcome (handled (hart_state_after state.hart_state trap) state.shared trap))
  unfolding handled
  handler_redirects outcome is_redirection =
      let handled_is_redirected =
      cause_is_redirected (hart_state_after state.hart_state trap) state.shared trap trap.cause is_redirection in
      rw handled_is_redirected (return_after_redirection outcome, refl)

  -- a step with a redirected exception leads to the view after a redirected trap
  step_is_redirected : (monitored_step state).outcome.step.trap ≡ Some trap → is_redirected trap.cause ≡ true
      → IsRedirectedTo (monitored_step state)
  step_is_redirected trapped is_redirection =
      subst IsRedirectedTo (sym (trapped_step state trap trapped)) (handler_redirects (step (bare_machine state)).outcome is_redirection)

-- a step of the host or of an enclave with a redirected exception leads to the machine after a redirected trap
pub redirects_step : (hart : ℕ) (machine : MonitoredMachine) → Invariant machine → (trap : Trap)
    → (step_of hart machine).outcome.step.trap ≡ Some trap
    → is_redirected trap.cause ≡ true
    → ((step_of hart machine).state ≡ redirected_machine hart machine trap) × ((step_of hart machine).outcome.entered ≡ None)
redirects_step hart machine invariant trap trapped is_redirection =
    let trapping = is_trapping hart machine trap trapped in
    let state = hart_view hart machine in
    let (view_state_is, view_entered_none) =
    step_is_redirected state (hart_view_invariant hart machine invariant trapping.has) trap trapping.trapped is_redirection in
    let left : HartState = record state.hart_state { hart = redirected_hart state.hart_state.hart trap } in (
      -- a redirected trap keeps the table, so the reprogramming leaves the other harts unchanged
      trapping.state ∙ ap (programmed_by hart machine) view_state_is
          ∙ ap (λ (hart_states : List HartState). let after : MonitoredMachine =
          record { hart_states = slice_set hart_states hart left; shared = machine.shared } in after)
          (programmed_harts_unchanged machine.shared.table machine.hart_states invariant.hart_states),
      ap (λ (outcome : Outcome). outcome.entered) trapping.outcome ∙ view_entered_none,
    )

-- the hart of the view runs the enclave in `slot`, and its step has this trap
module _ (slot : ℕ) (view : HartView) (runs_enclave : view.hart_state.world ≡ Enclave slot) (trap : Trap) where
  -- after a step with a trap, the host runs if and only if the cause is one that exits
  exits_by_cause : (monitored_step view).outcome.step.trap ≡ Some trap
      → is_host (monitored_step view).state.hart_state.world ≡ causes_exit view.hart_state trap.cause
  unfolding handled
  exits_by_cause trapped =
      subst (λ (after : HartViewStepped). is_host after.state.hart_state.world ≡ causes_exit view.hart_state trap.cause)
      (sym (trapped_step view trap trapped)) (exits_by_cause_of_trap slot
      (hart_state_after view.hart_state trap) view.shared runs_enclave trap trap.cause)

-- ---- the interrupt that the hart of an enclave takes

-- the timer interrupt if the bit is set, or else no interrupt
abbrev pub timer_or_none : Bool → Option Interrupt
timer_or_none timer_set = if timer_set then Some MachineTimer else None

-- Let only the timer interrupt be enabled. The highest pending interrupt is the timer interrupt if its bit in mip is set.
-- Otherwise no enabled interrupt is pending.
find_timer : (is_external is_software is_timer is_s_external is_s_software is_s_timer : Bool)
    → (if is_external && false then Some MachineExternal else
    (if is_software && false then Some MachineSoftware else
    (if is_timer && true then Some MachineTimer else
    (if is_s_external && false then Some SupervisorExternal else
    (if is_s_software && false then Some SupervisorSoftware else (if is_s_timer && false then Some SupervisorTimer else None))))))
    ≡ timer_or_none is_timer
find_timer is_external is_software is_timer is_s_external is_s_software is_s_timer =
    rw (and-false is_external, and-false is_software, and-true is_timer) (
    rw (and-false is_s_external, and-false is_s_software, and-false is_s_timer) refl)

-- if mie enables only the timer interrupt, then a hart below M has a pending interrupt if and only if its timer line is set
pub pending_is_timer : (csrs : CsrState) (mode : Mode) → is_machine mode ≡ false → csrs.mie ≡ 0x80
    → pending csrs mode ≡ timer_or_none csrs.timer
pending_is_timer csrs mode mode_below_m enabled =
    let mip = mip_word csrs in
    let timer_bit_is_line : is_set mip 7 ≡ csrs.timer = timer_part csrs.software_pending csrs.timer in
    rw (mode_below_m, enabled)
    (find_timer (is_set mip 11) (is_set mip 3) (is_set mip 7) (is_set mip 9) (is_set mip 1) (is_set mip 5) ∙ ap timer_or_none timer_bit_is_line)

-- if `timer_or_none` gives an interrupt, then this is the timer interrupt, and the timer line is set
timer_only : (timer_set : Bool) (interrupt : Interrupt) → timer_or_none timer_set ≡ Some interrupt
    → (interrupt ≡ MachineTimer) × (timer_set ≡ true)
timer_only true interrupt timer_or_none_is =
    let same_interrupt : MachineTimer ≡ interrupt = cc in (sym same_interrupt, refl)
timer_only false interrupt timer_or_none_is = cc

-- ---- the step

-- a hart that runs an enclave is a hart of the machine
pub hart_of_enclave_in_range : (slot hart : ℕ) (machine : MonitoredMachine)
    → (hart_state_of hart machine).world ≡ Enclave slot
    → hart < count_of machine
hart_of_enclave_in_range slot hart machine runs =
    running_hart_in_range slot hart machine (ap (is_world_of slot) runs ∙ eq-eqb slot slot refl)

-- the world of the hart after the step is the world in the hart's view after its step
world_of_view : (hart : ℕ) (machine : MonitoredMachine) → hart < count_of machine
    → (hart_state_of hart (step_of hart machine).state).world ≡ (monitored_step (hart_view hart machine)).state.hart_state.world
world_of_view hart machine in_range =
    ap (λ (after : HartViewStepped). after.state.hart_state.world) (step_of_view hart machine in_range)

-- proves that an enclave exits only by stop, by exit or by the timer interrupt
pub exits_law : (hart : ℕ) (machine : MonitoredMachine) → Invariant machine
    → ExitsOnRequest hart machine (step_of hart machine)
exits_law hart machine invariant slot runs = record {
  -- a step without a trap keeps the world
  quiet = λ no_trap.
      let in_range = hart_of_enclave_in_range slot hart machine runs in
      world_of_view hart machine in_range
      ∙ untrapped_world_unchanged (hart_view hart machine)
      (sym (ap (λ (after : HartViewStepped). after.outcome.step.trap) (step_of_view hart machine in_range)) ∙ no_trap) ∙ runs;
  -- after a trap, the host runs if and only if the cause is one that exits
  exits = λ trap trapped.
      let trapping = is_trapping hart machine trap trapped in
      let view = hart_view hart machine in
      ap is_host (world_of_view hart machine trapping.has)
      ∙ exits_by_cause slot view runs trap trapping.trapped;
  -- mie enables only the timer interrupt, so a pending interrupt is the timer interrupt, and the timer line is set
  timer = λ trap interrupt trapped cause_is.
      let trapping = is_trapping hart machine trap trapped in
      let view = hart_view hart machine in
      let view_invariant = hart_view_invariant hart machine invariant trapping.has in
      let bare_step_traps : (step (bare_machine view)).outcome.trap ≡ Some trap =
      sym (ap (λ (outcome : StepOutcome). outcome.trap) (same_outcome view)) ∙ trapping.trapped in
      let pending_timer = takes_pending (bare_machine view) trap interrupt bare_step_traps cause_is in
      timer_only view.hart_state.hart.csrs.timer interrupt
      (sym (pending_is_timer view.hart_state.hart.csrs view.hart_state.hart.mode view_invariant.hart.layout.mode
      (view_invariant.hart.layout.mie ∙ ap mie_of runs)) ∙ pending_timer);
  redirects = redirects_step hart machine invariant;
}
