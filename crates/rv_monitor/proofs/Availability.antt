-- Availability: if the timer line of a hart is set, then the next step of an enclave on this hart exits to the host. The host can then destroy the
-- enclave.
use Rattle.std.proofs.Common.{◌≡◌, ℕ, true, length, Option, Some, None, refl, ◌∙◌, ap, arith}
use Rattle.std.specs.Prelude.{is_some}
use Rattle.rv_state.specs.declared.cause.Interrupt.TheVariants.{MachineTimer}
use Rattle.rv_state.specs.Interrupts.{pending}
use Rattle.rv_monitor.specs.Availability.{TimerExits, timer_trap}
use Rattle.rv_monitor.specs.Prelude.{Destroy, Enclave, Host}
use Rattle.rv_monitor.specs.Prelude.{HartState, Slots, Machine, StepOutcome, Stopped, World, first_refusal, is_host, is_live}
use Rattle.rv_monitor.specs.Prelude.{mie_of, option_case, slot_at, state_refusals, step, with_slot, is_world_of}
use Rattle.rv_monitor.proofs.Prelude.{Invariant, MonitoredMachine, HartViewStepped, SlotInfo, at_written_slot}
use Rattle.rv_monitor.proofs.Prelude.{bare_machine, live_in_range, hart_state_of}
use Rattle.rv_monitor.proofs.Prelude.{eq-eqb, hart_view, step_of}
use Rattle.rv_monitor.proofs.Exits.{exits_law, hart_of_enclave_in_range, timer_or_none, pending_is_timer}
use Rattle.rv_monitor.proofs.Beside.{running_is_live}
use Rattle.rv_monitor.proofs.InvariantLemmas.{hart_view_invariant}
use Rattle.rv_monitor.proofs.Leaving.{leave_law, left_hart_state}
use Rattle.rv_monitor.proofs.HartCases.{step_of_view}
use Rattle.rv_monitor.proofs.TrapSteps.{same_outcome}
use Rattle.rv_enclaves.specs.SlotNumbers.{slot_count}

-- ---- the timer interrupt

-- if the timer interrupt is pending, then the next step takes this interrupt
pending_timer_traps : (bare : Machine) → pending bare.hart.csrs bare.hart.mode ≡ Some MachineTimer
    → (step bare).outcome.trap ≡ Some timer_trap
unfolding step
pending_timer_traps bare pending_is = rw pending_is refl

-- a world that passes the test `is_host` is the host
pub world_is_host : (world : World) → is_host world ≡ true → world ≡ Host
world_is_host Host host_runs = refl
world_is_host (Enclave slot) host_runs = cc

-- the monitor does not refuse a destroy of a live enclave with the state Stopped
stopped_enclave_is_destroyable : (table : Slots) (slot : ℕ) (maybe_info : Option SlotInfo) → length table ≡ slot_count
    → slot_at table slot ≡ maybe_info
    → is_some maybe_info ≡ true
    → first_refusal (state_refusals (option_case maybe_info table
    (λ info. with_slot table slot (Some (record info { state = Stopped })))) Destroy slot) ≡ None
unfolding state_refusals
stopped_enclave_is_destroyable table slot None table_length slot_is is_live = cc
stopped_enclave_is_destroyable table slot (Some info) table_length slot_is is_live =
    let slot_in_range = live_in_range table slot info table_length slot_is in
    let written_record =
    at_written_slot table slot (Some (record info { state = Stopped })) (omega (arith, table_length, slot_in_range)) in
    -- the written record is Stopped, and a destroy of a Stopped enclave has no refusal
    rw written_record refl

-- proves that an enclave exits by the timer interrupt if the timer line of its hart is set
pub timer_exits : (hart : ℕ) (machine : MonitoredMachine) → Invariant machine
    → TimerExits hart machine (step_of hart machine)
timer_exits hart machine invariant slot host runs host_is_saved timer_set =
    let in_range = hart_of_enclave_in_range slot hart machine runs in
    let view = hart_view hart machine in
    let view_invariant = hart_view_invariant hart machine invariant in_range in
    -- mie enables only the timer interrupt while an enclave runs, and the timer line is set, so the bare step takes this interrupt
    let enabled : view.hart_state.hart.csrs.mie ≡ 0x80 = view_invariant.hart.layout.mie ∙ ap mie_of runs in
    let bare_step_traps = pending_timer_traps (bare_machine view)
    (pending_is_timer view.hart_state.hart.csrs view.hart_state.hart.mode view_invariant.hart.layout.mode enabled ∙ ap timer_or_none timer_set) in
    let trap_is : (step_of hart machine).outcome.step.trap ≡ Some timer_trap =
    ap (λ (after : HartViewStepped). after.outcome.step.trap) (step_of_view hart machine in_range)
    ∙ ap (λ (outcome : StepOutcome). outcome.trap) (same_outcome view) ∙ bare_step_traps in
    let world = world_is_host _ ((exits_law hart machine invariant slot runs).exits timer_trap trap_is) in
    -- the interrupt exits to the host, and `leave_law` gives the machine after the exit
    let exit = leave_law hart machine invariant slot host timer_trap runs host_is_saved trap_is world in
    let (left_machine_is, _) = exit in
    let live : is_live machine.shared.table slot ≡ true =
    running_is_live slot hart machine invariant (ap (is_world_of slot) runs ∙ eq-eqb slot slot refl) in
    record {
      trapped = trap_is;
      left = exit;
      result =
          ap (λ (machine : MonitoredMachine). (hart_state_of hart machine).hart.regs) left_machine_is
          ∙ ap (λ (hart_state : HartState). hart_state.hart.regs) (left_hart_state hart machine slot timer_trap host in_range);
      world = world;
      destroyable =
          ap (λ (machine : MonitoredMachine). first_refusal (state_refusals machine.shared.table Destroy slot)) left_machine_is
          ∙ stopped_enclave_is_destroyable machine.shared.table slot (slot_at machine.shared.table slot) view_invariant.valid.count refl live;
    }
