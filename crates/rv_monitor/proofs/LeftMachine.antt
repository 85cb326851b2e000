-- The machine after an enclave exits, as one function of the cause. The laws write out each of the three causes: exit, stop and the timer interrupt.
use Rattle.std.specs.Prelude.{ℕ, ◌==◌, Bool, false, List, map, slice_set, Some, None, if◌then◌else◌}
use Rattle.rv_state.specs.declared.cause.Cause.TheVariants as causes
use Rattle.rv_monitor.specs.Prelude.{Cause, Context, CsrState, EnclaveState, Exit, Exited, Hart, Host, S, Shared, Slots, Stopped}
use Rattle.rv_monitor.specs.Prelude.{Trap, aligned_to_4, call_number, exited_context, layout, mie_of, register, with_return_values, with_context}
use Rattle.rv_monitor.specs.Prelude.{with_s_context, with_state}
use Rattle.rv_monitor.specs.Switches.{saved}
use Rattle.rv_monitor.specs.TrapReturns.{passed_csrs, past_ecall}
use Rattle.rv_monitor.specs.MonitoredMachine.{MonitoredMachine, hart_state_of, reprogrammed}
use Rattle.rv_monitor.specs.SwitchLaws.{reason, value}

-- ---- the saved context of the enclave

-- The state of the enclave after the exit. For a call, the number in a6 decides the state.
abbrev pub enclave_state_after : Cause → List ℕ → EnclaveState
enclave_state_after (causes.Interrupt interrupt) regs = Stopped
enclave_state_after (causes.Exception exception) regs = if register regs 16 == call_number Exit then Exited else Stopped

-- the saved context after a stop: the enclave will continue after its ecall, with 0 in a0 and a1
abbrev pub stopped_at : Hart → Context
stopped_at hart = record (saved hart (past_ecall hart) S) { regs = with_return_values hart.regs 0 0 }

-- The saved context after an exit. After a timer interrupt, the enclave will continue at the interrupted instruction. After the call exit, the saved
-- context is the empty context.
abbrev pub saved_after : Cause → Hart → Context
saved_after (causes.Interrupt interrupt) hart = saved hart (aligned_to_4 hart.pc) hart.mode
saved_after (causes.Exception exception) hart =
    if register hart.regs 16 == call_number Exit then exited_context else stopped_at hart

-- the shared state after an exit of `slot`, with its new state and its saved context
abbrev pub left_shared : Shared → ℕ → Cause → Hart → Shared
left_shared shared slot cause hart = record shared {
  table = with_state shared.table slot (enclave_state_after cause hart.regs);
  contexts = with_context shared.contexts slot (Some (saved_after cause hart));
}

-- ---- the host's hart

-- the timer line after an exit: the timer interrupt clears the line
abbrev pub line_after : Cause → Bool → Bool
line_after (causes.Interrupt interrupt) raised = false
line_after (causes.Exception exception) raised = raised

-- The CSRs after an exit. The S-mode CSRs are those of the host. The PMP entries and mie are those of the host for the new table. The other CSRs are
-- as after a trap and its return.
abbrev pub left_csrs : CsrState → Slots → Trap → Context → CsrState
left_csrs csrs table trap host = record (with_s_context (passed_csrs csrs trap host.pc) host.supervisor) {
  timer = line_after trap.cause csrs.timer;
  pmp = layout table Host;
  mie = mie_of Host;
}

-- the hart after an exit: the context of the host with the reason and the value, and the PMP entries of the host
abbrev pub left_hart : Hart → Slots → Trap → Context → Hart
left_hart hart table trap host = record {
  regs = with_return_values host.regs (reason trap.cause hart.regs) (value trap.cause hart.regs);
  csrs = left_csrs hart.csrs table trap host;
  pc = host.pc;
  mode = host.mode;
}

-- ---- the machine

-- the machine after an exit: no byte changes, and on every other hart only the PMP entries and mie change
abbrev pub left_machine : ℕ → MonitoredMachine → ℕ → Trap → Context → MonitoredMachine
left_machine hart before slot trap host =
    let hart_before = (hart_state_of hart before).hart in
    let shared = left_shared before.shared slot trap.cause hart_before in
    record {
      hart_states = slice_set (map (reprogrammed shared.table) before.hart_states) hart
          (record { hart = left_hart hart_before shared.table trap host; host_context = None; world = Host });
      shared = shared;
    }
