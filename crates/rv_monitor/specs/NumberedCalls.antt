-- The answers of the monitor in numbers. The key is in a7, and the number of the call in a6. The statuses, their order, and the machine after each
-- call and after a timer interrupt are written out. (A law about the monitor's definitions; Keystone, EuroSys 2020, in this project's profile.)
use Rattle.std.specs.Prelude.{◌≡◌, ◌≢◌, ℕ, Bool, false, List, map, replicate, slice_index_or, slice_set, Option, Some, None}
use Rattle.rv_state.specs.declared.cause.Cause.TheVariants as causes
use Rattle.rv_state.specs.declared.cause.Interrupt.{Interrupt}
use Rattle.rv_enclaves.specs.CallNumbers.{HasState, IsAtRest, IsCreatable, IsMeasurable, Requests, call_numbered, call_status, lowest_free}
use Rattle.rv_enclaves.specs.CallNumbers.{shared_with_measurement, shared_with_new, shared_without, slot_named}
use Rattle.rv_enclaves.specs.declared.slot_info.EnclaveState.TheVariants.{Fresh}
use Rattle.rv_monitor.specs.Prelude.{Call, Context, Create, Destroy, CsrState, Enclave, EnclaveState, EnvironmentCallFromS, Exit, Exited, Hart, Host}
use Rattle.rv_monitor.specs.Prelude.{Measure, Resume, Run, Running, S, Shared, Slots, Stop, Stopped, Trap, U, World, aligned_to_4, layout, mie_of}
use Rattle.rv_monitor.specs.Prelude.{option_case, register, with_register}
use Rattle.rv_state.specs.CsrTable.{vector_of}
use Rattle.rv_state.specs.declared.s_context.SContext.{SContext}
use Rattle.rv_monitor.specs.TrapReturns.{passed_csrs, past_ecall}
use Rattle.rv_monitor.specs.MonitoredMachine.{MonitoredMachine, hart_state_of, reprogrammed}
use Rattle.rv_monitor.specs.Step.{MonitoredStepped}

-- ---- the request

-- the registers of the hart
abbrev pub regs_at : ℕ → MonitoredMachine → List ℕ
regs_at hart machine = (hart_state_of hart machine).hart.regs

-- the call that the hart requests by a7 and a6 (x17 and x16), if its world is offered one
abbrev pub call_at : ℕ → MonitoredMachine → Option Call
call_at hart machine =
    let regs = regs_at hart machine in
    call_numbered (hart_state_of hart machine).world (register regs 17) (register regs 16)

-- the status of the request of the hart: 0 if the call succeeds
abbrev pub status_at : ℕ → MonitoredMachine → ℕ
status_at hart machine =
    let hart_state = hart_state_of hart machine in
    call_status hart_state.world machine.shared hart_state.hart.csrs.pmp hart_state.hart.regs

-- ---- a call that enters or leaves no enclave

-- The machine after a return to the caller. The caller continues in S after its ecall, with two values in a0 and a1. Its other registers, its S-mode
-- CSRs and its world are unchanged. On every other hart only the PMP entries and mie change.
abbrev pub answered_machine : ℕ → MonitoredMachine → Trap → Shared → ℕ → ℕ → MonitoredMachine
answered_machine hart before trap shared a0 a1 =
    let hart_state = hart_state_of hart before in
    let registers_before = hart_state.hart in
    record {
      hart_states = slice_set (map (reprogrammed shared.table) before.hart_states) hart (record hart_state {
        hart = record {
          regs = with_register (with_register registers_before.regs 10 a0) 11 a1;
          csrs = record (passed_csrs registers_before.csrs trap (past_ecall registers_before)) {
            pmp = layout shared.table hart_state.world;
            mie = mie_of hart_state.world;
          };
          pc = past_ecall registers_before;
          mode = S;
        };
      });
      shared = shared;
    }

-- the step returns to the caller with two values in a0 and a1, leaves this shared state, and enters no enclave
abbrev pub Returns : ℕ → MonitoredMachine → MonitoredStepped → Trap → Shared → ℕ → ℕ → Type 0
Returns hart before after trap shared a0 a1 =
    (after.state ≡ answered_machine hart before trap shared a0 a1) × (after.outcome.entered ≡ None)

-- ---- a switch between worlds

-- the S-mode CSRs that a switch saves
abbrev pub supervisor_at : CsrState → SContext
supervisor_at csrs = record {
  stvec = csrs.stvec;
  sscratch = csrs.sscratch;
  sepc = csrs.sepc;
  scause = csrs.scause;
  stval = csrs.stval;
  sie = csrs.mstatus.sie;
  spie = csrs.mstatus.spie;
  spp = csrs.mstatus.spp;
  mxr = csrs.mstatus.mxr;
}

-- The hart after a context switch to a saved context. Each S-mode CSR has the value that a write would store, and the PMP entries and mie are those
-- of the new world.
abbrev pub switched_hart : Hart → Trap → Context → Slots → World → Hart
switched_hart hart trap context table world =
    let passed = passed_csrs hart.csrs trap context.pc in
    record {
      regs = context.regs;
      csrs = record passed {
        mstatus = record passed.mstatus {
          sie = context.supervisor.sie;
          spie = context.supervisor.spie;
          spp = context.supervisor.spp;
          mxr = context.supervisor.mxr;
        };
        stvec = vector_of context.supervisor.stvec;
        sscratch = context.supervisor.sscratch;
        sepc = aligned_to_4 context.supervisor.sepc;
        scause = context.supervisor.scause;
        stval = context.supervisor.stval;
        pmp = layout table world;
        mie = mie_of world;
      };
      pc = context.pc;
      mode = context.mode;
    }

-- the table with another state in the record of a slot
abbrev pub slots_with_state : Slots → ℕ → EnclaveState → Slots
slots_with_state table slot state =
    option_case (slice_index_or table slot None) table (λ info. slice_set table slot (Some (record info { state = state })))

-- ---- a call that enters an enclave

-- The machine after a call enters an enclave. The enclave is Running and continues with its saved context. The host is saved with its own registers,
-- to continue in S after its ecall.
abbrev pub entered_by_call : ℕ → MonitoredMachine → ℕ → Trap → Context → MonitoredMachine
entered_by_call own before k trap context =
    let hart = (hart_state_of own before).hart in
    let slots = slots_with_state before.shared.table k Running in
    record {
      hart_states = slice_set (map (reprogrammed slots) before.hart_states) own (record {
        hart = switched_hart hart trap context slots (Enclave k);
        host_context =
            Some (record { regs = hart.regs; pc = past_ecall hart; mode = S; supervisor = supervisor_at hart.csrs });
        world = Enclave k;
      });
      shared = record before.shared { table = slots; contexts = slice_set before.shared.contexts k None };
    }

-- the step enters the slot: the hart continues with the saved context of the enclave
pub record EntersByCall (hart : ℕ) (before : MonitoredMachine) (after : MonitoredStepped) (trap : Trap) (slot : ℕ) : Type 0 where
  -- the saved context of the slot
  pub context : Context
  pub kept : slice_index_or before.shared.contexts slot None ≡ Some context
  -- the machine after the step is the machine after the entry
  pub state : after.state ≡ entered_by_call hart before slot trap context
  pub entered : after.outcome.entered ≡ Some slot

-- ---- a step that leaves an enclave

-- what an exit hands over: the new state of the enclave, its saved context, and the values that the host receives in a0 and a1
pub record Handover : Type 0 where
  pub state : EnclaveState
  -- the saved context of the enclave after the exit
  pub kept : Context
  -- the value in a0 of the host
  pub reason : ℕ
  -- the value in a1 of the host
  pub value : ℕ
  -- the timer line of the hart after the exit
  pub line : Bool

-- The machine after an enclave exits. The host continues with its saved context, except for a0 and a1. On every other hart only the PMP entries and
-- mie change.
abbrev pub handed_over_machine : ℕ → MonitoredMachine → ℕ → Trap → Context → Handover → MonitoredMachine
handed_over_machine hart before slot trap host handover =
    let table = slots_with_state before.shared.table slot handover.state in
    let host_hart = switched_hart (hart_state_of hart before).hart trap host table Host in
    record {
      hart_states = slice_set (map (reprogrammed table) before.hart_states) hart (record {
        hart = record host_hart {
          regs = with_register (with_register host_hart.regs 10 handover.reason) 11 handover.value;
          csrs = record host_hart.csrs { timer = handover.line };
        };
        host_context = None;
        world = Host;
      });
      shared =
          record before.shared { table = table; contexts = slice_set before.shared.contexts slot (Some handover.kept) };
    }

-- the exit by stop: the enclave will continue after its ecall, with 0 in a0 and a1; the host receives 1 and the enclave's a0
abbrev pub by_stop_call : Hart → Handover
by_stop_call hart = record {
  state = Stopped;
  kept = record {
    regs = with_register (with_register hart.regs 10 0) 11 0;
    pc = past_ecall hart;
    mode = S;
    supervisor = supervisor_at hart.csrs;
  };
  reason = 1;
  value = register hart.regs 10;
  line = hart.csrs.timer;
}

-- the exit by the call exit: the saved context of the enclave is zeroed; the host receives 0 and the enclave's a0
abbrev pub by_exit_call : Hart → Handover
by_exit_call hart = record {
  state = Exited;
  kept = record {
    regs = replicate 32 0;
    pc = 0;
    mode = U;
    supervisor =
        record { stvec = 0; sscratch = 0; sepc = 0; scause = 0; stval = 0; sie = false; spie = false; spp = false; mxr = false };
  };
  reason = 0;
  value = register hart.regs 10;
  line = hart.csrs.timer;
}

-- the exit by the timer interrupt: the enclave will continue at the interrupted instruction; the host receives 2 and 0, and the timer line is cleared
abbrev pub by_interrupt : Hart → Handover
by_interrupt hart = record {
  state = Stopped;
  kept = record { regs = hart.regs; pc = aligned_to_4 hart.pc; mode = hart.mode; supervisor = supervisor_at hart.csrs };
  reason = 2;
  value = 0;
  line = false;
}

-- the step ends the run of the slot: the monitor saves the context of the enclave, and the hart continues with the context of the host
abbrev pub HandsOver : ℕ → MonitoredMachine → MonitoredStepped → ℕ → Trap → Context → Handover → Type 0
HandsOver hart before after slot trap host handover =
    (after.state ≡ handed_over_machine hart before slot trap host handover) × (after.outcome.entered ≡ None)

-- ---- the law

-- the result of an ecall from S, by its number and its status
pub record AnswersInNumbers (hart : ℕ) (before : MonitoredMachine) (after : MonitoredStepped) (trap : Trap) : Type 0 where
  -- a status other than 0 refuses the call: the table, the memory and the saved contexts are unchanged
  pub refuses : status_at hart before ≢ 0 → Returns hart before after trap before.shared (status_at hart before) 0
  -- an accepted create returns the lowest free slot
  pub creates : call_at hart before ≡ Some Create → status_at hart before ≡ 0
      → Returns hart before after trap (shared_with_new before.shared (regs_at hart before)) 0
      (option_case (lowest_free before.shared.table) 13 (λ slot. slot))
  -- an accepted destroy frees the slot that a0 names
  pub destroys : call_at hart before ≡ Some Destroy → status_at hart before ≡ 0
      → Returns hart before after trap (shared_without before.shared (register (regs_at hart before) 10)) 0 0
  -- an accepted measure stores the measurement of the named slot at the address in a1
  pub measures : call_at hart before ≡ Some Measure → status_at hart before ≡ 0
      → (let regs = regs_at hart before in
      Returns hart before after trap
      (shared_with_measurement before.shared (slot_named (hart_state_of hart before).world regs) (register regs 11)) 0 0)
  -- an accepted run enters the slot that a0 names
  pub runs : (hart_state_of hart before).world ≡ Host → call_at hart before ≡ Some Run → status_at hart before ≡ 0
      → EntersByCall hart before after trap (register (regs_at hart before) 10)
  -- an accepted resume enters the slot that a0 names
  pub resumes : (hart_state_of hart before).world ≡ Host → call_at hart before ≡ Some Resume → status_at hart before ≡ 0
      → EntersByCall hart before after trap (register (regs_at hart before) 10)
  -- a stop exits to the host, and the enclave can be resumed after its ecall
  pub stops : (slot : ℕ) (host : Context) → (hart_state_of hart before).world ≡ Enclave slot
      → (hart_state_of hart before).host_context ≡ Some host
      → call_at hart before ≡ Some Stop
      → HandsOver hart before after slot trap host (by_stop_call (hart_state_of hart before).hart)
  -- an exit returns to the host, and zeroes the saved context of the enclave
  pub exits : (slot : ℕ) (host : Context) → (hart_state_of hart before).world ≡ Enclave slot
      → (hart_state_of hart before).host_context ≡ Some host
      → call_at hart before ≡ Some Exit
      → HandsOver hart before after slot trap host (by_exit_call (hart_state_of hart before).hart)

-- each ecall from S has the result of its number and its status
abbrev pub AnswersCalls : ℕ → MonitoredMachine → MonitoredStepped → Type 0
AnswersCalls hart before after =
    (trap : Trap) → after.outcome.step.trap ≡ Some trap → trap.cause ≡ causes.Exception EnvironmentCallFromS
    → AnswersInNumbers hart before after trap

-- every interrupt while an enclave runs ends its run: the monitor saves the enclave, and the host continues
abbrev pub InterruptsEnclave : ℕ → MonitoredMachine → MonitoredStepped → Type 0
InterruptsEnclave hart before after =
    (slot : ℕ) (host : Context) (trap : Trap) (interrupt : Interrupt) → (hart_state_of hart before).world ≡ Enclave slot
    → (hart_state_of hart before).host_context ≡ Some host → after.outcome.step.trap ≡ Some trap
    → trap.cause ≡ causes.Interrupt interrupt
    → HandsOver hart before after slot trap host (by_interrupt (hart_state_of hart before).hart)

-- ---- the calls that succeed

-- the result of each call, under the conditions in numbers under which the call succeeds
pub record SucceedsInNumbers (hart : ℕ) (before : MonitoredMachine) (after : MonitoredStepped) (trap : Trap) : Type 0 where
  -- a create by the host, which receives the lowest free slot
  pub create : (slot : ℕ) → (hart_state_of hart before).world ≡ Host → Requests 1 (regs_at hart before)
      → IsCreatable before.shared (regs_at hart before) slot
      → Returns hart before after trap (shared_with_new before.shared (regs_at hart before)) 0 slot
  -- a destroy by the host of an enclave that does not run
  pub destroy : (hart_state_of hart before).world ≡ Host → Requests 2 (regs_at hart before)
      → IsAtRest before.shared.table (register (regs_at hart before) 10)
      → Returns hart before after trap (shared_without before.shared (register (regs_at hart before) 10)) 0 0
  -- a run by the host of a Fresh enclave
  pub run : (hart_state_of hart before).world ≡ Host → Requests 3 (regs_at hart before)
      → HasState before.shared.table (register (regs_at hart before) 10) Fresh
      → EntersByCall hart before after trap (register (regs_at hart before) 10)
  -- a resume by the host of a Stopped enclave
  pub resume : (hart_state_of hart before).world ≡ Host → Requests 4 (regs_at hart before)
      → HasState before.shared.table (register (regs_at hart before) 10) Stopped
      → EntersByCall hart before after trap (register (regs_at hart before) 10)
  -- a measure by the host, or by an enclave about itself
  pub measure : Requests 5 (regs_at hart before)
      → (let hart_state = hart_state_of hart before in
      let regs = regs_at hart before in
      IsMeasurable before.shared hart_state.hart.csrs.pmp (slot_named hart_state.world regs) (register regs 11)
      → Returns hart before after trap (shared_with_measurement before.shared (slot_named hart_state.world regs) (register regs 11)) 0 0)
  -- a stop by an enclave whose host has a saved context
  pub stop : (slot : ℕ) (host : Context) → (hart_state_of hart before).world ≡ Enclave slot
      → (hart_state_of hart before).host_context ≡ Some host
      → Requests 6 (regs_at hart before)
      → HandsOver hart before after slot trap host (by_stop_call (hart_state_of hart before).hart)
  -- an exit by an enclave whose host has a saved context
  pub exit : (slot : ℕ) (host : Context) → (hart_state_of hart before).world ≡ Enclave slot
      → (hart_state_of hart before).host_context ≡ Some host
      → Requests 7 (regs_at hart before)
      → HandsOver hart before after slot trap host (by_exit_call (hart_state_of hart before).hart)

-- each ecall from S whose numbers meet the conditions of a call has the result of this call
abbrev pub CallsSucceed : ℕ → MonitoredMachine → MonitoredStepped → Type 0
CallsSucceed hart before after =
    (trap : Trap) → after.outcome.step.trap ≡ Some trap → trap.cause ≡ causes.Exception EnvironmentCallFromS
    → SucceedsInNumbers hart before after trap
