-- The changes that each trap of a world and the return from it make, whatever the handler does. (Trap and return: RISC-V Privileged Architecture
-- 20211203, sections 3.1.6.1 and 3.1.14 to 3.1.16. Count of cycles: section 3.1.10.)
use Rattle.std.specs.Prelude.{ℕ, true}
use Rattle.rv_state.specs.Causes.{cause_code}
use Rattle.rv_state.specs.Counters.{incremented}
use Rattle.rv_monitor.specs.Prelude.{CsrState, Hart, Trap, U, aligned_to_4, is_set, sum_of}

-- the CSRs after a trap from mode S and the return to it at this pc: no instruction retires, so only cycles are counted
abbrev pub passed_csrs : CsrState → Trap → ℕ → CsrState
passed_csrs csrs trap pc = record csrs {
  mepc = pc;
  mcause = cause_code trap.cause;
  mtval = trap.tval;
  mstatus = record csrs.mstatus { mpie = true; mpp = U };
  mcycle = incremented csrs.mcycle (is_set csrs.mcountinhibit 0);
}

-- the address after the ecall at pc, with pc aligned to 4
abbrev pub past_ecall : Hart → ℕ
past_ecall hart = sum_of (aligned_to_4 hart.pc) 4
