-- Trap entry and the two returns. RISC-V Privileged Architecture 20211203, sections 3.1.6.1 (xIE and xPP), 3.1.6.3 (MPRV), 3.1.7 (mtvec), 3.1.14
-- to 3.1.16 (mepc, mcause, mtval) and 3.3.2 (mret, sret).
use Rattle.std.specs.Prelude.{ℕ, ◌+◌, ◌*◌, ◌%◌, ◌^◌, Bool, true, false, ◌&&◌, ◌==◌, if◌then◌else◌}
use Rattle.rv_pmp.specs.declared.mode.Mode.{Mode}
use Rattle.rv_pmp.specs.declared.mode.Mode.TheVariants.{U, S}
use Rattle.rv_word.specs.BitFields.{bits}
use Rattle.rv_state.specs.Bits.{aligned_to_4}
use Rattle.rv_state.specs.Causes.{cause_code, interrupt_number}
use Rattle.rv_state.specs.CsrState.{CsrState}
use Rattle.rv_state.specs.Interrupts.{is_machine}
use Rattle.rv_state.specs.declared.cause.Cause.{Cause}
use Rattle.rv_state.specs.declared.cause.Cause.TheVariants as causes

-- the registers after a trap from a mode at pc. Every trap is taken in mode M. MPIE gets the value of MIE, MIE becomes 0, and MPP gets the mode
-- (section 3.1.6.1). Then mepc gets pc, mcause the cause, and mtval the value of the trap (3.1.14 to 3.1.16).
abbrev pub after_trap : CsrState → Mode → ℕ → Cause → ℕ → CsrState
after_trap csrs mode pc cause tval = record csrs {
  mstatus = record csrs.mstatus { mpie = csrs.mstatus.mie; mie = false; mpp = mode };
  mepc = aligned_to_4 pc;
  mcause = cause_code cause;
  mtval = tval;
}

-- the pc after a trap: the base of mtvec; for an interrupt in the mode Vectored (1), four times its number is added (3.1.7)
abbrev pub trap_target : ℕ → Cause → ℕ
trap_target mtvec (causes.Exception exception) = aligned_to_4 mtvec
trap_target mtvec (causes.Interrupt interrupt) =
    if bits mtvec 1 0 == 1 then (aligned_to_4 mtvec + 4 * interrupt_number interrupt) % 2 ^ 32 else aligned_to_4 mtvec

-- the registers after mret, which continues in the mode of MPP at mepc; MPRV becomes 0 if that mode is below M
abbrev pub after_mret : CsrState → CsrState
after_mret csrs = record csrs {
  mstatus = record csrs.mstatus {
    mie = csrs.mstatus.mpie;
    mpie = true;
    mpp = U;
    mprv = csrs.mstatus.mprv && is_machine csrs.mstatus.mpp;
  };
}

-- the mode that SPP names
abbrev pub mode_of_spp : Bool → Mode
mode_of_spp spp = if spp then S else U

-- the registers after sret, which continues in the mode of SPP at sepc
abbrev pub after_sret : CsrState → CsrState
after_sret csrs = record csrs {
  mstatus = record csrs.mstatus { sie = csrs.mstatus.spie; spie = true; spp = false; mprv = false };
}
