-- The registers that software below mode M can read: `guest_csrs` sets the counters and the registers that a trap to mode M writes to 0, and
-- `below_m_csrs` every register of mode M. RISC-V Privileged Architecture 20211203, sections 2.1 (the mode that a number requires), 3.1.6
-- (mstatus) and 4.1.1 (sstatus).
use Rattle.std.specs.Prelude.{false, []}
use Rattle.rv_pmp.specs.declared.mode.Mode.TheVariants.{U}
use Rattle.rv_state.specs.CsrState.{CsrState}

-- the registers with mcycle, minstret, mepc, mcause, mtval, MPIE and MPP set to 0
abbrev pub guest_csrs : CsrState → CsrState
guest_csrs csrs = record csrs { mstatus = record csrs.mstatus { mpie = false; mpp = U }; mepc = 0; mcause = 0; mtval = 0; mcycle = 0; minstret = 0 }

-- The registers of mode M other than those above, and the PMP entries, are also set to 0. The timer line and the remaining fields of mstatus stay,
-- since they decide whether an interrupt or an instruction traps.
abbrev pub below_m_csrs : CsrState → CsrState
below_m_csrs csrs = record (guest_csrs csrs) {
  mie = 0;
  mtvec = 0;
  mcountinhibit = 0;
  mscratch = 0;
  software_pending = 0;
  pmp = record { cfgs = []; addrs = [] };
}
