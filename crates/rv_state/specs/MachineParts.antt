-- The machine's parts: the state that software below mode M cannot change while MPRV is 0, except by traps and the counting of steps. (RISC-V
-- Privileged Architecture 20211203, sections 2.1 (the mode that a number requires), 3.1.6 (mstatus) and 3.1.6.3 (MPRV, which sret clears).)
use Rattle.std.specs.Prelude.{false}
use Rattle.rv_state.specs.CsrState.{CsrState}

-- the registers with the other parts set to 0: the registers of mode S, the fields of mstatus that sstatus shows, and the counters. The
-- registers of mode M, the PMP entries and the timer line remain.
unfoldable pub machine_parts : CsrState → CsrState
machine_parts csrs = record csrs {
  mstatus = record csrs.mstatus { sie = false; spie = false; spp = false; mxr = false };
  mcycle = 0;
  minstret = 0;
  stvec = 0;
  sscratch = 0;
  sepc = 0;
  scause = 0;
  stval = 0;
}
