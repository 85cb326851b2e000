-- The state of the control and status registers, and its value at reset (RISC-V Privileged Architecture 20211203, sections 3.1, 3.4 and 4.1).
-- This project chooses 0 for each value that the manual leaves open at reset.
use Rattle.std.specs.Prelude.{ℕ, Bool, false}
use Rattle.rv_pmp.specs.Entries.{Entries, reset as no_entries}
use Rattle.rv_state.specs.declared.mstatus.Mstatus.{Mstatus}
use Rattle.rv_state.specs.Mstatus.{mstatus_at_reset}

-- Each part has the name of its register.
pub record CsrState : Type 0 where
  pub mstatus : Mstatus
  pub mie : ℕ
  pub mtvec : ℕ
  pub mcountinhibit : ℕ
  pub mscratch : ℕ
  pub mepc : ℕ
  pub mcause : ℕ
  pub mtval : ℕ
  -- the bits of mip that software writes: SEIP, STIP and SSIP
  pub software_pending : ℕ
  -- the timer line, which mip shows as MTIP
  pub timer : Bool
  -- the sixteen entries of physical memory protection
  pub pmp : Entries
  -- the counters, with all their 64 bits
  pub mcycle : ℕ
  pub minstret : ℕ
  pub stvec : ℕ
  pub sscratch : ℕ
  pub sepc : ℕ
  pub scause : ℕ
  pub stval : ℕ

-- the registers at reset: all 0, with all PMP entries off and the timer line clear
abbrev pub at_reset : CsrState
at_reset = record {
  mstatus = mstatus_at_reset;
  mie = 0;
  mtvec = 0;
  mcountinhibit = 0;
  mscratch = 0;
  mepc = 0;
  mcause = 0;
  mtval = 0;
  software_pending = 0;
  timer = false;
  pmp = no_entries;
  mcycle = 0;
  minstret = 0;
  stvec = 0;
  sscratch = 0;
  sepc = 0;
  scause = 0;
  stval = 0;
}
