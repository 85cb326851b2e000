-- The registers of mode S as one value, and the effect of setting them together (RISC-V Privileged Architecture 20211203, section 4.1). Each
-- register is stored as a write to it would store it: stvec without bit 1, sepc without bits 1:0.
use Rattle.std.specs.Prelude.{◌≡◌}
use Rattle.rv_state.specs.Bits.{aligned_to_4}
use Rattle.rv_state.specs.CsrState.{CsrState}
use Rattle.rv_state.specs.CsrTable.{vector_of}
use Rattle.rv_state.specs.declared.s_context.SContext.{SContext}

-- the registers of mode S that a context switch saves
abbrev pub s_context : CsrState → SContext
s_context csrs = record {
  stvec = csrs.stvec;
  sscratch = csrs.sscratch;
  sepc = csrs.sepc;
  scause = csrs.scause;
  stval = csrs.stval;
  sie = csrs.mstatus.sie;
  spie = csrs.mstatus.spie;
  spp = csrs.mstatus.spp;
  mxr = csrs.mstatus.mxr;
}

-- the state with the registers of mode S restored, as writes store them
abbrev pub with_s_context : CsrState → SContext → CsrState
with_s_context csrs context = record csrs {
  stvec = vector_of context.stvec;
  sscratch = context.sscratch;
  sepc = aligned_to_4 context.sepc;
  scause = context.scause;
  stval = context.stval;
  mstatus = record csrs.mstatus { sie = context.sie; spie = context.spie; spp = context.spp; mxr = context.mxr };
}

-- stvec and sepc have legal values, those that a write would store
pub record HasLegalVectors (csrs : CsrState) : Type 0 where
  -- a write of stvec to itself changes nothing
  pub stvec : vector_of csrs.stvec ≡ csrs.stvec
  -- a write of sepc to itself changes nothing
  pub sepc : aligned_to_4 csrs.sepc ≡ csrs.sepc

-- setting the current values changes nothing
abbrev pub KeepsOwn : CsrState → Type 0
KeepsOwn csrs = with_s_context csrs (s_context csrs) ≡ csrs
