-- The state of a hart, without memory (RISC-V Unprivileged ISA 20191213, section 2.1; Privileged Architecture 20211203, section 1.2 (modes) and
-- chapter 2 (control and status registers)).
use Rattle.std.specs.Prelude.{ℕ, List}
use Rattle.rv_pmp.specs.declared.mode.Mode.{Mode}
use Rattle.rv_state.specs.CsrState.{CsrState}

-- a hart has the integer registers, the control and status registers, the pc, and the mode
pub record Hart : Type 0 where
  -- the 32 integer registers
  pub regs : List ℕ
  -- the control and status registers
  pub csrs : CsrState
  -- the address of the next instruction
  pub pc : ℕ
  -- the privilege mode
  pub mode : Mode
