-- The numbers of the errors of an access to a control and status register, in the order in which they are checked. The numbers are this
-- project's own. (For the hart each is an illegal instruction: RISC-V Privileged Architecture 20211203, section 2.1.)
use Rattle.std.specs.Prelude.{ℕ}
use Rattle.rv_state.specs.declared.csr_fault.CsrFault.{CsrFault}
use Rattle.rv_state.specs.declared.csr_fault.CsrFault.TheVariants.{Missing, Privilege, ReadOnly, Trapped}

-- a number for each kind of fault, by which faults are compared
abbrev pub csr_fault_number : CsrFault → ℕ
csr_fault_number Missing = 1
csr_fault_number Privilege = 2
csr_fault_number ReadOnly = 3
csr_fault_number Trapped = 4
