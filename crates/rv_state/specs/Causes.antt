-- The codes of the causes in mcause (RISC-V Privileged Architecture 20211203, section 3.1.15 and table 3.6).
use Rattle.std.specs.Prelude.{ℕ, ◌+◌, ◌^◌}
use Rattle.rv_state.specs.declared.cause.Exception.{Exception}
use Rattle.rv_state.specs.declared.cause.Exception.TheVariants.{InstructionAddressMisaligned, InstructionAccessFault, IllegalInstruction}
use Rattle.rv_state.specs.declared.cause.Exception.TheVariants.{Breakpoint, LoadAccessFault, StoreAccessFault, EnvironmentCallFromU}
use Rattle.rv_state.specs.declared.cause.Exception.TheVariants.{EnvironmentCallFromS, EnvironmentCallFromM}
use Rattle.rv_state.specs.declared.cause.Interrupt.{Interrupt}
use Rattle.rv_state.specs.declared.cause.Interrupt.TheVariants.{SupervisorSoftware, MachineSoftware, SupervisorTimer, MachineTimer}
use Rattle.rv_state.specs.declared.cause.Interrupt.TheVariants.{SupervisorExternal, MachineExternal}
use Rattle.rv_state.specs.declared.cause.Cause.{Cause}
use Rattle.rv_state.specs.declared.cause.Cause.TheVariants as causes

-- the codes of interrupts, which are also the positions of their bits in mip and mie (section 3.1.9)
abbrev pub interrupt_number : Interrupt → ℕ
interrupt_number SupervisorSoftware = 1
interrupt_number MachineSoftware = 3
interrupt_number SupervisorTimer = 5
interrupt_number MachineTimer = 7
interrupt_number SupervisorExternal = 9
interrupt_number MachineExternal = 11

-- `exception_number` is the code of an exception
abbrev pub exception_number : Exception → ℕ
exception_number InstructionAddressMisaligned = 0
exception_number InstructionAccessFault = 1
exception_number IllegalInstruction = 2
exception_number Breakpoint = 3
exception_number LoadAccessFault = 5
exception_number StoreAccessFault = 7
exception_number EnvironmentCallFromU = 8
exception_number EnvironmentCallFromS = 9
exception_number EnvironmentCallFromM = 11

-- the code of a cause; bit 31 marks an interrupt
abbrev pub cause_code : Cause → ℕ
cause_code (causes.Interrupt interrupt) = 2 ^ 31 + interrupt_number interrupt
cause_code (causes.Exception exception) = exception_number exception
