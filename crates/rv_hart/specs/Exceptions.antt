-- The exceptions of instructions, each with its value for mtval, and the trap of an interrupt, whose value is 0. (RISC-V Privileged Architecture
-- 20211203, sections 3.1.15 (mcause) and 3.1.16 (mtval).)
use Rattle.std.specs.Prelude.{ℕ}
use Rattle.rv_pmp.specs.declared.mode.Mode.{Mode}
use Rattle.rv_pmp.specs.declared.mode.Mode.TheVariants.{U, S, M}
use Rattle.rv_state.specs.declared.cause.Cause.TheVariants.{Exception as by_exception, Interrupt as by_interrupt}
use Rattle.rv_state.specs.declared.cause.Exception.{Exception}
use Rattle.rv_state.specs.declared.cause.Exception.TheVariants.{InstructionAddressMisaligned, IllegalInstruction, Breakpoint, EnvironmentCallFromU}
use Rattle.rv_state.specs.declared.cause.Exception.TheVariants.{EnvironmentCallFromS, EnvironmentCallFromM}
use Rattle.rv_state.specs.declared.cause.Interrupt.{Interrupt}
use Rattle.rv_hart.specs.declared.trap.Trap.{Trap}

-- `exception` is the trap of an exception, with the value for mtval
abbrev pub exception : Exception → ℕ → Trap
exception cause tval = record { cause = by_exception cause; tval = tval }

-- `misaligned` is the exception of a jump or taken branch to an address that is no multiple of 4
abbrev pub misaligned : ℕ → Trap
misaligned target = exception InstructionAddressMisaligned target

-- the access fault of a fetch, load or store; its value is the first address of the access
abbrev pub access_fault : Exception → ℕ → Trap
access_fault cause address = exception cause address

-- `illegal` is the exception of a word that encodes no instruction of the machine, or one that is not allowed in the current state
abbrev pub illegal : ℕ → Trap
illegal word = exception IllegalInstruction word

-- the exception of ebreak; its value is pc
abbrev pub breakpoint : ℕ → Trap
breakpoint pc = exception Breakpoint pc

-- an ecall has the exception of the mode that executes it
abbrev pub call_cause : Mode → Exception
call_cause U = EnvironmentCallFromU
call_cause S = EnvironmentCallFromS
call_cause M = EnvironmentCallFromM

-- `environment_call` is the trap of an ecall in a mode, with 0 for mtval
abbrev pub environment_call : Mode → Trap
environment_call mode = exception (call_cause mode) 0

-- the trap of an interrupt, with 0 for mtval
abbrev pub interrupted : Interrupt → Trap
interrupted interrupt = record { cause = by_interrupt interrupt; tval = 0 }
