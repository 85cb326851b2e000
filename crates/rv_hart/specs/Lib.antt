-- The results of computations, as natural numbers modulo 2 ^ 32
pub mod Arithmetic
-- Confinement of a step
pub mod Confinement
-- The instructions that read and change a control and status register . If an access is refused
pub mod CsrInstructions
-- The exceptions of instructions, each with its value for mtval, and the trap of an interrupt, whose value is 0
pub mod Exceptions
-- Two steps of a hart that are equal in everything that software below mode M can read
pub mod GuestView
-- The hart at reset, and the basic changes of its state
pub mod Hart
-- The state of a hart, without memory (RISC-V Unprivileged ISA 20191213, section 2.1; Privileged Architecture 20211203, section 1.2 and chapter 2 )
pub mod HartRecord
-- The meaning of each instruction
pub mod Instructions
-- The state of a hart after a mutable borrow of one of its parts ends
pub mod Lending
-- Permission of the accesses of a step
pub mod Permitted
-- The state of a machine, and the result of a step
pub mod Machine
-- One step of a machine
pub mod Step
-- Properties of every step
pub mod StepLaws
