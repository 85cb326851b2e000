-- A step depends only on the bytes of memory that it fetched and loaded, and changes only those that it stored
pub mod Confined
-- Case analysis over the instructions that end in no exception
pub mod InstructionCases
-- Case analysis over a step
pub mod StepCases
-- The theorems about a step, each proved by the cases of a step
pub mod StepLaws
-- Below mode M a step keeps pc a multiple of 4, and stvec and sepc as a write stores them
pub mod Stored
-- Below mode M, with MPRV 0, a step depends on no register of mode M. It depends on the PMP entries only by what they permit
pub mod BelowMSteps
-- A step that traps by an interrupt takes the pending one
pub mod Interrupted
-- Examples: single steps with their results
mod StepExamples
