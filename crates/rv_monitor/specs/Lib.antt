-- Names of other crates and of Rust types that definitions and proofs here use, re-exported from one place
pub mod Prelude
-- The reasons for which each call is refused, and the registers of its arguments
pub mod CallRefusals
-- The changes that each trap of a world and the return from it make, whatever the handler does
pub mod TrapReturns
-- The state of the monitored machine
pub mod MonitoredMachine
-- Laws for steps of the harts in any order
pub mod HartLaws
-- Laws for lists of events
pub mod Events
-- The bytes that a step reads, and two memories that change alike
pub mod Reads
-- One step of the monitored machine
pub mod Step
-- Fast steps
pub mod FastSteps
-- Switches between worlds: how the host enters an enclave, and how an enclave exits
pub mod Switches
-- The effect of a step on the world and on the host's saved context
pub mod SwitchLaws
-- Laws of every step of a hart, about the machine before it, the machine after it, and the outcome
pub mod StepLaws
-- The machine at reset in numbers
pub mod Reset
-- The return to the host
pub mod Returns
-- A debugger's writes of a hart's register, of its timer line and of memory
pub mod Debugger
-- Equivalence except for one enclave
pub mod EquivExcept
-- The reads of the trap handler from memory and from the saved contexts
pub mod HandlerReads
-- Noninterference: a step depends on nothing that is private to an enclave that is not the world of its hart, wherever that enclave runs
pub mod Noninterference
-- Access control
pub mod AccessControl
-- Integrity of a step
pub mod Integrity
-- The bytes of memory that a step changes
pub mod Changes
-- The accesses of a step's instruction
pub mod Touches
-- The machine with every byte and register that is private to an enclave complemented
pub mod Scrambled
-- A step that enters an enclave, by run or resume, gives the hart exactly the saved context of the enclave
pub mod Entering
-- The record of a live enclave keeps its region, window, entry and measurement
pub mod Records
-- An enclave exits only by its own ecall from S that requests stop or exit, or by the timer interrupt
pub mod Exits
-- Availability for the host
pub mod Availability
-- The answers of the monitor in numbers
pub mod NumberedCalls
-- Steps that are no call of the monitor
pub mod PlainSteps
-- Five laws determine each step: a result that obeys the five laws is the result of the step
pub mod Determined
-- The guest view: what the worlds can read of a machine
pub mod GuestView
-- Steps of an enclave depend only on its record
pub mod EnclaveSteps
-- Noninterference with declassification
pub mod Declassification
-- Attestation: the measurement identifies what an enclave does
pub mod Attestation
-- Machines whose pc and S-mode registers have legal values
pub mod LegalMachine
-- Integrity over the whole life of an enclave: how other worlds can influence the enclave
pub mod Life
