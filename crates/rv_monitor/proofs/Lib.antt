-- Names that the proofs use in addition to those of specs/Prelude, re-exported from one place
pub mod Prelude
-- Lemmas about Boolean tests that several proofs use and std does not have
pub mod Booleans
-- Lemmas about addresses that are multiples of 4, and about addresses that are rounded down to a multiple of 4
pub mod Alignment
-- The return values of a call that switches no world, as the code computes them
pub mod Concluded
-- Case analysis of the trap handler: a claim that holds in each case holds for the trap handler
pub mod HandlerCases
-- The trap handler preserves the invariant of the hart and of the shared state
pub mod Ready
-- A step of one hart preserves the invariant of this hart and of the shared state
pub mod StepInvariant
-- The world of one hart, and the worlds of the other harts
pub mod Others
-- The trap handler reprograms the PMP entries and mie as its last action
pub mod PmpProgramming
-- The loop that programs the PMP entries and mie of the other harts
pub mod Programmed
-- The machine at reset has the values that the definition `machine_at_reset` writes out, and satisfies the invariant
pub mod Start
-- The trap handler of one hart gives results that are equivalent except one enclave, over two shared states that are equivalent except this enclave
pub mod HandledAlike
-- Two machines that are equivalent except one enclave stay equivalent except this enclave, if the same part of each changes alike
pub mod EquivLemmas
-- Noninterference of one step: low steps of two machines that are equivalent except one enclave have equal outcomes, and leave machines that are
-- equivalent except this enclave
pub mod MonitoredAlike
-- The state of each hart after a step, as two cases: the hart that steps, and each other hart
pub mod HartCases
-- In every state that satisfies the invariant, the PMP entries permit S and U exactly the accessible bytes
pub mod AccessControlLemmas
-- A bare step neither reads nor writes the region of an enclave other than the running world, in a state that satisfies the invariant
pub mod BareStepNoninterference
-- Every step of a hart, and every change by the debugger, preserves the invariant of the machine
pub mod InvariantLemmas
-- An enclave that runs on some hart is live, has the state Running, and still runs on this hart after a step of another hart
pub mod Beside
-- Noninterference for steps of the harts in any order, by the laws of one step
pub mod SchedNoninterference
-- Integrity for steps of the harts in any order: steps that leave an enclave undisturbed do not change its private state
pub mod SchedIntegrity
-- The trap handler depends only on what it reads from memory and from the saved contexts
pub mod HandlerReads
-- The effect of a step on the world of the hart and on the saved context of the host
pub mod Switched
-- The host gets its own context back when an enclave exits
pub mod Returned
-- A step of a view is the bare step of the hart, followed by the trap handler if the bare step traps
pub mod TrapSteps
-- Steps of a hart without a trap are steps of the monitored machine, because the trap handler does not run after such steps
pub mod FastSteps
-- The machine after an enclave exits, as one function of the cause
pub mod LeftMachine
-- After a trap of an enclave, either the enclave continues, or it exits and leaves the machine that the definition `left_machine` gives
pub mod Leaving
-- Integrity: a step preserves the private state of each live enclave that is not the running world, unless the step enters or destroys this enclave
pub mod Integrity
-- A step changes only three kinds of bytes: the bytes that its instruction stores, the region that a destroy zeroes, and the bytes that a measure
-- writes
pub mod Changes
-- Scramble preserves the invariant of the machine, and changes only what is private to the scrambled enclave
pub mod Scrambled
-- The bytes that the instruction of a step accesses are accessible to the running world
pub mod Touched
-- Every step of a hart of a machine with the full invariant obeys all laws of a step
pub mod StepLaws
-- The code stores hart states in an array. The first elements of this array represent the harts of a machine
pub mod Held
-- A step of the host either continues with the host, or enters an enclave
pub mod Entering
-- No step changes the identity of an enclave that stays live: the record of the enclave without its state
pub mod Records
-- An enclave exits only by the calls stop and exit, or by the timer interrupt
pub mod Exits
-- Availability: if the timer line of a hart is set, then the next step of an enclave on this hart exits to the host
pub mod Availability
-- The monitor answers each call with the result, the status and the effect that the call's table in numbers gives (specs/NumberedCalls)
pub mod NumberedCalls
-- A step without a trap is the step of its hart without the monitor; the host takes no interrupt
pub mod PlainSteps
-- The laws of a step determine the step: two results of one step that both obey the laws are equal
pub mod Determined
-- No world reads a counter, or a register that a trap to M-mode writes
pub mod GuestView
-- A step of an enclave over two shared states with equal tables, whose memories have equal bytes in the region and the window of the enclave, has
-- the same result
pub mod EnclaveMemory
-- Two harts of two enclaves with the same state make the same accesses
mod EnclaveAccesses
-- A step of an enclave depends only on the state of the enclave
pub mod EnclaveSteps
-- Two machines that are equivalent except one enclave stay so after this enclave exits from both, if the enclave hands over the same in both
pub mod Release
-- Low steps of two machines whose guest views are equivalent except one enclave have equal outcomes, and leave machines whose guest views are
-- equivalent except this enclave
pub mod GuestEquiv
-- A step of an enclave that does not exit changes only the hart, the region and the window of the enclave
pub mod EnclaveStays
-- A step depends on memory only by the bytes that it reads
pub mod SteppedOver
-- Two related machines are equivalent except one enclave in the guest view, if the window of this enclave has equal bytes in both while it runs
pub mod RelatedEquiv
-- A low step of two related machines while the enclave runs on another hart has equal outcomes, and leaves the machines related
pub mod LowSteps
-- Two related machines stay related after the debugger writes to the same hart of both, or to memory
pub mod RelatedChanges
-- Lists of events, by the laws of one step
pub mod Events
-- Noninterference with declassification: each permitted move keeps two machines related, and each low step of both machines has equal outcomes
pub mod Declassification
-- Attestation: two enclaves with equal measured bytes take the same steps in their first run, under any hosts and in any slots
pub mod Attestation
-- No step that obeys the laws of the entry and of a new enclave is a create that enters the new enclave at once
pub mod EntryRefusals
-- Every event leaves a machine legal: pc, stvec and sepc of each hart and of each saved context have values that the hart can store
pub mod LegalMachine
-- The point of life of an enclave: where it runs or its saved context, its identity, and what S and U see of its hart
pub mod LifePoints
-- The whole life of an enclave: two enclaves at one point of life take the same own steps
pub mod Life
