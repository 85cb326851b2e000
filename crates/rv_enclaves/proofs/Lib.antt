-- Names that most proofs of this crate use, re-exported from one place
pub mod Prelude
-- The PMP entries that the code writes are the entries of the layout, and the PMP stores them unchanged
pub mod InvariantLemmas
-- Lemmas about a table after a change of one slot, and about the checks of a create that compare the new blocks with the table
pub mod Slots
-- A table stays valid if the record of one slot changes to a record that fits, or if the memory changes but keeps its size
pub mod Valid
-- The facts about a call that the monitor does not refuse
pub mod Refusals
-- Each call and each context switch preserves the invariant of the shared state (specs/SharedInvariant)
pub mod SharedInvariantLemmas
-- The shared state at reset satisfies the invariant, because no enclave is live
pub mod Start
-- The same write to two lists of equal length keeps equal elements equal
pub mod SavedLists
-- Reads and writes of two memories that are equal outside the hidden bytes
pub mod EqualMemory
-- Create, destroy, measure and context switches preserve equivalence of two shared states except `enclave`
pub mod Alike
-- The facts about two shared states that the noninterference of the trap handler needs
pub mod WorksAlike
-- A NAPOT entry for a block covers exactly the bytes of the block (Privileged 3.7.1)
pub mod Napots
-- Tests of a range of numbers that are equal for each number, and the PMP verdict by the matching entry. (The file VerdictLemmas of rv_pmp does
-- not have these lemmas.)
pub mod Scans
-- Each PMP entry of the monitor's layout covers exactly the bytes of its block
pub mod Owners
-- Access control: under the PMP layout of the monitor, S and U are permitted an access if and only if the accessed bytes are accessible to the
-- running world
pub mod AccessLemmas
-- Scramble preserves the invariant of the shared state, and changes only what is private to the scrambled enclave
pub mod Scrambled
-- Two scrambles of the same enclave restore the shared state
pub mod ScrambledTwice
-- Two valid enclaves with equal measured bytes have equal create arguments and equal bytes in their regions
pub mod Measurement
-- The definitions of the calls agree with the tables of specs/CallNumbers, which describe the calls in numbers
pub mod CallNumbers
-- Examples of calls that the monitor accepts or refuses, with the numbers of the calls and of the statuses
pub mod CallExamples
-- The monitor accepts each call whose arguments meet the conditions of the call
pub mod AcceptedCalls
