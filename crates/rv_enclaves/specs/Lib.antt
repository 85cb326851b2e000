-- Valid blocks of memory, which one NAPOT entry can cover
pub mod ValidBlocks
-- The numbers of the slots of the table of enclaves
pub mod SlotNumbers
-- The table of enclaves: thirteen slots, each free or with the record of a live enclave
pub mod Table
-- The monitor's calls: numbers, worlds, accepted states and statuses
pub mod Calls
-- Refusals of calls: conditions with statuses, in the order of the checks
pub mod Refusals
-- Saved contexts: the registers, pc and mode of a world that does not run
pub mod Contexts
-- The call create: the host passes a region, a window and an entry point
pub mod Create
-- The call destroy: the host passes a slot whose enclave does not run
pub mod Destroy
-- The call measure: it writes the recorded measurement of an enclave to memory
pub mod Measure
-- The sixteen PMP entries for a table and a world, with their cfg and pmpaddr values, and the value of mie
pub mod Layout
-- Unlocked PMP entries: no entry has its L bit set
pub mod Unlocked
-- The memory that each world can access
pub mod AccessibleMemory
-- The invariant of the shared state, given the worlds that run on the harts
pub mod SharedInvariant
-- Equivalence of two shared states except for what is private to one enclave
pub mod SharedEquivExcept
-- The input of the measurement determines the region, the window, the entry and every byte of the region
pub mod Measurement
-- Scrambling: the complement of every byte and register that is private to an enclave
pub mod Scramble
-- Laws of the calls that create, destroy and measure an enclave, and of scrambling, about the state that the harts share
pub mod CallLaws
-- The calls of the monitor in numbers
pub mod CallNumbers
-- Examples of PMP layouts and of a scrambled state, by computation
pub mod Examples
