-- The operation of a cache entry, if it executes, has the effect of its instruction
pub mod DecodedMeans
-- Fast operations are steps: each has the effect of `step`, within the limits, without a trap
pub mod FastOpLemmas
-- A run of steps: each is a fast operation, and the decode cache stays coherent
pub mod RunLemmas
-- Lemmas about a list of steps: what holds of each step holds of all of them
pub mod FastLemmas
-- The decode cache stays coherent during a run of steps
pub mod DecodeCacheLemmas
-- Permitted ranges that are cut from ranges open to accesses are open to them
pub mod PermittedRangeLemmas
