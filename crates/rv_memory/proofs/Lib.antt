-- Properties of memory
pub mod MemoryLaws
-- Properties of accesses
pub mod AccessLaws
-- Complementing a memory twice restores it
pub mod Complements
-- Lemmas about blocks that meet
pub mod BlockLaws
