-- The accesses of a hart, at any alignment
pub mod Accesses
-- A change of memory that is confined to some bytes
pub mod Changes
-- The numbers of the errors
pub mod Faults
-- Memory as a list of bytes, with one function that reads it and one that changes it
pub mod Memory
-- The complement of a byte, and a memory with some of its bytes complemented
pub mod Complement
-- A memory after a mutable borrow of its bytes ends
pub mod Lending
-- Blocks of addresses, given by a first address and a number of bytes, and the block that the monitor reserves for itself
pub mod Blocks
-- Two blocks meet if and only if they share a byte
pub mod BlockLaws
-- The number of harts in a machine
pub mod Harts
