-- The caches of the fast path. (Not defined by the manual. No public contract names them.)
pub mod Decoded
pub mod DecodeCache
pub mod Dispatch
pub mod FastOps
pub mod PermittedRanges
pub mod Runs
pub mod Fused
