-- The caches of the fast path
pub mod Cache
-- Fast steps
pub mod FastSteps
-- The state of a machine after a mutable borrow of one of its parts ends
pub mod Lending
