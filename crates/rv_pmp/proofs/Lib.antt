-- Tests of the numbers in an interval, and the verdict from the entries that match an access
pub mod VerdictLemmas
-- The widths of accesses: one, two or four bytes
pub mod WidthLemmas
-- The range of a NAPOT entry, as an interval
pub mod CoversLemmas
-- The stored form of a cfg byte, by masks
pub mod CfgLemmas
-- Each verdict has its meaning
pub mod JustifiedLemmas
-- Open ranges: addresses to which the PMP permits every access of a kind in a mode
pub mod OpenRangeLemmas
-- The matching entry of a byte
pub mod ByteMatchLemmas
-- The verdict on an access of at most four bytes, by the matching entries of its first and its last byte
pub mod MatchedVerdicts
-- The ends of ranges while they are written, one range after another
pub mod BoundsLemmas
-- Consecutive segments
pub mod SegmentLemmas
-- The cfg bytes while a register is written, one after another
pub mod LockLemmas
-- Examples of verdicts and ranges, computed by the definitions alone
mod VerdictExamples
