-- The caches of the PMP entries. The manual defines none of this. Public contracts name only OpenRanges: three calls return cached ranges,
-- and their contracts say that these ranges are open.
pub mod Coherence
pub mod OpenRanges
pub mod Segments
