-- The decoder's steps as functions
pub mod Reading
-- Each kind is found by its code, and each code fits in its bits
pub mod CodeLemmas
-- The word of an instruction is read as this instruction
pub mod ReadingLemmas
-- A word encodes an instruction of a row if and only if it equals the row's match under the row's mask
pub mod MaskLemmas
-- The listing has exactly the rows of the instructions
pub mod ListingLemmas
-- Decoding by the listing finds the only instruction that a word encodes
pub mod DecodingLemmas
-- Examples: words decoded by the definition alone
mod DecodedExamples
