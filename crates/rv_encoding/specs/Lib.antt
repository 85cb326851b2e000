-- The positions of instruction fields in a word
pub mod Places
-- The ranges of the fields whose lowest bits are always 0
pub mod Ranges
-- The opcodes, and for each kind of an instruction group its name and its codes
pub mod Codes
-- The rows of the instruction listings, and the word that encodes an instruction
pub mod Rows
-- The 58 instructions by name, mask and match, in the order of the manuals
pub mod Listing
-- The instruction that a word encodes, found in the listing
pub mod Decoding
