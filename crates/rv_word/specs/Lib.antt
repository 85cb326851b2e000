-- Words, and the integers that they represent. A word is a natural number below 2 ^ 32
pub mod Word
-- Values by the case of an option or of a result
pub mod Cases
-- Bits and fields of bits, and their signs. Bit k has the weight 2 ^ k
pub mod BitFields
-- The bytes of a word in memory, little-endian
pub mod ByteOrder
-- The high words of products
pub mod Products
-- Quotients and remainders
pub mod Division
-- Logic on words, by their lists of bits
pub mod Logic
-- Shifts as products and quotients by powers of 2
pub mod Shifts
-- The widths of accesses to memory, in bytes
pub mod Widths
