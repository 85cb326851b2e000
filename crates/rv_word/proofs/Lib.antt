-- The signed value of a word, by its highest bit and by the cast of std
pub mod SignLemmas
-- Bit fields by shifts and masks, and sign extension by a left shift and an arithmetic right shift
pub mod BitFieldLemmas
-- The high word of a product has the bits above its low word, as the casts of std compute them
pub mod ProductLemmas
-- The division of std solves the equation of a division, and its quotient and remainder are the only solution
pub mod DivisionLemmas
-- The machine's bit operations agree with those on lists of bits
pub mod LogicLemmas
-- Examples: division by 0, and signed overflow
mod DivisionExamples
