-- The hexadecimal digits of a number without leading zeros are as many of its last digits as it has
pub mod HexTexts
-- The names of all instructions have at most 10 bytes
mod ShortNames
-- Examples: words with their disassembly
mod SpellingExamples
