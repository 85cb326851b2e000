-- The significant bytes of a line have the same meaning as the line
pub mod CutLines
-- A number that is read digit by digit has only digits of its base, and stays below the base to the power of their count
pub mod DigitValues
-- A search finds the first byte that passes a test
mod FirstBytes
-- The hexadecimal digits of a number, written one by one from the highest, and read back
pub mod HexDigits
-- Lemmas about the first line of a text
pub mod LineCuts
-- Lemmas about the lines of a text that is read byte by byte
pub mod LineLemmas
-- The result of `position`, or the length if there is none
pub mod Positions
-- The words of a text up to its first blank, and those after it
mod WordCuts
-- The words of a line are its bytes without the blanks, in order
mod WordLaws
