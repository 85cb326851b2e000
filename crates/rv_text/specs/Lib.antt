-- The characters that separate lines, words and comments, by their codes in ASCII
pub mod Characters
-- Numbers in hexadecimal with leading zeros, in ASCII digits
pub mod Digits
-- Well-formed lines of a text
pub mod GoodLines
-- The lines of a text
pub mod Lines
-- Numbers in ASCII digits
pub mod Numbers
-- The words in a line of text
pub mod Words
