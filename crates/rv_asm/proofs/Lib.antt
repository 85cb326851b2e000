-- The words of a text are the words that it denotes, and it denotes no others
mod DenotesLemmas
-- A lookup among borrowed rows finds what a lookup in the table finds
mod Found
-- Lemmas about the map of labels after one more name, and the addresses of labels after one more line
mod LabelLemmas
-- Lemmas about the first pass, line by line
mod PassLemmas
-- The results of both passes
mod PassResults
-- No statement has more than three operands, so operands after the fourth do not change the result
mod ManyOperands
-- The numbers in the tables of names are in range
mod Numbered
-- Lemmas about the pieces of a line that the disassembler writes
mod Plain
-- A line of pieces, blanks and commas is a single well-formed line without a comment or a label, and has only a statement
mod PlainLines
-- Each mnemonic that the disassembler writes is a piece of a line, and is read back as the same mnemonic
mod ReadMnemonics
-- Each number that the disassembler writes is read back as the same number
mod ReadNumbers
-- Each operand that the disassembler writes is a piece of a line, and is read back as the same operand
mod ReadOperands
-- Assembling the disassembly of a word gives that word
mod RoundTrip
-- The number of words of a line is its size
mod WordCounts
-- Lemmas about the second pass, line by line
mod WordLemmas
