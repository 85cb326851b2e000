-- The output for an assembler text
pub mod Assembling
-- Bytes that were read ahead into a buffer
pub mod BufferedLemmas
-- The end of the input as the lines report it, and the counts of a sink over several calls
pub mod Ends
-- Examples: lines and images with their results
pub mod Examples
-- Bytes that a sink holds for another sink
pub mod HeldLemmas
-- The image that lines encode, which are read one by one
pub mod ImageLemmas
-- The results of reading an image, by the line that ends it
pub mod ImageResults
-- A line whose bytes are read part by part
pub mod LineTextLemmas
-- A call whose error is mapped to another
pub mod Mapped
-- The lines of a script that are read one by one, up to its end
pub mod ScriptLemmas
-- The lines of a list before the first line that fails a test
pub mod TakeWhileLemmas
-- No word is longer than its line, so it has at most `max_line` bytes
pub mod WordLengths
-- A text that is written part by part
pub mod Writing
-- Lines that are gathered and written, one for each item of a list
pub mod WrittenLines
