-- The keyword of a word, as a search by its text
pub mod Keywords
-- The command of a line depends only on its first six words, and on its significant bytes
pub mod Commands
-- Examples: lines with their commands or errors
mod CommandExamples
-- Each digit of a schedule is the number of one of two harts
pub mod Schedules
