-- Numbers in the operands of a command, in ASCII digits
pub mod Numbers
-- Numbers in a range
pub mod Within
-- Schedules: the hart of each step, as a word of digits
pub mod Schedules
-- The commands of the bench: their syntax, and the command of each line
pub mod Command
