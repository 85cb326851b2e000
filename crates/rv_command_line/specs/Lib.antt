-- The command line of the program, and the arguments that it accepts, based on the crate `clap`
pub mod CommandLine
-- The `clap` commands and options of the rows in the program's table
pub mod CommandRows
-- The errors of a command line, and their numbers
pub mod Faults
-- The job of the arguments of a command line
pub mod Job
-- The errors of arguments that give no job
pub mod Refusals
