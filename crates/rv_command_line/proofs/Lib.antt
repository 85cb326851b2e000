-- The reading of a command line does not depend on where in memory the names of an option are
mod Alike
-- Lemmas about subcommands that are added to a command one after another
mod InTurn
-- The value that a typed getter of `clap` returns for an option's text
mod Numbers
-- The rules of the program's options
mod Options
-- The rows of options whose values are readable
mod Readable
-- If the arguments are accepted, each given option of `run` and of `twin` has a readable value
mod Taken
