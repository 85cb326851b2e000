-- This file chooses the ghost value of `ReaderSource::new`, which returns a source over a reader.
use Rattle.rv_streams.proofs.stdio.ReaderSource.new.Given as goal

-- the source is assumed to have this input
abbrev pub ghost-with_input : goal.ghost-with_input
ghost-with_input g a = g.input
