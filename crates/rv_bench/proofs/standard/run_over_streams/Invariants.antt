-- This file states the loop invariants of `run_over_streams`, which runs the program from a reader to a writer.
use Rattle.rv_bench.proofs.standard.run_over_streams.Given as goal

-- the standard source is assumed to have this input
abbrev pub ghost-new : goal.ghost-new
ghost-new g a = g.input
