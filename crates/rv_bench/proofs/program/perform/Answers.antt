-- This file proves obligations of `perform`, which performs the job that the arguments request, from a source to a sink.
use Rattle.rv_bench.proofs.ProgramResults.{runs_program}
use Rattle.rv_bench.proofs.program.perform.Goals as goal

-- the program wrote its output for the arguments and the input, or a device failed (clause `output`)
pub returns-clause-output : goal.returns-clause-output
returns-clause-output g c = runs_program _ _ _ _ _ _ _ _ c.performed.ensures
