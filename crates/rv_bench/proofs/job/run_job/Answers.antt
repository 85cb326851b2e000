-- This file proves obligations of `run_job`, which performs a job from a source to a sink, and returns the source with the outcome of the call.
use Rattle.rv_bench.proofs.JobResults.{job_meets_output}
use Rattle.rv_bench.proofs.job.run_job.Goals as goal

-- the outcome of the job has the meaning that the output of the job for the input gives it (clause `output`)
pub returns-clause-output : goal.returns-clause-output
returns-clause-output g c = job_meets_output _ _ _ _ _ _ _ _ c.dispatch.ensures
