-- This file proves obligations of `dispatch`, which calls the function of a job, as `run_job` does.
use Rattle.std.proofs.Common.{rules}
use Rattle.rv_bench.proofs.job.dispatch.Goals as goal

-- the job `run` calls `run_stream`, with new lines over the source
pub returns-in-Run : goal.returns-in-Run
returns-in-Run g c =
    let run = c.run_stream-outcome.ensures in
    rw c.in-Run.is (c.new-lines.result, c.run_stream-outcome.new.lines, search rules, run.outcome)

-- the job `twin` calls `run_twin`, with new lines over the source
pub returns-in-Twin : goal.returns-in-Twin
returns-in-Twin g c =
    let run = c.run_twin-outcome.ensures in
    rw c.in-Twin.is (c.new-lines-in-Twin.result, c.run_twin-outcome.new.lines, search rules, run.outcome)

-- the job `dis` calls `run_dis`, with new lines over the source
pub returns-in-Dis : goal.returns-in-Dis
returns-in-Dis g c = rw c.in-Dis.is (c.new-lines-in-Dis.result, c.run_dis-outcome.new.lines, search rules, c.run_dis-outcome.ensures.outcome)
