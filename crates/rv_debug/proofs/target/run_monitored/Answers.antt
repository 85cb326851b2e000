-- This file proves obligations of `run_monitored`, which executes the steps of the selected hart of a monitored machine.
use Rattle.rv_debug.proofs.TargetRuns.{runs_selected}
use Rattle.rv_debug.proofs.target.run_monitored.Goals as goal

-- the run of the selected hart is the run of the monitored target
pub returns : goal.returns
returns c = runs_selected _ _ _ _ _ _ c.run_steps.ensures
