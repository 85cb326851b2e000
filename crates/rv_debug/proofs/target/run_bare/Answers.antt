-- This file proves obligations of `run_bare`, which executes the steps of a bare machine.
use Rattle.rv_debug.proofs.TargetRuns.{runs_bare, enters_none}
use Rattle.rv_debug.proofs.target.run_bare.Goals as goal

-- clause `run`: the run of the machine is the run of the bare target
pub returns-clause-run : goal.returns-clause-run
returns-clause-run c = runs_bare _ _ _ _ _ _ c.run_steps.ensures

-- clause `none`: a run of a bare machine enters no enclave
pub returns-clause-none : goal.returns-clause-none
returns-clause-none c = enters_none _ _ _ _ _ _ c.run_steps.ensures
