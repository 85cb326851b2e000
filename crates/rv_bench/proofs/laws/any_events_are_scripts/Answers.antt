-- This file proves the theorem `any_events_are_scripts`, which states that every list of steps and of changes of timer lines is that of the lines of
-- a script.
use Rattle.rv_bench.proofs.HostInfluence.{script_events}
use Rattle.rv_bench.proofs.laws.any_events_are_scripts.Goals as goal

-- proves the law (`ScriptEventsLaw`) that is the contract of `any_events_are_scripts`
pub returns : goal.returns
returns c = script_events
