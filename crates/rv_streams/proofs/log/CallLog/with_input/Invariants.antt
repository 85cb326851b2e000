-- This file chooses the ghost value of `CallLog::with_input`, which returns the log of a source that has not been called.
use Rattle.rv_streams.specs.CallLog.{no_call}
use Rattle.rv_streams.proofs.log.CallLog.with_input.Given as goal

-- the log before the first call has the assumed input
abbrev pub ghost-chosen : goal.ghost-chosen
ghost-chosen g a = no_call g.input
