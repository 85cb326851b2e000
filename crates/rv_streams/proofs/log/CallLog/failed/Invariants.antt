-- This file chooses the ghost value of `CallLog::failed`, which records a failed call.
use Rattle.rv_streams.specs.CallLog.{after_failure}
use Rattle.rv_streams.proofs.log.CallLog.failed.Given as goal

-- the log after the call has one more failure
abbrev pub ghost-chosen : goal.ghost-chosen
ghost-chosen a = after_failure a.about.now
