-- This file chooses the ghost value of `CallLog::flushed`, which records a successful flush.
use Rattle.rv_streams.specs.CallLog.{after_flush}
use Rattle.rv_streams.proofs.log.CallLog.flushed.Given as goal

-- the log after the call has one more flush
abbrev pub ghost-chosen : goal.ghost-chosen
ghost-chosen a = after_flush a.about.now
