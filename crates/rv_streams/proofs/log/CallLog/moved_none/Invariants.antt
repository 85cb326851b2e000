-- This file chooses the ghost value of `CallLog::moved_none`, which records a successful call that could have moved a byte and moved none.
use Rattle.rv_streams.specs.CallLog.{after_empty_call}
use Rattle.rv_streams.proofs.log.CallLog.moved_none.Given as goal

-- the log after the call has one more call that moved no byte
abbrev pub ghost-chosen : goal.ghost-chosen
ghost-chosen a = after_empty_call a.about.now
