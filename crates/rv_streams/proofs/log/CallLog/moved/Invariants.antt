-- This file chooses the ghost value of `CallLog::moved`, which records a call that moved bytes.
use Rattle.rv_streams.specs.CallLog.{after_move}
use Rattle.rv_streams.proofs.log.CallLog.moved.Given as goal

-- the log after the call has these bytes after the earlier ones
abbrev pub ghost-chosen : goal.ghost-chosen
ghost-chosen a = after_move a.about.now.0.now a.about.now.1.now
