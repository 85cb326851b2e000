-- This file chooses the ghost value of `CallLog::new`, which returns the log of a device that has not been called.
use Rattle.std.proofs.Common.{[]}
use Rattle.rv_streams.proofs.log.CallLog.new.Given as goal

-- the log of an output has no input
abbrev pub ghost-with_input : goal.ghost-with_input
ghost-with_input a = []
