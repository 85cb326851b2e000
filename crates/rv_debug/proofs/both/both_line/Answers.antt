-- This file proves obligations of `both_line`, which executes a line, given without its line ending, on two benches as `both_command` executes its
-- command.
use Rattle.rv_debug.proofs.Execution.{both_line-prefix}
use Rattle.rv_debug.proofs.both.both_line.Goals as goal

-- clause `prefix`, for a line with a command: another line with the same significant bytes has the same effect and replies
pub returns-in-Ok-clause-prefix : goal.returns-in-Ok-clause-prefix
returns-in-Ok-clause-prefix c = λ other same_prefix. both_line-prefix _ _ _ other _ same_prefix

-- clause `prefix`, for a line with an error: another line with the same significant bytes has the same reply, and no effect
pub returns-in-Err-clause-prefix : goal.returns-in-Err-clause-prefix
returns-in-Err-clause-prefix c = λ other same_prefix. both_line-prefix _ _ _ other _ same_prefix
