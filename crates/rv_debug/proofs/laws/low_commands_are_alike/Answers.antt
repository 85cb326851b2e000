-- This file proves the theorem `low_commands_are_alike`, which states when the condition of noninterference with declassification on the steps of a
-- command holds by itself.
use Rattle.rv_debug.proofs.LowCommands.{low_command}
use Rattle.rv_debug.proofs.laws.low_commands_are_alike.Goals as goal

-- proves the law (`LowCommandLaw`) that is the contract of `low_commands_are_alike`
pub returns : goal.returns
returns c = low_command
