-- This file proves the theorem `any_events_are_commands`, which states that commands are lists of actions: events, and writes of a register or a
-- byte.
use Rattle.rv_debug.proofs.CommandEvents.{command_events}
use Rattle.rv_debug.proofs.laws.any_events_are_commands.Goals as goal

-- proves the law (`CommandEventsLaw`) that is the contract of `any_events_are_commands`
pub returns : goal.returns
returns c = command_events
