-- This file states the loop invariants of `run_commands`, which executes the commands one after another.
use Rattle.std.proofs.Common.{◌≡◌, drop}
use Rattle.rv_debug.proofs.Prelude.{both_run}
use Rattle.rv_debug.proofs.BothAlike.{with_commands_before}
use Rattle.rv_debug.proofs.both.run_commands.Given as goal

-- the result of the remaining commands, with the `ran` executed ones counted before them, is the result of all commands
abbrev pub invariant-loop-ran : goal.invariant-loop-ran
invariant-loop-ran l =
    with_commands_before l.slot l.ran (both_run l.slot l.a l.b (drop l.ran l.commands)) ≡ both_run l.slot l.fn.a l.fn.b l.fn.commands
