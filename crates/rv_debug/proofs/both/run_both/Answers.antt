-- This file proves obligations of `run_both`, which executes a list of commands on two benches.
use Rattle.std.proofs.Common.{subst}
use Rattle.rv_debug.proofs.NotRunning.{all_avoid_hart}
use Rattle.rv_debug.proofs.BothAlike.{Folded, EndAlike, folded, run_alike}
use Rattle.rv_debug.proofs.both.run_both.Goals as goal

-- clause `first`: the first bench ends in the state after the executed commands
pub returns-clause-first : goal.returns-clause-first
returns-clause-first c =
    let (first_end_is, _) = subst (Folded c.args.slot c.args.a.now c.args.b.now c.args.commands.now) c.run_commands.ensures
    (folded c.args.slot c.args.a.now c.args.b.now c.args.commands.now) in
    first_end_is

-- clause `second`: the second bench ends in the state after the executed commands
pub returns-clause-second : goal.returns-clause-second
returns-clause-second c =
    let (_, second_end_is) = subst (Folded c.args.slot c.args.a.now c.args.b.now c.args.commands.now) c.run_commands.ensures
    (folded c.args.slot c.args.a.now c.args.b.now c.args.commands.now) in
    second_end_is

-- clause `alike`: if the benches are equivalent and the executed commands avoid the hart of the enclave, then the executed commands are alike
pub returns-clause-alike : goal.returns-clause-alike
returns-clause-alike c equiv =
    subst (EndAlike c.args.slot c.args.a.now c.args.b.now c.args.commands.now) c.run_commands.ensures
    (run_alike c.args.slot c.args.a.now c.args.b.now c.args.commands.now c.invariant.ensures.monitor c.invariant-2.ensures.monitor equiv)

-- clause `not_running`: if the enclave runs on no hart of the first bench, all commands avoid its hart
pub returns-clause-not_running : goal.returns-clause-not_running
returns-clause-not_running c = all_avoid_hart c.args.slot c.args.a.now c.args.commands.now c.invariant.ensures.monitor
