-- This file proves obligations of `run_commands`, which executes the commands one after another.
use Rattle.std.proofs.Common.{◌≡◌, length, refl, arith}
use Rattle.rv_debug.proofs.BothAlike.{result_at_entry, result_at_not_blind, result_at_next, result_at_end}
use Rattle.rv_debug.proofs.both.run_commands.Goals as goal

-- if the command at index `ran` enters the enclave, the result counts this command and ends
pub returns-in-Entered : goal.returns-in-Entered
returns-in-Entered c =
    -- the premises: the index is in the list, `command` is the command there, and the loop invariant and the reason `Entered` hold
    result_at_entry c.args.slot c.loop-ran.a c.loop-ran.b c.args.commands.now c.loop-ran.ran c.index-commands-ran.result _ _
    c.loop-ran-test.true c.index-commands-ran.is c.loop-ran.invariant c.in-Entered.ensures.meaning refl

-- if the command at index `ran` is not blind in both benches, the result ends and does not count it
pub returns-in-NotBlind : goal.returns-in-NotBlind
returns-in-NotBlind c =
    -- the premises: the index is in the list, `command` is the command there, and the loop invariant and the reason `NotBlind` hold
    result_at_not_blind c.args.slot c.loop-ran.a c.loop-ran.b c.args.commands.now c.loop-ran.ran c.index-commands-ran.result _ _
    c.loop-ran-test.true c.index-commands-ran.is c.loop-ran.invariant c.in-NotBlind.ensures.meaning refl

-- after a command that both benches execute and that does not enter the enclave, the loop invariant holds for the remaining commands
pub loop-ran-preserved : goal.loop-ran-preserved
loop-ran-preserved c =
    -- the premises: the index is in the list, `command` is the command there, and the loop invariant and the reason `All` hold
    result_at_next c.args.slot c.loop-ran.a c.loop-ran.b c.args.commands.now c.loop-ran.ran c.index-commands-ran.result _ _
    c.loop-ran-test.true c.index-commands-ran.is c.loop-ran.invariant c.in-All.ensures.meaning refl

-- after the last command, the result is that all commands were executed
pub returns : goal.returns
returns c =
    let at_end : c.loop-ran.ran ≡ length c.args.commands.now = omega arith in
    result_at_end c.args.slot c.loop-ran.a c.loop-ran.b c.args.commands.now c.loop-ran.ran _ at_end c.loop-ran.invariant
