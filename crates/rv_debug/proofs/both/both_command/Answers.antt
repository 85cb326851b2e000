-- This file proves obligations of `both_command`, which executes one command on two benches, and replaces the contents of the buffers by their
-- replies.
use Rattle.std.proofs.Common.{subst}
use Rattle.rv_debug.proofs.Prelude.{BothExecuted, StayAlike}
use Rattle.rv_debug.proofs.BothAlike.{both_alike}
use Rattle.rv_debug.proofs.both.both_command.Goals as goal

-- clause `alike`: if the benches are equivalent and the command avoids the hart of the enclave, both executions are alike (`StayAlike`)
pub returns-clause-alike : goal.returns-clause-alike
returns-clause-alike c =
    subst (λ (after : BothExecuted). StayAlike c.args.slot c.args.a.now c.args.b.now c.args.command.now after) c.give_both.ensures
    (both_alike c.args.slot c.args.a.now c.args.b.now c.args.command.now c.invariant.ensures.monitor c.invariant-2.ensures.monitor)
