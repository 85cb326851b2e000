-- The proof obligations of `program_other_pmp` (src/monitored_machine.rt).
use Rattle.std.proofs.Common.{◌≡◌, length, rules, arith}
use Rattle.rv_monitor.specs.declared.hart_state.TheConstants.{HARTS}
use Rattle.rv_monitor.proofs.Programmed.{single_hart_unchanged}
use Rattle.rv_monitor.proofs.monitored_machine.program_other_pmp.Goals as goal

-- `program_other_pmp` meets its contract if the test `harts > 1` fails
pub returns-else-harts-gt1 : goal.returns-else-harts-gt1
returns-else-harts-gt1 c =
    let state_array = c.args.by_hart.now in
    let array_length : length state_array ≡ HARTS = search rules in
    -- the only hart of the machine is already programmed (premise `own`), so nothing is to do
    single_hart_unchanged c.args.table.now state_array c.args.harts c.args.hart c.requires.has (omega (arith, c.if-harts-gt1.false))
    (omega (arith, array_length, c.requires.few)) c.requires.own
