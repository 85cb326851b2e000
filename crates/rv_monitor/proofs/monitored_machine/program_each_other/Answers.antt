-- The proof obligations of `program_each_other` (src/monitored_machine.rt).
use Rattle.std.proofs.Common.{◌≡◌, length, rules, subst, arith}
use Rattle.rv_monitor.specs.declared.hart_state.TheConstants.{HARTS}
use Rattle.rv_monitor.proofs.Programmed.{AreProgrammed, all_programmed}
use Rattle.rv_monitor.proofs.monitored_machine.program_each_other.Goals as goal

-- `program_each_other` meets its contract
pub returns : goal.returns
returns c =
    let first = c.args.by_hart.now in
    let array_length : length first ≡ HARTS = search rules in
    -- the loop ends at the number of harts, so all harts of the machine are programmed
    let end : c.loop-other.other ≡ c.args.harts = omega arith in
    all_programmed c.args.table.now first c.loop-other.by_hart c.args.harts
    (subst (AreProgrammed c.args.table.now first c.loop-other.by_hart) end c.loop-other.invariant) (omega (arith, array_length, c.requires.few))
