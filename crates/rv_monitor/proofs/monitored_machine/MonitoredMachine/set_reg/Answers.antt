-- The proof obligations of `MonitoredMachine::set_reg` (src/monitored_machine.rt).
use Rattle.rv_monitor.specs.Prelude.{with_register}
use Rattle.rv_monitor.proofs.Prelude.{reg_set, hart_state_of}
use Rattle.rv_monitor.proofs.Held.{element_change_is_hart_change, written_holds}
use Rattle.rv_monitor.proofs.monitored_machine.MonitoredMachine.set_reg.Goals as goal

-- `MonitoredMachine::set_reg` meets clause `meaning` of its contract
pub returns-clause-meaning : goal.returns-clause-meaning
returns-clause-meaning c =
    let inside = c.self.inside in
    -- the code changes one array element, so the represented machine changes in the state of this hart
    element_change_is_hart_change inside.by_hart c.set_reg_in.new.by_hart inside.harts c.args.hart inside.shared (reg_set c.args.reg c.args.value)
    c.args.self.now c.self.view_is c.requires c.set_reg_in.ensures

-- `self` has the invariant of its type when `MonitoredMachine::set_reg` returns
pub invariant_of-self : goal.invariant_of-self
invariant_of-self c =
    let inside = c.self.inside in
    let machine = c.args.self.now in
    let hart = (hart_state_of c.args.hart machine).hart in
    -- a write of the registers or of the timer line keeps the full invariant and the number of harts
    written_holds inside.by_hart c.set_reg_in.new.by_hart inside.harts c.args.hart inside.shared
    (with_register hart.regs c.args.reg c.args.value) hart.csrs.timer machine c.self.view_is c.requires c.self.invariant
    (returns-clause-meaning c)

-- `MonitoredMachine::set_reg` meets clause `invariant` of its contract (`FullInvariant`)
pub returns-clause-invariant : goal.returns-clause-invariant
returns-clause-invariant c = let (full_invariant, _, _) = invariant_of-self c in full_invariant
