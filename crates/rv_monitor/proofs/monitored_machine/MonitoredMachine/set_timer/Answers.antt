-- The proof obligations of `MonitoredMachine::set_timer` (src/monitored_machine.rt).
use Rattle.rv_monitor.proofs.Prelude.{hart_state_of, timer_line_set}
use Rattle.rv_monitor.proofs.Held.{element_change_is_hart_change, written_holds}
use Rattle.rv_monitor.proofs.monitored_machine.MonitoredMachine.set_timer.Goals as goal

-- `MonitoredMachine::set_timer` meets clause `meaning` of its contract
pub returns-clause-meaning : goal.returns-clause-meaning
returns-clause-meaning c =
    let inside = c.self.inside in
    -- the code changes one array element, so the represented machine changes in the state of this hart
    element_change_is_hart_change inside.by_hart c.set_timer_in.new.by_hart inside.harts c.args.hart inside.shared (timer_line_set c.args.raised)
    c.args.self.now c.self.view_is c.requires c.set_timer_in.ensures

-- `self` has the invariant of its type when `MonitoredMachine::set_timer` returns
pub invariant_of-self : goal.invariant_of-self
invariant_of-self c =
    let inside = c.self.inside in
    let machine = c.args.self.now in
    -- a write of the registers or of the timer line keeps the full invariant and the number of harts
    written_holds inside.by_hart c.set_timer_in.new.by_hart inside.harts c.args.hart inside.shared
    (hart_state_of c.args.hart machine).hart.regs c.args.raised machine c.self.view_is c.requires c.self.invariant (returns-clause-meaning c)

-- `MonitoredMachine::set_timer` meets clause `invariant` of its contract (`FullInvariant`)
pub returns-clause-invariant : goal.returns-clause-invariant
returns-clause-invariant c = let (full_invariant, _, _) = invariant_of-self c in full_invariant
