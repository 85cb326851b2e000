-- The proof obligations of `MonitoredMachine::scramble` (src/monitored_machine.rt).
use Rattle.std.proofs.Common.{sym, subst}
use Rattle.rv_monitor.specs.Prelude.{Shared}
use Rattle.rv_monitor.proofs.Prelude.{EquivExcept, Invariant, MonitoredMachine, machine_of_parts}
use Rattle.rv_monitor.proofs.Scrambled.{scrambled_if_invariant, scrambled_if_equiv}
use Rattle.rv_monitor.proofs.monitored_machine.MonitoredMachine.scramble.Goals as goal

-- `self` has the invariant of its type when `MonitoredMachine::scramble` returns
pub invariant_of-self : goal.invariant_of-self
invariant_of-self c =
    let inside = c.self.inside in
    let (full_invariant, some_harts, at_most_max_harts) = c.self.invariant in
    let before : MonitoredMachine = machine_of_parts inside.by_hart inside.harts inside.shared in
    let scrambled = c.scramble.ensures in
    let InvariantWith : Shared → Type 0 = λ shared. Invariant (record before { shared = shared }) in
    let invariant_after = subst InvariantWith (sym scrambled.meaning)
    (scrambled_if_invariant c.scramble.result before c.args.slot scrambled.asked full_invariant.monitor) in
    (record { monitor = invariant_after; legal = full_invariant.legal }, some_harts, at_most_max_harts)

-- `MonitoredMachine::scramble` meets clause `invariant` of its contract (`FullInvariant`)
pub returns-clause-invariant : goal.returns-clause-invariant
returns-clause-invariant c = let (full_invariant, _, _) = invariant_of-self c in full_invariant

-- `MonitoredMachine::scramble` meets clause `equivalent` of its contract (`EquivExcept`)
pub returns-clause-equivalent : goal.returns-clause-equivalent
returns-clause-equivalent c =
    let inside = c.self.inside in
    let before : MonitoredMachine = machine_of_parts inside.by_hart inside.harts inside.shared in
    let enclave = c.args.slot in
    let (full_invariant, _, _) = c.self.invariant in
    let scrambled = c.scramble.ensures in
    let BeforeEquivWith : Shared → Type 0 = λ shared. EquivExcept enclave before (record before { shared = shared }) in
    let EquivToScrambled : MonitoredMachine → Type 0 = λ machine. EquivExcept enclave machine (record before { shared = c.scramble.new.self }) in
    subst EquivToScrambled c.self.view_is (subst BeforeEquivWith (sym scrambled.meaning)
    (scrambled_if_equiv c.scramble.result before enclave scrambled.asked full_invariant.monitor))
