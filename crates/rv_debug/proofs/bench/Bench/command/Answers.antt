-- This file proves obligations of `Bench::command`, which executes one command, and replaces the contents of the buffer by its reply.
use Rattle.std.proofs.Common.{◌<◌, ℕ, ap, subst}
use Rattle.rv_debug.specs.Prelude.{Target}
use Rattle.rv_debug.proofs.Prelude.{Executed, BenchState, ChangesMemory, PreservesHarts, PreservesUndisturbed, selected_of, harts_of}
use Rattle.rv_debug.proofs.OtherHarts.{command_leaves_harts}
use Rattle.rv_debug.proofs.Isolation.{access_reports_accessible, changes_memory, command_preserves}
use Rattle.rv_debug.proofs.bench.Bench.command.Goals as goal

-- before the command, the selected hart is one of the harts of the target
selected_exists : (c : goal.After-execute) → selected_of c.args.self.now.target < harts_of c.args.self.now.target
selected_exists c =
    let selected_in_range =
    subst (λ (hart_count : ℕ). hart_count < harts_of c.self.inside.target) c.selected.ensures.selected c.selected.ensures.has in
    subst (λ (target : Target). selected_of target < harts_of target) (ap (λ (bench : BenchState). bench.target) c.self.view_is) selected_in_range

-- clause `accessible`: the command `access` reports exactly the accesses that are accessible to the world of the selected hart (`ReportsAccess`)
pub returns-clause-accessible : goal.returns-clause-accessible
returns-clause-accessible c =
    access_reports_accessible c.args.self.now.target c.args.command.now c.invariant.ensures.monitor (selected_exists c)

-- clause `changes`: the command changes only bytes that its steps or its poke may change (`ChangesMemory`)
pub returns-clause-changes : goal.returns-clause-changes
returns-clause-changes c =
    subst (λ (after : Executed). ChangesMemory c.args.self.now c.args.command.now after.state) c.execute.ensures.execute
    (changes_memory c.args.self.now c.args.command.now c.invariant.ensures.monitor)

-- clause `integrity`: the command preserves each enclave that it leaves undisturbed (`PreservesUndisturbed`)
pub returns-clause-integrity : goal.returns-clause-integrity
returns-clause-integrity c =
    subst (λ (after : Executed). PreservesUndisturbed c.args.self.now c.args.command.now after.state) c.execute.ensures.execute
    (command_preserves c.args.self.now c.args.command.now c.invariant.ensures.monitor)

-- clause `beside`: the command leaves each hart as it was that it neither steps nor writes, except for PMP entries and mie (`PreservesHarts`)
pub returns-clause-beside : goal.returns-clause-beside
returns-clause-beside c =
    subst (λ (after : Executed). PreservesHarts c.args.self.now c.args.command.now after.state) c.execute.ensures.execute
    (command_leaves_harts c.args.self.now c.args.command.now c.invariant.ensures.monitor)
