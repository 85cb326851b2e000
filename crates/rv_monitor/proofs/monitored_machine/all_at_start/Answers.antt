-- The proof obligations of `all_at_start` (src/monitored_machine.rt).
use Rattle.std.proofs.Common.{rules}
use Rattle.rv_monitor.specs.MonitoredMachine.{numbered_hart_state_at_start}
use Rattle.rv_monitor.proofs.Start.{array_is_map}
use Rattle.rv_monitor.proofs.monitored_machine.all_at_start.Goals as goal

-- `all_at_start` meets its contract
pub returns : goal.returns
returns c =
    -- each call of the closure returns the hart state at reset with its number, and the array has the results of these calls
    array_is_map _ _ (numbered_hart_state_at_start c.args.entry) (λ hart hart_state closure_after call. search rules) _ _ c.from_fn.ensures.items
