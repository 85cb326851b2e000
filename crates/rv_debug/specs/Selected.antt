-- A monitored machine, and its selected hart, which commands work on. (This project's own debugger.)
use Rattle.std.specs.Prelude.{ℕ}
use Rattle.rv_monitor.specs.MonitoredMachine.{MonitoredMachine}

-- `Selected` has a monitored machine, and the number of its selected hart
pub record Selected : Type 0 where
  pub hart : ℕ
  pub state : MonitoredMachine
