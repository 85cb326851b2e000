-- The state of a bench, which its commands show and change. (This project's own debugger.)
use Rattle.std.specs.Prelude.{ℕ, List, []}
use Rattle.rv_debug.specs.Prelude.{Bare, MonitoredMachine, Monitored, Machine, Target}

-- the state of a bench: its target, the sorted addresses of its breakpoints, and the sorted addresses of its watched bytes
pub record BenchState : Type 0 where
  pub target : Target
  pub breaks : List ℕ
  pub watches : List ℕ

-- `bare` is a bench with the given machine, and no breakpoint or watchpoint
abbrev pub bare : Machine → BenchState
bare machine = record { target = Bare machine; breaks = []; watches = [] }

-- `monitored` is a bench with a monitored machine, hart 0 selected, and no breakpoints or watchpoints
abbrev pub monitored : MonitoredMachine → BenchState
monitored machine = record { target = Monitored (record { hart = 0; state = machine }); breaks = []; watches = [] }
