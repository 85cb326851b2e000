-- The loop invariants of `program_each_other` (src/monitored_machine.rt).
use Rattle.rv_monitor.proofs.Programmed.{AreProgrammed}
use Rattle.rv_monitor.proofs.monitored_machine.program_each_other.Given as goal

-- the harts below the loop variable are reprogrammed, and the others are unchanged
abbrev pub invariant-loop-other : goal.invariant-loop-other
invariant-loop-other l = AreProgrammed l.table l.fn.by_hart l.by_hart l.other
