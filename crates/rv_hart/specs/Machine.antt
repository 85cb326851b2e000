-- The state of a machine, and the result of a step (RISC-V Unprivileged ISA 20191213, section 1.6).
use Rattle.std.specs.Prelude.{ℕ, List}
use Rattle.rv_hart.specs.HartRecord.{Hart}
use Rattle.rv_hart.specs.declared.trap.StepOutcome.{StepOutcome}

-- a machine has a hart and its memory
pub record Machine : Type 0 where
  -- the state of the hart
  pub hart : Hart
  -- the bytes of RAM
  pub memory : List ℕ

-- `Ended` has the hart after a step, and the outcome of the step
pub record Ended : Type 0 where
  -- the hart after the step
  pub hart : Hart
  -- the trap of the step, if any, and its accesses
  pub outcome : StepOutcome

-- `Stepped` has the hart and the memory after a step, and the outcome of the step
pub record Stepped : Type 0 where
  -- the machine after the step
  pub state : Machine
  -- the trap of the step, if any, and its accesses
  pub outcome : StepOutcome

-- `machine_of` is the machine of a hart and a memory
abbrev pub machine_of : Hart → List ℕ → Machine
machine_of hart memory = record { hart = hart; memory = memory }

-- `ended_in` is the end of a step: the hart after it, and its outcome
abbrev pub ended_in : Hart → StepOutcome → Ended
ended_in hart outcome = record { hart = hart; outcome = outcome }

-- `over` is the end of a step with the memory after it
abbrev pub over : List ℕ → Ended → Stepped
over memory ended = record { state = record { hart = ended.hart; memory = memory }; outcome = ended.outcome }

-- `stepped` is the result of a step: the hart, the memory and the outcome
abbrev pub stepped : Hart → List ℕ → StepOutcome → Stepped
stepped hart memory outcome = over memory (ended_in hart outcome)
