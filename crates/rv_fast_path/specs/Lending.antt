-- The state of a machine after a mutable borrow of one of its parts ends. (Not defined by a standard.)
use Rattle.std.specs.Prelude.{ℕ, List}
use Rattle.std.specs.Borrow.{Lends, MutBor, Fml}
use Rattle.rv_memory.specs.contracts.ram.Ram.{the_row as ram_row}
use Rattle.rv_hart.specs.Machine.{Machine}
use Rattle.rv_fast_path.specs.contracts.machine.Machine.{the_row as machine_row}
use Rattle.rv_state.specs.contracts.csrs.Csrs.{the_row as csrs_row}
use Rattle.rv_state.specs.contracts.regs.Regs.{the_row as regs_row}
use Rattle.rv_state.specs.CsrState.{CsrState}

-- the hart of the machine ends with the final value of the borrowed integer registers
abbrev pub MachineLendsRegs : MutBor Machine → MutBor (List ℕ) → Fml
MachineLendsRegs machine regs =
    Lends machine_row regs_row machine regs (λ left. record machine.now { hart = record machine.now.hart { regs = left } })

-- the hart of the machine ends with the final value of the borrowed control and status registers
abbrev pub MachineLendsCsrs : MutBor Machine → MutBor CsrState → Fml
MachineLendsCsrs machine csrs =
    Lends machine_row csrs_row machine csrs (λ left. record machine.now { hart = record machine.now.hart { csrs = left } })

-- the machine ends with the final value of the borrowed memory
abbrev pub MachineLendsRam : MutBor Machine → MutBor (List ℕ) → Fml
MachineLendsRam machine ram = Lends machine_row ram_row machine ram (λ left. record machine.now { memory = left })
