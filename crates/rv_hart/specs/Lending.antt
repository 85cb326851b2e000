-- The state of a hart after a mutable borrow of one of its parts ends. (Not defined by a standard.)
use Rattle.std.specs.Prelude.{ℕ, List}
use Rattle.std.specs.Borrow.{Lends, MutBor, Fml}
use Rattle.rv_hart.specs.HartRecord.{Hart}
use Rattle.rv_hart.specs.contracts.hart.Hart.{the_row as hart_row}
use Rattle.rv_state.specs.contracts.csrs.Csrs.{the_row as csrs_row}
use Rattle.rv_state.specs.contracts.regs.Regs.{the_row as regs_row}
use Rattle.rv_state.specs.CsrState.{CsrState}

-- the hart ends with the final value of the borrowed integer registers
abbrev pub HartLendsRegs : MutBor Hart → MutBor (List ℕ) → Fml
HartLendsRegs hart regs = Lends hart_row regs_row hart regs (λ left. record hart.now { regs = left })

-- the hart ends with the final value of the borrowed control and status registers
abbrev pub HartLendsCsrs : MutBor Hart → MutBor CsrState → Fml
HartLendsCsrs hart csrs = Lends hart_row csrs_row hart csrs (λ left. record hart.now { csrs = left })
