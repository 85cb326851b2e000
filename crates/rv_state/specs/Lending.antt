-- The control and status registers after a mutable borrow of their PMP entries ends. (Not defined by a standard.)
use Rattle.std.specs.Borrow.{Lends, MutBor, Fml}
use Rattle.rv_pmp.specs.Entries.{Entries}
use Rattle.rv_pmp.specs.contracts.pmp.Pmp.{the_row as pmp_row}
use Rattle.rv_state.specs.CsrState.{CsrState}
use Rattle.rv_state.specs.contracts.csrs.Csrs.{the_row as csrs_row}

-- the registers end with the final value of the borrowed entries
abbrev pub CsrsLendPmp : MutBor CsrState → MutBor Entries → Fml
CsrsLendPmp csrs pmp = Lends csrs_row pmp_row csrs pmp (λ left. record csrs.now { pmp = left })
