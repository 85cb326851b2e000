-- Access control: in every state of the machine, the PMP entries of a hart permit exactly the accessible bytes. None of these is in a region
-- other than the world's own. (A law about the monitor's definitions; Keystone, EuroSys 2020, in this project's profile.)
use Rattle.std.specs.Prelude.{ℕ, ◌≡◌, ◌≢◌, true}
use Rattle.rv_word.specs.declared.width.Width.{Width}
use Rattle.rv_monitor.specs.Prelude.{Access, M, Mode, bytes_from, bytes_in, is_accessible, is_inside, permits, verdict}
use Rattle.rv_monitor.specs.MonitoredMachine.{HartView, HartViewInvariant}

-- in every state that satisfies the invariant, the PMP entries of a hart permit S and U exactly the accesses to accessible bytes in RAM
abbrev pub AccessControlLaw : Type 0
AccessControlLaw =
    (view : HartView) (mode : Mode) (access : Access) (address : ℕ) (width : Width)
    → HartViewInvariant view → mode ≢ M → is_inside view.shared.memory address (bytes_in width) ≡ true
    → permits (verdict view.hart_state.hart.csrs.pmp mode access (bytes_from address (bytes_in width)))
    ≡ is_accessible view.shared.memory view.shared.table view.hart_state.world access (bytes_from address (bytes_in width))
