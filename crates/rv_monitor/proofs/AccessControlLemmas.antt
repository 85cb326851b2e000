-- In every state that satisfies the invariant, the PMP entries permit S and U exactly the accessible bytes.
use Rattle.std.proofs.Common.{◌≡◌, ◌≢◌, true, false, refl, sym, ◌∙◌, subst}
use Rattle.rv_monitor.specs.Prelude.{M, Mode, bytes_from, bytes_in, data_mode, is_accessible, is_machine, permits, verdict}
use Rattle.rv_monitor.specs.AccessControl.{AccessControlLaw}
use Rattle.rv_monitor.proofs.Prelude.{Entries, HartViewInvariant, HartView, reach_law}

-- proves the access control law for every world, mode and access
pub access_control_law : AccessControlLaw
access_control_law view mode access address width view_invariant mode_is_not_m inside =
    subst (λ (entries : Entries). permits (verdict entries mode access (bytes_from address (bytes_in width)))
    ≡ is_accessible view.shared.memory view.shared.table view.hart_state.world access (bytes_from address (bytes_in width)))
    (sym view_invariant.hart.layout.entries)
    (reach_law view.shared.memory view.shared.table view.hart_state.world mode access address width view_invariant.valid mode_is_not_m inside)

-- a mode that passes the test `is_machine` with false is not M
pub below_M : (mode : Mode) → is_machine mode ≡ false → mode ≢ M
below_M mode mode_below_m mode_is_m =
    let mode_is_machine : is_machine mode ≡ true =
    rw mode_is_m refl in let contradiction : true ≡ false = sym mode_is_machine ∙ mode_below_m in
    cc

-- if MPRV is 0, then loads and stores use the mode of the hart
pub data_below : (view : HartView) → HartViewInvariant view → is_machine (data_mode view.hart_state.hart) ≡ false
data_below view view_invariant =
    let mprv_is_clear = view_invariant.hart.layout.mprv in
    -- MPRV is 0, so the mode for data is the mode of the hart, which is below M
    rw mprv_is_clear view_invariant.hart.layout.mode
