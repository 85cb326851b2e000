-- The proof obligations of `handle` (src/handler.rt).
use Rattle.std.proofs.Common.{sym, subst}
use Rattle.rv_state.specs.declared.cause.Cause.TheVariants as causes
use Rattle.rv_state.specs.declared.cause.Interrupt.TheVariants.{MachineTimer}
use Rattle.rv_monitor.specs.Prelude.{Cause, EnvironmentCallFromS, HartState}
use Rattle.rv_monitor.proofs.Prelude.{Handled, IsUnlocked}
use Rattle.rv_monitor.proofs.PmpProgramming.{unlocked_before_reprogramming}
use Rattle.rv_monitor.proofs.handler.handle.Goals as goal
use Rattle.rv_monitor.proofs.handler.handle.Goals.{in-Interrupt, in-Exception-EnvironmentCallFromS}

-- the call of `program_pmp` meets its `requires`: neither a stop by the timer nor a call writes a PMP entry
pub program_pmp-requires : goal.program_pmp-requires
program_pmp-requires c =
    let PmpIsUnlocked : HartState → Type 0 = λ hart_state. IsUnlocked hart_state.hart.csrs.pmp in
    -- no PMP entry is locked after the handling of the cause, before the reprogramming
    let still_unlocked = λ (cause : Cause) (left : Handled). unlocked_before_reprogramming c.args.hart_state.now c.args.shared.now cause left in
    elim c.match-trap.branch [
      | in-Interrupt w ↦
          subst PmpIsUnlocked (sym w.hart_state-is)
          (still_unlocked (causes.Interrupt MachineTimer) _ w.stop_by_timer-next.ensures c.requires.unlocked)
      | in-Exception-EnvironmentCallFromS w ↦
          subst PmpIsUnlocked (sym w.hart_state-is) (still_unlocked (causes.Exception EnvironmentCallFromS) _ w.call-next.ensures c.requires.unlocked)
    ]
