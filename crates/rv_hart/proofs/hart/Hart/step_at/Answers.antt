-- This file proves obligations of `Hart::step_at`, which executes one step, as `Hart::step` does.
use Rattle.rv_hart.specs.StepLaws.{TrapKeeps, KeepsMprvClear, KeepsMachineParts, ChangesStored, TakesPending}
use Rattle.rv_hart.specs.GuestView.{DependsBelowM}
use Rattle.rv_hart.specs.Confinement.{IsConfined}
use Rattle.rv_hart.specs.Permitted.{TouchesPermitted}
use Rattle.rv_hart.proofs.BelowMSteps.{depends_below_m}
use Rattle.rv_hart.proofs.Confined.{confined}
use Rattle.rv_hart.proofs.Interrupted.{takes_pending}
use Rattle.rv_hart.proofs.StepLaws.{after_step, trap_keeps, keeps_mprv_clear, keeps_machine_parts, changes_stored, touches_permitted}
use Rattle.rv_hart.proofs.hart.Hart.step_at.Goals as goal

-- the step obeys each law of a hart, because the step of the definition does
pub returns-clause-laws : goal.returns-clause-laws
returns-clause-laws g c = record {
  x0 = c.invariant.ensures.x0;
  aligned = c.invariant.ensures.aligned;
  trap_keeps = after_step TrapKeeps trap_keeps c.step_once-outcome.ensures;
  mprv = after_step KeepsMprvClear keeps_mprv_clear c.step_once-outcome.ensures;
  machine_parts = after_step KeepsMachineParts keeps_machine_parts c.step_once-outcome.ensures;
  memory = after_step ChangesStored changes_stored c.step_once-outcome.ensures;
  permitted = after_step TouchesPermitted touches_permitted c.step_once-outcome.ensures;
  confined = after_step IsConfined confined c.step_once-outcome.ensures;
  interrupt = after_step TakesPending takes_pending c.step_once-outcome.ensures;
  below_m = after_step DependsBelowM depends_below_m c.step_once-outcome.ensures;
}
