-- The proof obligations of `step_hart` (src/monitored_machine.rt).
use Rattle.std.proofs.Common.{subst}
use Rattle.rv_monitor.specs.Prelude.{KeepsOwn, HartState, Stepped}
use Rattle.rv_monitor.proofs.Prelude.{Handled, HostContextIsLegal}
use Rattle.rv_monitor.proofs.StepInvariant.{unlocked_after}
use Rattle.rv_monitor.proofs.Switched.{handler_keeps_legal}
use Rattle.rv_monitor.proofs.monitored_machine.step_hart.Goals as goal

-- the call of `handle` meets clause `unlocked` of its `requires`
pub handle-next-requires-clause-unlocked : goal.handle-next-requires-clause-unlocked
handle-next-requires-clause-unlocked g c =
    let after : Stepped =
    record { state = record { hart = c.step_at-step.new.self; memory = c.step_at-step.new.ram }; outcome = c.step_at-step.result } in
    -- a bare step that traps keeps the PMP entries (`trap_keeps`), and none is locked before the step
    unlocked_after c.args.hart_state.now c.args.shared.now after c.in-Some.trap c.in-Some.is c.requires.reprogrammed
    c.step_at-step.ensures.laws.trap_keeps

-- `step_hart` meets clause `legal` of its contract (`HostContextIsLegal`) in the arm `Some`
pub returns-in-Some-clause-legal : goal.returns-in-Some-clause-legal
returns-in-Some-clause-legal g c =
    let hart_state : HartState = record c.args.hart_state.now { hart = c.step_at-step.new.self } in
    -- the trap handler leaves a legal saved context, if the saved context is legal and the CSRs hold values that the hart can store
    subst (λ (result : Handled). HostContextIsLegal result.hart_state) c.handle-next.ensures
    (handler_keeps_legal hart_state (record c.args.shared.now {
      memory =
          c.step_at-step.new.ram;
    }) c.in-Some.trap c.requires.stored (subst KeepsOwn c.csrs.ensures c.keeps_own.ensures))
