-- This file states the loop invariants of `run_digits`, which executes one step of the hart of each digit, in their order.
use Rattle.std.proofs.Common.{◌≡◌, ◌≤◌, true}
use Rattle.rv_debug.specs.Prelude.{has_all}
use Rattle.rv_debug.proofs.Prelude.{harts_of, schedule_start, scheduled_steps}
use Rattle.rv_debug.proofs.ScheduleLoop.{harts_from}
use Rattle.rv_debug.proofs.ScheduledSteps.{after_schedule}
use Rattle.rv_debug.proofs.scheduled.run_digits.Given as goal

-- The remaining steps from here give the result of the whole schedule (`scheduled_steps`). The harts of the remaining digits exist. Each hart has
-- made at most one step for each digit passed (`hart_0_steps`, `hart_1_steps`).
abbrev pub invariant-loop-digit : goal.invariant-loop-digit
invariant-loop-digit g l = record {
  scheduled_steps : scheduled_steps (harts_from 0 l.digits) (schedule_start (g.T.Harts.as_target l.fn.target))
      ≡ scheduled_steps (harts_from l.digit-index l.digits) (after_schedule (g.T.Harts.as_target l.target) l.did);
  harts_exist : has_all (harts_of (g.T.Harts.as_target l.target)) (harts_from l.digit-index l.digits) ≡ true;
  hart_0_steps : l.did.first.steps ≤ l.digit-index;
  hart_1_steps : l.did.second.steps ≤ l.digit-index;
}
