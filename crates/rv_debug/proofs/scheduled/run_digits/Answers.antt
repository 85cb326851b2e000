-- This file proves obligations of `run_digits`, which executes one step of the hart of each digit, in their order.
use Rattle.std.proofs.Common.{◌<◌, ◌+◌, ◌∙◌, ℕ, sym, ap, subst, refl, arith}
use Rattle.rv_debug.specs.Prelude.{Target, has_all}
use Rattle.rv_debug.specs.Steps.{Stepped}
use Rattle.rv_debug.proofs.Prelude.{AfterSchedule, harts_of, with_scheduled_step}
use Rattle.rv_debug.proofs.ScheduleLoop.{has_next, no_digits_left, harts_from, scheduled_step_more, step_harts}
use Rattle.rv_debug.proofs.ScheduledSteps.{after_schedule}
use Rattle.rv_debug.proofs.scheduled.run_digits.Goals as goal

-- the hart of the next digit exists, which the call of `step_hart` requires
pub step_hart-outcome-requires : goal.step_hart-outcome-requires
step_hart-outcome-requires g c =
    let count = harts_of (g.T.Harts.as_target c.loop-digit.target) in
    let (digit_is_hart, _) =
    has_next count c.args.digits.now c.loop-digit.digit-index _ c.loop-digit-test.true refl c.loop-digit.invariant.harts_exist in
    subst (λ (hart : ℕ). hart < count) (sym c.hart-hart.ensures.which) digit_is_hart

-- After the step of the hart of a digit, the loop invariant holds for the digits after it. A step does not change the number of harts.
pub loop-digit-preserved : goal.loop-digit-preserved
loop-digit-preserved g c =
    let target = g.T.Harts.as_target in
    let digits = c.args.digits.now in
    let index = c.loop-digit.digit-index in
    let hart = c.hart-hart.result in
    let so_far = c.loop-digit.invariant in
    let before : AfterSchedule = after_schedule (target c.loop-digit.target) c.loop-digit.did in
    let after : AfterSchedule = after_schedule (target c.step_hart-outcome.new.self) c.add.new.self in
    let after_is = ap (with_scheduled_step hart before) c.step_hart-outcome.ensures ∙ ap (after_schedule after.state) (sym c.add.ensures.step) in
    let same_count = sym (ap (λ (last : Stepped Target). harts_of last.state) c.step_hart-outcome.ensures) ∙ step_harts hart before.state in
    -- the harts of the digits after this one exist
    let (_, later_harts_exist) = has_next (harts_of before.state) digits index _ c.loop-digit-test.true refl so_far.harts_exist in
    record {
      scheduled_steps =
          so_far.scheduled_steps
          ∙ scheduled_step_more digits index _ hart before after c.loop-digit-test.true refl c.hart-hart.ensures.which after_is;
      harts_exist = ap (λ (count : ℕ). has_all count (harts_from (index + 1) digits)) same_count ∙ later_harts_exist;
      hart_0_steps = omega (arith, c.add.ensures.first_one, so_far.hart_0_steps);
      hart_1_steps = omega (arith, c.add.ensures.second_one, so_far.hart_1_steps);
    }

-- after the last digit, no steps remain, so the target and the summary are those of the whole schedule
pub returns : goal.returns
returns g c =
    c.loop-digit.invariant.scheduled_steps
    ∙ no_digits_left c.args.digits.now c.loop-digit.digit-index (after_schedule (g.T.Harts.as_target c.loop-digit.target) c.loop-digit.did)
    c.loop-digit-test.false
