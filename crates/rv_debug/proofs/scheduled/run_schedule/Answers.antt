-- This file proves obligations of `run_schedule`, which executes one step of each hart of a schedule, in its order.
use Rattle.std.proofs.Common.{◌∙◌, sym, ap}
use Rattle.rv_debug.specs.Prelude.{Bare, Monitored}
use Rattle.rv_debug.proofs.Prelude.{AfterSchedule, harts_of, schedule_start}
use Rattle.rv_debug.proofs.ScheduleLoop.{schedule_enters_none, schedule_harts}
use Rattle.rv_debug.proofs.scheduled.run_schedule.Goals as goal

-- clause `bare`: a schedule on a bare machine enters no enclave
pub returns-in-Bare-clause-bare : goal.returns-in-Bare-clause-bare
returns-in-Bare-clause-bare c =
    λ is_bare. sym (ap (λ (after : AfterSchedule). after.did.entered) c.run_digits.ensures)
    ∙ schedule_enters_none _ (schedule_start (Bare c.in-Bare.machine)) tt

-- clause `harts`: a schedule on a monitored machine does not change the number of harts
pub returns-in-Monitored-clause-harts : goal.returns-in-Monitored-clause-harts
returns-in-Monitored-clause-harts c =
    sym (ap (λ (after : AfterSchedule). harts_of after.state) c.run_digits-in-Monitored.ensures)
    ∙ (schedule_harts _ (schedule_start (Monitored c.in-Monitored.selected)) ∙ ap harts_of (sym c.in-Monitored.is))
