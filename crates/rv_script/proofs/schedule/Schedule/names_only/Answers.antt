-- This file proves obligations of `Schedule::names_only`, which returns whether each step is made by a hart below this number.
use Rattle.std.proofs.Common.{◌∙◌, sym, ap}
use Rattle.std.proofs.lemmas.List.Folds.{list_all-map}
use Rattle.std.specs.Prelude.{nat_lt}
use Rattle.rv_script.specs.Schedules.{has_all, hart_of_digit}
use Rattle.rv_script.proofs.schedule.Schedule.names_only.Goals as goal

-- the result states whether the hart of each step has a number below `harts`
pub returns : goal.returns
unfolding has_all
returns c =
    c.name_only.ensures ∙ sym (list_all-map (λ hart. nat_lt hart c.args.harts) hart_of_digit c.digits.result.now)
    ∙ ap (has_all c.args.harts) c.digits.ensures.harts
