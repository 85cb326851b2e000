-- This file proves obligations of `name_only`, which returns whether each of these digits is that of a hart below this number.
use Rattle.std.proofs.Common.{arith}
use Rattle.std.proofs.lemmas.Bool.Decides.{nat_tests}
use Rattle.rv_script.proofs.Schedules.{all_of_two}
use Rattle.rv_script.proofs.schedule.name_only.Goals as goal

-- with two harts or more, the result is true without a look at the digits, since every digit names hart 0 or hart 1
pub returns-then-harts-ge2 : goal.returns-then-harts-ge2
returns-then-harts-ge2 c =
    let has_two = c.if-harts-ge2.true in rw (all_of_two c.args.harts has_two c.args.digits.now) (grind (arith, nat_tests, has_two))
