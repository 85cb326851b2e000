-- This file proves obligations of `first_fields`, which returns the first `MOST_OPERANDS` fields between commas, or all if there are fewer, without
-- leading and trailing blanks.
use Rattle.std.proofs.Common.{◌≡◌, ◌==◌, ◌≤◌, length, arith, ap, rules}
use Rattle.std.proofs.lemmas.Iterator.{YieldsList-from_map_by}
use Rattle.std.proofs.lemmas.Iterator.Splits.{YieldsList-from_slice_split}
use Rattle.std.proofs.lemmas.Iterator.Consumers.{YieldsList-at, YieldsList-so_far, YieldsList-end}
use Rattle.std.proofs.lemmas.Bool.Decides.{nat_tests}
use Rattle.std.proofs.lemmas.Grind.{common_steps}
use Rattle.rv_text.specs.Characters.{comma}
use Rattle.rv_asm.specs.Cuts.{trimmed, comma_fields}
use Rattle.rv_asm.proofs.cuts.first_fields.Goals as goal

-- if the iterator ends, the fields are all fields of the text, which are at most four
pub returns-in-None : goal.returns-in-None
unfolding comma_fields
returns-in-None c =
    -- the iterator yields the parts between the commas (`from_slice_split`), each without its blanks (`from_map_by`)
    let (yielded_are_fields, yields_end) =
    YieldsList-end (YieldsList-at c.into_iter-field-iterator.ensures.into_iter_gives
    (YieldsList-from_map_by _ (λ x. x.now) trimmed
    (YieldsList-at c.map-field-items.ensures.source
    (YieldsList-from_slice_split _ (λ byte. byte == comma) c.args.text.now c.split.ensures.rest c.split.ensures.done c.split.ensures.closure
    (λ x b q k. search rules))) c.map-field-items.ensures.closure (λ x b q k. search rules))) c.loop-field.yielded _
    c.loop-field.yielded_by _ _ c.in-None.is c.next.ensures.steps in
    let at_most_4 : length c.loop-field.yielded ≤ 4 = omega (arith, ap length c.loop-field.invariant.so_far, c.loop-field.invariant.at_most_4) in
    rw c.loop-field.invariant.so_far (grind (arith, common_steps, yielded_are_fields, yields_end, at_most_4))

-- if four fields were taken, they are the first four fields of the text
pub returns-then-is_full : goal.returns-then-is_full
unfolding comma_fields
returns-then-is_full c =
    -- the iterator yields the parts between the commas (`from_slice_split`), each without its blanks (`from_map_by`)
    let yielded_so_far =
    YieldsList-so_far (YieldsList-at c.into_iter-field-iterator.ensures.into_iter_gives
    (YieldsList-from_map_by _ (λ x. x.now) trimmed
    (YieldsList-at c.map-field-items.ensures.source
    (YieldsList-from_slice_split _ (λ byte. byte == comma) c.args.text.now c.split.ensures.rest c.split.ensures.done c.split.ensures.closure
    (λ x b q k. search rules))) c.map-field-items.ensures.closure (λ x b q k. search rules))) c.loop-field.yielded _ c.loop-field.yielded_by in
    let four_yielded : length c.loop-field.yielded ≡ 4 = grind (arith, nat_tests, ap length c.loop-field.invariant.so_far) in
    rw c.loop-field.invariant.so_far (rw four_yielded at yielded_so_far)
