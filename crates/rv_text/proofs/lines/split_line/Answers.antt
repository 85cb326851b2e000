-- This file proves obligations of `split_line`, which returns the first line of a text and the text after it, or `None` if there is no line.
use Rattle.std.proofs.Common.{◌≡◌, ◌<◌, ◌+◌, ◌-◌, ◌==◌, ◌∙◌, length, take, drop, arith, sym}
use Rattle.std.specs.List.{position_or_len}
use Rattle.std.proofs.lemmas.Grind.{common_steps}
use Rattle.std.proofs.lemmas.Bool.Decides.{nat_tests}
use Rattle.rv_text.specs.Characters.{line_feed}
use Rattle.rv_text.proofs.LineCuts.{lines-cut, lines-whole}
use Rattle.rv_text.proofs.lines.split_line.Goals as goal

-- if the text has no line feed, it is one line, with no text after it (clause `lines`)
pub returns-then-end-text-clause-lines : goal.returns-then-end-text-clause-lines
returns-then-end-text-clause-lines c =
    let not_empty : 0 < length c.args.text.now = grind (arith, nat_tests) in
    lines-whole c.args.text.now not_empty (sym c.position_of-end.ensures.value ∙ c.if-end-text.true)

-- if the text has a line feed, its lines are the line before it, without a carriage return, and the lines of the text after it (clause `lines`)
pub returns-clause-lines : goal.returns-clause-lines
returns-clause-lines c =
    let text = c.args.text.now in
    let end = c.position_of-end.result in
    let end_is : end ≡ position_or_len (λ b. b == line_feed) text = c.position_of-end.ensures.value in
    let feed_in_text : position_or_len (λ b. b == line_feed) text < length text =
    omega (arith, end_is, c.position_of-end.ensures.within, c.if-end-text.false) in
    let rest_is_whole : take (length text - (end + 1)) (drop (end + 1) text) ≡ drop (end + 1) text = grind (arith, common_steps) in
    rw (rest_is_whole, c.without_return.ensures, end_is) (lines-cut text feed_in_text)
