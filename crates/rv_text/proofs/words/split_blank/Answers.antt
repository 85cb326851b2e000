-- This file proves obligations of `split_blank`, which returns the text before the first blank, and the text after it.
use Rattle.std.proofs.Common.{◌≡◌, ◌<◌, ◌+◌, ◌-◌, ◌∙◌, length, take, drop, arith, sym, append-nil}
use Rattle.std.specs.List.{position_or_len}
use Rattle.std.proofs.lemmas.Grind.{common_steps}
use Rattle.rv_text.specs.GoodLines.{is_blank}
use Rattle.rv_text.specs.Words.{words_of}
use Rattle.rv_text.proofs.WordCuts.{words-whole, words-cut}
use Rattle.rv_text.proofs.words.split_blank.Goals as goal

-- if the text has no blank, it is one word, or none if it is empty (clause `words`)
pub returns-then-end-text-clause-words : goal.returns-then-end-text-clause-words
unfolding words_of
returns-then-end-text-clause-words c =
    words-whole c.args.text.now (sym c.blank_position-end.ensures.value ∙ c.if-end-text.true) ∙ sym (append-nil _)

-- if the text has a blank, its words are the word before it, if it has a byte, and the words of the text after it (clause `words`)
pub returns-clause-words : goal.returns-clause-words
returns-clause-words c =
    let text = c.args.text.now in
    let end = c.blank_position-end.result in
    let end_is : end ≡ position_or_len is_blank text = c.blank_position-end.ensures.value in
    let blank_in_text : position_or_len is_blank text < length text =
    omega (arith, end_is, c.blank_position-end.ensures.within, c.if-end-text.false) in
    let rest_is_whole : take (length text - (end + 1)) (drop (end + 1) text) ≡ drop (end + 1) text = grind (arith, common_steps) in
    rw (rest_is_whole, end_is) (words-cut text blank_in_text)
