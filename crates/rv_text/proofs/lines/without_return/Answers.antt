-- This file proves obligations of `without_return`, which returns the text before a line feed, without a carriage return at its end.
use Rattle.std.proofs.Common.{◌++◌, ◌∷◌, [], ◌∙◌, ap, sym}
use Rattle.rv_text.specs.Lines.{without_return}
use Rattle.rv_text.proofs.LineLemmas.{without_return-return}
use Rattle.rv_text.proofs.LineCuts.{no_return-other}
use Rattle.rv_text.proofs.lines.without_return.Goals as goal

-- if the last byte of the line is a carriage return (13), the result is the line without it
pub returns-in-Some : goal.returns-in-Some
returns-in-Some c =
    sym (ap without_return (c.in-Some.ensures.cases.0 ∙ ap (λ last. c.in-Some.prefix.now ++ last ∷ []) c.if-last-eq13.true)
    ∙ without_return-return c.in-Some.prefix.now)

-- if the line does not end with a carriage return, the result is the line itself
pub returns-in_default : goal.returns-in_default
returns-in_default c =
    let line_splits = c.in-Some.ensures.cases.0 in
    let not_return = c.if-last-eq13.false in
    no_return-other c.args.line.now c.in-Some.prefix.now c.in-Some.last.now line_splits not_return
