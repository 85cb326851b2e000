-- This file proves obligations of `position_of`, which returns the position of the first such byte, or the length of the text if there is none.
use Rattle.std.proofs.Common.{◌==◌, ◌∙◌}
use Rattle.rv_text.proofs.FirstBytes.{position-first_byte}
use Rattle.rv_text.proofs.position.position_of.Goals as goal

-- the result is the position of the first wanted byte, or the length of the text (clause `value`), from the contract of `memchr`
pub returns-clause-value : goal.returns-clause-value
returns-clause-value c =
    c.unwrap_or.ensures ∙ position-first_byte (λ b. b == c.args.wanted) c.args.text.now c.memchr.result c.memchr.ensures
