-- This file proves obligations of `shown_len`, which returns the number of bytes that are shown of a text before a line feed.
use Rattle.rv_text.proofs.LineLemmas.{shown-return, shown-other, shown-empty}
use Rattle.std.proofs.Common.{◌++◌, ◌∷◌, [], ◌∙◌, ap}
use Rattle.rv_streams.proofs.line.shown_len.Goals as goal
use Rattle.rv_streams.proofs.line.shown_len.Goals.{in_default-via-in-Some+else-last-eq-CARRIAGE_RETURN, in_default-via-in_default}

-- if the text ends with a carriage return, the shown bytes are those before it, but at most the significant bytes
pub returns-in-Some : goal.returns-in-Some
returns-in-Some c =
    let (ends_in_last, lengths) = c.in-Some.ensures.cases in
    shown-return c.args.text.now c.in-Some.prefix.now
    (ends_in_last ∙ ap (λ last. c.in-Some.prefix.now ++ last ∷ []) c.if-last-eq-CARRIAGE_RETURN.true) c.requires

-- if the text is empty or ends with another byte, the shown bytes are its significant bytes
pub returns-in_default : goal.returns-in_default
returns-in_default c = rw c.min.ensures (elim c.in_default.branch [
  | in_default-via-in-Some+else-last-eq-CARRIAGE_RETURN other ↦
      let (ends_in_last, lengths) = other.in-Some.ensures.cases in
      shown-other c.args.text.now other.in-Some.prefix.now other.in-Some.last.now ends_in_last other.if-last-eq-CARRIAGE_RETURN.false
  | in_default-via-in_default empty ↦ shown-empty c.args.text.now empty.in_default.ensures.cases
])
