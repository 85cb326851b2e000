-- This file proves obligations of `read_in_line` of a buffered source, which returns bytes of at most one line.
use Rattle.std.proofs.Common.{◌∙◌, sym}
use Rattle.rv_streams.proofs.BufferedLemmas.{line_given}
use Rattle.rv_streams.proofs.buffered.BufferedSourceSource.read_in_line.Goals as goal

-- the remaining bytes before the call are the returned bytes, followed by the remaining bytes after it (clause `bytes`)
pub returns-clause-bytes : goal.returns-clause-bytes
returns-clause-bytes g c = λ follows.
    sym (c.in_ok-read_ahead.ensures.bytes follows) ∙ line_given _ _ _ _ _ _ c.give-count.result _ c.through_feed-text.ensures.prefix
    c.give-count.ensures.count c.give-count.ensures.copied
