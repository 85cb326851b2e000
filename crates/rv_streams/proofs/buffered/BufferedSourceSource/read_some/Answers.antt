-- This file proves obligations of `read_some` of a buffered source, which returns bytes that are read ahead.
use Rattle.std.proofs.Common.{◌∙◌, sym}
use Rattle.rv_streams.proofs.BufferedLemmas.{ahead_given}
use Rattle.rv_streams.proofs.buffered.BufferedSourceSource.read_some.Goals as goal

-- the remaining bytes before the call are the returned bytes, followed by the remaining bytes after it (clause `bytes`)
pub returns-clause-bytes : goal.returns-clause-bytes
returns-clause-bytes g c = λ follows.
    sym (c.in_ok-read_ahead.ensures.bytes follows)
    ∙ ahead_given _ _ _ _ _ c.give-count.result _ c.give-count.ensures.count c.give-count.ensures.copied
