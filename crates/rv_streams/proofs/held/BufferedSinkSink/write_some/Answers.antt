-- This file proves obligations of `write_some` of a buffered sink, which gathers a part of the bytes.
use Rattle.std.proofs.Common.{rules, ◌∙◌, ◌++◌, ap, take}
use Rattle.rv_streams.proofs.HeldLemmas.{held_more}
use Rattle.rv_streams.proofs.held.BufferedSinkSink.write_some.Goals as goal

-- the bytes that the sink has taken are the bytes before and the gathered part (clause `bytes`)
pub returns-clause-bytes : goal.returns-clause-bytes
returns-clause-bytes g c =
    held_more _ _ _ _ _ _ c.hold-count.result (search rules) (search rules) c.hold-count.ensures.held
    ∙ ap (λ taken. taken ++ take c.hold-count.result c.args.part.now) c.in_ok-make_room.ensures.bytes
