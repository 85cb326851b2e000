-- This file proves obligations of `run_over_streams`, which runs the program from a reader to a writer.
use Rattle.std.proofs.Common.{rules}
use Rattle.rv_bench.proofs.StandardResults.{buffered_logs, runs_over}
use Rattle.rv_bench.proofs.standard.run_over_streams.Goals as goal

-- the program has read the reader and written the writer as specified, by the logs of their calls
pub returns : goal.returns
returns g c =
    let sink = c.perform_arguments-source.new.sink in
    let reader = c.into_source.result.log in
    let writer = c.into_sink.result.log in
    let logs = buffered_logs _ c.new-sink.result sink writer (search rules) (search rules) (search rules) (search rules) (search rules)
    (search rules) (search rules) in
    runs_over _ _ c.new-source.result _ c.new-sink.result sink writer logs _ g.input reader _ (λ same_input gave. search rules)
    (search rules) (search rules) (search rules) (λ untouched. search rules) c.perform_arguments-source.ensures.output
