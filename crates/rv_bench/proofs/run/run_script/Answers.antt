-- This file proves obligations of `run_script`, which writes the reply of a bench to each line until the source reports its end, and then flushes
-- the sink.
use Rattle.std.proofs.Common.{rules}
use Rattle.rv_streams.specs.declared.fault.BenchFault.TheVariants.{Write}
use Rattle.rv_streams.specs.declared.separator.ScriptEnd.TheVariants.{Input}
use Rattle.rv_streams.proofs.Ends.{SinkFlushed-flush}
use Rattle.rv_streams.proofs.Mapped.{mapped}
use Rattle.rv_bench.specs.Run.{RunsLines}
use Rattle.rv_bench.proofs.Runs.{one_bench-fails, one_bench-runs}
use Rattle.rv_bench.proofs.run.run_script.Goals as goal

-- All lines of the script have their replies, and the sink is flushed. If the flush fails, the result is `Write` (clause `outcome`).
pub returns-clause-outcome : goal.returns-clause-outcome
returns-clause-outcome g c =
    let responds = c.in_ok-run_lines.ensures.outcome in
    let ends = c.run_lines.ensures.end in
    let same_bytes = c.flush.ensures.bytes in
    mapped (RunsLines g.W.Sink Input c.args.bench.now c.args.lines.now c.run_lines.new.lines c.args.sink.now c.flush.new.self)
    _ Write c.flush.result c.map_err.result c.map_err.ensures.cases (λ error mapped_error is_write. search rules)
    (λ _ flush_ok. one_bench-runs g.W.Sink responds ends same_bytes (SinkFlushed-flush g.W.Sink c.flush.result flush_ok c.flush.ensures.failures
    c.flush.ensures.refusals c.flush.ensures.flushed c.flush.ensures.flushes))
    (λ _ flush_failed. one_bench-fails g.W.Sink responds ends same_bytes (search rules))
