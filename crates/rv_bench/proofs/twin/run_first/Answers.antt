-- This file proves obligations of `run_first`, which runs the first script on both benches, and writes the replies of the first.
use Rattle.std.proofs.Common.{rules, refl}
use Rattle.rv_streams.specs.declared.fault.BenchFault.TheVariants.{Write}
use Rattle.rv_streams.specs.declared.separator.ScriptEnd.TheVariants.{Separator}
use Rattle.rv_streams.proofs.Ends.{no_failure}
use Rattle.rv_streams.proofs.Mapped.{mapped}
use Rattle.rv_bench.specs.Replies.{one_bench}
use Rattle.rv_bench.specs.Responses.{RespondsToScript}
use Rattle.rv_bench.proofs.Runs.{one_bench-fails, RespondsToAll-passed}
use Rattle.rv_bench.proofs.twin.run_first.Goals as goal

-- All lines of the first script have their replies, and the sink has passed them on. If it fails to, the result is `Write` (clause `outcome`).
pub returns-clause-outcome : goal.returns-clause-outcome
returns-clause-outcome g c =
    let responds = c.in_ok-run_lines.ensures.outcome in
    let same_bytes = c.pass_on.ensures.bytes in
    mapped (RespondsToScript g.W.Sink one_bench Separator c.args.benches.now.first c.run_lines.new.responding.first
    c.args.lines.now c.run_lines.new.lines c.args.sink.now c.pass_on.new.self)
    _ Write c.pass_on.result c.map_err.result c.map_err.ensures.cases (λ error mapped_error is_write. search rules)
    (λ _ passed. RespondsToAll-passed g.W.Sink responds same_bytes (record {
      worked = (no_failure _ _ _ c.pass_on.result _ c.pass_on.ensures.failures passed refl, c.pass_on.ensures.refusals);
      unflushed = c.pass_on.ensures.flushes;
    }))
    (λ _ pass_failed. one_bench-fails g.W.Sink responds c.run_lines.ensures.end same_bytes (search rules))
