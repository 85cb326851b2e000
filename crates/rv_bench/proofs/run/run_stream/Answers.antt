-- This file proves obligations of `run_stream`, which reads an image, and then runs the lines after it as `run_bench` does.
use Rattle.std.proofs.Common.{◌∙◌, ap, sym, Ok}
use Rattle.rv_bench.proofs.Streams.{streamed}
use Rattle.rv_bench.proofs.run.run_stream.Goals as goal

-- the output for the input is written, or the error of the image, the start or a device is returned (clause `outcome`)
pub returns-clause-outcome : goal.returns-clause-outcome
returns-clause-outcome g c =
    let image_read = c.in_ok-image.ensures.outcome in
    streamed g.W.Sink c.args.setup.now c.as_slice.result.now c.args.lines.now c.read_image.new.lines c.run_bench.new.lines
    c.args.sink.now c.run_bench.new.sink image_read.0 (λ follows. image_read.2 follows ∙ ap Ok (sym c.as_slice.ensures.value))
    c.in_ok-image.ensures.end c.run_bench.ensures.end c.run_bench.result c.run_bench.ensures.outcome
