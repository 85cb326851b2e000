-- This file proves obligations of `run_twin`, which performs a twin run.
use Rattle.std.proofs.Common.{◌∙◌, refl, sym, ap, Ok}
use Rattle.rv_streams.proofs.Ends.{EndsWithSource-more}
use Rattle.rv_streams.proofs.Mapped.{passed_on}
use Rattle.rv_bench.specs.Twin.{RunsTwin}
use Rattle.rv_bench.proofs.Runs.{one_bench-runs, one_bench-state}
use Rattle.rv_bench.proofs.Twins.{ReadsImage, first_fails, not_started, second_part}
use Rattle.rv_bench.proofs.twin.run_twin.Given as given
use Rattle.rv_bench.proofs.twin.run_twin.Goals as goal
use Rattle.rv_bench.proofs.twin.run_twin.Goals.{After-as_slice}

-- after the call of `read_image`, the image and the separator were read
image_read : (g : given.Over) (c : After-as_slice g) → ReadsImage c.args.lines.now c.read_image.new.lines c.as_slice.result.now
image_read g c = record {
  through = c.in_ok-image.ensures.outcome.0;
  gives = λ follows. c.in_ok-image.ensures.outcome.2 follows ∙ ap Ok (sym c.as_slice.ensures.value);
  ends = c.in_ok-image.ensures.end;
}

-- if no bench starts, the result is the error of the RAM or of the image, and nothing is written (clause `outcome`)
pub returns-in_err-benches-clause-outcome : goal.returns-in_err-benches-clause-outcome
returns-in_err-benches-clause-outcome g c =
    passed_on (RunsTwin g.W.Sink c.args.setup.now c.args.slot c.args.lines.now c.read_image.new.lines c.args.sink.now c.args.sink.now)
    c.from_residual-in_err-benches.result _ c.from_residual-in_err-benches.ensures.1
    (not_started g.W.Sink c.args.setup.now c.args.slot c.as_slice.result.now c.args.lines.now c.read_image.new.lines c.args.sink.now
    (image_read g (goal.at.returns-in_err-benches-clause-outcome g c).After-as_slice) _ c.in_err-benches.ensures)

-- if a device fails in the first script, the result is its error, and a prefix of the text was written (clause `outcome`)
pub returns-in_err-run_first-clause-outcome : goal.returns-in_err-run_first-clause-outcome
returns-in_err-run_first-clause-outcome g c =
    passed_on (RunsTwin g.W.Sink c.args.setup.now c.args.slot c.args.lines.now c.run_first.new.lines c.args.sink.now c.run_first.new.sink)
    c.from_residual-in_err-run_first.result _ c.from_residual-in_err-run_first.ensures.1
    (first_fails g.W.Sink c.args.setup.now c.args.slot c.as_slice.result.now c.args.lines.now c.read_image.new.lines c.args.sink.now
    (image_read g (goal.at.returns-in_err-run_first-clause-outcome g c).After-as_slice)
    _ c.in_ok-benches.ensures _ _ c.run_first.ensures.end _ c.in_err-run_first.ensures.outcome)

-- after the first script, the result of the second script is the result of the twin run (clause `outcome`)
pub returns-clause-outcome : goal.returns-clause-outcome
returns-clause-outcome g c =
    let first = c.in_ok-run_first.ensures.outcome in
    second_part g.W.Sink c.args.setup.now c.args.slot c.as_slice.result.now c.args.lines.now c.read_image.new.lines c.args.sink.now
    (image_read g (goal.at.returns-clause-outcome g c).After-as_slice)
    _ c.in_ok-benches.ensures
    (record {
      second_source = c.run_first.new.lines;
      sink_between = c.run_first.new.sink;
      bench_between = _;
      runs = one_bench-runs g.W.Sink first c.run_first.ensures.end refl (record { worked = (refl, refl); unflushed = refl });
      state = one_bench-state g.W.Sink first c.run_first.ensures.end;
      ends = c.run_first.ensures.end;
    })
    c.run_second.new.lines c.run_second.new.sink c.run_second.ensures.end c.run_second.result c.run_second.ensures.outcome

-- if a device fails in the first script, the lines have reported the end of the input only if the source has (clause `end`)
pub returns-in_err-run_first-clause-end : goal.returns-in_err-run_first-clause-end
returns-in_err-run_first-clause-end g c = EndsWithSource-more _ _ _ c.in_ok-image.ensures.end c.run_first.ensures.end

-- after both scripts, the lines have reported the end of the input only if the source has (clause `end`)
pub returns-clause-end : goal.returns-clause-end
returns-clause-end g c =
    EndsWithSource-more _ _ _ c.in_ok-image.ensures.end (EndsWithSource-more _ _ _ c.run_first.ensures.end c.run_second.ensures.end)
