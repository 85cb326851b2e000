-- This file proves obligations of `run_second`, which scrambles the slot with a number in the second bench, and runs the second script.
use Rattle.std.proofs.Common.{rules, ◌++◌, ◌∙◌, refl, sym, ap, subst, inl, inr, ℕ, Option, None, Some}
use Rattle.std.proofs.lemmas.Result.{IfOk-at_ok}
use Rattle.rv_streams.specs.declared.fault.BenchFault.TheVariants.{Write}
use Rattle.rv_streams.specs.Transfer.{WritesPrefix}
use Rattle.rv_streams.proofs.Ends.{flushed_once}
use Rattle.rv_streams.proofs.Mapped.{mapped, passed_on}
use Rattle.rv_bench.specs.declared.pair.Pair.{Pair}
use Rattle.rv_bench.specs.Twin.{RunsSecond}
use Rattle.rv_bench.proofs.Entering.{two_benches-fail, two_benches-stop, two_benches-report}
use Rattle.rv_bench.proofs.Twins.{holds_of_made_pair}
use Rattle.rv_bench.proofs.twin.run_second.Goals as goal

-- if the slot cannot be scrambled, the line `twin no slot` is all that is written (clause `outcome`)
pub returns-in_default-clause-outcome : goal.returns-in_default-clause-outcome
returns-in_default-clause-outcome g c =
    let before = g.W.Sink.taken c.args.sink.now in
    let no_pair = rw c.in_default.is at c.make_pair.ensures.pair in
    subst (λ pair. RunsSecond g.W.Sink c.args.number pair c.args.lines.now c.args.lines.now c.args.sink.now c.write_last.new.sink c.map_err.result)
    (sym no_pair)
    (mapped (RunsSecond g.W.Sink c.args.number None c.args.lines.now c.args.lines.now c.args.sink.now c.write_last.new.sink)
    _ Write c.write_last.result c.map_err.result c.map_err.ensures.cases (λ error mapped_error is_write. search rules)
    (λ _ write_ok.
    -- the sink took the line, so the run is over, and no line of the script was read
    let written = IfOk-at_ok _ write_ok c.write_last.ensures.written ∙ ap (λ text. before ++ text) c.no_slot.ensures in record {
      source = refl;
      sink = flushed_once g.W.Sink c.write_last.result write_ok c.write_last.ensures.ok c.write_last.ensures.flushed;
      emptied = c.requires;
      read = inr (λ follows. refl, inl (before, written));
      written = λ follows. written;
    })
    (λ _ write_failed.
    -- the sink failed in the line, so a prefix of the line was written
    let wrote_prefix = subst (WritesPrefix before (g.W.Sink.taken c.write_last.new.sink)) c.no_slot.ensures c.write_last.ensures.prefix in (
      record { source = refl; sink = search rules; emptied = c.requires; prefix = λ follows. wrote_prefix },
      λ follows. (refl, wrote_prefix),
    )))

-- if a device fails in the second script, the result is its error, and a prefix of the text was written (clause `outcome`)
pub returns-in_err-run_lines-clause-outcome : goal.returns-in_err-run_lines-clause-outcome
returns-in_err-run_lines-clause-outcome g c =
    let slot = c.in-Some.found.slot in
    let runs : ℕ → Option Pair → Type 0 = λ slot pair.
    RunsSecond g.W.Sink slot pair c.args.lines.now c.run_lines.new.lines c.args.sink.now c.run_lines.new.sink c.from_residual.result in
    holds_of_made_pair runs c.args.number c.args.benches.first c.in-Some.found (rw c.in-Some.is at c.make_pair.ensures.pair)
    (passed_on
    (RunsSecond g.W.Sink slot (Some c.in-Some.found.pair) c.args.lines.now c.run_lines.new.lines c.args.sink.now c.run_lines.new.sink)
    c.from_residual.result _ c.from_residual.ensures.1 (two_benches-stop g.W.Sink slot _ _ _ _ _ _ c.in_err-run_lines.ensures.outcome))

-- the text of the second script is written, with its last line; if the sink fails in this line, the result is `Write` (clause `outcome`)
pub returns-clause-outcome : goal.returns-clause-outcome
returns-clause-outcome g c =
    let responds = c.in_ok-run_lines.ensures.outcome in
    let slot = c.in-Some.found.slot in
    let runs : ℕ → Option Pair → Type 0 = λ slot pair.
    RunsSecond g.W.Sink slot pair c.args.lines.now c.run_lines.new.lines c.args.sink.now c.write_last-2.new.sink c.map_err-2.result in
    holds_of_made_pair runs c.args.number c.args.benches.first c.in-Some.found (rw c.in-Some.is at c.make_pair.ensures.pair)
    (mapped
    (RunsSecond g.W.Sink slot (Some c.in-Some.found.pair) c.args.lines.now c.run_lines.new.lines c.args.sink.now c.write_last-2.new.sink)
    _ Write c.write_last-2.result c.map_err-2.result c.map_err-2.ensures.cases (λ error mapped_error is_write. search rules)
    (λ _ write_ok. two_benches-report g.W.Sink slot responds c.last.ensures c.run_lines.ensures.end
    (IfOk-at_ok _ write_ok c.write_last-2.ensures.written)
    (flushed_once g.W.Sink c.write_last-2.result write_ok c.write_last-2.ensures.ok c.write_last-2.ensures.flushed))
    (λ _ write_failed. two_benches-fail g.W.Sink slot responds c.last.ensures c.write_last-2.ensures.prefix (search rules)))
