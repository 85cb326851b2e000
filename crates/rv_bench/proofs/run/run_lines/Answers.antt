-- This file proves obligations of `run_lines`, which responds to the lines of a script, and writes each response.
use Rattle.std.proofs.Common.{rules, ◌≡◌, ◌++◌, ◌∙◌, refl, sym, ap, subst, Ok, Err}
use Rattle.std.proofs.lemmas.Result.{IfOk-at_ok, IfErr-at_err}
use Rattle.rv_streams.specs.declared.fault.BenchFault.TheVariants.{Read, Write}
use Rattle.rv_streams.specs.Calls.{SinkWorked}
use Rattle.rv_streams.specs.Transfer.{WritesPrefix}
use Rattle.rv_streams.proofs.Ends.{no_failure, EndsWithSource-more}
use Rattle.rv_streams.proofs.Mapped.{ok_mapped, err_mapped}
use Rattle.rv_bench.specs.Replies.{Responding}
use Rattle.rv_bench.proofs.Runs.{RespondsToLine-same}
use Rattle.rv_bench.proofs.LoopSteps.{LineStep, SoFar-none, SoFar-ended, SoFar-read, LineStep-goes, LineStep-over, LineStep-stops}
use Rattle.rv_bench.proofs.run.run_lines.Given as given
use Rattle.rv_bench.proofs.run.run_lines.Goals as goal
use Rattle.rv_bench.proofs.run.run_lines.Goals.{After-respond_to_line, After-is_over}

-- An iteration of the loop over `told` took one more line, and the responder has responded to it.
line_step : (g : given.Over) (c : After-respond_to_line g) → LineStep g.W.Sink (g.T.Responder.responding c.args.responding.now) c.args.end
    (g.T.Responder.state c.args.responding.now) c.args.lines.now c.args.sink.now
    (g.T.Responder.state c.loop-told.responding) c.loop-told.lines c.loop-told.sink
    (g.T.Responder.state c.respond_to_line.new.self) c.next_line_before.new.self (g.T.Told.AsSlice.items c.respond_to_line.new.out)
line_step g c =
    -- `next_line_before` has returned a line
    let found =
    ok_mapped _ c.next_line_before.result c.map_err.result _ c.map_err.ensures.cases c.in_ok-line.was ∙ ap Ok c.in-Some.is in record {
      so_far = c.loop-told.invariant.so_far;
      shown = c.in-Some.line.items;
      not_at_end = IfOk-at_ok _ found c.next_line_before.ensures.read.not_at_end;
      takes = λ follows. IfOk-at_ok _ found (c.next_line_before.ensures.read.line follows);
      in_script = IfOk-at_ok _ found c.next_line_before.ensures.inside;
      responds = RespondsToLine-same c.loop-told.invariant.same_responder c.as_slice.ensures.value c.respond_to_line.ensures.respond;
      ends = c.next_line_before.ensures.read.end;
      source = no_failure _ _ _ _ _ c.next_line_before.ensures.read.failures found refl;
      emptied = search rules;
    }

-- if `write_reply` succeeded, the sink took the reply to this line after the replies so far
wrote_reply : (g : given.Over) (c : After-is_over g)
    → g.W.Sink.taken c.write_reply.new.sink ≡ g.W.Sink.taken c.loop-told.sink ++ g.T.Told.AsSlice.items c.respond_to_line.new.out
wrote_reply g c =
    let write_ok = ok_mapped _ c.write_reply.result c.map_err-in-Some.result _ c.map_err-in-Some.ensures.cases c.in_ok-map_err.was in
    IfOk-at_ok _ write_ok c.write_reply.ensures.written ∙ ap (λ reply. g.W.Sink.taken c.loop-told.sink ++ reply) c.as_slice-in-Some.ensures

-- if `write_reply` succeeded, no call of the sink has failed
sink_worked : (g : given.Over) (c : After-is_over g) → SinkWorked g.W.Sink c.loop-told.sink c.write_reply.new.sink
sink_worked g c =
    let write_ok = ok_mapped _ c.write_reply.result c.map_err-in-Some.result _ c.map_err-in-Some.ensures.cases c.in_ok-map_err.was in
    record { worked = IfOk-at_ok _ write_ok c.write_reply.ensures.ok; unflushed = c.write_reply.ensures.flushes }

-- the result of the call `is_over` after a response is the value of the definition `is_over` in the new state of the responder
is_over_result : (g : given.Over) (c : After-is_over g)
    → (g.T.Responder.responding c.args.responding.now).is_over (g.T.Responder.state c.respond_to_line.new.self) ≡ c.is_over.result
is_over_result g c =
    let same_responder = c.respond_to_line.ensures.kept ∙ c.loop-told.invariant.same_responder in
    ap (λ (responder : Responding g.row.T-State.Denot). responder.is_over (g.T.Responder.state c.respond_to_line.new.self)) (sym same_responder)
    ∙ sym c.is_over.ensures

-- the invariant of the loop over `told` holds before its first iteration: no line was read
pub loop-told-init : goal.loop-told-init
loop-told-init g c = record { same_responder = refl; so_far = SoFar-none c.requires }

-- an iteration in which the responder is not over preserves the invariant of the loop
pub loop-told-preserved : goal.loop-told-preserved
loop-told-preserved g c =
    let at = goal.at.loop-told-preserved g c in record {
      same_responder = c.respond_to_line.ensures.kept ∙ c.loop-told.invariant.same_responder;
      so_far = LineStep-goes (line_step g at.After-respond_to_line) (sink_worked g at.After-is_over) (wrote_reply g at.After-is_over)
          (is_over_result g at.After-is_over ∙ c.if-is_over.false);
    }

-- if the source fails, the result is `Read`, and the lines before it have their replies (clause `outcome`)
pub returns-in_err-line-clause-outcome : goal.returns-in_err-line-clause-outcome
returns-in_err-line-clause-outcome g c =
    let fault_is : c.from_residual.result ≡ Err Read = search rules in
    let read_err = err_mapped _ c.next_line_before.result c.map_err.result _ c.map_err.ensures.cases c.in_err-line.was in
    rw fault_is (SoFar-read c.next_line_before.new.self c.loop-told.invariant.so_far
    (IfErr-at_err _ read_err.1 c.next_line_before.ensures.read.err) c.next_line_before.ensures.read.end (search rules)
    (λ follows. IfErr-at_err _ read_err.1 (c.next_line_before.ensures.read.kept follows)))

-- if the source fails, the lines have reported the end of the input only if the source has (clause `end`)
pub returns-in_err-line-clause-end : goal.returns-in_err-line-clause-end
returns-in_err-line-clause-end g c = EndsWithSource-more _ _ _ c.loop-told.invariant.so_far.ends c.next_line_before.ensures.read.end

-- if the sink fails in a reply, the result is `Write`, and a prefix of the replies was written (clause `outcome`)
pub returns-in_err-map_err-clause-outcome : goal.returns-in_err-map_err-clause-outcome
returns-in_err-map_err-clause-outcome g c =
    let fault_is : c.from_residual-in_err-map_err.result ≡ Err Write = search rules in
    let step = line_step g (goal.at.returns-in_err-map_err-clause-outcome g c).After-respond_to_line in
    let wrote_prefix = subst (WritesPrefix (g.W.Sink.taken c.loop-told.sink) (g.W.Sink.taken c.write_reply.new.sink))
    c.as_slice-in-Some.ensures c.write_reply.ensures.prefix in
    rw fault_is (LineStep-stops step c.write_reply.new.sink (search rules) wrote_prefix)

-- if the responder is over after a line, all lines that were read have their replies (clause `outcome`)
pub returns-then-is_over-clause-outcome : goal.returns-then-is_over-clause-outcome
returns-then-is_over-clause-outcome g c =
    let at = goal.at.returns-then-is_over-clause-outcome g c in
    LineStep-over (line_step g at.After-respond_to_line) (sink_worked g at.After-is_over) (wrote_reply g at.After-is_over)
    (is_over_result g at.After-is_over ∙ c.if-is_over.true)

-- at the end of the script, all its lines have their replies (clause `outcome`)
pub returns-clause-outcome : goal.returns-clause-outcome
returns-clause-outcome g c =
    let no_line = ok_mapped _ c.next_line_before.result c.map_err.result _ c.map_err.ensures.cases c.in_ok-line.was ∙ ap Ok c.in_default.is in
    SoFar-ended c.loop-told.invariant.so_far (IfOk-at_ok _ no_line c.next_line_before.ensures.none)
    c.next_line_before.ensures.read.end (no_failure _ _ _ _ _ c.next_line_before.ensures.read.failures no_line refl) (search rules)
