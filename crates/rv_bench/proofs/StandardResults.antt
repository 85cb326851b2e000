-- The effect of the program over a reader and a writer, in terms of the logs of their calls.
use Rattle.std.proofs.Common.{◌≡◌, ◌<◌, ◌+◌, ◌⊎◌, ℕ, List, [], ◌++◌, inl, inr, Result, Ok, Err, zero, suc, true, refl, sym, ◌∙◌, ap, subst, arith}
use Rattle.std.specs.Result.{OnErr}
use Rattle.clap.specs.Words.{Text}
use Rattle.rv_command_line.specs.declared.job.Job.{Job}
use Rattle.rv_command_line.specs.declared.words_fault.WordsFault.{WordsFault}
use Rattle.rv_streams.specs.declared.device.Sink.{Ghosts as SinkGhosts}
use Rattle.rv_streams.specs.declared.device.Source.{Ghosts as SourceGhosts}
use Rattle.rv_streams.specs.CallLog.{no_call}
use Rattle.rv_streams.specs.declared.log.CallLog.{CallLog}
use Rattle.rv_streams.specs.Calls.{SinkFailed}
use Rattle.rv_streams.specs.Held.{taken_of, is_flushed_of, failures_of}
use Rattle.rv_streams.specs.declared.held.BufferedSink.{BufferedSink}
use Rattle.rv_streams.proofs.HeldLemmas.{all_passed, flushed_too}
use Rattle.rv_bench.specs.ProgramOutput.{MeansGiven, ProgramOutput, RunsProgram, StopsOutOfMemory, Writes, WritesOutput, program_output}
use Rattle.rv_bench.specs.Standard.{Gave, Passed, RunsOverStreams}

-- The counts of a sink that was not called before are those of the log, and so are its bytes once it is flushed.
pub record LogsSink {W : Type 0} (sink_view : SinkGhosts W) (before after : W) (log : CallLog) : Type 0 where
  -- before the first call, the sink has taken no byte, and no call has failed, taken no byte, or flushed
  pub none_taken : sink_view.taken before ≡ []
  pub none_failed : sink_view.failures before ≡ 0
  pub none_refused : sink_view.refusals before ≡ 0
  pub none_flushed : sink_view.flushes before ≡ 0
  -- after the last call, the sink and the log agree
  pub taken : sink_view.is_flushed after ≡ true → sink_view.taken after ≡ log.bytes
  pub flushed : sink_view.is_flushed after ≡ true → log.is_flushed ≡ true
  pub failures : sink_view.failures after + sink_view.refusals after ≡ log.failures + log.empty_calls
  pub flushes : sink_view.flushes after ≡ log.flushes

-- the ghost values of a sink that buffers bytes for another sink; such a sink refuses no call
abbrev buffered_ghosts : {W : Type 0} (sink_view : SinkGhosts W) → SinkGhosts (BufferedSink W sink_view)
buffered_ghosts sink_view = record {
  taken = taken_of sink_view;
  is_flushed = is_flushed_of sink_view;
  flushes = λ buffered. sink_view.flushes buffered.sink;
  refusals = λ buffered. 0;
  failures = failures_of sink_view;
}

-- a sink that buffers bytes for another sink with a log has the counts of this log
pub buffered_logs : {W : Type 0} (sink_view : SinkGhosts W) (before after : BufferedSink W sink_view) (log : CallLog)
    → taken_of sink_view before ≡ [] → failures_of sink_view before ≡ 0 → sink_view.flushes before.sink ≡ 0
    → sink_view.taken after.sink ≡ log.bytes → sink_view.is_flushed after.sink ≡ log.is_flushed
    → failures_of sink_view after ≡ log.failures + log.empty_calls
    → sink_view.flushes after.sink ≡ log.flushes → LogsSink (buffered_ghosts sink_view) before after log
buffered_logs sink_view before after log none_taken none_failed none_flushed same_bytes same_flushed same_failures same_flushes = record {
  none_taken = none_taken;
  none_failed = none_failed;
  none_refused = refl;
  none_flushed = none_flushed;
  taken = λ is_flushed. all_passed (sink_view.taken after.sink) after.buffer (sink_view.is_flushed after.sink) after.start after.end is_flushed
      ∙ same_bytes;
  flushed = λ is_flushed. sym same_flushed ∙ flushed_too (sink_view.is_flushed after.sink) _ is_flushed;
  failures = omega (arith, same_failures);
  flushes = same_flushes;
}

-- if a sum of two counts is positive, one of them is
one_is_positive : (count other_count : ℕ) → 0 < count + other_count → (0 < count) ⊎ (0 < other_count)
one_is_positive zero other_count sum_positive = inr (omega (arith, sum_positive))
one_is_positive (suc count) other_count sum_positive = inl (omega arith)

module _ {S W : Type 0} (source_view : SourceGhosts S) (sink_view : SinkGhosts W) (source source_after : S) (before after : W) (writer : CallLog)
    (logs : LogsSink sink_view before after writer) where
  -- if the sink was written and flushed without an error, standard output got exactly this output of the program
  passed : (output : ProgramOutput) (status : ℕ) → Writes source_view sink_view source source_after before after output status
      → Passed writer output status
  passed output status writes = let worked = writes.sink.worked in record {
    bytes = sym (logs.taken writes.sink.flushed) ∙ (writes.written ∙ ap (λ taken. taken ++ output.text) logs.none_taken);
    failures = omega (arith, logs.failures, worked.0, worked.1, logs.none_failed, logs.none_refused);
    refusals = omega (arith, logs.failures, worked.0, worked.1, logs.none_failed, logs.none_refused);
    flushed = logs.flushed writes.sink.flushed;
    once = sym logs.flushes ∙ (writes.sink.once ∙ ap (λ count. count + 1) logs.none_flushed);
    status_is = writes.status_is;
  }

  -- standard output got the output for the arguments, or another output if memory ran out
  outputs : (meaning : Result Job WordsFault) (input : List ℕ) (status : ℕ)
      → WritesOutput source_view sink_view source source_after before after meaning input status
      → Passed writer (program_output meaning input) status
      ⊎ ((output : ProgramOutput) × StopsOutOfMemory meaning input output × Passed writer output status)
  outputs meaning input status (inl writes) = inl (passed (program_output meaning input) status writes)
  outputs meaning input status (inr (output, stops, writes)) = inr (output, stops, passed output status writes)

  -- a failure of the sink is a failure of standard output, or a call that took no byte
  sink_failed : SinkFailed sink_view before after → (0 < writer.failures) ⊎ (0 < writer.empty_calls)
  sink_failed (inl failures_rose) = one_is_positive writer.failures writer.empty_calls (omega (arith, failures_rose, logs.failures))
  sink_failed (inr refusals_rose) = one_is_positive writer.failures writer.empty_calls (omega (arith, refusals_rose, logs.failures))

  -- for refused arguments, no byte of the input was read
  read_nothing : (meaning : Result Job WordsFault) (Nothing : Type 0) → (source_after ≡ source → Nothing) → OnErr meaning (source_after ≡ source)
      → OnErr meaning Nothing
  read_nothing (Ok job) Nothing if_untouched untouched = tt
  read_nothing (Err fault) Nothing if_untouched untouched = if_untouched untouched

  -- the program over standard input and output has its specified result, whether its arguments are read or refused
  pub runs_over : (given : Result (List Text) WordsFault) (input : List ℕ) (reader : CallLog) (status : ℕ)
      → (source_view.input source_after ≡ source_view.input source → Gave reader input → source_view.follows_input source_after)
      → source_view.remaining source ≡ input → source_view.failures source ≡ 0 → source_view.failures source_after ≡ reader.failures
      → (source_after ≡ source → reader ≡ no_call input)
      → RunsProgram source_view sink_view source source_after before after (MeansGiven given) status
      → RunsOverStreams given input reader writer status
  runs_over given input reader status follows_if_gave input_is none_failed same_failures no_call_if_untouched runs = record {
    meaning = runs.meaning;
    is_meaning = runs.is_meaning;
    untouched = read_nothing runs.meaning (reader ≡ no_call input) no_call_if_untouched runs.untouched;
    writes = λ gave. elim (runs.writes (follows_if_gave runs.same_input gave)) [
      -- neither device failed
      | inl writes ↦
          let writes_for_input = subst
          (λ input. WritesOutput source_view sink_view source source_after before after runs.meaning input status) input_is writes in
          inl (outputs runs.meaning input status writes_for_input)
      -- the source failed, so standard input failed
      | inr (inl source_failed, status_is) ↦
          let reader_failed : 0 < reader.failures = omega (arith, source_failed, none_failed, same_failures) in inr (inl reader_failed, status_is)
      -- the sink failed, so standard output failed or took no byte in a call
      | inr (inr failed, status_is) ↦ inr (inr (sink_failed failed), status_is)
    ];
  }
