-- The effect of the program on bytes in memory: it writes its whole output, since neither its source nor its sink fails.
use Rattle.std.proofs.Common.{◌≡◌, ℕ, List, [], ◌++◌, inl, inr, ◌∙◌, ap, subst}
use Rattle.clap.specs.Words.{Text}
use Rattle.rv_streams.specs.declared.device.Sink.{Ghosts as SinkGhosts}
use Rattle.rv_streams.specs.declared.device.Source.{Ghosts as SourceGhosts}
use Rattle.rv_streams.specs.Calls.{SourceFailed, SinkFailed}
use Rattle.rv_bench.specs.InMemory.{RunsInMemory}
use Rattle.rv_bench.specs.ProgramOutput.{Means, ProgramOutput, RunsProgram, StopsOutOfMemory, Writes, program_output}

module _ {S W : Type 0} (source_view : SourceGhosts S) (sink_view : SinkGhosts W) (source source_after : S) (before after : W) where
  -- a sink that had taken no byte before took the text of the output
  text_is : (output : ProgramOutput) (status : ℕ) → sink_view.taken before ≡ []
      → Writes source_view sink_view source source_after before after output status → sink_view.taken after ≡ output.text
  text_is output status none_taken writes = writes.written ∙ ap (λ taken_before. taken_before ++ output.text) none_taken

  -- without a failure of the source or the sink, the program writes the whole output for the input
  pub runs_in_memory : (given : List Text) (input : List ℕ) (status : ℕ) → source_view.follows_input source_after
      → source_view.remaining source ≡ input
      → (SourceFailed source_view source source_after → ⊥) → (SinkFailed sink_view before after → ⊥) → sink_view.taken before ≡ []
      → RunsProgram source_view sink_view source source_after before after (Means given) status
      → RunsInMemory given input (sink_view.taken after) status
  runs_in_memory given input status follows input_is source_works sink_works none_taken runs = elim (runs.writes follows) [
    -- the program wrote the output for the input
    | inl (inl writes) ↦ record {
      meaning = runs.meaning;
      is_meaning = runs.is_meaning;
      output = program_output runs.meaning (source_view.remaining source);
      output_is = inl (ap (program_output runs.meaning) input_is);
      text_is = text_is _ status none_taken writes;
      status_is = writes.status_is;
    }
    -- memory ran out, and the program wrote an output that reports this
    | inl (inr (output, stops, writes)) ↦ record {
      meaning = runs.meaning;
      is_meaning = runs.is_meaning;
      output = output;
      output_is = inr (subst (λ input. StopsOutOfMemory runs.meaning input output) input_is stops);
      text_is = text_is output status none_taken writes;
      status_is = writes.status_is;
    }
    -- neither the source nor the sink fails
    | inr (inl fails, status_is) ↦ absurd (source_works fails)
    | inr (inr fails, status_is) ↦ absurd (sink_works fails)
  ]
