-- The program wrote its output for its arguments and its input, or a device failed: derived from the job that it performed and what it reported.
use Rattle.std.proofs.Common.{◌≡◌, ◌⊎◌, ℕ, List, ◌++◌, inl, inr, Result, Ok, Err, refl, sym, ap, subst}
use Rattle.std.specs.Result.{IsOkAnd}
use Rattle.clap.specs.Words.{Text}
use Rattle.rv_command_line.specs.declared.job.Job.{Job}
use Rattle.rv_command_line.specs.declared.words_fault.WordsFault.{WordsFault}
use Rattle.rv_command_line.specs.declared.words_fault.WordsFault.TheVariants as words
use Rattle.rv_command_line.specs.Job.{job_of}
use Rattle.rv_streams.specs.declared.device.Sink.{Ghosts as SinkGhosts}
use Rattle.rv_streams.specs.declared.device.Source.{Ghosts as SourceGhosts}
use Rattle.rv_streams.specs.declared.fault.BenchFault.{BenchFault}
use Rattle.rv_streams.specs.declared.fault.BenchFault.TheVariants.{Image, Ram, Read, Write, Hex, TooLong, NoMemory, Asm as AsmText}
use Rattle.rv_streams.specs.Calls.{SinkFlushed}
use Rattle.rv_streams.specs.Faults.{Outcome}
use Rattle.rv_bench.specs.FaultText.{fault_text}
use Rattle.rv_bench.specs.Performing.{Performs, Refuses, ReportsOutcome, TriesToWrite, exit_status}
use Rattle.rv_bench.specs.ProgramOutput.{FailsBy, Means, MeetsOutput, RunsProgram, StopsAtDevice, Writes, WritesOutput, failed_status, output_of}
use Rattle.rv_bench.proofs.JobResults.{job_meets_output, job_same_input}

module _ {S W : Type 0} (source_view : SourceGhosts S) (sink_view : SinkGhosts W) (source source_after : S) (before after : W) where
  -- the output was written, or a device failed
  abbrev Ends : Result Job WordsFault → ℕ → Type 0
  Ends meaning status =
      WritesOutput source_view sink_view source source_after before after meaning (source_view.remaining source) status
      ⊎ StopsAtDevice source_view sink_view source source_after before after meaning status

  -- a text was written, or the sink failed
  tries : (meaning : Result Job WordsFault) (text : List ℕ) (status : ℕ) → TriesToWrite sink_view before after text
      → (Writes source_view sink_view source source_after before after (record { text = text; status = status }) status
      → WritesOutput source_view sink_view source source_after before after meaning (source_view.remaining source) status)
      → status ≡ failed_status meaning → Ends meaning status
  tries meaning text status (inl wrote) is_output status_is =
      inl (is_output (record { sink = wrote.sink; written = wrote.written; status_is = refl }))
  tries meaning text status (inr stopped) is_output status_is = inr (inr stopped.sink, status_is)

  -- a job that succeeded has written its text, with exit status 0
  succeeds : (job : Job) (result : Result (List ℕ) BenchFault) → SinkFlushed sink_view before after
      → IsOkAnd result (λ text. sink_view.taken after ≡ sink_view.taken before ++ text)
      → Writes source_view sink_view source source_after before after (output_of result) 0
  succeeds job (Ok text) sink_flushed written = record { sink = sink_flushed; written = written; status_is = refl }
  succeeds job (Err fault) sink_flushed impossible = absurd impossible

  -- a job that failed by an error of the input, or since memory was refused, has tried to write the text of the error, with exit status 1
  fails : (job : Job) (fault : BenchFault) → TriesToWrite sink_view before after (fault_text fault)
      → FailsBy job (source_view.remaining source) fault → Ends (Ok job) 1
  fails job fault tries_to_write (inl output_is_fault) =
      tries (Ok job) (fault_text fault) 1 tries_to_write
      (λ writes. inl (subst (λ result. Writes source_view sink_view source source_after before after (output_of result) 1)
      (sym output_is_fault) writes)) refl
  fails job fault tries_to_write (inr out_of_memory) =
      tries (Ok job) (fault_text fault) 1 tries_to_write (λ writes. inr (output_of (Err fault), (fault, out_of_memory, refl), writes)) refl

  -- if the arguments name no job, the program ends with the text and the status of their fault
  refuses : (fault : WordsFault) (status : ℕ) → Refuses sink_view before after fault status → Ends (Err fault) status
  refuses words.Refused status (tries_to_write, status_is) =
      subst (Ends (Err words.Refused)) (sym status_is) (tries (Err words.Refused) _ 2 tries_to_write (λ writes. inl writes) refl)
  refuses words.NoMemory status (tries_to_write, status_is) =
      subst (Ends (Err words.NoMemory)) (sym status_is) (tries (Err words.NoMemory) _ 1 tries_to_write (λ writes. inl writes) refl)
  refuses (words.Help text) status (inl (wrote, status_is)) =
      inl (inl (record { sink = wrote.sink; written = wrote.written; status_is = status_is }))
  refuses (words.Help text) status (inr (stopped, status_is)) = inr (inr stopped.sink, status_is)

module _ {S W : Type 0} (source_view : SourceGhosts S) (sink_view : SinkGhosts W) (source source_after : S) (before : W) (job : Job) where
  -- an error that is not of a device was reported, after which the sink is `after`: nothing was written before the text of the error
  reports_error : (fault : BenchFault) (job_sink after : W) → job_sink ≡ before → TriesToWrite sink_view job_sink after (fault_text fault)
      → FailsBy job (source_view.remaining source) fault → Ends source_view sink_view source source_after before after (Ok job) 1
  reports_error fault job_sink after unwritten tries_to_write fails_by =
      fails source_view sink_view source source_after before after job fault
      (subst (λ job_sink. TriesToWrite sink_view job_sink after (fault_text fault)) unwritten tries_to_write) fails_by

  -- the outcome of the job, after which the sink is `job_sink`, was reported, after which it is `after`: the output was written, or a device failed
  reports : (outcome : Outcome) (job_sink after : W) → MeetsOutput source_view sink_view source source_after before job_sink job outcome
      → ReportsOutcome sink_view outcome job_sink after
      → source_view.follows_input source_after → Ends source_view sink_view source source_after before after (Ok job) (exit_status outcome)
  -- the job succeeded: its output was written
  reports (Ok done) job_sink after (sink_flushed, written) same_sink follows =
      subst (λ after. Ends source_view sink_view source source_after before after (Ok job) 0) (sym same_sink)
      (inl (inl (succeeds source_view sink_view source source_after before job_sink job _ sink_flushed (written follows))))
  -- a device failed
  reports (Err Read) job_sink after source_failed reported follows = inr (inl source_failed, refl)
  reports (Err Write) job_sink after (sink_failed, prefix) same_sink follows =
      subst (λ after. Ends source_view sink_view source source_after before after (Ok job) 1) (sym same_sink) (inr (inr sink_failed, refl))
  -- the job failed for another reason, and the program tried to write the text of this fault
  reports (Err Hex) job_sink after (unwritten, fails_by) reported follows = reports_error Hex job_sink after unwritten reported (fails_by follows)
  reports (Err TooLong) job_sink after (unwritten, fails_by) reported follows = reports_error TooLong job_sink after unwritten reported
      (fails_by follows)
  reports (Err NoMemory) job_sink after (unwritten, fails_by) reported follows = reports_error NoMemory job_sink after unwritten reported
      (fails_by follows)
  reports (Err (Ram fault)) job_sink after (unwritten, fails_by) reported follows =
      reports_error (Ram fault) job_sink after unwritten reported (fails_by follows)
  reports (Err (Image fault)) job_sink after (unwritten, fails_by) reported follows =
      reports_error (Image fault) job_sink after unwritten reported (fails_by follows)
  reports (Err (AsmText fault)) job_sink after (unwritten, fails_by) reported follows =
      reports_error (AsmText fault) job_sink after unwritten reported (fails_by follows)

-- the program that performed the job of its arguments, or refused them, wrote its output, or a device failed
pub runs_program : {S W : Type 0} (source_view : SourceGhosts S) (sink_view : SinkGhosts W) (source source_after : S) (before after : W)
    (given : List Text) (status : ℕ)
    → Performs source_view sink_view source source_after before after given status
    → RunsProgram source_view sink_view source source_after before after (Means given) status
-- the program accepted the arguments, and performed their job
runs_program source_view sink_view source source_after before after given status (inl (accepted, does)) =
    let job = job_of given in
    let meets = job_meets_output source_view sink_view source source_after before does.job_sink job does.outcome does.does in record {
      same_input = job_same_input source_view sink_view source source_after before does.job_sink job does.outcome does.does;
      meaning = Ok job;
      is_meaning = (accepted, refl);
      untouched = tt;
      writes = λ follows. subst (Ends source_view sink_view source source_after before after (Ok job)) (sym does.status_is)
          (reports source_view sink_view source source_after before job does.outcome does.job_sink after meets does.reports follows);
    }
-- the program refused the arguments
runs_program source_view sink_view source source_after before after given status (inr refused) = record {
  same_input = ap source_view.input refused.untouched;
  meaning = Err refused.fault;
  is_meaning = refused.reason;
  untouched = refused.untouched;
  writes = λ follows. refuses source_view sink_view source source_after before after refused.fault status refused.refuses;
}

-- the program writes the fault of arguments that name no job, and reads nothing
pub runs_refused : {S W : Type 0} (source_view : SourceGhosts S) (sink_view : SinkGhosts W) (source : S) (before after : W)
    (IsMeaning : Result Job WordsFault → Type 0)
    (fault : WordsFault) (status : ℕ) → IsMeaning (Err fault) → Refuses sink_view before after fault status
    → RunsProgram source_view sink_view source source before after IsMeaning status
runs_refused source_view sink_view source before after IsMeaning fault status is_meaning fault_reported =
    let writes = λ (follows : source_view.follows_input source). refuses source_view sink_view source source before after fault status
    fault_reported in
    record { same_input = refl; meaning = Err fault; is_meaning = is_meaning; untouched = refl; writes = writes }
