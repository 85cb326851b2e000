-- The program: what it does with its arguments and its streams, and its exit status. (This project's own program; the text is ASCII, ISO/IEC
-- 646.)
use Rattle.std.specs.Prelude.{◌≡◌, ◌⊎◌, ℕ, List, [], ◌++◌, codes, string_bytes, Result, Ok, Err}
use Rattle.clap.specs.Words.{Text}
use Rattle.rv_command_line.specs.declared.job.Job.{Job}
use Rattle.rv_command_line.specs.declared.words_fault.WordsFault.{WordsFault}
use Rattle.rv_command_line.specs.declared.words_fault.WordsFault.TheVariants as words
use Rattle.rv_command_line.specs.Faults.{IsFaultOf}
use Rattle.rv_command_line.specs.Job.{job_of}
use Rattle.rv_command_line.specs.Refusals.{refusals_of}
use Rattle.rv_streams.specs.declared.device.Sink.{Ghosts as SinkGhosts}
use Rattle.rv_streams.specs.declared.device.Source.{Ghosts as SourceGhosts}
use Rattle.rv_streams.specs.declared.fault.BenchFault.TheVariants.{Write}
use Rattle.rv_streams.specs.Calls.{SinkFlushed, SinkFailed}
use Rattle.rv_streams.specs.Faults.{Outcome}
use Rattle.rv_streams.specs.Transfer.{WritesPrefix}
use Rattle.rv_bench.specs.FaultText.{fault_text}
use Rattle.rv_bench.specs.Jobs.{DoesJob}

-- ---- exit statuses

-- `exit_status` is the exit status: 0 after success, and 1 after an error
abbrev pub exit_status : Outcome → ℕ
exit_status (Ok _) = 0
exit_status (Err fault) = 1

-- ---- the effect of the program

module _ {W : Type 0} (sink_view : SinkGhosts W) where
  -- A text was written after what the sink had taken, and the sink was flushed.
  pub record WritesAll (before after : W) (text : List ℕ) : Type 0 where
    -- no call of the sink failed, and the sink was flushed once, at the end
    pub sink : SinkFlushed sink_view before after
    -- exactly the text was written
    pub written : sink_view.taken after ≡ sink_view.taken before ++ text

  -- The sink failed, and took a prefix of the text.
  pub record WritesOnlyPrefix (before after : W) (text : List ℕ) : Type 0 where
    -- a call of the sink failed, or took no byte of a part that was not empty
    pub sink : SinkFailed sink_view before after
    -- a prefix of the text was written
    pub prefix : WritesPrefix (sink_view.taken before) (sink_view.taken after) text

  -- the text was written, or, if the sink failed, a prefix of the text; the exit status is the same in both cases
  abbrev pub TriesToWrite : W → W → List ℕ → Type 0
  TriesToWrite before after text = WritesAll before after text ⊎ WritesOnlyPrefix before after text

  -- After the output of the job, an error other than `Write` is reported by the text of this error. No other outcome is reported.
  abbrev pub ReportsOutcome : Outcome → W → W → Type 0
  ReportsOutcome (Ok _) before after = after ≡ before
  ReportsOutcome (Err Write) before after = after ≡ before
  ReportsOutcome (Err fault) before after = TriesToWrite before after (fault_text fault)

  -- The report for arguments that name no job, and the status. Help succeeds if its text was written.
  abbrev pub Refuses : W → W → WordsFault → ℕ → Type 0
  Refuses before after words.Refused status = TriesToWrite before after (codes "rvbench: command line\n") × (status ≡ 2)
  Refuses before after words.NoMemory status = TriesToWrite before after (codes "rvbench: memory\n") × (status ≡ 1)
  Refuses before after (words.Help text) status =
      (WritesAll before after (string_bytes text) × (status ≡ 0)) ⊎ (WritesOnlyPrefix before after (string_bytes text) × (status ≡ 1))

module _ {S W : Type 0} (source_view : SourceGhosts S) (sink_view : SinkGhosts W) (source source_after : S) (before after : W) where
  -- The program executed the job, which left the source in the state `source_after`, and reported its outcome.
  pub record DoesAndReports (job : Job) (status : ℕ) : Type 0 where
    -- the outcome of the job
    pub outcome : Outcome
    -- the sink after the job
    pub job_sink : W
    -- the job was executed, with this outcome
    pub does : DoesJob source_view sink_view source source_after before job_sink job outcome
    -- the outcome was reported after the output of the job
    pub reports : ReportsOutcome sink_view outcome job_sink after
    -- the exit status is that of the outcome
    pub status_is : status ≡ exit_status outcome

  -- The arguments name no job, for a reason that they have, or an allocation failed. The program reports it, and reads nothing.
  pub record RefusesArguments (given : List Text) (status : ℕ) : Type 0 where
    -- the reason why the arguments name no job
    pub fault : WordsFault
    -- the arguments have this fault, or an allocation failed
    pub reason : IsFaultOf (refusals_of given) fault
    -- the fault was reported
    pub refuses : Refuses sink_view before after fault status
    -- nothing was read
    pub untouched : source_after ≡ source

  -- The arguments name a job, which the program executed, or they name none.
  abbrev pub Performs : List Text → ℕ → Type 0
  Performs given status = ((refusals_of given ≡ []) × DoesAndReports (job_of given) status) ⊎ RefusesArguments given status

  -- The program performs the job of arguments that may be unreadable. If they are, the program reports why, and reads nothing.
  abbrev pub PerformsGiven : Result (List Text) WordsFault → ℕ → Type 0
  PerformsGiven (Ok given) status = Performs given status
  PerformsGiven (Err fault) status = Refuses sink_view before after fault status × (source_after ≡ source)
