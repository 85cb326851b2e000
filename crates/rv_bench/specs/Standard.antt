-- The program over a reader and a writer, such as the standard streams: the bytes that the reader gave and those that the writer took. (This
-- project's own program.)
use Rattle.std.specs.Prelude.{◌≡◌, ◌<◌, ◌⊎◌, ℕ, List, [], ◌++◌, true, OnErr, Result}
use Rattle.clap.specs.Words.{Text}
use Rattle.rv_command_line.specs.declared.job.Job.{Job}
use Rattle.rv_command_line.specs.declared.words_fault.WordsFault.{WordsFault}
use Rattle.rv_streams.specs.CallLog.{no_call}
use Rattle.rv_streams.specs.declared.log.CallLog.{CallLog}
use Rattle.rv_bench.specs.ProgramOutput.{MeansGiven, ProgramOutput, StopsOutOfMemory, failed_status, program_output}

-- Exactly this output was passed to the writer, without a failure, and the writer was flushed once, after it.
pub record Passed (writer : CallLog) (output : ProgramOutput) (status : ℕ) : Type 0 where
  -- exactly the text of the output was passed
  pub bytes : writer.bytes ≡ output.text
  -- no call of the writer failed
  pub failures : writer.failures ≡ 0
  -- the writer took a byte of each part that was not empty
  pub refusals : writer.empty_calls ≡ 0
  -- the writer is flushed
  pub flushed : writer.is_flushed ≡ true
  -- the writer was flushed once
  pub once : writer.flushes ≡ 1
  -- the exit status is that of the output
  pub status_is : status ≡ output.status

-- The reader gave a beginning of this input, and all of it if it returned its end.
pub record Gave (reader : CallLog) (input : List ℕ) : Type 0 where
  -- the bytes of the input that the reader has not given
  pub rest : List ℕ
  -- the input is the bytes that the reader gave, followed by the rest
  pub split : input ≡ reader.bytes ++ rest
  -- after the reader returned its end, nothing is left
  pub ended : 0 < reader.empty_calls → rest ≡ []

-- The bytes passed to the writer are the output of the program for its arguments and for the input that the reader gave. Or memory was refused,
-- and they are the line that reports this. Or a call of the reader failed, or the writer failed or took no byte of a non-empty part: then the
-- status reports an error. If the arguments name no job, the reader was not called.
pub record RunsOverStreams (given : Result (List Text) WordsFault) (input : List ℕ) (reader writer : CallLog) (status : ℕ) : Type 0 where
  -- the job that the arguments name, or their fault
  pub meaning : Result Job WordsFault
  -- the arguments have this meaning
  pub is_meaning : MeansGiven given meaning
  -- if the arguments name no job, the reader was not called
  pub untouched : OnErr meaning (reader ≡ no_call input)
  -- the output was passed to the writer, or a call failed
  pub writes : Gave reader input
      → (Passed writer (program_output meaning input) status
      ⊎ ((output : ProgramOutput) × StopsOutOfMemory meaning input output × Passed writer output status))
      ⊎ (((0 < reader.failures) ⊎ ((0 < writer.failures) ⊎ (0 < writer.empty_calls))) × (status ≡ failed_status meaning))
