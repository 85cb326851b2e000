-- The result of a job from bytes in memory to bytes in memory. (This project's own jobs.)
use Rattle.std.specs.Prelude.{◌≡◌, ◌⊎◌, ℕ, IsOk, List, Result}
use Rattle.clap.specs.Words.{Text}
use Rattle.rv_command_line.specs.declared.job.Job.{Job}
use Rattle.rv_streams.specs.declared.fault.BenchFault.{BenchFault}
use Rattle.rv_streams.specs.declared.fault.BenchFault.TheVariants.{Read, Write, NoMemory}
use Rattle.rv_command_line.specs.declared.words_fault.WordsFault.{WordsFault}
use Rattle.rv_bench.specs.ProgramOutput.{FailsBy, Means, ProgramOutput, StopsOutOfMemory, job_output, program_output}

-- no device fails: an error is one of the input, or memory was refused, also for the output
abbrev pub FailsInMemory : Job → List ℕ → BenchFault → Type 0
FailsInMemory job input Read = ⊥
FailsInMemory job input Write = ⊥
FailsInMemory job input NoMemory = FailsBy job input NoMemory ⊎ IsOk (job_output job input)
FailsInMemory job input fault = FailsBy job input fault

-- The text and the status are the output of the program for its arguments and the input. Or memory was refused, and they report this.
pub record RunsInMemory (given : List Text) (input text : List ℕ) (status : ℕ) : Type 0 where
  -- the job that the arguments name, or their fault
  pub meaning : Result Job WordsFault
  -- the arguments have this meaning
  pub is_meaning : Means given meaning
  -- the output that was written
  pub output : ProgramOutput
  -- `output` is the output for the arguments and the input, or the report of refused memory
  pub output_is : (output ≡ program_output meaning input) ⊎ StopsOutOfMemory meaning input output
  -- the written bytes are the text of the output
  pub text_is : text ≡ output.text
  -- the exit status is that of the output
  pub status_is : status ≡ output.status
