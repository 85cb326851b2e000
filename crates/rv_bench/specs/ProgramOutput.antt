-- The output of a job for an input, the output of the program for its arguments and its input, and the exit status. (This project's own program;
-- the text is ASCII, ISO/IEC 646.)
use Rattle.std.specs.Prelude.{◌≡◌, ◌<◌, ◌⊎◌, ℕ, true, List, [], ◌++◌, length, map, codes, string_bytes, IsOk, IsOkAnd, OnErr, Vec, String, Result, Ok, Err}
use Rattle.clap.specs.Words.{Text}
use Rattle.rv_word.specs.Cases.{result_case}
use Rattle.rv_asm.specs.OutOfMemory.{RunsOutOfMemory as RunsOutOfMemoryAt}
use Rattle.rv_memory.specs.Memory.{is_ram_size}
use Rattle.rv_memory.specs.declared.refused_ram.RefusedRam.{RefusedRam}
use Rattle.rv_memory.specs.declared.ram_fault.RamFault.TheVariants.{NoMemory as NoRamMemory}
use Rattle.rv_command_line.specs.declared.job.Job.{Job}
use Rattle.rv_command_line.specs.declared.job.Job.TheVariants.{Run, Twin, Asm, Dis}
use Rattle.rv_command_line.specs.declared.setup.Setup.{Setup}
use Rattle.rv_command_line.specs.declared.words_fault.WordsFault.{WordsFault}
use Rattle.rv_command_line.specs.declared.words_fault.WordsFault.TheVariants as words
use Rattle.rv_command_line.specs.Faults.{IsFaultOf}
use Rattle.rv_command_line.specs.Job.{job_of}
use Rattle.rv_command_line.specs.Refusals.{refusals_of}
use Rattle.rv_streams.specs.AssemblyText.{asm_output}
use Rattle.rv_streams.specs.Calls.{SourceFailed, SinkFlushed, SinkFailed}
use Rattle.rv_streams.specs.DisassemblyText.{dis_output}
use Rattle.rv_streams.specs.Faults.{Outcome}
use Rattle.rv_streams.specs.Image.{image_in, ReadsPrefixOfImage}
use Rattle.rv_streams.specs.Transfer.{WritesPrefix}
use Rattle.rv_streams.specs.declared.device.Sink.{Ghosts as SinkGhosts}
use Rattle.rv_streams.specs.declared.device.Source.{Ghosts as SourceGhosts}
use Rattle.rv_streams.specs.declared.fault.BenchFault.{BenchFault}
use Rattle.rv_streams.specs.declared.fault.BenchFault.TheVariants.{Ram, Read, Write, NoMemory, Asm as AsmText}
use Rattle.rv_bench.specs.FaultText.{fault_text}
use Rattle.rv_bench.specs.Output.{output}
use Rattle.rv_bench.specs.Twin.{twin_output}

-- ---- a job

-- `job_output` is the output of a job for an input, or the error of the input
abbrev pub job_output : Job → List ℕ → Result (List ℕ) BenchFault
job_output (Run setup) input = output setup input
job_output (Twin setup slot) input = twin_output setup slot input
job_output Asm input = asm_output input
job_output Dis input = dis_output input

-- memory was refused for the bytes of an image, after some of them were read: no line so far has an error
abbrev pub OutOfMemoryForImage : List ℕ → Type 0
OutOfMemoryForImage input = (remaining : List ℕ) × ReadsPrefixOfImage input remaining

-- memory was refused for a RAM of the requested size, which is valid, as is the text of the image
abbrev pub OutOfMemoryForRam : Setup → List ℕ → RefusedRam → Type 0
OutOfMemoryForRam setup input refused = (is_ram_size setup.ram ≡ true) × (refused.bytes ≡ setup.ram) × IsOk (image_in input)

-- Memory was refused for the input or for the RAM of a run. In the assembly of a text, this may also be at a line without an error that is
-- reported instead.
abbrev pub IsOutOfMemory : Job → List ℕ → BenchFault → Type 0
IsOutOfMemory (Run setup) input NoMemory = OutOfMemoryForImage input
IsOutOfMemory (Run setup) input (Ram (NoRamMemory refused)) = OutOfMemoryForRam setup input refused
IsOutOfMemory (Twin setup slot) input NoMemory = OutOfMemoryForImage input
IsOutOfMemory (Twin setup slot) input (Ram (NoRamMemory refused)) = OutOfMemoryForRam setup input refused
IsOutOfMemory Asm input NoMemory = 0 < length input
IsOutOfMemory Asm input (AsmText fault) = RunsOutOfMemoryAt input fault
IsOutOfMemory Dis input NoMemory = OutOfMemoryForImage input
IsOutOfMemory job input _ = ⊥

-- an error of the input, or memory was refused
abbrev pub FailsBy : Job → List ℕ → BenchFault → Type 0
FailsBy job input fault = (job_output job input ≡ Err fault) ⊎ IsOutOfMemory job input fault

module _ {S W : Type 0} (source_view : SourceGhosts S) (sink_view : SinkGhosts W) (source source_after : S) (before after : W) (job : Job) where
  -- The outcome of a job by its output for the input. An error is a failure of a device, or nothing was written.
  abbrev pub MeetsOutput : Outcome → Type 0
  MeetsOutput (Ok _) =
      SinkFlushed sink_view before after
      × (source_view.follows_input source_after
      → IsOkAnd (job_output job (source_view.remaining source)) (λ text. sink_view.taken after ≡ sink_view.taken before ++ text))
  MeetsOutput (Err Read) = SourceFailed source_view source source_after
  MeetsOutput (Err Write) =
      SinkFailed sink_view before after
      × (source_view.follows_input source_after
      → IsOkAnd (job_output job (source_view.remaining source)) (λ text. WritesPrefix (sink_view.taken before) (sink_view.taken after) text))
  MeetsOutput (Err fault) = (after ≡ before) × (source_view.follows_input source_after → FailsBy job (source_view.remaining source) fault)

-- ---- the program

-- `ProgramOutput` has the text that the program writes, and its exit status
pub record ProgramOutput : Type 0 where
  -- the bytes that are written to standard output
  pub text : List ℕ
  -- the exit status
  pub status : ℕ

-- `output_of` is the output for the result of a job
abbrev pub output_of : Result (List ℕ) BenchFault → ProgramOutput
output_of (Ok text) = record { text = text; status = 0 }
output_of (Err fault) = record { text = fault_text fault; status = 1 }

-- `program_output` is the output for the meaning of the arguments, and the input
abbrev pub program_output : Result Job WordsFault → List ℕ → ProgramOutput
program_output (Ok job) input = output_of (job_output job input)
program_output (Err words.Refused) input = record { text = codes "rvbench: command line\n"; status = 2 }
program_output (Err words.NoMemory) input = record { text = codes "rvbench: memory\n"; status = 1 }
program_output (Err (words.Help text)) input = record { text = string_bytes text; status = 0 }

-- `failed_status` is the exit status if a device failed
abbrev pub failed_status : Result Job WordsFault → ℕ
failed_status (Ok job) = 1
failed_status (Err words.Refused) = 2
failed_status (Err words.NoMemory) = 1
failed_status (Err (words.Help text)) = 1

-- the arguments mean a job, or have a reason that they mean none
abbrev pub Means : List Text → Result Job WordsFault → Type 0
Means given (Ok job) = (refusals_of given ≡ []) × (job ≡ job_of given)
Means given (Err fault) = IsFaultOf (refusals_of given) fault

-- arguments that may be unreadable mean a job, or have a reason that they mean none
abbrev pub MeansGiven : Result (List Text) WordsFault → Result Job WordsFault → Type 0
MeansGiven (Ok given) meaning = Means given meaning
MeansGiven (Err fault) meaning = meaning ≡ Err fault

-- `given_by` has the bytes of each argument
abbrev pub given_by : {A Z : Type 0} → Result (Vec (String A) Z) WordsFault → Result (List Text) WordsFault
given_by arguments = result_case arguments (λ words. Ok (map string_bytes words.items)) Err

-- memory was refused in the job of the arguments, with this status and text
abbrev pub StopsOutOfMemory : Result Job WordsFault → List ℕ → ProgramOutput → Type 0
StopsOutOfMemory (Ok job) input output = (fault : BenchFault) × IsOutOfMemory job input fault × (output ≡ output_of (Err fault))
StopsOutOfMemory (Err fault) input output = ⊥

module _ {S W : Type 0} (source_view : SourceGhosts S) (sink_view : SinkGhosts W) (source source_after : S) (before after : W) where
  -- Exactly this output was written, and the sink was flushed once, after it.
  pub record Writes (output : ProgramOutput) (status : ℕ) : Type 0 where
    -- no call of the sink failed, and the sink was flushed once, at the end
    pub sink : SinkFlushed sink_view before after
    -- exactly the text of the output was written
    pub written : sink_view.taken after ≡ sink_view.taken before ++ output.text
    -- the exit status is that of the output
    pub status_is : status ≡ output.status

  -- the output of the program was written, or, since memory was refused, a line that reports this
  abbrev pub WritesOutput : Result Job WordsFault → List ℕ → ℕ → Type 0
  WritesOutput meaning input status =
      Writes (program_output meaning input) status
      ⊎ ((output : ProgramOutput) × StopsOutOfMemory meaning input output × Writes output status)

  -- a device failed, and the exit status reports an error
  abbrev pub StopsAtDevice : Result Job WordsFault → ℕ → Type 0
  StopsAtDevice meaning status = (SourceFailed source_view source source_after ⊎ SinkFailed sink_view before after) × (status ≡ failed_status meaning)

  -- The program wrote its output for its arguments and the assumed input, which stays the same, or a device failed. If the arguments name no
  -- job, it read nothing.
  pub record RunsProgram (IsMeaning : Result Job WordsFault → Type 0) (status : ℕ) : Type 0 where
    -- the source assumes the same input after the run
    pub same_input : source_view.input source_after ≡ source_view.input source
    -- the job that the arguments name, or their fault
    pub meaning : Result Job WordsFault
    -- the arguments have this meaning
    pub is_meaning : IsMeaning meaning
    -- if the arguments name no job, nothing was read
    pub untouched : OnErr meaning (source_after ≡ source)
    -- the output was written, or a device failed
    pub writes : source_view.follows_input source_after → WritesOutput meaning (source_view.remaining source) status ⊎ StopsAtDevice meaning status
