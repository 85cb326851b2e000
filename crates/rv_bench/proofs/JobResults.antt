-- The result of a job is stated by its function in detail (`RunsStream`, `RunsTwin`, `RunsDis`, `RunsAsm`). This file derives the common statement
-- (`MeetsOutput`). The sink took the output of the job for the input, or the job has the error of the input, or a device or memory failed.
use Rattle.std.proofs.Common.{◌≡◌, ◌<◌, List, ℕ, ◌++◌, length, inl, inr, Ok, Err, sym, ap, ◌∙◌, subst, arith}
use Rattle.std.specs.Result.{IsOkAnd}
use Rattle.rv_memory.specs.declared.ram_fault.RamFault.TheVariants.{BadSize, NoMemory as NoRamMemory}
use Rattle.rv_command_line.specs.declared.job.Job.{Job}
use Rattle.rv_command_line.specs.declared.job.Job.TheVariants.{Run, Twin, Asm, Dis}
use Rattle.rv_command_line.specs.declared.setup.Setup.{Setup}
use Rattle.rv_streams.specs.declared.device.Sink.{Ghosts as SinkGhosts}
use Rattle.rv_streams.specs.declared.device.Source.{Ghosts as SourceGhosts}
use Rattle.rv_streams.specs.declared.fault.BenchFault.{BenchFault}
use Rattle.rv_streams.specs.declared.fault.BenchFault.TheVariants.{Image, Ram, Read, Write, Hex, TooLong, NoMemory, Asm as AsmText}
use Rattle.rv_streams.specs.declared.lines.Lines.{Lines}
use Rattle.rv_streams.specs.Assemble.{RunsAsm}
use Rattle.rv_streams.specs.Calls.{SourceFailed}
use Rattle.rv_streams.specs.Disassemble.{RunsDis}
use Rattle.rv_streams.specs.Faults.{Outcome}
use Rattle.rv_streams.specs.Transfer.{WritesPrefix}
use Rattle.rv_streams.specs.Unread.{unread}
use Rattle.rv_bench.specs.Jobs.{DoesJob, ReadsByLines}
use Rattle.rv_bench.specs.ProgramOutput.{FailsBy, MeetsOutput, job_output}
use Rattle.rv_bench.specs.Stream.{RunsStream}
use Rattle.rv_bench.specs.Twin.{RunsTwin}

module _ {S W : Type 0} (source_view : SourceGhosts S) (sink_view : SinkGhosts W) (source source_after : S) (before after : W) where
  -- the sink took exactly this text in the call
  abbrev Wrote : List ℕ → Type 0
  Wrote text = sink_view.taken after ≡ sink_view.taken before ++ text

  -- the sink took a prefix of this text in the call
  abbrev WrotePrefix : List ℕ → Type 0
  WrotePrefix text = WritesPrefix (sink_view.taken before) (sink_view.taken after) text

  -- a source that gave bytes had some
  some_read : length (source_view.remaining source_after) < length (source_view.remaining source) → 0 < length (source_view.remaining source)
  some_read fewer_left = omega (arith, fewer_left)

  -- the job reads the source by lines, which are `old` before the job and `new` after it
  module _ (old new : Lines S source_view) (lines : ReadsByLines source_view source source_after old new) where
    -- the unread bytes of new lines are the remaining bytes of their source
    input_is : unread old ≡ source_view.remaining source
    input_is = ap (λ bytes. bytes ++ source_view.remaining old.source) lines.none_held ∙ ap source_view.remaining lines.from_source

    -- a failure of the source of the lines is a failure of the source
    source_failed : SourceFailed source_view old.source new.source → SourceFailed source_view source source_after
    source_failed risen =
        subst (λ source_after. SourceFailed source_view source source_after) (sym lines.given_back)
        (subst (λ source. SourceFailed source_view source new.source) lines.from_source risen)

    -- a property of the unread bytes of the lines is a property of the remaining bytes of the source
    of_input : (P : List ℕ → Type 0) → (source_view.follows_input new.source → P (unread old)) → source_view.follows_input source_after
        → P (source_view.remaining source)
    of_input P holds follows = subst P input_is (holds (subst source_view.follows_input lines.given_back follows))

    -- an error of a job has its meaning if nothing was written, and the input has this error or memory was refused
    error_meets : (job : Job) (fault : BenchFault) → after ≡ before → (source_view.follows_input new.source → FailsBy job (unread old) fault)
        → (after ≡ before) × (source_view.follows_input source_after → FailsBy job (source_view.remaining source) fault)
    error_meets job fault unwritten fails_by = (unwritten, of_input (λ input. FailsBy job input fault) fails_by)

    module _ (setup : Setup) where
      -- `run` is the job of a run
      abbrev run : Job
      run = Run setup

      -- a result of the run has the meaning that the job `run` has
      stream_meets : (outcome : Outcome) → RunsStream sink_view setup old new before after outcome
          → MeetsOutput source_view sink_view source source_after before after run outcome
      stream_meets (Ok done) (size, runs) = (runs.sink, of_input (λ input. IsOkAnd (job_output run input) Wrote) runs.written)
      stream_meets (Err Read) (fails, stops) = source_failed fails.source
      stream_meets (Err Write) (size, fails, stops) = (fails.sink, of_input (λ input. IsOkAnd (job_output run input) WrotePrefix) fails.prefix)
      -- the input has an error, or memory ran out
      stream_meets (Err Hex) (finds, fault_is, unwritten) = error_meets run Hex unwritten (λ follows. inl (fault_is follows))
      stream_meets (Err TooLong) (finds, fault_is, unwritten) = error_meets run TooLong unwritten (λ follows. inl (fault_is follows))
      stream_meets (Err NoMemory) (memory, unwritten) = error_meets run NoMemory unwritten (λ follows. inr (_, memory.reads follows))
      stream_meets (Err (Ram BadSize)) (size, reads, fault_is, unwritten) =
          error_meets run (Ram BadSize) unwritten (λ follows. inl (fault_is follows))
      stream_meets (Err (Ram (NoRamMemory refused))) (size, bytes, reads, image, unwritten) =
          error_meets run (Ram (NoRamMemory refused)) unwritten (λ follows. inr (size, bytes, image follows))
      stream_meets (Err (Image fault)) (size, reads, fault_is, unwritten) =
          error_meets run (Image fault) unwritten (λ follows. inl (fault_is follows))
      stream_meets (Err (AsmText fault)) impossible = absurd impossible

      module _ (slot : ℕ) where
        -- `twin` is the job of a twin run
        abbrev twin : Job
        twin = Twin setup slot

        -- a result of the twin run has the meaning that the job `twin` has
        twin_meets : (outcome : Outcome) → RunsTwin sink_view setup slot old new before after outcome
            → MeetsOutput source_view sink_view source source_after before after twin outcome
        twin_meets (Ok done) (size, runs) = (runs.sink, of_input (λ input. IsOkAnd (job_output twin input) Wrote) runs.written)
        twin_meets (Err Read) (fails, stops) = source_failed fails.source
        twin_meets (Err Write) (size, fails, stops) = (fails.sink, of_input (λ input. IsOkAnd (job_output twin input) WrotePrefix) fails.prefix)
        -- the input has an error, or memory ran out
        twin_meets (Err Hex) (finds, fault_is, unwritten) = error_meets twin Hex unwritten (λ follows. inl (fault_is follows))
        twin_meets (Err TooLong) (finds, fault_is, unwritten) = error_meets twin TooLong unwritten (λ follows. inl (fault_is follows))
        twin_meets (Err NoMemory) (memory, unwritten) = error_meets twin NoMemory unwritten (λ follows. inr (_, memory.reads follows))
        twin_meets (Err (Ram BadSize)) (size, reads, fault_is, unwritten) =
            error_meets twin (Ram BadSize) unwritten (λ follows. inl (fault_is follows))
        twin_meets (Err (Ram (NoRamMemory refused))) (size, bytes, reads, image, unwritten) =
            error_meets twin (Ram (NoRamMemory refused)) unwritten (λ follows. inr (size, bytes, image follows))
        twin_meets (Err (Image fault)) (size, reads, fault_is, unwritten) =
            error_meets twin (Image fault) unwritten (λ follows. inl (fault_is follows))
        twin_meets (Err (AsmText fault)) impossible = absurd impossible

    -- a result of the disassembly has the meaning that the job `dis` has
    dis_meets : (outcome : Outcome) → RunsDis sink_view old new before after outcome
        → MeetsOutput source_view sink_view source source_after before after Dis outcome
    dis_meets (Ok done) (reads, sink, written) = (sink, of_input (λ input. IsOkAnd (job_output Dis input) Wrote) written)
    dis_meets (Err Read) (fails, unwritten) = source_failed fails.source
    dis_meets (Err Write) (reads, sink, prefix) = (sink, of_input (λ input. IsOkAnd (job_output Dis input) WrotePrefix) prefix)
    dis_meets (Err Hex) (finds, fault_is, unwritten) = error_meets Dis Hex unwritten (λ follows. inl (fault_is follows))
    dis_meets (Err TooLong) (finds, fault_is, unwritten) = error_meets Dis TooLong unwritten (λ follows. inl (fault_is follows))
    dis_meets (Err NoMemory) (memory, unwritten) = error_meets Dis NoMemory unwritten (λ follows. inr (_, memory.reads follows))
    dis_meets (Err (Ram fault)) impossible = absurd impossible
    dis_meets (Err (Image fault)) impossible = absurd impossible
    dis_meets (Err (AsmText fault)) impossible = absurd impossible

  -- a result of the assembly, which does not read by lines, has the meaning that the job `asm` has
  asm_meets : (outcome : Outcome) → RunsAsm source_view sink_view source source_after before after outcome
      → MeetsOutput source_view sink_view source source_after before after Asm outcome
  asm_meets (Ok done) (reads, sink, written) = (sink, written)
  asm_meets (Err Read) (fails, unwritten) = fails.source
  asm_meets (Err Write) (reads, sink, prefix) = (sink, prefix)
  asm_meets (Err Hex) impossible = absurd impossible
  asm_meets (Err TooLong) (finds, fault_is, unwritten) = (unwritten, λ follows. inl (fault_is follows))
  asm_meets (Err NoMemory) (reads, unwritten) = (unwritten, λ follows. inr (some_read (reads.some_read follows)))
  asm_meets (Err (Ram fault)) impossible = absurd impossible
  asm_meets (Err (Image fault)) impossible = absurd impossible
  asm_meets (Err (AsmText fault)) (reads, line, fails, unwritten) = (unwritten, fails)

  -- each result of a job has the meaning that the output of the job gives it
  pub job_meets_output : (job : Job) (outcome : Outcome) → DoesJob source_view sink_view source source_after before after job outcome
      → MeetsOutput source_view sink_view source source_after before after job outcome
  job_meets_output (Run setup) outcome (old, new, lines, runs) = stream_meets old new lines setup outcome runs
  job_meets_output (Twin setup slot) outcome (old, new, lines, runs) = twin_meets old new lines setup slot outcome runs
  job_meets_output Asm outcome runs = asm_meets outcome runs
  job_meets_output Dis outcome (old, new, lines, runs) = dis_meets old new lines outcome runs

  -- an assembly does not change the input of the source, whatever its result
  asm_same_input : (outcome : Outcome) → RunsAsm source_view sink_view source source_after before after outcome
      → source_view.input source_after ≡ source_view.input source
  asm_same_input (Ok done) (reads, sink, written) = reads.same_input
  asm_same_input (Err Read) (fails, unwritten) = fails.same_input
  asm_same_input (Err Write) (reads, sink, prefix) = reads.same_input
  asm_same_input (Err Hex) impossible = absurd impossible
  asm_same_input (Err TooLong) (finds, fault_is, unwritten) = finds.same_input
  asm_same_input (Err NoMemory) (reads, unwritten) = reads.same_input
  asm_same_input (Err (Ram fault)) impossible = absurd impossible
  asm_same_input (Err (Image fault)) impossible = absurd impossible
  asm_same_input (Err (AsmText fault)) (reads, line, fails, unwritten) = reads.same_input

  -- reading by lines does not change the input of the source
  lines_same_input : (old new : Lines S source_view) → ReadsByLines source_view source source_after old new
      → source_view.input source_after ≡ source_view.input source
  lines_same_input old new lines = ap source_view.input lines.given_back ∙ (lines.end.same_input ∙ ap source_view.input lines.from_source)

  -- no job changes the input that the source is assumed to have
  pub job_same_input : (job : Job) (outcome : Outcome) → DoesJob source_view sink_view source source_after before after job outcome
      → source_view.input source_after ≡ source_view.input source
  job_same_input (Run setup) outcome (old, new, lines, runs) = lines_same_input old new lines
  job_same_input (Twin setup slot) outcome (old, new, lines, runs) = lines_same_input old new lines
  job_same_input Asm outcome runs = asm_same_input outcome runs
  job_same_input Dis outcome (old, new, lines, runs) = lines_same_input old new lines
