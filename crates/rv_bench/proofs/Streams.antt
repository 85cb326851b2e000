-- The meaning of each result of a run over an input, derived from the image that was read and the script that was run.
use Rattle.std.proofs.Common.{◌≡◌, ℕ, List, ◌++◌, inr, Result, Ok, Err, refl, sym, ◌∙◌, ap, subst, arith}
use Rattle.std.specs.Result.{IsOkAnd}
use Rattle.rv_text.specs.Lines.{lines_of}
use Rattle.rv_debug.specs.BenchState.{BenchState}
use Rattle.rv_memory.specs.declared.ram_fault.RamFault.TheVariants.{BadSize, NoMemory as NoRamMemory}
use Rattle.rv_command_line.specs.declared.setup.Setup.{Setup}
use Rattle.rv_streams.specs.declared.device.Sink.{Ghosts as SinkGhosts}
use Rattle.rv_streams.specs.declared.device.Source.{Ghosts as SourceGhosts}
use Rattle.rv_streams.specs.declared.fault.BenchFault.{BenchFault}
use Rattle.rv_streams.specs.declared.fault.BenchFault.TheVariants.{Image, Ram, Read, Write}
use Rattle.rv_streams.specs.declared.lines.Lines.{Lines}
use Rattle.rv_streams.specs.declared.separator.ScriptEnd.TheVariants.{Input}
use Rattle.rv_streams.specs.Calls.{SourceFailed}
use Rattle.rv_streams.specs.Image.{image_in}
use Rattle.rv_streams.specs.Faults.{Outcome}
use Rattle.rv_streams.specs.Script.{ReadsThroughSeparator}
use Rattle.rv_streams.specs.Separator.{after_separator}
use Rattle.rv_streams.specs.Transfer.{WritesPrefix}
use Rattle.rv_streams.specs.Unread.{held, unread, EndsWithSource}
use Rattle.rv_streams.proofs.Ends.{EndsWithSource-more, separator_read}
use Rattle.rv_bench.specs.Loaded.{started}
use Rattle.rv_bench.specs.Output.{bench_in, output, replies_of}
use Rattle.rv_bench.specs.Replies.{bench_line, one_bench, replies}
use Rattle.rv_bench.specs.Run.{RunsBench, StopsAtRead, StopsAtWrite}
use Rattle.rv_bench.specs.Stream.{RunsStream}
use Rattle.rv_bench.proofs.Starts.{no_ram, has_ram, fault_has_ram}

-- a result that is Ok and has a property is Ok with a value that has it
ok_and : {A E : Type 0} (result : Result A E) (P : A → Type 0) → IsOkAnd result P → (value : A) × (result ≡ Ok value) × P value
ok_and (Ok value) P holds = (value, refl, holds)
ok_and (Err fault) P impossible = absurd impossible

-- The image was read from the lines `old` through the separator, which leaves the lines `script_source`. The script is read from there, which leaves
-- `new`.
module _ {S W : Type 0} {source_view : SourceGhosts S} (sink_view : SinkGhosts W) (setup : Setup) (image : List ℕ)
    (old script_source new : Lines S source_view) (before after : W)
    (reads : ReadsThroughSeparator old script_source) (image_is : source_view.follows_input script_source.source → image_in (unread old) ≡ Ok image)
    (image_end : EndsWithSource old script_source) (script_end : EndsWithSource script_source new) where
  -- the input starts the bench of the image, or has its error
  bench_is : (bench : Result BenchState BenchFault) → started image setup ≡ bench → source_view.follows_input script_source.source
      → bench_in setup (unread old) ≡ bench
  bench_is bench starts follows = rw (image_is follows) starts

  -- the output for an input is the replies to the lines of its script
  output_is : (state : BenchState) → started image setup ≡ Ok state → source_view.follows_input script_source.source
      → output setup (unread old) ≡ Ok (replies bench_line state (lines_of (unread script_source)))
  output_is state starts follows =
      ap (λ bench. replies_of bench (lines_of (after_separator (unread old)))) (bench_is (Ok state) starts follows)
      ∙ ap (λ script. Ok (replies bench_line state (lines_of script))) (sym (reads.rest follows))

  -- the error of an input is the error of the start
  fault_is : (fault : BenchFault) → started image setup ≡ Err fault → source_view.follows_input script_source.source
      → output setup (unread old) ≡ Err fault
  fault_is fault starts follows =
      ap (λ bench. replies_of bench (lines_of (after_separator (unread old)))) (bench_is (Err fault) starts follows)

  -- a failure of the source in the script is a failure of the source in the whole call
  source_failed : SourceFailed source_view script_source.source new.source → SourceFailed source_view old.source new.source
  source_failed script_failed = let image_worked = reads.source in omega (arith, script_failed, image_worked)

  -- a property of the bench and of the text of its script holds of the bench and the script of the whole input
  of_input : (P : List ℕ → BenchState → Type 0) (state : BenchState) → started image setup ≡ Ok state → source_view.follows_input script_source.source
      → P (unread script_source) state → IsOkAnd (bench_in setup (unread old)) (P (after_separator (unread old)))
  of_input P state starts follows holds =
      subst (λ bench. IsOkAnd bench (P (after_separator (unread old)))) (sym (bench_is (Ok state) starts follows))
      (subst (λ script. P script state) (reads.rest follows) holds)

  -- the result of the script, or the error of the start, is the result of the whole run
  pub streamed : (outcome : Outcome) → RunsBench sink_view image setup script_source new before after outcome
      → RunsStream sink_view setup old new before after outcome
  -- the script was read to its end: the calls for the image and the calls for the script are the calls of the whole run
  streamed (Ok done) runs =
      let (state, starts, run) = ok_and (started image setup) _ runs in (
        has_ram image setup state starts,
        record {
          at_end = run.at_end;
          ended = (EndsWithSource-more old script_source new image_end script_end).ended run.at_end;
          emptied = run.emptied;
          source = run.source ∙ reads.source;
          sink = run.sink;
          used_up = run.used_up;
          -- the replies to the script are the output for the whole input
          written = λ follows. subst (λ output. IsOkAnd output (λ text. sink_view.taken after ≡ sink_view.taken before ++ text))
              (sym (output_is state starts (script_end.followed_before follows))) (run.written follows);
        },
      )
  -- the source failed in the script: the input has a separator, and the script stops at the failed read
  streamed (Err Read) runs =
      let (state, starts, (fails, stops)) = ok_and (started image setup) _ runs in
      let Stops : List ℕ → BenchState → Type 0 = λ script bench.
      StopsAtRead one_bench Input bench script (source_view.remaining new.source) (held new) (sink_view.taken before) (sink_view.taken after) in (
        record { source = source_failed fails.source; sink = fails.sink; not_at_end = fails.not_at_end },
        λ follows. inr (
          separator_read old script_source new reads script_end fails.not_at_end follows,
          of_input Stops state starts (script_end.followed_before follows) (stops follows),
        ),
      )
  -- the sink failed in the script: a prefix of the output was written, and the script stops at the failed write
  streamed (Err Write) runs =
      let (state, starts, (fails, stops)) = ok_and (started image setup) _ runs in
      let Stops : List ℕ → BenchState → Type 0 = λ script bench.
      StopsAtWrite one_bench Input bench script (unread new) (sink_view.taken before) (sink_view.taken after) in (
        has_ram image setup state starts,
        record {
          source = fails.source ∙ reads.source;
          sink = fails.sink;
          emptied = fails.emptied;
          prefix = λ follows. subst (λ output. IsOkAnd output (λ text. WritesPrefix (sink_view.taken before) (sink_view.taken after) text))
              (sym (output_is state starts (script_end.followed_before follows))) (fails.prefix follows);
        },
        λ follows. of_input Stops state starts (script_end.followed_before follows) (stops follows),
      )
  -- the RAM has no permitted size: no line of the script was read, and nothing was written
  streamed (Err (Ram BadSize)) (bad_size, same_lines, unwritten) =
      let reads_new = subst (ReadsThroughSeparator old) (sym same_lines) reads in
      (bad_size, reads_new, λ follows. fault_is (Ram BadSize) (no_ram image setup bad_size) (script_end.followed_before follows), unwritten)
  -- memory for the RAM was refused: no line of the script was read, and nothing was written
  streamed (Err (Ram (NoRamMemory refused))) (valid_size, bytes_are, same_lines, unwritten) =
      let reads_new = subst (ReadsThroughSeparator old) (sym same_lines) reads in
      (valid_size, bytes_are, reads_new, λ follows. rw (image_is (script_end.followed_before follows)) refl, unwritten)
  -- the image has an error: no line of the script was read, and nothing was written
  streamed (Err (Image fault)) (bad_image, same_lines, unwritten) =
      let reads_new = subst (ReadsThroughSeparator old) (sym same_lines) reads in (
        fault_has_ram image setup fault bad_image,
        reads_new,
        λ follows. fault_is (Image fault) bad_image
            (script_end.followed_before follows),
        unwritten,
      )
  -- a script has no other error
  streamed (Err _) runs = absurd (ok_and (started image setup) _ runs).2
