-- This file proves obligations of `run_asm`, which reads an assembler text to the end of the source, and writes a line for each of its words.
use Rattle.std.proofs.Common.{rules, ◌≡◌, inl, inr, ◌≤◌, ◌∙◌, ◌++◌, Global, List, ℕ, length, Ok, Err, refl, ap, sym, subst, arith}
use Rattle.std.proofs.lemmas.List.{length-append}
use Rattle.std.proofs.lemmas.Result.{IfOk-at_ok, IfErr-at_err}
use Rattle.rv_text.specs.Lines.{lines_of}
use Rattle.rv_asm.specs.OutOfMemory.{FailsFor}
use Rattle.rv_asm.specs.declared.fault.AsmFault.{AsmFault}
use Rattle.rv_streams.specs.declared.device.Sink.{Ghosts as SinkGhosts}
use Rattle.rv_streams.specs.declared.device.Source.{Ghosts as SourceGhosts}
use Rattle.rv_streams.specs.declared.fault.BenchFault.{BenchFault}
use Rattle.rv_streams.specs.declared.fault.BenchFault.TheVariants.{Read, Write, TooLong, NoMemory, Asm}
use Rattle.rv_streams.specs.Assemble.{FailsAsm, ReadsText, ReadsWholeText, RunsAsm}
use Rattle.rv_streams.specs.AssemblyText.{asm_text, asm_output}
use Rattle.rv_streams.specs.Transfer.{WritesPrefix}
use Rattle.rv_streams.proofs.Assembling.{text_limit, asm_output-ok, asm_output-fault, asm_output-too_long}
use Rattle.rv_streams.proofs.Ends.{flushed_once}
use Rattle.rv_streams.proofs.Mapped.{mapped, passed_on, IsOkAnd-at}
use Rattle.rv_streams.proofs.asm.run_asm.Given as given
use Rattle.rv_streams.proofs.asm.run_asm.Goals as goal
use Rattle.rv_streams.proofs.asm.run_asm.Goals.{In-Ok}

-- a text that is not read to its end ends the job with the error of the read, and nothing is written
read_fails : {S W : Type 0} (Z : Type 0) (g : SourceGhosts S) (h : SinkGhosts W) (old new : S) (sink : W) (fault : BenchFault)
    → ReadsText g {Z = Z} old new (Err fault) → RunsAsm g h old new sink sink (Err fault)
read_fails Z g h old new sink Read reads = (reads, refl)
read_fails Z g h old new sink TooLong reads = (
  reads,
  λ follows.
      let (prefix, split, exceeds_limit) = reads.reads follows in
      asm_output-too_long _ (omega (arith, exceeds_limit, ap length split, length-append prefix (g.remaining new))),
  refl,
)
read_fails Z g h old new sink NoMemory reads = (reads, refl)
read_fails Z g h old new sink _ impossible = absurd impossible

-- if the text is not read to its end, the result is the error of the read
pub returns-in_err-text : goal.returns-in_err-text
returns-in_err-text g c =
    passed_on (RunsAsm g.S.Source g.W.Sink c.args.source.now c.read_whole.new.source c.args.sink.now c.args.sink.now)
    c.from_residual.result _ c.from_residual.ensures.1
    (read_fails Global g.S.Source g.W.Sink _ _ _ _ c.in_err-text.ensures)

-- a slice that is equal to a text of at most 4 MiB has at most 4 MiB
within_limit : (text read : List ℕ) → read ≡ text → length text ≤ text_limit → length read ≤ text_limit
within_limit text read read_is text_within_limit = subst (λ text. length text ≤ text_limit) (sym read_is) text_within_limit

-- if the text is assembled to words, its output has a line for each word
output_is : (g : given.Over) (c : In-Ok g) → g.S.Source.follows_input c.read_whole.new.source
    → asm_output (g.S.Source.remaining c.args.source.now) ≡ Ok (asm_text c.in-Ok.words.items)
output_is g c follows =
    let (source_read, text_within_limit, text_is) = c.in_ok-text.ensures in
    let read_is = c.as_slice.ensures.value ∙ text_is follows in
    ap asm_output (sym read_is) ∙ asm_output-ok _ _ (within_limit _ _ c.as_slice.ensures.value text_within_limit) c.in-Ok.ensures.ok

-- if the text is assembled, a line for each word is written; if the sink fails, a prefix of these lines is written, and the result is `Write`
pub returns-in-Ok : goal.returns-in-Ok
returns-in-Ok g c =
    let text_output_is = output_is g (goal.at.returns-in-Ok g c).In-Ok in
    let words_are = c.as_slice-in-Ok.ensures.value in
    mapped (RunsAsm g.S.Source g.W.Sink c.args.source.now c.read_whole.new.source c.args.sink.now c.write_words.new.sink)
    _ Write c.write_words.result c.map_err.result c.map_err.ensures.cases (λ error mapped_error is_write. search rules)
    -- the sink took all lines
    (λ _ write_ok. (
      c.in_ok-text.ensures.0,
      flushed_once g.W.Sink c.write_words.result write_ok c.write_words.ensures.ok c.write_words.ensures.flushed,
      λ follows. IsOkAnd-at _ _ _ (text_output_is follows) (IfOk-at_ok _ write_ok c.write_words.ensures.written
          ∙ ap (λ words. g.W.Sink.taken c.args.sink.now ++ asm_text words) words_are),
    ))
    -- the sink failed after a prefix of the lines
    (λ _ write_failed. (
      c.in_ok-text.ensures.0,
      IfErr-at_err _ write_failed c.write_words.ensures.err,
      λ follows. IsOkAnd-at _ _ _ (text_output_is follows)
          (subst (λ words. WritesPrefix (g.W.Sink.taken c.args.sink.now) (g.W.Sink.taken c.write_words.new.sink) (asm_text words)) words_are
          c.write_words.ensures.prefix),
    ))

-- a text that has an error fails with this error, or for lack of memory
fails_by_fault : (text : List ℕ) (fault : AsmFault) → length text ≤ text_limit → FailsFor text fault → FailsAsm text fault
fails_by_fault text fault text_within_limit (inl is_fault) = inl (asm_output-fault text fault text_within_limit is_fault)
fails_by_fault text fault text_within_limit (inr out_of_memory) = inr out_of_memory

-- a text that is read whole and has an error ends the job with the error, and writes nothing
text_fails : {S W : Type 0} (g : SourceGhosts S) (h : SinkGhosts W) (old new : S) (sink : W) (text : List ℕ) (fault : AsmFault)
    → ReadsWholeText g old new → (g.follows_input new → text ≡ g.remaining old) → length text ≤ text_limit
    → (1 ≤ fault.line) × (fault.line ≤ length (lines_of text)) → FailsFor text fault
    → RunsAsm g h old new sink sink (Err (Asm fault))
text_fails g h old new sink text fault reads text_is text_within_limit line_number fails = (
  reads,
  λ follows. subst (λ text. (1 ≤ fault.line) × (fault.line ≤ length (lines_of text))) (text_is follows) line_number,
  λ follows. subst (λ text. FailsAsm text fault) (text_is follows) (fails_by_fault text fault text_within_limit fails),
  refl,
)

-- if the text has an error, the result is this error with its line number, and nothing is written
pub returns : goal.returns
returns g c =
    let (source_read, text_within_limit, text_is) = c.in_ok-text.ensures in
    text_fails g.S.Source g.W.Sink c.args.source.now c.read_whole.new.source c.args.sink.now c.as_slice.result.now c.in-Err.fault
    source_read (λ follows. c.as_slice.ensures.value ∙ text_is follows) (within_limit _ _ c.as_slice.ensures.value text_within_limit)
    c.in-Err.ensures.line c.in-Err.ensures.fault
