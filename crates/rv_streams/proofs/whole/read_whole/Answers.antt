-- This file proves obligations of `read_whole`, which reads all bytes of a source, to its end.
use Rattle.std.proofs.Common.{rules, ◌≡◌, ◌++◌, ℕ, Global, List, length, take, Err, arith, sym, ap, append_assoc, ◌∙◌}
use Rattle.std.proofs.lemmas.List.{length-append}
use Rattle.rv_streams.specs.declared.device.Source.{Ghosts}
use Rattle.rv_streams.specs.declared.fault.BenchFault.{BenchFault}
use Rattle.rv_streams.specs.declared.fault.BenchFault.TheVariants.{TooLong, NoMemory}
use Rattle.rv_streams.specs.Assemble.{AddsPart, ReadsText}
use Rattle.rv_streams.specs.Calls.{SourceWorked}
use Rattle.rv_streams.proofs.Mapped.{ok_mapped, passed_on}
use Rattle.rv_streams.proofs.whole.read_whole.Goals as goal

-- a part that is not appended to the text ends the read with its fault: the text is too long, or memory is refused
part_refused : {S : Type 0} (Z : Type 0) (g : Ghosts S) (old new : S) (text part added : List ℕ) (fault : BenchFault)
    → g.input new ≡ g.input old → SourceWorked g old new → g.ends new ≡ g.ends old
    → (g.follows_input new → g.remaining old ≡ (text ++ part) ++ g.remaining new)
    → AddsPart part text added (Err fault) → ReadsText g {Z = Z} old new (Err fault)
-- the text with the part exceeds the limit
part_refused Z g old new text part added TooLong same_input source_worked same_ends bytes_are (exceeds_limit, unchanged) = record {
  same_input = same_input;
  source = source_worked;
  no_new_end = same_ends;
  reads = λ follows. (text ++ part, bytes_are follows, omega (arith, exceeds_limit, length-append text part));
}
-- memory for the part is refused: the part has a byte, and the text with the part is within the limit
part_refused Z g old new text part added NoMemory same_input source_worked same_ends bytes_are (has_bytes, within_limit, unchanged) = record {
  same_input = same_input;
  source = source_worked;
  no_new_end = same_ends;
  some_read = λ follows.
      let all_bytes = text ++ part in
      omega (arith, has_bytes, ap length (bytes_are follows), length-append all_bytes (g.remaining new), length-append text part);
  reads = λ follows. (text ++ part, bytes_are follows, omega (arith, within_limit, length-append text part));
}
part_refused Z g old new text part added _ same_input source_worked same_ends bytes_are impossible = absurd impossible

-- if a part cannot be appended to the text, the result is the fault of `add_part`
pub returns-in_err-add_part : goal.returns-in_err-add_part
returns-in_err-add_part g c =
    let found = ok_mapped _ c.read_some.result c.map_err.result _ c.map_err.ensures.cases c.in_ok-count.was in
    let text = c.loop-text.text.items in
    passed_on (ReadsText g.S.Source c.args.source.now c.read_some.new.self) c.from_residual-in_err-add_part.result _
    c.from_residual-in_err-add_part.ensures.1
    (part_refused Global g.S.Source c.args.source.now c.read_some.new.self text (take c.in_ok-count.count c.read_some.new.buffer) _ _
    (search rules) (search rules) (search rules)
    (λ follows. c.loop-text.invariant.prefix (c.read_some.ensures.before follows)
    ∙ (ap (λ rest. text ++ rest) (rw found at (c.read_some.ensures.bytes follows)) ∙ sym (append_assoc text _ _)))
    c.in_err-add_part.ensures)
