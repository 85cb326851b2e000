-- This file proves obligations of `write_disassembly`, which writes a line for each word, which is given by its bytes, and flushes the sink.
use Rattle.std.proofs.Common.{rules, ◌∙◌, ◌++◌, [], ap, sym, subst, arith}
use Rattle.std.proofs.lemmas.Result.{on_ok_weaker}
use Rattle.std.proofs.lemmas.List.Folds.{flat_map-map}
use Rattle.rv_word.specs.ByteOrder.{word_of_bytes}
use Rattle.rv_streams.specs.DisassemblyText.{dis_line}
use Rattle.rv_streams.specs.Transfer.{WritesPrefix}
use Rattle.rv_streams.proofs.WrittenLines.{lines-more, lines-stopped, lines-all}
use Rattle.rv_streams.proofs.dis.write_disassembly.Goals as goal

-- an iteration of the loop over `bytes` preserves the invariant: it gathers the line of one more word
pub loop-bytes-preserved : goal.loop-bytes-preserved
loop-bytes-preserved g c = record {
  failures = search rules;
  refusals = search rules;
  flushes = search rules;
  written =
      lines-more (λ bytes. dis_line (word_of_bytes bytes)) c.args.words.now c.loop-bytes.bytes-index [] _ _ _ _ _ _ (omega arith)
      c.loop-bytes.invariant.written c.in_ok-make_room.ensures.written
      (c.push_disassembly.ensures.items ∙ ap (λ word. c.make_room.new.gathered.items ++ dis_line word) c.le_word.ensures.value);
}

-- if the sink fails while lines are gathered, it has taken a prefix of all lines (clause `prefix`)
pub returns-in_err-make_room-clause-prefix : goal.returns-in_err-make_room-clause-prefix
returns-in_err-make_room-clause-prefix g c =
    subst (WritesPrefix _ _) (sym (flat_map-map dis_line word_of_bytes c.args.words.now))
    (lines-stopped (λ bytes. dis_line (word_of_bytes bytes)) c.args.words.now c.loop-bytes.bytes-index _ _ _ _ c.loop-bytes.invariant.written
    c.make_room.ensures.prefix)

-- the sink has taken a prefix of all lines, also if it fails in the last bytes (clause `prefix`)
pub returns-clause-prefix : goal.returns-clause-prefix
returns-clause-prefix g c =
    subst (WritesPrefix _ _) (sym (flat_map-map dis_line word_of_bytes c.args.words.now))
    (lines-stopped (λ bytes. dis_line (word_of_bytes bytes)) c.args.words.now c.loop-bytes.bytes-index _ _ _ _ c.loop-bytes.invariant.written
    c.write_last.ensures.prefix)

-- if no call failed, the sink has taken the lines of all words (clause `written`)
pub returns-clause-written : goal.returns-clause-written
returns-clause-written g c =
    on_ok_weaker c.write_last.result
    (λ write_ok. lines-all (λ bytes. dis_line (word_of_bytes bytes)) c.args.words.now c.loop-bytes.bytes-index _ _ _ _ (omega arith)
    c.loop-bytes.invariant.written write_ok
    ∙ ap (λ lines. g.W.Sink.taken c.args.sink.now ++ lines) (sym (flat_map-map dis_line word_of_bytes c.args.words.now)))
    c.write_last.ensures.written
