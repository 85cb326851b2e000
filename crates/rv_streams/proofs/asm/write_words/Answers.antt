-- This file proves obligations of `write_words`, which writes a line for each word, and flushes the sink.
use Rattle.std.proofs.Common.{rules, arith}
use Rattle.rv_streams.specs.AssemblyText.{word_line}
use Rattle.rv_streams.proofs.WrittenLines.{lines-more, lines-stopped}
use Rattle.rv_streams.proofs.asm.write_words.Goals as goal

-- an iteration of the loop over `word` preserves the invariant: it gathers the line of one more word
pub loop-word-preserved : goal.loop-word-preserved
loop-word-preserved g c = record {
  failures = search rules;
  refusals = search rules;
  flushes = search rules;
  written =
      lines-more word_line c.args.words.now c.loop-word.word-index 0 _ _ _ _ _ _ (omega arith) c.loop-word.invariant.written
      c.in_ok-make_room.ensures.written c.push_word.ensures.items;
}

-- if the sink fails while lines are gathered, it has taken a prefix of all lines (clause `prefix`)
pub returns-in_err-make_room-clause-prefix : goal.returns-in_err-make_room-clause-prefix
returns-in_err-make_room-clause-prefix g c =
    lines-stopped word_line c.args.words.now c.loop-word.word-index _ _ _ _ c.loop-word.invariant.written
    c.make_room.ensures.prefix

-- the sink has taken a prefix of all lines, also if it fails in the last bytes (clause `prefix`)
pub returns-clause-prefix : goal.returns-clause-prefix
returns-clause-prefix g c =
    lines-stopped word_line c.args.words.now c.loop-word.word-index _ _ _ _ c.loop-word.invariant.written
    c.write_last.ensures.prefix
