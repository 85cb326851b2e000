-- This file proves obligations of `words_of`, which returns the words of all lines of a text.
use Rattle.std.proofs.Common.{arith}
use Rattle.rv_asm.proofs.WordLemmas.{fails_or_out_of_memory, writes_on}
use Rattle.rv_asm.proofs.second_pass.words_of.Goals as goal

-- if a line fails, the text has an error of a used label there, or memory is exhausted
pub returns-in-Err-clause-fault : goal.returns-in-Err-clause-fault
returns-in-Err-clause-fault c =
    fails_or_out_of_memory c.in-Some.after.now c.in-Some.line.now c.loop-line.invariant.written c.in-Some.ensures.lines c.in-Err.kind
    c.in-Err.ensures.fault

-- after an iteration, the pass has written the words of one more line
pub loop-line-preserved : goal.loop-line-preserved
loop-line-preserved c =
    let (added, line_words_are, new_words_are) = c.in_default-add_words.ensures.ok in record {
      written =
          writes_on _ c.loop-line.words.items c.add_words.new.words.items added c.loop-line.lines c.args.text.now c.loop-line.rest.now
          c.in-Some.after.now c.in-Some.line.now c.loop-line.invariant.written c.in-Some.ensures.lines line_words_are new_words_are
          c.in_default-add_words.ensures.len;
      count = omega (arith, c.in-Some.ensures.shorter, c.loop-line.invariant.count);
    }
