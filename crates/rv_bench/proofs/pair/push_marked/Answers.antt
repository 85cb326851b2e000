-- This file proves obligations of `push_marked`, which appends a text with a mark of three bytes before each of its lines.
use Rattle.std.proofs.Common.{rules, ◌≡◌, ◌++◌, ◌∙◌, [], cond}
use Rattle.rv_bench.proofs.PairLemmas.{marked_step}
use Rattle.rv_bench.proofs.pair.push_marked.Goals as goal
use Rattle.rv_bench.proofs.pair.push_marked.Goals.{then-begins, else-begins}

-- An iteration of the loop over `byte` preserves the invariant: it appends the mark if the byte begins a line, and then the byte.
pub loop-byte-preserved : goal.loop-byte-preserved
loop-byte-preserved c =
    let with_mark : c.if-begins.out.items ≡ c.loop-byte.out.items ++ cond c.loop-byte.begins c.args.mark.now [] = elim c.if-begins.branch [
      | then-begins begins ↦ search rules
      | else-begins continues ↦ search rules
    ] in
    record {
      written =
          marked_step c.args.mark.now c.loop-byte.begins c.args.text.now c.loop-byte.byte-index _ _ _ c.loop-byte-test.true with_mark
          c.push_all-in-loop-byte.ensures.items
          ∙ c.loop-byte.invariant.written;
      room = search rules;
    }
