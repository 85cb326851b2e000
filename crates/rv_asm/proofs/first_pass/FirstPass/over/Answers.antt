-- This file proves obligations of `FirstPass::over`, which reads all lines of a text.
use Rattle.std.proofs.Common.{◌∷◌, [], length-append, arith}
use Rattle.rv_asm.specs.LineReading.{line_read}
use Rattle.rv_asm.proofs.PassLemmas.{reads_on}
use Rattle.rv_asm.proofs.first_pass.FirstPass.over.Goals as goal

-- after an iteration, the pass has read one more line, which has no error of its own
pub loop-line-preserved : goal.loop-line-preserved
loop-line-preserved c =
    let has_read = c.loop-line.invariant.read in
    -- the pass has read the line, which has no error of its own
    let (has_read_line, line_has_no_error) = c.in_ok-add_line.ensures.ok has_read.before has_read.read in
    record {
      read =
          reads_on c.loop-line.pass c.add_line.new.self c.args.text.now c.loop-line.rest.now c.in-Some.after.now c.in-Some.line.now has_read
          c.in-Some.ensures.lines has_read_line line_has_no_error;
      count =
          omega (
            arith,
            has_read_line.count,
            has_read.read.count,
            length-append has_read.before (line_read c.in-Some.line.now ∷ []),
            c.in-Some.ensures.shorter,
            c.loop-line.invariant.count,
          );
    }
