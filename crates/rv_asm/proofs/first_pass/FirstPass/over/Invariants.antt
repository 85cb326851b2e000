-- This file states the loop invariants of `FirstPass::over`, which reads all lines of a text.
use Rattle.std.proofs.Common.{◌+◌, ◌≤◌, length}
use Rattle.rv_asm.proofs.PassLemmas.{HasReadUpTo}
use Rattle.rv_asm.proofs.first_pass.FirstPass.over.Given as goal

-- the pass has read the lines before the rest of the text
abbrev pub invariant-loop-line : goal.invariant-loop-line
invariant-loop-line l = record {
  read : HasReadUpTo l.pass l.text l.rest;
  count : l.pass.lines + length l.rest ≤ length l.text;
}

-- the rest of the text gets shorter
abbrev pub decreases-loop-line : goal.decreases-loop-line
decreases-loop-line l = length l.rest
