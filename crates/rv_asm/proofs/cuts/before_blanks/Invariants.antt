-- This file states the loop invariants of `before_blanks`, which returns the text without trailing blanks.
use Rattle.std.proofs.Common.{◌≡◌, length}
use Rattle.rv_asm.specs.Cuts.{before_blanks}
use Rattle.rv_asm.proofs.cuts.before_blanks.Given as goal

-- the blanks that the loop has passed do not change the result
abbrev pub invariant-loop-rest : goal.invariant-loop-rest
invariant-loop-rest l = before_blanks l.rest ≡ before_blanks l.text

-- the rest gets shorter
abbrev pub decreases-loop-rest : goal.decreases-loop-rest
decreases-loop-rest l = length l.rest
