-- This file states the loop invariants of `after_blanks`, which returns the text without leading blanks.
use Rattle.std.proofs.Common.{◌≡◌, length}
use Rattle.rv_asm.specs.Cuts.{after_blanks}
use Rattle.rv_asm.proofs.cuts.after_blanks.Given as goal

-- the blanks that the loop has passed do not change the result
abbrev pub invariant-loop-rest : goal.invariant-loop-rest
invariant-loop-rest l = after_blanks l.rest ≡ after_blanks l.text

-- the rest gets shorter
abbrev pub decreases-loop-rest : goal.decreases-loop-rest
decreases-loop-rest l = length l.rest
