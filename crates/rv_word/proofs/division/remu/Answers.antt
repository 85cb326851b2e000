-- This file proves obligations of `remu`, which returns the remainder of the unsigned division.
use Rattle.rv_word.proofs.DivisionLemmas.{unsigned-remainder}
use Rattle.rv_word.proofs.division.remu.Goals as goal

-- for a divisor that is not 0, the unsigned remainder solves the equation of an unsigned division (clause `equation`)
pub returns-else-divisor-eq0-clause-equation : goal.returns-else-divisor-eq0-clause-equation
returns-else-divisor-eq0-clause-equation c = unsigned-remainder c.args.dividend c.args.divisor
