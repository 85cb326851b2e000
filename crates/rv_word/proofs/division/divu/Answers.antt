-- This file proves obligations of `divu`, which returns the unsigned quotient, rounded down.
use Rattle.rv_word.proofs.DivisionLemmas.{unsigned-quotient}
use Rattle.rv_word.proofs.division.divu.Goals as goal

-- for a divisor that is not 0, the unsigned quotient solves the equation of an unsigned division (clause `equation`)
pub returns-else-divisor-eq0-clause-equation : goal.returns-else-divisor-eq0-clause-equation
returns-else-divisor-eq0-clause-equation c = unsigned-quotient c.args.dividend c.args.divisor
