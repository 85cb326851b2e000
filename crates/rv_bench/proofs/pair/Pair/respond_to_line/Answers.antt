-- This file proves obligations of `Pair::respond_to_line`, which executes a line on both benches, and replaces the contents of the buffer by the
-- text for it.
use Rattle.rv_bench.proofs.PairLemmas.{pair_line-prefix}
use Rattle.rv_bench.proofs.pair.Pair.respond_to_line.Goals as goal

-- every line that begins with the same significant bytes has the same response (clause `prefix`)
pub returns-clause-prefix : goal.returns-clause-prefix
returns-clause-prefix c = λ other same_prefix. pair_line-prefix _ _ other _ same_prefix
