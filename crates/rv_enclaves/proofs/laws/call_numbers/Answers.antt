-- The proof obligation of the law `call_numbers` (src/laws.rt).
use Rattle.rv_enclaves.proofs.CallNumbers.{call_numbers}
use Rattle.rv_enclaves.proofs.laws.call_numbers.Goals as goal

-- proves the law (`CallNumbersLaw`) that is the contract of `call_numbers`
pub returns : goal.returns
returns c = call_numbers
