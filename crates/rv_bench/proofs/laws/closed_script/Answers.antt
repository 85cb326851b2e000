-- This file proves the theorem `closed_script`, which states a closed instance of declassification from input to output.
use Rattle.rv_bench.proofs.SecretScript.{secret_script_law}
use Rattle.rv_bench.proofs.laws.closed_script.Goals as goal

-- proves the law (`SecretScriptLaw`) that is the contract of `closed_script`
pub returns : goal.returns
returns c = secret_script_law
