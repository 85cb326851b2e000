-- This file proves the theorem `noninterference_with_declassification`, which states noninterference with declassification.
use Rattle.rv_bench.proofs.Declassified.{secret_declassification, started_declassification}
use Rattle.rv_bench.proofs.laws.noninterference_with_declassification.Goals as goal

-- proves the law (`ScriptDeclassificationLaw`) that is clause `script` of the contract of `noninterference_with_declassification`
pub returns-clause-script : goal.returns-clause-script
returns-clause-script c = started_declassification

-- proves the law (`SecretDeclassificationLaw`) that is clause `secret` of the contract of `noninterference_with_declassification`
pub returns-clause-secret : goal.returns-clause-secret
returns-clause-secret c = secret_declassification
