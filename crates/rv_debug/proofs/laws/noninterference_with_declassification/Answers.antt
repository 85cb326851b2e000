-- This file proves the theorem `noninterference_with_declassification`, which states noninterference with declassification, for one command and for
-- lists of commands.
use Rattle.rv_debug.proofs.Declassification.{declassification, list_declassification}
use Rattle.rv_debug.proofs.laws.noninterference_with_declassification.Goals as goal

-- proves the law (`CommandDeclassificationLaw`) that is clause `command` of the contract of `noninterference_with_declassification`
pub returns-clause-command : goal.returns-clause-command
returns-clause-command c = declassification

-- proves the law (`ListDeclassificationLaw`) that is clause `list` of the contract of `noninterference_with_declassification`
pub returns-clause-list : goal.returns-clause-list
returns-clause-list c = list_declassification
