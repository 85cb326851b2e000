-- This file proves obligations of `perform_arguments`, which performs the job that the arguments of a process request, as `perform` does.
use Rattle.std.proofs.Common.{refl, inr, Ok}
use Rattle.rv_command_line.specs.declared.words_fault.WordsFault.TheVariants.{NoMemory}
use Rattle.rv_bench.specs.ProgramOutput.{MeansGiven, given_by}
use Rattle.rv_bench.proofs.ProgramResults.{runs_refused}
use Rattle.rv_bench.proofs.program.perform_arguments.Goals as goal

-- if memory for the texts of the arguments is refused, the program writes this fault, and reads nothing (clause `output`)
pub returns-in-Err-texts_of-clause-output : goal.returns-in-Err-texts_of-clause-output
returns-in-Err-texts_of-clause-output g c =
    rw c.in-Ok.is (runs_refused _ _ _ _ _ (MeansGiven (given_by (Ok c.in-Ok.words))) NoMemory _ tt c.refuse-status.ensures)

-- if the arguments are unreadable, the program writes their fault, and reads nothing (clause `output`)
pub returns-in-Err-clause-output : goal.returns-in-Err-clause-output
returns-in-Err-clause-output g c = rw c.in-Err.is (runs_refused _ _ _ _ _ _ c.in-Err.fault _ refl c.refuse-status-in-Err.ensures)

-- if memory for the texts of the arguments is refused, the program reports this fault, and does not touch the source (clause `effects`)
pub returns-in-Err-texts_of-clause-effects : goal.returns-in-Err-texts_of-clause-effects
returns-in-Err-texts_of-clause-effects g c =
    rw c.in-Ok.is (inr (record { fault = NoMemory; reason = tt; refuses = c.refuse-status.ensures; untouched = refl }))

-- if the arguments are unreadable, the program reports their fault, and does not touch the source (clause `effects`)
pub returns-in-Err-clause-effects : goal.returns-in-Err-clause-effects
returns-in-Err-clause-effects g c = rw c.in-Err.is (c.refuse-status-in-Err.ensures, refl)
