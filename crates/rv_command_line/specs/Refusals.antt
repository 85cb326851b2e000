-- The errors of arguments that give no job. (This project's own command line.)
use Rattle.std.specs.Prelude.{List, [], ◌∷◌, if◌then◌else◌}
use Rattle.clap.specs.Kinds.{Kinds, or_else}
use Rattle.clap.specs.Words.{Text}
use Rattle.clap.specs.declared.error.kind.ErrorKind.TheVariants as kind
use Rattle.rv_command_line.specs.CommandLine.{faults_of}
use Rattle.rv_command_line.specs.Job.{has_its_monitor, job_of}

-- The errors of the arguments. The first argument is the program's name. The list is empty if the arguments give a job. Accepted arguments give
-- no job if they have two harts without the monitor: the required argument `--monitor` is then missing.
abbrev pub refusals_of : List Text → Kinds
refusals_of words = or_else (faults_of words) (if has_its_monitor (job_of words) then [] else kind.MissingRequiredArgument ∷ [])
