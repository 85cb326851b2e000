-- Integrity over scripts: every part of a script preserves each enclave that it leaves undisturbed. (A law of this project's own monitor and
-- debugger.)
use Rattle.std.specs.Prelude.{ℕ, List, [], ◌∷◌, ◌++◌, IfOk}
use Rattle.rv_word.specs.Cases.{result_case}
use Rattle.rv_debug.specs.BenchState.{BenchState}
use Rattle.rv_script.specs.Command.{parse_of}
use Rattle.rv_debug.specs.Isolation.{UndisturbedByAll, IsPreservedIn}
use Rattle.rv_script.specs.declared.command.Command.{Command}
use Rattle.rv_command_line.specs.declared.setup.Setup.{Setup}
use Rattle.rv_bench.specs.Loaded.{started}
use Rattle.rv_bench.specs.Replies.{bench_line, state_after}

-- the commands of lines; a line with an error has no command, and changes nothing
abbrev pub commands_of : List (List ℕ) → List Command
commands_of [] = []
commands_of (line ∷ lines) = result_case (parse_of line) (λ command. command ∷ commands_of lines) (λ _. commands_of lines)

-- After any lines, any part of the script that follows preserves the record, the region and the saved context of each live enclave that it
-- leaves undisturbed. Such an enclave is not the world of a hart that steps, is neither entered nor ended, and no byte of its region is poked.
abbrev pub PreservesThrough : BenchState → Type 0
PreservesThrough bench =
    (slot : ℕ) (before part : List (List ℕ)) → UndisturbedByAll slot (state_after bench_line bench before) (commands_of part)
    → IsPreservedIn slot (state_after bench_line bench before).target (state_after bench_line bench (before ++ part)).target

-- each bench that an image starts preserves every enclave that its lines leave undisturbed
abbrev pub ScriptIntegrityLaw : Type 0
ScriptIntegrityLaw = (image : List ℕ) (setup : Setup) → IfOk (started image setup) PreservesThrough
