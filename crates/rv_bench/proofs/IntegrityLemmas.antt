-- Integrity of scripts: every part of a script preserves each enclave that it leaves undisturbed, by the law of integrity for its commands.
use Rattle.std.proofs.Common.{◌≡◌, ℕ, List, [], ◌∷◌, Result, Ok, Err, IfOk, refl, sym, ◌∙◌, subst}
use Rattle.rv_word.specs.Cases.{result_case}
use Rattle.rv_debug.specs.Execute.{execute, execute_or_fault, execute_line}
use Rattle.rv_debug.specs.BenchState.{BenchState}
use Rattle.rv_script.specs.Command.{parse_of}
use Rattle.rv_debug.specs.Isolation.{after_commands, IsPreservedIn}
use Rattle.rv_debug.specs.Targets.{TargetInvariant}
use Rattle.rv_script.specs.declared.command.Command.{Command}
use Rattle.rv_script.specs.declared.command.CommandFault.{CommandFault}
use Rattle.rv_debug.proofs.EffectsInvariant.{command_keeps_invariant}
use Rattle.rv_debug.proofs.Isolation.{integrity}
use Rattle.rv_command_line.specs.declared.setup.Setup.{Setup}
use Rattle.rv_bench.specs.Integrity.{commands_of, PreservesThrough}
use Rattle.rv_bench.specs.Loaded.{started}
use Rattle.rv_bench.specs.Output.{bench_in}
use Rattle.rv_bench.specs.Replies.{bench_line, state_after}
use Rattle.rv_bench.proofs.RepliesLemmas.{state_after-append}
use Rattle.rv_bench.proofs.Starts.{of_bench_in, of_started}

-- lines have the effect of their commands, by induction over the lines; a line with an error has no command
pub lines_are_commands : (bench : BenchState) (lines : List (List ℕ)) → state_after bench_line bench lines ≡ after_commands bench (commands_of lines)
unfolding execute_line
lines_are_commands bench [] = refl
lines_are_commands bench (line ∷ lines) = by_parsed (λ next. lines_are_commands next lines) (parse_of line) where
  -- a parsed line and the lines after it have the effect of their commands
  by_parsed : ((next : BenchState) → state_after bench_line next lines ≡ after_commands next (commands_of lines))
      → (parsed : Result Command CommandFault) → state_after bench_line (execute_or_fault bench parsed).state lines
      ≡ after_commands bench (result_case parsed (λ command. command ∷ commands_of lines) (λ _. commands_of lines))
  by_parsed later_lines (Ok command) = later_lines (execute bench command).state
  by_parsed later_lines (Err fault) = later_lines bench

-- a line preserves the invariant of the target
pub line_keeps_invariant : (bench : BenchState) (line : List ℕ) → TargetInvariant bench.target
    → TargetInvariant (execute_line bench line).state.target
unfolding execute_line
line_keeps_invariant bench line invariant = by_parsed (parse_of line) where
  -- a parsed line preserves the invariant of the target
  by_parsed : (parsed : Result Command CommandFault) → TargetInvariant (execute_or_fault bench parsed).state.target
  by_parsed (Ok command) = command_keeps_invariant bench command invariant
  by_parsed (Err fault) = invariant

-- lines preserve the invariant of the target, by induction over the lines
pub lines_keep_invariant : (bench : BenchState) (lines : List (List ℕ)) → TargetInvariant bench.target
    → TargetInvariant (state_after bench_line bench lines).target
lines_keep_invariant bench [] invariant = invariant
lines_keep_invariant bench (line ∷ lines) invariant =
    lines_keep_invariant (execute_line bench line).state lines (line_keeps_invariant bench line invariant)

-- a bench with the invariant preserves every enclave that its lines leave undisturbed
script_integrity : (bench : BenchState) → TargetInvariant bench.target → PreservesThrough bench
script_integrity bench invariant slot before part undisturbed =
    let start = state_after bench_line bench before in
    let end_is = state_after-append bench_line bench before part ∙ lines_are_commands start part in
    subst (λ (end : BenchState). IsPreservedIn slot start.target end.target) (sym end_is)
    (integrity slot start (commands_of part) (lines_keep_invariant bench before invariant) undisturbed)

-- each bench that starts preserves every enclave that its lines leave undisturbed
pub started_integrity : (image : List ℕ) (setup : Setup) → IfOk (started image setup) PreservesThrough
started_integrity = of_started PreservesThrough script_integrity

-- each bench that an input starts preserves every enclave that its lines leave undisturbed
pub stream_integrity : (setup : Setup) (input : List ℕ) → IfOk (bench_in setup input) PreservesThrough
stream_integrity = of_bench_in PreservesThrough script_integrity
