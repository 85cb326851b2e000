-- Noninterference with declassification over scripts: the scripts may run an enclave, and what it hands over is equal. Then what others observe of
-- the output is equal. (A law of this project's own monitor and debugger; declassification: Sabelfeld and Sands, JCS 2009.)
use Rattle.std.specs.Prelude.{◌≡◌, ℕ, List, [], ◌∷◌, ◌++◌, true, false, IfOk, Result, Ok, Err}
use Rattle.rv_text.specs.Lines.{lines_of, through_last_feed}
use Rattle.rv_word.specs.Cases.{result_case}
use Rattle.rv_script.specs.Command.{parse_of}
use Rattle.rv_script.specs.declared.command.Command.{Command}
use Rattle.rv_script.specs.declared.command.CommandFault.{CommandFault}
use Rattle.rv_debug.specs.BenchState.{BenchState}
use Rattle.rv_debug.specs.BothBenches.{RunsOnNoneIn, is_entered}
use Rattle.rv_debug.specs.Declassification.{BenchesAreRelated, CommandsAlike, EnclaveHasEnded, WindowsAreEqual}
use Rattle.rv_debug.specs.Execute.{execute}
use Rattle.rv_debug.specs.Noninterference.{harts_named}
use Rattle.rv_debug.specs.Observed.{observed}
use Rattle.rv_debug.specs.ReplyText.{command_fault_text}
use Rattle.rv_debug.specs.Targets.{TargetInvariant}
use Rattle.rv_command_line.specs.declared.setup.Setup.{Setup}
use Rattle.rv_streams.specs.Separator.{after_separator, has_separator}
use Rattle.rv_streams.specs.declared.fault.BenchFault.{BenchFault}
use Rattle.rv_bench.specs.Loaded.{started}
use Rattle.rv_bench.specs.Output.{bench_in}
use Rattle.rv_bench.specs.Replies.{Replied, bench_line, replies, state_after}

-- ---- what others observe

-- the state after a line, and what others observe of its reply; the reply to a line with an error is observed
abbrev pub observed_line : ℕ → BenchState → List ℕ → Replied BenchState
observed_line enclave bench line =
    record { state = (bench_line bench line).state; reply = result_case (parse_of line) (observed enclave bench) command_fault_text }

-- others observe this output for an input, or its error
abbrev pub observed_output : ℕ → Setup → List ℕ → Result (List ℕ) BenchFault
observed_output enclave setup input =
    result_case (bench_in setup input) (λ bench. Ok (replies (observed_line enclave) bench (lines_of (after_separator input)))) Err

-- ---- two scripts

-- two lines, one for each bench: their commands are alike, or both have the same error
abbrev pub ParsedAlike : ℕ → BenchState → BenchState → Result Command CommandFault → Result Command CommandFault → Type 0
ParsedAlike enclave first second (Ok command) (Ok other_command) = CommandsAlike enclave first second command other_command
ParsedAlike enclave first second (Err fault) (Err other_fault) = fault ≡ other_fault
ParsedAlike enclave first second _ _ = ⊥

-- two lists of lines of the same length, one for each bench, are alike line by line
abbrev pub LinesAlike : ℕ → BenchState → BenchState → List (List ℕ) → List (List ℕ) → Type 0
LinesAlike enclave first second [] [] = Unit {0}
LinesAlike enclave first second (line ∷ lines) (other ∷ others) =
    ParsedAlike enclave first second (parse_of line) (parse_of other)
    × LinesAlike enclave (bench_line first line).state (bench_line second other).state lines others
LinesAlike enclave first second _ _ = ⊥

-- what others observe of the replies is equal, and the benches are related again
pub record LinesObservedAlike (enclave : ℕ) (first second : BenchState) (lines others : List (List ℕ)) : Type 0 where
  -- the observed parts of the replies are equal
  pub text : replies (observed_line enclave) first lines ≡ replies (observed_line enclave) second others
  -- the benches are related again after the lines
  pub state : BenchesAreRelated enclave (state_after bench_line first lines) (state_after bench_line second others)

-- A line steps no hart on which the enclave runs, and does not enter it. A line with an error does neither.
abbrev pub LineIsLow : ℕ → BenchState → List ℕ → Type 0
LineIsLow enclave bench line = IfOk (parse_of line) (λ command.
    RunsOnNoneIn enclave (harts_named bench.target command) bench.target × (is_entered enclave (execute bench command).entered ≡ false))

-- each line is low in the bench that the lines before it lead to
abbrev pub LinesAreLow : ℕ → BenchState → List (List ℕ) → Type 0
LinesAreLow enclave bench [] = Unit {0}
LinesAreLow enclave bench (line ∷ lines) = LineIsLow enclave bench line × LinesAreLow enclave (bench_line bench line).state lines

-- After any lines, take the rest of the script, and other lines for a bench that is related. If they are alike line by line, what others observe is
-- equal. The same lines for both benches are alike if they are low in the first, and if the window is equal while the enclave runs. After the
-- enclave has ended, the same lines are alike for every slot.
pub record ScriptDeclassification (bench : BenchState) : Type 0 where
  -- lines that are alike have equal observed replies on each related bench
  pub alike : (enclave : ℕ) (before lines others : List (List ℕ)) (other : BenchState) → TargetInvariant other.target
      → BenchesAreRelated enclave (state_after bench_line bench before) other
      → LinesAlike enclave (state_after bench_line bench before) other lines others
      → LinesObservedAlike enclave (state_after bench_line bench before) other lines others
  -- the same lines are alike on a related bench if they are low and the windows are equal
  pub low : (enclave : ℕ) (before lines : List (List ℕ)) (other : BenchState) → TargetInvariant other.target
      → BenchesAreRelated enclave (state_after bench_line bench before) other → WindowsAreEqual enclave (state_after bench_line bench before) other
      → LinesAreLow enclave (state_after bench_line bench before) lines → LinesAlike enclave (state_after bench_line bench before) other lines lines
  -- after the enclave has ended, the same lines are alike for every slot
  pub ended : (enclave slot : ℕ) (before lines : List (List ℕ)) (other : BenchState) → TargetInvariant other.target
      → BenchesAreRelated enclave (state_after bench_line bench before) other → EnclaveHasEnded enclave (state_after bench_line bench before).target
      → LinesAlike slot (state_after bench_line bench before) other lines lines

-- ---- from bytes to bytes

-- Two inputs begin with the same lines, through the separator and part of the script. The rest of their scripts is alike, line by line.
pub record DifferInEnclave (enclave : ℕ) (setup : Setup) (input other : List ℕ) : Type 0 where
  -- the lines that both inputs begin with
  pub prefix : List ℕ
  -- the other lines of the one input
  pub rest : List ℕ
  -- the other lines of the other input
  pub other_rest : List ℕ
  -- the parts of the one input
  pub input_is : input ≡ prefix ++ rest
  -- the parts of the other input
  pub other_is : other ≡ prefix ++ other_rest
  -- the prefix consists of whole lines
  pub whole_prefix : through_last_feed prefix ≡ prefix
  -- the prefix has the separator after the image
  pub separated : has_separator prefix ≡ true
  -- the other lines of both inputs are alike, line by line
  pub alike : IfOk (bench_in setup prefix) (λ bench.
      let start = state_after bench_line bench (lines_of (after_separator prefix)) in
      LinesAlike enclave start start (lines_of rest) (lines_of other_rest))

-- what others observe of the output is equal for every other input that differs only in secrets of an enclave, if the enclave hands over the same
abbrev pub SecretDeclassification : Setup → List ℕ → Type 0
SecretDeclassification setup input =
    (enclave : ℕ) (other : List ℕ) → DifferInEnclave enclave setup input other
    → observed_output enclave setup input ≡ observed_output enclave setup other

-- ---- the laws

-- from each bench that starts, scripts that are alike have equal observations
abbrev pub ScriptDeclassificationLaw : Type 0
ScriptDeclassificationLaw = (image : List ℕ) (setup : Setup) → IfOk (started image setup) ScriptDeclassification

-- inputs that differ only in secrets have equal observed outputs
abbrev pub SecretDeclassificationLaw : Type 0
SecretDeclassificationLaw = (setup : Setup) (input : List ℕ) → SecretDeclassification setup input
