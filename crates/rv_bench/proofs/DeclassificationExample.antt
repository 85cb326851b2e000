-- An example of the law of declassification: an enclave runs on the selected hart. Two scripts poke different bytes into its region, and set
-- different registers of that hart. The observed outputs are equal.
use Rattle.std.proofs.Common.{◌≡◌, inl, inr, List, [], ℕ, ◌++◌, codes, IfOk, true, Option, Result, Ok, Err, Some, None, refl, ◌∙◌}
use Rattle.std.specs.Option.{option_map}
use Rattle.std.specs.Prelude.{IfSome}
use Rattle.rv_word.specs.Cases.{option_case}
use Rattle.rv_memory.specs.Blocks.{has}
use Rattle.rv_text.specs.GoodLines.{is_text}
use Rattle.rv_text.specs.Lines.{lines_of, through_last_feed}
use Rattle.rv_text.specs.Numbers.{number_of_digits}
use Rattle.rv_text.specs.Words.{words_of}
use Rattle.rv_script.specs.Command.{keyword_of, meaning_of, parse_of}
use Rattle.rv_script.specs.Numbers.{decimal_of, hexadecimal_of, byte_of_text}
use Rattle.rv_script.specs.declared.command.Command.{Command}
use Rattle.rv_script.specs.declared.command.Command.TheVariants.{Poke, Regs, SetReg}
use Rattle.rv_script.specs.declared.command.CommandFault.{CommandFault}
use Rattle.rv_monitor.specs.MonitoredMachine.{MonitoredMachine}
use Rattle.rv_debug.specs.BenchState.{BenchState}
use Rattle.rv_debug.specs.BothBenches.{region_in}
use Rattle.rv_debug.specs.Declassification.{CommandsAlike, StepsAreMoves}
use Rattle.rv_debug.specs.Execute.{execute, execute_line, execute_or_fault}
use Rattle.rv_debug.specs.Observed.{is_selected}
use Rattle.rv_debug.specs.Targets.{over_memory}
use Rattle.rv_debug.specs.declared.target.Target.{Target}
use Rattle.rv_debug.specs.declared.target.Target.TheVariants.{Bare, Monitored}
use Rattle.rv_command_line.specs.declared.setup.Setup.{Setup}
use Rattle.rv_streams.specs.declared.fault.BenchFault.{BenchFault}
use Rattle.rv_streams.specs.Separator.{after_separator, has_separator}
use Rattle.rv_bench.specs.Declassification.{LinesAlike, ParsedAlike, observed_output}
use Rattle.rv_bench.specs.Output.{bench_in}
use Rattle.rv_bench.specs.Replies.{bench_line, state_after}
use Rattle.rv_bench.proofs.Declassified.{secret_declassification}

-- `script` pokes a secret, sets a register of the enclave, and shows the registers
abbrev script : List ℕ
script = codes "poke 80020000 41\nsetreg 9 5ec2e701\nregs\n"

-- `other_script` is `script` with another secret byte at another address, and another secret value in another register
abbrev other_script : List ℕ
other_script = codes "poke 80020ffc 5a\nsetreg 5 0badc0de\nregs\n"

-- the enclave of slot 0 runs on the selected hart, and the two addresses that the scripts poke are in its region
pub record RunsEnclave (bench : BenchState) : Type 0 where
  -- the enclave runs on the selected hart
  pub runs : is_selected 0 bench.target ≡ true
  -- the first address is in the region
  pub first : has (region_in 0 bench.target) 0x80020000 ≡ true
  -- the second address is in the region
  pub second : has (region_in 0 bench.target) 0x80020ffc ≡ true

-- ---- the commands

-- the first line of `script` is read as a poke of the byte 41
first_poke_parsed : parse_of (codes "poke 80020000 41") ≡ Ok (Poke 0x80020000 0x41)
unfolding parse_of is_text meaning_of words_of keyword_of hexadecimal_of number_of_digits byte_of_text
first_poke_parsed = refl

-- the first line of `other_script` is read as a poke of the byte 5a
second_poke_parsed : parse_of (codes "poke 80020ffc 5a") ≡ Ok (Poke 0x80020ffc 0x5a)
unfolding parse_of is_text meaning_of words_of keyword_of hexadecimal_of number_of_digits byte_of_text
second_poke_parsed = refl

-- the second line of `script` is read as a command that sets register 9
first_setreg_parsed : parse_of (codes "setreg 9 5ec2e701") ≡ Ok (SetReg 9 0x5ec2e701)
unfolding parse_of is_text meaning_of words_of keyword_of hexadecimal_of decimal_of number_of_digits
first_setreg_parsed = refl

-- the second line of `other_script` is read as a command that sets register 5
second_setreg_parsed : parse_of (codes "setreg 5 0badc0de") ≡ Ok (SetReg 5 0x0badc0de)
unfolding parse_of is_text meaning_of words_of keyword_of hexadecimal_of decimal_of number_of_digits
second_setreg_parsed = refl

-- the last line of both scripts is read as the command that shows the registers
regs_parsed : parse_of (codes "regs") ≡ Ok Regs
unfolding parse_of is_text meaning_of words_of keyword_of
regs_parsed = refl

-- ---- line by line

-- after a poke the enclave runs on the selected hart as before
poke_keeps_selection : (target : Target) (memory : Option (List ℕ))
    → is_selected 0 (option_case (option_map (over_memory target) memory) target (λ after. after)) ≡ is_selected 0 target
poke_keeps_selection (Bare machine) None = refl
poke_keeps_selection (Bare machine) (Some memory) = refl
poke_keeps_selection (Monitored selected) None = refl
poke_keeps_selection (Monitored selected) (Some memory) = refl

-- a command that takes no step takes the steps of an empty list of moves
no_steps_are_no_moves : (one other : Option MonitoredMachine) → IfSome one (λ a. IfSome other (λ b. StepsAreMoves 0 a b [] []))
no_steps_are_no_moves (Some one) (Some other) = record { moves = []; steps = refl; first = refl; second = refl; are = tt }
no_steps_are_no_moves (Some one) None = tt
no_steps_are_no_moves None other = tt

-- two lines are alike if their commands are
commands_alike_parsed : (first second : BenchState) (parsed other_parsed : Result Command CommandFault) (command other_command : Command)
    → parsed ≡ Ok command → other_parsed ≡ Ok other_command → CommandsAlike 0 first second command other_command
    → ParsedAlike 0 first second parsed other_parsed
commands_alike_parsed first second parsed other_parsed command other_command parsed_is other_parsed_is alike = rw (parsed_is, other_parsed_is) alike

-- a poke leaves the enclave on the selected hart
poke_keeps_running : (bench : BenchState) (parsed : Result Command CommandFault) (address byte : ℕ) → parsed ≡ Ok (Poke address byte)
    → is_selected 0 bench.target ≡ true → is_selected 0 (execute_or_fault bench parsed).state.target ≡ true
unfolding execute
poke_keeps_running bench parsed address byte parsed_is runs = rw parsed_is (poke_keeps_selection bench.target _ ∙ runs)

-- The lines of both scripts are alike: each poke is a byte of the region, each register belongs to the running enclave, and the last line is equal.
scripts_alike : (bench : BenchState) → RunsEnclave bench → LinesAlike 0 bench bench (lines_of script) (lines_of other_script)
unfolding execute_line
scripts_alike bench enclave =
    let runs = poke_keeps_running bench _ _ _ first_poke_parsed enclave.runs in
    let other_runs = poke_keeps_running bench _ _ _ second_poke_parsed enclave.runs in (
      commands_alike_parsed bench bench _ _ _ _ first_poke_parsed second_poke_parsed (inr (inl (enclave.first, enclave.second))),
      (
        commands_alike_parsed _ _ _ _ _ _ first_setreg_parsed second_setreg_parsed (inr (inr (runs, other_runs))),
        (
          commands_alike_parsed _ _ _ _ _ _ regs_parsed regs_parsed
              (inl (inl (record { same = refl; steps = no_steps_are_no_moves _ _; stop = refl }))),
          tt,
        ),
      ),
    )

-- the lines of both scripts are alike after any lines before them
scripts_alike_after : (bench : Result BenchState BenchFault) (before : List (List ℕ))
    → IfOk bench (λ bench. RunsEnclave (state_after bench_line bench before)) → IfOk bench (λ bench.
    let start = state_after bench_line bench before in LinesAlike 0 start start (lines_of script) (lines_of other_script))
scripts_alike_after (Ok bench) before enclave = scripts_alike (state_after bench_line bench before) enclave
scripts_alike_after (Err fault) before enclave = tt

-- two inputs that end in the two scripts have the same observed output, whatever the lines before the scripts
pub secrets_are_concealed : (setup : Setup) (prefix : List ℕ) → through_last_feed prefix ≡ prefix → has_separator prefix ≡ true
    → IfOk (bench_in setup prefix) (λ bench. RunsEnclave (state_after bench_line bench (lines_of (after_separator prefix))))
    → observed_output 0 setup (prefix ++ script) ≡ observed_output 0 setup (prefix ++ other_script)
secrets_are_concealed setup prefix whole_lines separated enclave_runs =
    secret_declassification setup (prefix ++ script) 0 (prefix ++ other_script) (record {
      prefix = prefix;
      rest = script;
      other_rest = other_script;
      input_is = refl;
      other_is = refl;
      whole_prefix = whole_lines;
      separated = separated;
      alike = scripts_alike_after (bench_in setup prefix) (lines_of (after_separator prefix)) enclave_runs;
    })
