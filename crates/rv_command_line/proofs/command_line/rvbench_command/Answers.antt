-- This file proves obligations of `rvbench_command`, which makes the command line of the program.
use Rattle.std.proofs.Common.{◌≡◌, ◌∙◌, ap, Err, IfOk, List, Ok, refl, Result, true}
use Rattle.clap.specs.Words.{app_of, fault_of, is_simple, is_simple_and_free, subcommand_of, Text}
use Rattle.clap.specs.Walk.{texts}
use Rattle.clap.specs.declared.builder.command.Command.{Command}
use Rattle.rv_command_line.specs.CommandLine.{faults_of, kind_names, Names, program, rvbench}
use Rattle.rv_command_line.proofs.InTurn.{result_added_in_turn}
use Rattle.rv_command_line.proofs.Options.{program_alike}
use Rattle.rv_command_line.proofs.command_line.rvbench_command.Goals as goal

-- the clauses of the contract hold of a result, if a command that was made is the command line of the program with its names at any address
clauses_hold : {E : Type 0} (names : Names) → texts names.now ≡ kind_names → (result : Result Command E)
    → IfOk result (λ command. app_of command ≡ program names) → record {
      simple : IfOk result (λ command. is_simple (app_of command) ≡ true);
      free : IfOk result (λ command. is_simple_and_free (app_of command) ≡ true);
      faults : IfOk result (λ command. (words : List Text) → fault_of (app_of command) words ≡ faults_of words);
      subcommand : IfOk result (λ command. (words : List Text) → subcommand_of (app_of command) words ≡ subcommand_of rvbench words);
    }
clauses_hold names same_names (Ok command) command_is = record {
  simple = ap is_simple command_is;
  free = ap is_simple_and_free command_is;
  faults = λ words. let (same_faults, same_subcommand) = program_alike names same_names words in
      ap (λ app. fault_of app words) command_is ∙ same_faults;
  subcommand = λ words. let (same_faults, same_subcommand) = program_alike names same_names words in
      ap (λ app. subcommand_of app words) command_is ∙ same_subcommand;
}
clauses_hold names same_names (Err error) none = record { simple = tt; free = tt; faults = tt; subcommand = tt }

-- the command line of the program is made of its subcommands, added one after another, unless memory is refused
pub returns : goal.returns
returns c =
    let made = c.in_ok-subcommands in
    clauses_hold _ refl c.subcommands.result
    (result_added_in_turn _ _ made.subcommands.items c.named_command.result c.named_command.ensures.app made.ensures.shapes made.ensures.local
    c.subcommands.result c.subcommands.ensures)
