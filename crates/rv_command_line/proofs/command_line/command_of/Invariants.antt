-- This file states the loop invariants of `command_of`, which makes the command of a row, with its options.
use Rattle.std.proofs.Common.{◌≡◌, drop, false, fold, map}
use Rattle.clap.specs.Words.{app_of, with_rule}
use Rattle.clap.specs.declared.builder.command.Command.TheViews.{out-Command as fields_of}
use Rattle.rv_command_line.specs.CommandRows.{app_in, rule_in}
use Rattle.rv_command_line.proofs.command_line.command_of.Given as goal

-- with the options that are left, the command is that of the row
abbrev pub invariant-loop-option : goal.invariant-loop-option
invariant-loop-option l = record {
  app : fold with_rule (app_of l.command) (map rule_in (drop l.option-index l.row.options.now)) ≡ app_in l.row;
  local : (fields_of l.command).has_globals ≡ false;
}
