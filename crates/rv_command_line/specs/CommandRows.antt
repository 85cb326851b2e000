-- The `clap` commands and options of the rows in the program's table.
use Rattle.std.specs.Prelude.{◌≡◌, false, map}
use Rattle.std.specs.Option.{option_map_or}
use Rattle.clap.specs.Words.{App, Rule, Shape}
use Rattle.clap.specs.declared.builder.command.Command.{Command}
use Rattle.clap.specs.declared.builder.command.Command.TheViews.{out-Command as fields_of}
use Rattle.rv_command_line.specs.CommandLine.{command, flag_rule, valued}
use Rattle.rv_command_line.specs.declared.subcommands.CommandRow.{CommandRow}
use Rattle.rv_command_line.specs.declared.subcommands.OptionRow.{OptionRow}

-- `rule_in` is the rule of an option: a flag, or an option with a value
abbrev pub rule_in : OptionRow → Rule
rule_in row = option_map_or (λ value. valued row.name.now value.1) row.value (flag_rule row.name.now)

-- `app_in` is the command of a row, with its options
abbrev pub app_in : CommandRow → App
app_in row = command row.name.now (map rule_in row.options.now)

-- `shape_in` is the shape of the command of a row: its name and its rules
abbrev pub shape_in : CommandRow → Shape
shape_in row = (app_in row).top

-- a command is local if it has no options that also belong to its subcommands
abbrev pub IsLocal : Command → Type 0
IsLocal command = (fields_of command).has_globals ≡ false
