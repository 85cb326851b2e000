-- This file states the loop invariants of `commands_of`, which makes the commands of these rows.
use Rattle.std.proofs.Common.{◌≡◌, ◌++◌, drop, map}
use Rattle.std.specs.List.{All}
use Rattle.clap.specs.Words.{shape_of}
use Rattle.rv_command_line.specs.CommandRows.{IsLocal, shape_in}
use Rattle.rv_command_line.proofs.command_line.commands_of.Given as goal

-- the commands of all rows are the commands so far, and the commands of the rows that are left
abbrev pub invariant-loop-row : goal.invariant-loop-row
invariant-loop-row l = record {
  shapes : map shape_of l.commands.items ++ map shape_in (drop l.row-index l.rows) ≡ map shape_in l.rows;
  local : All IsLocal l.commands.items;
}
