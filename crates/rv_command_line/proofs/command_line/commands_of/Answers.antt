-- This file proves obligations of `commands_of`, which makes the commands of these rows.
use Rattle.std.proofs.Common.{◌+◌, ◌∷◌, [], ap, drop, map}
use Rattle.std.proofs.lemmas.List.{append_assoc, drop_more, map-append}
use Rattle.std.proofs.lemmas.List.Elements.{All-append, All-cons, All-nil}
use Rattle.clap.specs.Words.{shape_of}
use Rattle.rv_command_line.specs.CommandRows.{IsLocal, shape_in}
use Rattle.rv_command_line.proofs.command_line.commands_of.Goals as goal

-- an iteration of the loop over `row` preserves the invariant: it adds the command of one more row
pub loop-row-preserved : goal.loop-row-preserved
loop-row-preserved c =
    let rows = c.args.rows.now in
    let old = c.loop-row.commands.items in
    let rest = drop (c.loop-row.row-index + 1) rows in
    let made = c.in_ok-command_of.field-0 in
    let next_row = drop_more rows c.loop-row.row-index _ c.loop-row-test.true in
    let appended = append_assoc (map shape_of old) (shape_of made ∷ []) (map shape_in rest) in
    let top_is = ap (λ app. app.top) c.in_ok-command_of.ensures.app in
    record {
      shapes = rw (c.in_ok-push.ensures.items, map-append shape_of old (made ∷ []), appended, top_is) (rw next_row at c.loop-row.invariant.shapes);
      local = rw c.in_ok-push.ensures.items
          (All-append IsLocal old (made ∷ []) c.loop-row.invariant.local
          (All-cons IsLocal made [] c.in_ok-command_of.ensures.local (All-nil IsLocal)));
    }
