-- This file proves obligations of `command_of`, which makes the command of a row, with its options.
use Rattle.std.proofs.Common.{◌∙◌, ◌+◌, ap, drop, fold, map, refl}
use Rattle.std.proofs.lemmas.List.{drop_more}
use Rattle.clap.specs.Words.{app_of, with_rule}
use Rattle.rv_command_line.specs.CommandRows.{rule_in}
use Rattle.rv_command_line.proofs.command_line.command_of.Goals as goal

-- an iteration of the loop over `option` preserves the invariant: it adds the rule of one more option
pub loop-option-preserved : goal.loop-option-preserved
loop-option-preserved c =
    let next_option = drop_more c.args.row.now.options.now c.loop-option.option-index _ c.loop-option-test.true in
    let app_is = c.in_ok-command.ensures.shape c.option_of.ensures.local
    ∙ ap (with_rule (app_of c.loop-option.command)) c.option_of.ensures.rule in
    record {
      app = ap (λ app. fold with_rule app (map rule_in (drop (c.loop-option.option-index + 1) c.args.row.now.options.now))) app_is
          ∙ (rw next_option at c.loop-option.invariant.app);
      local = rw (c.in_ok-command.ensures.globals, c.loop-option.invariant.local, c.option_of.ensures.local) refl;
    }
