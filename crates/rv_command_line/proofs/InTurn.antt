-- Subcommands that are added to a command one after another.
use Rattle.std.proofs.Common.{◌≡◌, ◌∙◌, Err, IfOk, List, [], ◌∷◌, Ok, Result, ap, fold, map, refl}
use Rattle.std.proofs.lemmas.List.Elements.{All-head, All-tail}
use Rattle.std.specs.List.{All}
use Rattle.clap.specs.Words.{AddsInTurn, AddsSubcommand, App, Shape, app_of, shape_of, with_subcommand}
use Rattle.clap.specs.declared.builder.command.Command.{Command}
use Rattle.rv_command_line.specs.CommandRows.{IsLocal}

-- subcommands added one after another give the application with all of them, by induction over the subcommands
pub added_in_turn : (subcommands : List Command) (old new : Command) → AddsInTurn AddsSubcommand old subcommands new → All IsLocal subcommands
    → app_of new ≡ fold with_subcommand (app_of old) (map shape_of subcommands)
added_in_turn [] old new new_is_old are_local = rw (← new_is_old) refl
added_in_turn (first ∷ others) old new (added, first_added, others_added) are_local =
    added_in_turn others added new others_added (All-tail IsLocal first others are_local)
    ∙ ap (λ app. fold with_subcommand app (map shape_of others)) (first_added.shape (All-head IsLocal first others are_local))

-- subcommands added one after another give the application with all of them, if memory suffices
pub result_added_in_turn : {E : Type 0} (app : App) (shapes : List Shape) (subcommands : List Command) (old : Command) → app_of old ≡ app
    → map shape_of subcommands ≡ shapes → All IsLocal subcommands
    → (result : Result Command E) → IfOk result (AddsInTurn AddsSubcommand old subcommands)
    → IfOk result (λ new. app_of new ≡ fold with_subcommand app shapes)
result_added_in_turn app shapes subcommands old old_is shapes_are are_local (Ok new) added =
    rw (← shapes_are, ← old_is) (added_in_turn subcommands old new added are_local)
result_added_in_turn app shapes subcommands old old_is shapes_are are_local (Err error) memory_refused = tt
