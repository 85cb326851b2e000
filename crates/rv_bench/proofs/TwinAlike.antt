-- Laws of a twin run: two benches with the same script stay equivalent until the slot is entered, and each preserves undisturbed enclaves. Each law
-- follows from the law of one command, by induction over the lines.
use Rattle.std.proofs.Common.{◌≡◌, ℕ, Bool, true, false, List, [], ◌∷◌, ◌++◌, Option, Some, None, IfSome, Result, Ok, Err, IfOk, refl, sym}
use Rattle.std.proofs.Common.{◌∙◌, ap, subst}
use Rattle.std.specs.Prelude.{◌&&◌, ◌||◌, if◌then◌else◌}
use Rattle.rv_word.specs.Cases.{result_case}
use Rattle.rv_monitor.proofs.Scrambled.{scramble_equiv, scramble_invariant}
use Rattle.rv_debug.specs.Execute.{execute}
use Rattle.rv_debug.specs.BenchState.{BenchState}
use Rattle.rv_script.specs.Command.{parse_of}
use Rattle.rv_debug.specs.Noninterference.{AlikeBy, StayAlike}
use Rattle.rv_debug.specs.Isolation.{IsPreservedIn, after_commands}
use Rattle.rv_debug.specs.Targets.{TargetInvariant}
use Rattle.rv_debug.specs.BothBenches.{BenchesEquivExcept, BothExecuted, BothLineExecuted, RunsOnNoHart, TargetsEquivExcept, both_execute, both_do}
use Rattle.rv_debug.specs.BothBenches.{both_execute_line, both_line_executed, can_scramble, can_scramble_in, has_no_command, is_blind, scrambled}
use Rattle.rv_debug.specs.BothBenches.{scrambled_in}
use Rattle.rv_debug.specs.declared.both.BothLine.{BothLine}
use Rattle.rv_debug.specs.declared.both.BothLine.TheVariants.{Given}
use Rattle.rv_debug.specs.declared.both.BothWhy.{BothWhy}
use Rattle.rv_debug.specs.declared.both.BothWhy.TheVariants.{All, Entered, NotBlind}
use Rattle.rv_script.specs.declared.command.Command.{Command}
use Rattle.rv_script.specs.declared.command.CommandFault.{CommandFault}
use Rattle.rv_debug.specs.declared.target.Target.{Target}
use Rattle.rv_debug.specs.declared.target.Target.TheVariants.{Bare, Monitored}
use Rattle.rv_debug.proofs.NotRunning.{on_no_hart_law, scrambled_on_no_hart}
use Rattle.rv_debug.proofs.BothAlike.{both_alike}
use Rattle.rv_debug.proofs.EffectsInvariant.{command_keeps_invariant}
use Rattle.rv_debug.proofs.Isolation.{integrity}
use Rattle.rv_command_line.specs.declared.setup.Setup.{Setup}
use Rattle.rv_streams.specs.declared.fault.BenchFault.{BenchFault}
use Rattle.rv_streams.specs.Separator.{after_separator, before_separator}
use Rattle.rv_bench.specs.declared.pair.Pair.{Pair}
use Rattle.rv_bench.specs.Pair.{pair_line, done_by, make_pair, pair_replied}
use Rattle.rv_bench.specs.Output.{bench_in}
use Rattle.rv_bench.specs.Replies.{Replied, state_after}
use Rattle.rv_text.specs.Lines.{lines_of}
use Rattle.rv_bench.specs.Twin.{after_first_script, monitored_setup}
use Rattle.rv_bench.specs.TwinLaws.{BothPreserve, RepliesAlikeTo, OfPair, StayTogether, TwinNoninterference, TwinIntegrity, commands_done}
use Rattle.rv_bench.specs.TwinLaws.{done_by_both, done_in_line}
use Rattle.rv_bench.proofs.Starts.{StartInvariant, bench_in_invariant}
use Rattle.rv_bench.proofs.RepliesLemmas.{state_after-append}
use Rattle.rv_bench.proofs.IntegrityLemmas.{lines_keep_invariant, stream_integrity}

-- `line_executed` is the result of a line whose command had this result on both benches
abbrev line_executed : BothExecuted → BothLine → BothLineExecuted
line_executed executed line =
    record { first = executed.first; second = executed.second; first_reply = executed.first_reply; second_reply = executed.second_reply; line = line }

module _ (slot : ℕ) where
  -- ---- one command

  -- `both_executed` is the result of a command that both benches execute
  abbrev both_executed : BenchState → BenchState → Command → BothExecuted
  both_executed first second command = both_do slot (execute first command) (execute second command)

  -- `executed_if_blind` is the result of a command: both benches execute it if it is blind in both, and neither executes any other
  abbrev executed_if_blind : Bool → BenchState → BenchState → Command → BothExecuted
  executed_if_blind blind first second command =
      if blind then both_executed first second command
      else record { first = first; second = second; first_reply = []; second_reply = []; why = NotBlind }

  -- the benches are equivalent, and the slot's enclave runs on no hart
  abbrev Together : BenchState → BenchState → Type 0
  Together first second = BenchesEquivExcept slot first second × RunsOnNoHart slot first.target

  -- the two benches `first` and `second` after a command, whether they executed it or not
  record CommandResult (first second : BenchState) (command : Command) (after : BothExecuted) : Type 0 where
    -- the first bench satisfies the invariant of the target after the command
    pub first_invariant : TargetInvariant after.first.target
    -- the second bench satisfies the invariant of the target after the command
    pub second_invariant : TargetInvariant after.second.target
    -- if both benches executed the command and the slot was not entered, the replies are equal and the benches stay together
    pub alike_if_executed : after.why ≡ All → (after.first_reply ≡ after.second_reply) × Together after.first after.second
    -- if the command was blocked, since it is not blind to the slot, the benches stay together
    pub together_if_blocked : after.why ≡ NotBlind → Together after.first after.second
    -- each bench is in the state after the command if both executed it, and in its old state otherwise
    pub first_state : after.first ≡ after_commands first (done_by_both after.why command)
    pub second_state : after.second ≡ after_commands second (done_by_both after.why command)

  -- after a command that both benches execute, each bench is in the state after the command, whether or not the slot was entered
  state_after_command : (entered : Bool) (bench : BenchState) (command : Command)
      → (execute bench command).state ≡ after_commands bench (done_by_both (if entered then Entered else All) command)
  state_after_command true bench command = refl
  state_after_command false bench command = refl

  -- a command that both execute is not blocked
  executed_is_not_blocked : (entered : Bool) → (if entered then Entered else All) ≡ NotBlind → ⊥
  executed_is_not_blocked true is_blocked = cc
  executed_is_not_blocked false is_blocked = cc

  -- if a command entered the slot in neither bench, it did not enter it in the first
  first_not_entered : (in_first in_second : Bool) → (if in_first || in_second then Entered else All) ≡ All → in_first ≡ false
  first_not_entered true in_second none_entered = cc
  first_not_entered false in_second none_entered = refl

  -- one command for both keeps the benches together, or enters the slot
  command_result : (first second : BenchState) (command : Command) → TargetInvariant first.target → TargetInvariant second.target
      → Together first second → CommandResult first second command (both_execute slot first second command)
  unfolding both_execute
  command_result first second command first_invariant second_invariant together =
      let both_blind = is_blind slot first command && is_blind slot second command in
      by_blindness both_blind (both_alike slot first second command first_invariant second_invariant) where
        -- the same claim by cases on `blind`, which states whether the command is blind to the slot in both benches
        by_blindness : (blind : Bool) → StayAlike slot first second command (executed_if_blind blind first second command)
            → CommandResult first second command (executed_if_blind blind first second command)
        -- both benches execute the command
        by_blindness true alike = record {
          first_invariant = command_keeps_invariant first command first_invariant;
          second_invariant = command_keeps_invariant second command second_invariant;
          alike_if_executed = λ not_entered.
              let (equiv, not_running) = together in
              let stays = on_no_hart_law slot first command first_invariant not_running in
              let AlikeFor : BothWhy → Type 0 = λ why. AlikeBy slot first second command (both_executed first second command) why in
              let executed_alike = subst AlikeFor not_entered (alike equiv stays.by) in
              (executed_alike.reply, ((let state = executed_alike.state in state.but), stays.not_running (first_not_entered _ _ not_entered)));
          together_if_blocked = λ is_blocked. absurd (executed_is_not_blocked _ is_blocked);
          first_state = state_after_command _ first command;
          second_state = state_after_command _ second command;
        }
        -- no bench executes the command, so both keep their states
        by_blindness false alike = record {
          first_invariant = first_invariant;
          second_invariant = second_invariant;
          alike_if_executed = λ not_entered. cc;
          together_if_blocked = λ is_blocked. together;
          first_state = refl;
          second_state = refl;
        }

  -- ---- lines

  -- both benches of the pair satisfy the invariant of the target, and they are together until the slot is entered
  record PairInvariant (pair : Pair) : Type 0 where
    -- until the slot is entered, the benches are equivalent and the enclave of the slot runs on no hart
    pub together : pair.entered ≡ false → Together pair.first pair.second
    -- the first bench satisfies the invariant of the target
    pub first : TargetInvariant pair.first.target
    -- the second bench satisfies the invariant of the target
    pub second : TargetInvariant pair.second.target

  -- `of_command` is the result of a line with this command on both benches
  abbrev of_command : Command → BothExecuted → BothWhy → Pair → Replied Pair
  of_command command executed why pair =
      done_by (Given why (has_no_command command)) (line_executed executed (Given executed.why (has_no_command command))) pair.ran

  -- after a command, the pair has its invariant: the benches are still together, or the slot was entered
  command_keeps_pair_invariant : (pair : Pair) (command : Command) (executed : BothExecuted) (why : BothWhy) → executed.why ≡ why
      → CommandResult pair.first pair.second command executed → PairInvariant (of_command command executed why pair).state
  command_keeps_pair_invariant pair command executed All why_is result =
      record {
        together = λ unentered. let (same_reply, still_together) = result.alike_if_executed why_is in still_together;
        first = result.first_invariant;
        second = result.second_invariant;
      }
  command_keeps_pair_invariant pair command executed Entered why_is result =
      record { together = λ unentered. cc; first = result.first_invariant; second = result.second_invariant }
  command_keeps_pair_invariant pair command executed NotBlind why_is result =
      record { together = λ unentered. result.together_if_blocked why_is; first = result.first_invariant; second = result.second_invariant }

  -- a parsed line keeps the invariant of the pair
  parsed_line_keeps_pair_invariant : (pair : Pair) (parsed : Result Command CommandFault) → pair.entered ≡ false → PairInvariant pair
      → PairInvariant (pair_replied pair (both_line_executed slot pair.first pair.second parsed)).state
  parsed_line_keeps_pair_invariant pair (Ok command) unentered invariant =
      command_keeps_pair_invariant pair command (both_execute slot pair.first pair.second command) _ refl
      (command_result pair.first pair.second command invariant.first invariant.second (invariant.together unentered))
  parsed_line_keeps_pair_invariant pair (Err fault) unentered invariant =
      record { together = λ still_unentered. invariant.together unentered; first = invariant.first; second = invariant.second }

  -- a line keeps the invariant of the pair; it has no effect once the slot was entered
  line_keeps_pair_invariant : (pair : Pair) (line : List ℕ) → PairInvariant pair → PairInvariant (pair_line slot pair line).state
  unfolding pair_line
  line_keeps_pair_invariant pair line invariant = by_entry pair.entered refl where
    -- the same claim by cases on `entered`, which states whether the slot was entered before the line
    by_entry : (entered : Bool) → pair.entered ≡ entered → PairInvariant
        (if entered then record { state = pair; reply = [] } else pair_replied pair (both_execute_line slot pair.first pair.second line)).state
    by_entry true was_entered = invariant
    by_entry false unentered = parsed_line_keeps_pair_invariant pair (parse_of line) unentered invariant

  -- lines keep the invariant of the pair, by induction over the lines
  lines_keep_pair_invariant : (pair : Pair) (lines : List (List ℕ)) → PairInvariant pair → PairInvariant (state_after (pair_line slot) pair lines)
  lines_keep_pair_invariant pair [] invariant = invariant
  lines_keep_pair_invariant pair (line ∷ lines) invariant =
      lines_keep_pair_invariant (pair_line slot pair line).state lines (line_keeps_pair_invariant pair line invariant)

  -- ---- noninterference

  -- the replies of both benches to a line are equal
  replies_alike : (pair : Pair) (line : List ℕ) → PairInvariant pair → pair.entered ≡ false → RepliesAlikeTo slot pair line
  replies_alike pair line invariant unentered = by_parsed (parse_of line) where
    -- the two replies to a parsed line are equal, if both benches execute its command
    by_parsed : (parsed : Result Command CommandFault) → IfOk parsed (λ command.
        let after = both_execute slot pair.first pair.second command in
        after.why ≡ All → after.first_reply ≡ after.second_reply)
    by_parsed (Ok command) = λ was_executed.
        let result = command_result pair.first pair.second command invariant.first invariant.second (invariant.together unentered) in
        let (same_reply, still_together) = result.alike_if_executed was_executed in same_reply
    by_parsed (Err fault) = tt

  -- the two benches of the pair stay together
  stay_together : (start : Pair) → PairInvariant start → StayTogether slot start
  stay_together start start_invariant lines line unentered =
      let invariant = lines_keep_pair_invariant start lines start_invariant in
      let (equiv, not_running) = invariant.together unentered in
      (equiv, not_running, replies_alike (state_after (pair_line slot) start lines) line invariant unentered)

  -- ---- integrity

  -- each bench of the pair `end` is in the state after these commands, from the bench of the pair `start`
  record Follows (start : Pair) (commands : List Command) (end : Pair) : Type 0 where
    -- the commands lead the first bench from `start` to `end`
    pub first : end.first ≡ after_commands start.first commands
    -- the commands lead the second bench from `start` to `end`
    pub second : end.second ≡ after_commands start.second commands

  -- after a command, the benches are in the state after the commands that both executed
  command_follows : (pair : Pair) (command : Command) (executed : BothExecuted) (why : BothWhy) → executed.why ≡ why
      → CommandResult pair.first pair.second command executed → Follows pair (done_by_both why command) (of_command command executed why pair).state
  command_follows pair command executed why why_is result =
      let (same_first, same_second) = same_benches why in
      record {
        first = same_first ∙ result.first_state ∙ ap (λ (why : BothWhy). after_commands pair.first (done_by_both why command)) why_is;
        second = same_second ∙ result.second_state ∙ ap (λ (why : BothWhy). after_commands pair.second (done_by_both why command)) why_is;
      }
    where
      -- the benches of the pair after a line are those after the command, in each of the three cases
      same_benches : (why : BothWhy)
          → (let end = (of_command command executed why pair).state in (end.first ≡ executed.first) × (end.second ≡ executed.second))
      same_benches All = (refl, refl)
      same_benches Entered = (refl, refl)
      same_benches NotBlind = (refl, refl)

  -- after a line, the benches are in the state after the commands that both executed
  line_follows : (pair : Pair) (line : List ℕ) → PairInvariant pair → Follows pair (done_in_line slot pair line) (pair_line slot pair line).state
  unfolding pair_line
  line_follows pair line invariant = by_entry pair.entered refl (parse_of line) where
    -- the same claim for a parsed line, by cases on `entered`, which states whether the slot was entered before the line
    by_entry : (entered : Bool) → pair.entered ≡ entered → (parsed : Result Command CommandFault) → Follows pair
        (if entered then []
        else result_case parsed (λ command. done_by_both (both_execute slot pair.first pair.second command).why command) (λ _. []))
        (if entered then record { state = pair; reply = [] } else pair_replied pair (both_line_executed slot pair.first pair.second parsed)).state
    by_entry true was_entered parsed = record { first = refl; second = refl }
    by_entry false unentered (Ok command) =
        command_follows pair command (both_execute slot pair.first pair.second command) _ refl
        (command_result pair.first pair.second command invariant.first invariant.second (invariant.together unentered))
    by_entry false unentered (Err fault) = record { first = refl; second = refl }

  -- the bench after two lists of commands is the bench after the second, from the bench after the first
  commands-append : (bench : BenchState) (commands later_commands : List Command)
      → after_commands bench (commands ++ later_commands) ≡ after_commands (after_commands bench commands) later_commands
  commands-append bench [] later_commands = refl
  commands-append bench (command ∷ commands) later_commands = commands-append (execute bench command).state commands later_commands

  -- after lines, the benches are in the state after the commands that both executed, by induction over the lines
  lines_follow : (pair : Pair) (lines : List (List ℕ)) → PairInvariant pair
      → Follows pair (commands_done slot pair lines) (state_after (pair_line slot) pair lines)
  lines_follow pair [] invariant = record { first = refl; second = refl }
  lines_follow pair (line ∷ lines) invariant =
      let first_line = line_follows pair line invariant in
      let next = (pair_line slot pair line).state in
      let other_lines = lines_follow next lines (line_keeps_pair_invariant pair line invariant) in
      let commands = commands_done slot next lines in
      record {
        first = other_lines.first ∙ ap (λ (bench : BenchState). after_commands bench commands) first_line.first
            ∙ sym (commands-append pair.first (done_in_line slot pair line) commands);
        second = other_lines.second ∙ ap (λ (bench : BenchState). after_commands bench commands) first_line.second
            ∙ sym (commands-append pair.second (done_in_line slot pair line) commands);
      }

  -- both benches preserve the enclaves that the commands leave undisturbed, by the law of integrity for the commands that both executed
  both_preserve : (start : Pair) → PairInvariant start → BothPreserve slot start
  both_preserve start start_invariant enclave before part =
      let pair = state_after (pair_line slot) start before in
      let invariant = lines_keep_pair_invariant start before start_invariant in
      let follows = lines_follow pair part invariant in
      let commands = commands_done slot pair part in
      let end_is = state_after-append (pair_line slot) start before part in (
        λ undisturbed. subst (λ (bench : BenchState). IsPreservedIn enclave pair.first.target bench.target)
            (sym (ap (λ (end : Pair). end.first) end_is ∙ follows.first)) (integrity enclave pair.first commands invariant.first undisturbed),
        λ undisturbed. subst (λ (bench : BenchState). IsPreservedIn enclave pair.second.target bench.target)
            (sym (ap (λ (end : Pair). end.second) end_is ∙ follows.second)) (integrity enclave pair.second commands invariant.second undisturbed),
      )

  -- ---- the two benches at the start of the second script

  -- a target is equivalent to its scrambled copy, which satisfies the invariant
  scrambled_target_equiv : (target : Target) → TargetInvariant target → can_scramble_in slot target ≡ true
      → TargetsEquivExcept slot target (scrambled_in slot target) × TargetInvariant (scrambled_in slot target)
  scrambled_target_equiv (Bare machine) invariant is_scramblable = cc
  scrambled_target_equiv (Monitored selected) invariant is_scramblable = (
    record { hart = refl; state = scramble_equiv selected.state slot invariant is_scramblable },
    scramble_invariant selected.state slot invariant is_scramblable,
  )

  -- a bench and its scrambled copy have the invariant of a pair
  start_pair_invariant : (bench : BenchState) → TargetInvariant bench.target → IfSome (make_pair slot bench) PairInvariant
  start_pair_invariant bench invariant = by_test (can_scramble slot bench) refl where
    -- the same claim by cases on `can`, which states whether the slot can be scrambled
    by_test : (can : Bool) → can_scramble slot bench ≡ can
        → IfSome (if can then Some (record { first = bench; second = scrambled slot bench; ran = 0; entered = false }) else None) PairInvariant
    by_test true is_scramblable =
        let (equiv_to_copy, copy_invariant) = scrambled_target_equiv bench.target invariant is_scramblable in
        record {
          together = λ unentered.
              (record { target = equiv_to_copy; breaks = refl; watches = refl }, scrambled_on_no_hart slot bench.target invariant is_scramblable);
          first = invariant;
          second = copy_invariant;
        }
    by_test false not_scramblable = tt

-- ---- whole inputs

-- a law of each pair with the invariant holds of the pair of an input
law_of_pair : (Law : Pair → Type 0) (slot : ℕ) → ((pair : Pair) → PairInvariant slot pair → Law pair) → (setup : Setup) (input : List ℕ)
    → OfPair setup slot input Law
law_of_pair Law slot law setup input = by_bench (bench_in (monitored_setup setup) input) (bench_in_invariant (monitored_setup setup) input) where
  -- the law holds for the pair of the slot, if there is one
  by_pair : (pair : Option Pair) → IfSome pair (PairInvariant slot) → IfSome pair Law
  by_pair (Some pair) invariant = law pair invariant
  by_pair None invariant = tt

  -- the law holds for the pair of the bench that the input starts
  by_bench : (bench : Result BenchState BenchFault) → StartInvariant bench
      → IfOk bench (λ bench. IfSome (make_pair slot (after_first_script bench (after_separator input))) Law)
  by_bench (Ok bench) invariant =
      let after_first = after_first_script bench (after_separator input) in
      let first_script = before_separator (lines_of (after_separator input)) in
      by_pair (make_pair slot after_first) (start_pair_invariant slot after_first (lines_keep_invariant bench first_script invariant))
  by_bench (Err fault) invariant = tt

-- proves that the benches of a twin run stay equivalent and reply the same
pub twin_noninterference : (setup : Setup) (slot : ℕ) (input : List ℕ) → TwinNoninterference setup slot input
twin_noninterference setup slot input = law_of_pair (StayTogether slot) slot (stay_together slot) setup input

-- proves that both benches of a twin run preserve the enclaves that the commands leave undisturbed
pub twin_integrity : (setup : Setup) (slot : ℕ) (input : List ℕ) → TwinIntegrity setup slot input
twin_integrity setup slot input = record {
  first = stream_integrity (monitored_setup setup) input;
  second = law_of_pair (BothPreserve slot) slot (both_preserve slot) setup input;
}
