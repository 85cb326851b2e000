-- Two benches that execute the same commands one after another: the state of each is that of executing its commands alone, and the two stay
-- equivalent except for `enclave`.
use Rattle.std.proofs.Common.{◌≡◌, ℕ, suc, ◌+◌, ◌<◌, Bool, true, false, List, [], ◌∷◌, length, take, drop, get_or, ◌⊎◌, refl, sym, ◌∙◌, ap, ap₂}
use Rattle.std.proofs.Common.{subst, inl, inr, arith, not}
use Rattle.std.specs.Prelude.{◌&&◌, ◌||◌, if◌then◌else◌}
use Rattle.rv_debug.specs.Prelude.{All, Bare, BothWhy, Command, Entered, Monitored, NotBlind, Slots, Target, bytes_named, meets, region}
use Rattle.rv_debug.proofs.Prelude.{AlikeBy, CommandsAvoidHart, ExecuteAlike, BenchState, BenchesEquivExcept, BothExecuted, BothRan, TargetInvariant}
use Rattle.rv_debug.proofs.Prelude.{AllAlike, DoneAlike, StayAlike, TargetsEquivExcept, after_commands, and_parts, execute, both_execute, both_do}
use Rattle.rv_debug.proofs.Prelude.{both_run, cases_Bool, drop_all, drop_more, go_on, is_blind, is_entered, region_in}
use Rattle.rv_debug.proofs.ExecuteAlike.{equiv_again, noninterference}
use Rattle.rv_debug.proofs.EffectsInvariant.{command_keeps_invariant}

-- two benches `one` and `other`, and the slot `enclave` in which they may differ
module _ (enclave : ℕ) where
  -- `stopped` is the result of a command that is not blind in both benches: neither executes it
  abbrev pub stopped : BenchState → BenchState → BothExecuted
  stopped one other = record { first = one; second = other; first_reply = []; second_reply = []; why = NotBlind }

  -- `both_done` is the result of a command that both benches execute
  abbrev pub both_done : BenchState → BenchState → Command → BothExecuted
  both_done one other command = both_do enclave (execute one command) (execute other command)

  -- ---- one command

  -- both benches execute a command that is blind in both benches, and neither executes any other command
  executed_or_stopped : (one other : BenchState) (command : Command)
      → (((is_blind enclave one command && is_blind enclave other command) ≡ false) × (both_execute enclave one other command ≡ stopped one other))
      ⊎ ((is_blind enclave one command ≡ true) × (both_execute enclave one other command ≡ both_done one other command))
  unfolding both_execute
  executed_or_stopped one other command = elim (cases_Bool (is_blind enclave one command && is_blind enclave other command)) [
    -- the command is blind in both benches: both execute it
    | inl both_blind ↦ let (blind, _) = and_parts _ _ both_blind in inr (blind, rw both_blind refl)
    -- it is not blind in one of them: neither executes it
    | inr not_both_blind ↦ inl (not_both_blind, rw not_both_blind refl)
  ]

  -- the region of `enclave` is the same in equivalent targets
  same_region : (command : Command) (one other : Target) → TargetsEquivExcept enclave one other
      → meets (bytes_named command) (region_in enclave one) ≡ meets (bytes_named command) (region_in enclave other)
  same_region command (Monitored one) (Monitored other) equiv =
      ap (λ (slots : Slots). meets (bytes_named command) (region slots enclave)) (let state = equiv.state in state.shared.table)
  same_region command (Bare one) (Bare other) equiv = refl
  same_region command _ _ equiv = absurd equiv

  -- a command is blind in both equivalent benches or in neither
  same_blind : (one other : BenchState) (command : Command) → BenchesEquivExcept enclave one other
      → is_blind enclave one command ≡ is_blind enclave other command
  unfolding is_blind
  same_blind one other command equiv = ap (λ (met : Bool). not met) (same_region command one.target other.target equiv.target)

  -- if two tests are equal and their conjunction fails, the first test fails
  first_test_fails : (test other_test : Bool) → test ≡ other_test → (test && other_test) ≡ false → test ≡ false
  first_test_fails true other_test same_tests and_fails = same_tests ∙ and_fails
  first_test_fails false other_test same_tests and_fails = refl

  -- the reason after a command that both benches execute is `Entered` if the command enters the slot in either bench, and `All` otherwise
  reason_of_entries : (one other : BenchState) (command : Command) (one_entered other_entered : Bool)
      → is_entered enclave (execute one command).entered ≡ one_entered
      → is_entered enclave (execute other command).entered ≡ other_entered
      → (both_done one other command).why ≡ (if one_entered || other_entered then Entered else All)
  reason_of_entries one other command one_entered other_entered one_enters other_enters =
      ap₂ (λ (one_entered other_entered : Bool). if one_entered || other_entered then Entered else All) one_enters other_enters

  -- two executions that the law relates are alike for the reason that the command gives
  done_alike : (one other : BenchState) (command : Command) → ExecuteAlike enclave (execute one command) (execute other command)
      → AlikeBy enclave one other command (both_done one other command) (both_done one other command).why
  done_alike one other command alike = elim (cases_Bool (is_entered enclave (execute one command).entered)) [
    -- the command enters the enclave in the first bench, and so in the second: the reason is `Entered`
    | inl one_enters ↦
        let other_enters = sym alike.entered ∙ one_enters in
        subst (λ (why : BothWhy). AlikeBy enclave one other command (both_done one other command) why)
        (sym (reason_of_entries one other command true true one_enters other_enters))
        (record { in_first = one_enters; in_second = other_enters })
    -- it enters the enclave in neither bench: the reason is `All`, the replies are equal and the benches are equivalent
    | inr not_entered ↦
        let passed = alike.passed not_entered in
        subst (λ (why : BothWhy). AlikeBy enclave one other command (both_done one other command) why)
        (sym (reason_of_entries one other command false false not_entered (sym alike.entered ∙ not_entered)))
        (record { reply = passed.reply; state = passed.state })
  ]

  -- proves that one command for both benches is alike for each reason to go on or to end
  pub both_alike : (one other : BenchState) (command : Command) → TargetInvariant one.target
      → TargetInvariant other.target → StayAlike enclave one other command (both_execute enclave one other command)
  both_alike one other command invariant other_invariant equiv avoids_hart = elim (executed_or_stopped one other command) [
    -- neither bench executes the command, which is blind in neither
    | inl (not_both_blind, is_stopped) ↦
        let not_blind = first_test_fails _ _ (same_blind one other command equiv) not_both_blind in
        subst (λ (after : BothExecuted). AlikeBy enclave one other command after after.why) (sym is_stopped)
        (record { in_first = not_blind; in_second = sym (same_blind one other command equiv) ∙ not_blind })
    -- both benches execute the command, and noninterference makes the executions alike
    | inr (blind, both_execute_is) ↦ subst (λ (after : BothExecuted). AlikeBy enclave one other command after after.why) (sym both_execute_is)
        (done_alike one other command (noninterference enclave one other command invariant other_invariant equiv blind avoids_hart))
  ]

  -- ---- a list of commands

  -- the result of a list of commands, where `after` is the result of its first command and `why` says whether the list goes on
  run_with_first_command : (one other : BenchState) (command : Command) (commands : List Command) (after : BothExecuted) (why : BothWhy)
      → both_execute enclave one other command ≡ after
      → after.why ≡ why → both_run enclave one other (command ∷ commands) ≡ go_on why after (both_run enclave after.first after.second commands)
  unfolding both_run
  run_with_first_command one other command commands after why both_execute_is reason_is =
      ap (λ (after : BothExecuted). go_on after.why after (both_run enclave after.first after.second commands)) both_execute_is
      ∙ ap (λ (why : BothWhy). go_on why after (both_run enclave after.first after.second commands)) reason_is

  -- an empty list of commands leaves both benches as they are
  empty_run : (one other : BenchState) → both_run enclave one other [] ≡ record { first = one; second = other; ran = 0; why = All }
  unfolding both_run
  empty_run one other = refl

  -- each bench ends in the state that it has if it executes alone those commands that both have executed
  abbrev pub Folded : BenchState → BenchState → List Command → BothRan → Type 0
  Folded one other commands end =
      (end.first ≡ after_commands one (take end.ran commands)) × (end.second ≡ after_commands other (take end.ran commands))

  -- if `Folded` holds for the remaining commands, it also holds for the first command and the remaining commands
  folded_more : (one other : BenchState) (command : Command) (commands : List Command) (why : BothWhy) (rest_ran : BothRan)
      → (why ≡ NotBlind → ⊥) → Folded (execute one command).state (execute other command).state commands rest_ran
      → Folded one other (command ∷ commands) (go_on why (both_done one other command) rest_ran)
  folded_more one other command commands All rest_ran is_executed rest_folded = rest_folded
  folded_more one other command commands Entered rest_ran is_executed rest_folded = (refl, refl)
  folded_more one other command commands NotBlind rest_ran is_executed rest_folded = absurd (is_executed refl)

  -- the reason after a command that both benches execute is never `NotBlind`
  not_stopped : (any_entered : Bool) → (if any_entered then Entered else All) ≡ NotBlind → ⊥
  not_stopped true reason_is = cc
  not_stopped false reason_is = cc

  -- Proves `Folded` for each list of commands, by induction over the list.
  pub folded : (one other : BenchState) (commands : List Command) → Folded one other commands (both_run enclave one other commands)
  folded one other [] = subst (Folded one other []) (sym (empty_run one other)) (refl, refl)
  folded one other (command ∷ commands) = elim (executed_or_stopped one other command) [
    -- neither bench executes the first command, so both end as they began
    | inl (not_both_blind, is_stopped) ↦ subst (Folded one other (command ∷ commands))
        (sym (run_with_first_command one other command commands (stopped one other) NotBlind is_stopped refl)) (refl, refl)
    -- both benches execute the first command, and then the remaining commands by induction
    | inr (blind, both_execute_is) ↦
        subst (Folded one other (command ∷ commands))
        (sym (run_with_first_command one other command commands (both_done one other command) _ both_execute_is refl))
        (folded_more one other command commands _ (both_run enclave (execute one command).state (execute other command).state commands)
        (not_stopped _)
        (folded (execute one command).state (execute other command).state commands))
  ]

  -- ---- equivalence of both

  -- the executed commands of both are alike, if they avoid the hart of `enclave`
  abbrev pub EndAlike : BenchState → BenchState → List Command → BothRan → Type 0
  EndAlike one other commands end = CommandsAvoidHart enclave one (take end.ran commands) → DoneAlike enclave one other commands end.ran end.why

  -- an empty list of commands has equal replies and leaves the benches equivalent
  no_commands_alike : (one other : BenchState) → TargetInvariant one.target → BenchesEquivExcept enclave one other → AllAlike enclave one other []
  no_commands_alike one other invariant equiv = record { replies = refl; state = equiv_again enclave one other invariant equiv }

  -- if one command has equal replies and the remaining commands are alike, then all of them are alike
  one_more_alike : (one other : BenchState) (command : Command) (commands : List Command)
      → (execute one command).reply ≡ (execute other command).reply
      → AllAlike enclave (execute one command).state (execute other command).state commands → AllAlike enclave one other (command ∷ commands)
  one_more_alike one other command commands same_reply rest_alike = record {
    replies = ap₂ (λ (reply : List ℕ) (replies : List (List ℕ)). reply ∷ replies) same_reply rest_alike.replies;
    state = rest_alike.state;
  }

  -- if one command has equal replies, and the executed ones among the remaining commands are alike, then all executed commands are alike
  done_more_alike : (one other : BenchState) (command : Command) (commands : List Command) (ran : ℕ) (why : BothWhy)
      → (execute one command).reply ≡ (execute other command).reply
      → DoneAlike enclave (execute one command).state (execute other command).state commands ran why
      → DoneAlike enclave one other (command ∷ commands) (suc ran) why
  done_more_alike one other command commands ran All same_reply rest_alike =
      one_more_alike one other command (take ran commands) same_reply rest_alike
  done_more_alike one other command commands ran NotBlind same_reply rest_alike =
      one_more_alike one other command (take ran commands) same_reply rest_alike
  done_more_alike one other command commands ran Entered same_reply (alike_count, ran_is, alike_commands) = (
    suc alike_count,
    ap (λ (count : ℕ). suc count) ran_is,
    one_more_alike one other command (take alike_count commands) same_reply alike_commands,
  )

  -- a list whose first command enters the slot ends alike in both benches, with this command as its last
  entered_last : (one other : BenchState) (command : Command) (commands : List Command) → TargetInvariant one.target
      → BenchesEquivExcept enclave one other
      → both_execute enclave one other command ≡ both_done one other command → (both_done one other command).why ≡ Entered
      → EndAlike one other (command ∷ commands) (both_run enclave one other (command ∷ commands))
  entered_last one other command commands invariant equiv both_execute_is reason_is =
      subst (EndAlike one other (command ∷ commands))
      (sym (run_with_first_command one other command commands (both_done one other command) Entered both_execute_is reason_is))
      (λ avoids_hart. (0, refl, no_commands_alike one other invariant equiv))

  -- Proves that a list of commands is alike in both benches, by induction over the list. The first command has four cases. It is not
  -- blind, it enters `enclave` in the first bench, it enters the slot in the second bench only, or it enters the slot in neither.
  pub run_alike : (one other : BenchState) (commands : List Command) → TargetInvariant one.target
      → TargetInvariant other.target → BenchesEquivExcept enclave one other → EndAlike one other commands (both_run enclave one other commands)
  run_alike one other [] invariant other_invariant equiv =
      subst (EndAlike one other []) (sym (empty_run one other)) (λ avoids_hart. no_commands_alike one other invariant equiv)
  run_alike one other (command ∷ commands) invariant other_invariant equiv = elim (executed_or_stopped one other command) [
    -- the first command is not blind: neither bench executes a command
    | inl (not_both_blind, is_stopped) ↦ subst (EndAlike one other (command ∷ commands))
        (sym (run_with_first_command one other command commands (stopped one other) NotBlind is_stopped refl))
        (λ avoids_hart. no_commands_alike one other invariant equiv)
    | inr (blind, both_execute_is) ↦ elim (cases_Bool (is_entered enclave (execute one command).entered)) [
      -- the first command enters the enclave in the first bench: it is the last command
      | inl one_enters ↦ entered_last one other command commands invariant equiv both_execute_is
          (reason_of_entries one other command true (is_entered enclave (execute other command).entered) one_enters refl)
      | inr one_does_not_enter ↦ elim (cases_Bool (is_entered enclave (execute other command).entered)) [
        -- the first command enters the enclave only in the second bench: it is the last command
        | inl other_enters ↦
            entered_last one other command commands invariant equiv both_execute_is
            (reason_of_entries one other command false true one_does_not_enter other_enters)
        -- the first command enters the enclave in neither bench: the replies are equal, and the remaining commands are alike by induction
        | inr other_does_not_enter ↦
            let rest_ran = both_run enclave (execute one command).state (execute other command).state commands in
            subst (EndAlike one other (command ∷ commands))
            (sym (run_with_first_command one other command commands (both_done one other command) All both_execute_is
            (reason_of_entries one other command false false one_does_not_enter other_does_not_enter)))
            (λ avoids_hart.
            let (command_avoids_hart, rest_avoids_hart) = avoids_hart in
            let alike = noninterference enclave one other command invariant other_invariant equiv blind command_avoids_hart in
            let passed = alike.passed one_does_not_enter in
            done_more_alike one other command commands rest_ran.ran rest_ran.why passed.reply
            (run_alike (execute one command).state (execute other command).state commands (command_keeps_invariant one command invariant)
            (command_keeps_invariant other command other_invariant) passed.state.but (rest_avoids_hart one_does_not_enter)))
      ]
    ]
  ]

  -- ---- in the loop of `run_commands`

  -- `with_commands_before` is the result `rest_ran` of the remaining commands, with `count` commands executed before them
  abbrev pub with_commands_before : ℕ → BothRan → BothRan
  with_commands_before count rest_ran = record { first = rest_ran.first; second = rest_ran.second; ran = count + rest_ran.ran; why = rest_ran.why }

  -- the commands from an index on are the command at this index and the commands after it
  next_command : (commands : List Command) (index : ℕ) (command : Command) → index < length commands
      → command ≡ get_or commands index command → drop index commands ≡ command ∷ drop (index + 1) commands
  next_command commands index command in_bounds command_is = drop_more commands index command in_bounds
      ∙ ap (λ (next : Command). next ∷ drop (index + 1) commands) (sym command_is)

  -- the state of the loop at the command with this index: `all_ran` is the result of all commands, and `after` that of this command
  module _ (one other : BenchState) (commands : List Command) (index : ℕ) (command : Command) (all_ran : BothRan) (after : BothExecuted)
      (in_bounds : index < length commands) (command_is : command ≡ get_or commands index command)
      (so_far : with_commands_before index (both_run enclave one other (drop index commands)) ≡ all_ran)
      (executed : both_execute enclave one other command ≡ after) where
    -- the result of all commands, by the reason (why) for which the commands go on or end after the command at `index`
    result_if_reason : (why : BothWhy) → after.why ≡ why
        → all_ran ≡ with_commands_before index (go_on why after (both_run enclave after.first after.second (drop (index + 1) commands)))
    result_if_reason why reason_is =
        sym so_far
        ∙ ap (λ (remaining : List Command). with_commands_before index (both_run enclave one other remaining))
        (next_command commands index command in_bounds command_is)
        ∙ ap (with_commands_before index) (run_with_first_command one other command (drop (index + 1) commands) after why executed reason_is)

    -- after a command that enters `enclave`, the list ends, and this command is counted
    pub result_at_entry : after.why ≡ Entered → all_ran ≡ record { first = after.first; second = after.second; ran = index + 1; why = Entered }
    result_at_entry reason_is = result_if_reason Entered reason_is

    -- at a command that is not blind, the list ends, and this command is not counted
    pub result_at_not_blind : after.why ≡ NotBlind → all_ran ≡ record { first = after.first; second = after.second; ran = index; why = NotBlind }
    result_at_not_blind reason_is =
        let count : index + 0 ≡ index = omega arith in
        result_if_reason NotBlind reason_is ∙ ap (λ (ran : ℕ). record { first = after.first; second = after.second; ran = ran; why = NotBlind }) count

    -- after any other command, the result is that of the remaining commands
    pub result_at_next : after.why ≡ All
        → with_commands_before (index + 1) (both_run enclave after.first after.second (drop (index + 1) commands)) ≡ all_ran
    result_at_next reason_is =
        let rest_ran = both_run enclave after.first after.second (drop (index + 1) commands) in
        let count : index + 1 + rest_ran.ran ≡ index + suc rest_ran.ran = omega arith in
        ap (λ (ran : ℕ). record { first = rest_ran.first; second = rest_ran.second; ran = ran; why = rest_ran.why }) count
        ∙ sym (result_if_reason All reason_is)

  -- after the last command, the result is that all were executed
  pub result_at_end : (one other : BenchState) (commands : List Command) (index : ℕ) (all_ran : BothRan)
      → index ≡ length commands → with_commands_before index (both_run enclave one other (drop index commands)) ≡ all_ran
      → all_ran ≡ record { first = one; second = other; ran = length commands; why = All }
  result_at_end one other commands index all_ran at_end so_far =
      let nothing_left : drop index commands ≡ [] = drop_all index commands (omega arith) in
      let count : index + 0 ≡ length commands = omega (arith, at_end) in
      sym so_far ∙ ap (λ (remaining : List Command). with_commands_before index (both_run enclave one other remaining)) nothing_left
      ∙ ap (with_commands_before index) (empty_run one other)
      ∙ ap (λ (ran : ℕ). record { first = one; second = other; ran = ran; why = All }) count
