-- The reading of a command line does not depend on where in memory the names of an option are. If the arguments are accepted, each given value of
-- an option of the subcommand is readable. `Alike` states both for a step of the reading, which is a function of the location of the names. It is
-- proved for the use of a rule, and then for the reading of all arguments with such rules.
use Rattle.std.proofs.Common.{◌∷◌, ◌≡◌, ◌&&◌, ◌||◌, [], ap, Bool, codes, cond, drop, false, length, List, map, None, not, ℕ, Option, option_map, refl}
use Rattle.std.proofs.Common.{Some, suc, sym, true, zero}
use Rattle.std.specs.List.{AllByRecursion}
use Rattle.std.specs.Option.{option_map_or}
use Rattle.std.specs.Prelude.{encode_utf8, find, fold, is_some, nat_eq, option_and_then, slice_get}
use Rattle.std.specs.Str.{bytes_eq, chars}
use Rattle.clap.proofs.WalkLemmas.{list_any-map}
use Rattle.clap.specs.Faults.{bundle_fault, bundle_step_fault, check_fault, default_fault, defaults_fault, flag_word_fault, flags_fault}
use Rattle.clap.specs.Faults.{level_fault, long_fault, option_fault, other_fault, positional_fault, react_fault, settle_fault, short_fault}
use Rattle.clap.specs.Faults.{step_fault, stray_fault, use_fault, walk_fault, word_fault}
use Rattle.clap.specs.Kinds.{Kinds, or_else}
use Rattle.clap.specs.Lexer.{long_of, short_of}
use Rattle.clap.specs.Simple.{label_of, rows_at, Shape}
use Rattle.clap.specs.Takes.{is_given}
use Rattle.clap.specs.Walk as clap
use Rattle.clap.specs.Walk.{after_step, answers_to, arg_by_id, arg_by_long, bundle_met, bundle_step, done, flag_met, Held, idle, long_met, next}
use Rattle.clap.specs.Walk.{nothing_held, option, option_met, Outcome, plain, plain_word, positional, reacted, refused, Row, rows_after, Rule}
use Rattle.clap.specs.Walk.{settled, settled_rows, short_met, short_or_plain, Step, subcommand, takes_values, Text, to_positional, trailing, used}
use Rattle.clap.specs.Walk.{used_by_id, value, Waiting, waits, Walk, walk_from, walked, walked_from, with_default, word_met}
use Rattle.clap.specs.declared.builder.value_parser.ValueParser.{ValueParser}
use Rattle.clap.specs.declared.builder.value_parser.ValueParser.TheVariants as parser
use Rattle.clap.specs.declared.error.kind.ErrorKind.TheVariants as kind
use Rattle.rv_command_line.proofs.Readable.{Good}
use Rattle.rv_command_line.specs.CommandLine.{kind_names, lent, Names}

-- ---- the names of an option at another address

-- `at_definition` has the names of the image formats at the address of the definition
abbrev pub at_definition : Names
at_definition = lent (map lent kind_names)

-- the parser with its names at another address; a parser without names is unchanged
abbrev pub with_names : Names → ValueParser → ValueParser
with_names names (parser.Names other) = parser.Names names
with_names names value_parser = value_parser

-- `rule_at` is the rule with the names of its parser at another address
abbrev pub rule_at : Names → Rule → Rule
rule_at names rule = record rule { parser = option_map (with_names names) rule.parser }

-- `shape_at` is the shape with the names of its rules at another address
abbrev pub shape_at : Names → Shape → Shape
shape_at names shape = record shape { rules = map (rule_at names) shape.rules }

-- The result of a step of the reading is the same with the names at this address and at the address of the definition. If the step has no error,
-- rows with readable values stay readable.
pub record Alike (elsewhere : Names) {X : Type 0} (rows : X → List Row) (before : List Row) (fault : Names → Kinds) (met : Names → X) : Type 0 where
  -- the step has the same errors for both locations
  pub same_faults : fault elsewhere ≡ fault at_definition
  -- the step has the same result for both locations
  pub same_result : met elsewhere ≡ met at_definition
  -- if the step has no error, rows with readable values stay readable
  pub keeps_good : fault at_definition ≡ [] → Good before → Good (rows (met at_definition))

-- `result_as_rows` has the rows of a step whose result is rows
abbrev pub result_as_rows : List Row → List Row
result_as_rows rows = rows

-- `held_rows` has the rows that are held
abbrev held_rows : Held → List Row
held_rows held = held.rows

-- `walk_rows` has the rows of a walk over the arguments
abbrev walk_rows : Walk → List Row
walk_rows walk = walk.held.rows

-- the use of a rule does not depend on the address of the names
pub record Fits (elsewhere : Names) (rule : Rule) : Type 0 where
  -- a use of the rule is alike for both locations
  pub uses : (again : Bool) (values : List Text) (rows : List Row)
      → Alike elsewhere result_as_rows rows (λ location. use_fault again (rule_at location rule) values rows)
      (λ location. used (rule_at location rule) values rows)
  -- setting the default value of the rule is alike for both locations
  pub default : (rows : List Row)
      → Alike elsewhere result_as_rows rows (λ location. default_fault rows (rule_at location rule))
      (λ location. with_default rows (rule_at location rule))

-- if two parts of the reading, one after the other, have no error, neither part has an error
pub no_fault_in_parts : (first second : Kinds) → or_else first second ≡ [] → (first ≡ []) × (second ≡ [])
no_fault_in_parts [] second no_fault = (refl, no_fault)
no_fault_in_parts (fault ∷ faults) second no_fault = cc

module _ {elsewhere : Names} {X Y : Type 0} {rows : X → List Row} {next_rows : Y → List Row} {before : List Row}
    {fault : Names → Kinds} {met : Names → X} where
  -- two steps that are alike, one after the other, are alike
  sequence : {next_fault : Names → X → Kinds} {next_met : Names → X → Y} → Alike elsewhere rows before fault met
      → ((x : X) → Alike elsewhere next_rows (rows x) (λ location. next_fault location x) (λ location. next_met location x))
      → Alike elsewhere next_rows before (λ location. or_else (fault location) (next_fault location (met location)))
      (λ location. next_met location (met location))
  sequence {next_fault = next_fault} first_step second_step = record {
    same_faults = rw (first_step.same_result, first_step.same_faults, (second_step (met at_definition)).same_faults) refl;
    same_result = rw (first_step.same_result, (second_step (met at_definition)).same_result) refl;
    keeps_good = λ no_fault good.
        let (none_in_first, none_in_second) = no_fault_in_parts (fault at_definition) (next_fault at_definition (met at_definition)) no_fault in
        (second_step (met at_definition)).keeps_good none_in_second (first_step.keeps_good none_in_first good);
  }

  -- the same for a second step that has no error of its own
  sequence_without_fault : {next_met : Names → X → Y} → Alike elsewhere rows before fault met
      → ((x : X) → Alike elsewhere next_rows (rows x) (λ _. []) (λ location. next_met location x))
      → Alike elsewhere next_rows before fault (λ location. next_met location (met location))
  sequence_without_fault first_step second_step = record {
    same_faults = first_step.same_faults;
    same_result = rw (first_step.same_result, (second_step (met at_definition)).same_result) refl;
    keeps_good = λ no_fault good. (second_step (met at_definition)).keeps_good refl (first_step.keeps_good no_fault good);
  }

  -- a step is alike if its result is mapped by a function that does not depend on the names
  alike_mapped : (convert : X → Y) → ((x : X) → next_rows (convert x) ≡ rows x) → Alike elsewhere rows before fault met
      → Alike elsewhere next_rows before fault (λ location. convert (met location))
  alike_mapped convert same_rows step = record {
    same_faults = step.same_faults;
    same_result = ap convert step.same_result;
    keeps_good = λ no_fault good. rw (same_rows (met at_definition)) (step.keeps_good no_fault good);
  }

module _ {elsewhere : Names} {X : Type 0} {rows : X → List Row} where
  -- a choice of two steps that are alike, by a test that does not depend on the names, is alike
  choice : (test : Bool) {before : List Row} {fault other_fault : Names → Kinds} {met other_met : Names → X}
      → Alike elsewhere rows before fault met → Alike elsewhere rows before other_fault other_met
      → Alike elsewhere rows before (λ location. cond test (fault location) (other_fault location))
      (λ location. cond test (met location) (other_met location))
  choice true first_step second_step = first_step
  choice false first_step second_step = second_step

  -- a step that does not depend on the names is alike
  names_unused : {fault : Kinds} {x : X} → Alike elsewhere rows (rows x) (λ _. fault) (λ _. x)
  names_unused = record { same_faults = refl; same_result = refl; keeps_good = λ no_fault good. good }

-- a claim P about the element that a search finds holds if it holds for each element and for none, since the test does not depend on the names
find_alike : {X : Type 0} (place : Names → X → X) (Is : X → Type 0) (P : (Names → Option X) → Type 0) (test : X → Bool)
    → ((location : Names) (x : X) → test (place location x) ≡ test x) → P (λ _. None) → ((x : X) → Is x → P (λ location. Some (place location x)))
    → (xs : List X) → AllByRecursion Is xs → P (λ location. find test (map (place location) xs))
find_alike place Is P test same_test if_none if_some [] all_are = if_none
find_alike place Is P test same_test if_none if_some (x ∷ xs) (first_is, others_are) =
    by_first (test x) (λ location. same_test location x) (find_alike place Is P test same_test if_none if_some xs others_are) where
      -- the same claim by cases on the test of the first element x, with the claim for the other elements as a premise
      by_first : (passes : Bool) → ((location : Names) → test (place location x) ≡ passes) → P (λ location. find test (map (place location) xs))
          → P (λ location. cond (test (place location x)) (Some (place location x)) (find test (map (place location) xs)))
      by_first true test_is claim_for_others = simp test_is (if_some x first_is)
      by_first false test_is claim_for_others = simp test_is claim_for_others

-- ---- reading the arguments of a subcommand

module _ (elsewhere : Names) (base : Shape) (fits : AllByRecursion (Fits elsewhere) base.rules) where
  -- `shape` is the shape with the names at an address
  abbrev shape : Names → Shape
  shape location = shape_at location base

  -- `rules` has the rules with the names at an address
  abbrev rules : Names → List Rule
  rules location = (shape location).rules

  -- a later use of an option replaces an earlier one
  abbrev again : Bool
  again = base.args_override_self

  -- `WordStepAlike` states that a step on a word of the arguments is alike, where its result holds rows and an outcome
  abbrev WordStepAlike : {X : Type 0} → Held → (Names → Kinds) → (Names → Held × X) → Type 0
  WordStepAlike held = Alike elsewhere (λ result. result.0.rows) held.rows

  -- a claim P about the rule that a search finds holds, if it holds for each rule and for none
  by_rule : (P : (Names → Option Rule) → Type 0) (test : Rule → Bool) → ((location : Names) (rule : Rule) → test (rule_at location rule) ≡ test rule)
      → P (λ _. None) → ((rule : Rule) → Fits elsewhere rule → P (λ location. Some (rule_at location rule)))
      → P (λ location. find test (rules location))
  by_rule P test same_test if_none if_some = find_alike rule_at (Fits elsewhere) P test same_test if_none if_some base.rules fits

  -- ending an option that waits for its values does not depend on where the names are
  settle_alike : (held : Held)
      → Alike elsewhere held_rows held.rows (λ location. settle_fault (rules location) again held) (λ location. settled (rules location) held)
  settle_alike held = alike_mapped (λ rows. record held { rows = rows; pending = None }) (λ _. refl) (by_pending held.pending) where
    -- the same claim by cases on the option that waits for its values, which may be none
    by_pending : (waiting_option : Option (Text × List Text)) → Alike elsewhere result_as_rows held.rows
        (λ location. option_map_or (λ pending.
        option_map_or (λ rule. use_fault again rule pending.1 held.rows) (arg_by_id (rules location) pending.0) []) waiting_option [])
        (λ location. settled_rows (rules location) waiting_option held.rows)
    by_pending None = names_unused
    by_pending (Some (id, values)) = by_rule
        (λ found. Alike elsewhere result_as_rows held.rows
        (λ location. option_map_or (λ rule. use_fault again rule values held.rows) (found location) [])
        (λ location. used_by_id (found location) values held.rows))
        (λ rule. bytes_eq rule.id id) (λ location rule. refl) names_unused (λ rule fit. fit.uses again values held.rows)

  module _ (rule : Rule) (fit : Fits elsewhere rule) where
    -- using a rule, after the end of a waiting option, does not depend on where the names are
    react_alike : (values : List Text) (held : Held)
        → Alike elsewhere held_rows held.rows (λ location. react_fault (rules location) again (rule_at location rule) values held)
        (λ location. reacted (rules location) (rule_at location rule) values held)
    react_alike values held =
        sequence (settle_alike held)
        (λ settled. alike_mapped (λ rows. record settled { rows = rows }) (λ _. refl) (fit.uses again values settled.rows))

    -- reading an option with an attached value, or one that waits for its value, does not depend on where the names are
    option_alike : (given_value : Option Text) (held : Held)
        → WordStepAlike held (λ location. option_fault (rules location) again (rule_at location rule) given_value held)
        (λ location. option_met (rules location) (rule_at location rule) given_value held)
    option_alike (Some given_value) held = alike_mapped (λ held. (held, done)) (λ _. refl) (react_alike (given_value ∷ []) held)
    option_alike None held = alike_mapped (λ held. (record held { pending = Some (rule.id, []) }, waits rule.id)) (λ _. refl) (settle_alike held)

    -- reading a flag does not depend on where the names are; a value for it is an error
    flag_alike : (given_value : Option Text) (held : Held)
        → WordStepAlike held (λ location. cond (is_some given_value) (kind.TooManyValues ∷ [])
        (react_fault (rules location) again (rule_at location rule) [] held))
        (λ location. flag_met (rules location) (rule_at location rule) given_value held)
    flag_alike (Some given_value) held = names_unused
    flag_alike None held = alike_mapped (λ held. (held, done)) (λ _. refl) (react_alike [] held)

  -- reading an option that is given by its long name does not depend on where the names are
  long_option_alike : (name : Text) (given_value : Option Text) (held : Held)
      → WordStepAlike held (λ location. long_fault (rules location) again (arg_by_long (rules location) name) given_value held)
      (λ location. long_met (rules location) (arg_by_long (rules location) name) given_value held)
  long_option_alike name given_value held =
      by_rule (λ found. WordStepAlike held (λ location. long_fault (rules location) again (found location) given_value held)
      (λ location. long_met (rules location) (found location) given_value held))
      (λ rule. not (is_some rule.index) && clap.has_long rule name) (λ location rule. refl) names_unused
      (λ rule fit. choice (takes_values rule) (option_alike rule fit given_value held) (flag_alike rule fit given_value held))

  -- `BundleAlike` states that a bundle of at most `limit` short options in one word is alike
  abbrev BundleAlike : (limit : ℕ) (flags : Text) (skip : ℕ) (so_far : Outcome) (held : Held) → Type 0
  BundleAlike limit flags skip so_far held =
      WordStepAlike held (λ location. flags_fault (rules location) again limit flags skip held)
      (λ location. bundle_met (rules location) limit flags skip so_far held)

  -- reading a bundle of short options does not depend on where the names are, by induction over its characters
  bundles_alike : (limit : ℕ) (flags : Text) (skip : ℕ) (so_far : Outcome) (held : Held) → BundleAlike limit flags skip so_far held
  unfolding flags_fault bundle_met
  bundles_alike zero flags skip so_far held = names_unused
  bundles_alike (suc limit) flags skip so_far held = by_character (slice_get (chars flags) 0) skip (bundles_alike limit) where
    -- the same claim by cases on the next character of the bundle, with the claim for each later bundle as a premise
    by_character : (character : Option ℕ) (skip : ℕ)
        → ((flags : Text) (skip : ℕ) (so_far : Outcome) (held : Held) → BundleAlike limit flags skip so_far held)
        → WordStepAlike held
        (λ location. bundle_step_fault (rules location) again character flags skip held (flags_fault (rules location) again limit))
        (λ location. bundle_step (rules location) character flags skip so_far held (bundle_met (rules location) limit))
    by_character None skip later_bundles = names_unused
    by_character (Some character) zero later_bundles =
        let rest = drop (length (encode_utf8 character)) flags in
        by_rule (λ found. WordStepAlike held
        (λ location. short_fault (rules location) again (found location) rest held (flags_fault (rules location) again limit rest 0))
        (λ location. short_met (rules location) (found location) rest held (bundle_met (rules location) limit rest 0 done)))
        (λ rule. not (is_some rule.index) && clap.has_short rule character) (λ location rule. refl) names_unused
        (λ rule fit. choice (takes_values rule) (option_alike rule fit (clap.attached_value rest) held)
        (sequence (react_alike rule fit [] held) (later_bundles rest 0 done)))
    by_character (Some character) (suc skipped) later_bundles = later_bundles _ skipped so_far held

  module _ (waiting : Waiting) (word : Text) where
    -- reading a word that is no option does not depend on where the names are
    plain_word_alike : (state : Waiting) (held : Held) → WordStepAlike held (λ _. []) (λ location. plain_word (rules location) state word held)
    plain_word_alike (option id) held = by_rule
        (λ found. WordStepAlike held (λ _. [])
        (λ location. ((clap.option_word (found location) id word held).0, next (clap.option_word (found location) id word held).1)))
        (λ rule. bytes_eq rule.id id) (λ location rule. refl) names_unused (λ rule fit. names_unused)
    plain_word_alike idle held = names_unused
    plain_word_alike positional held = names_unused

    -- reading what follows an option in its word does not depend on where the names are
    after_flag_alike : (result : Held × Outcome)
        → WordStepAlike result.0 (λ _. []) (λ location. clap.after_flag (rules location) waiting word result.0 result.1)
    after_flag_alike (held, done) = names_unused
    after_flag_alike (held, waits id) = names_unused
    after_flag_alike (held, plain) = plain_word_alike waiting held
    after_flag_alike (held, refused) = plain_word_alike waiting held

    -- reading a word of short options does not depend on where the names are
    short_word_alike : (flags : Option Text) (held : Held)
        → WordStepAlike held (λ location. option_map_or (λ flags. bundle_fault (rules location) again flags held) flags [])
        (λ location. short_or_plain (rules location) waiting word flags held)
    short_word_alike (Some flags) held =
        sequence_without_fault (bundles_alike (length flags) flags held.skip plain (record held { skip = 0 })) after_flag_alike
    short_word_alike None held = plain_word_alike waiting held

    -- reading a word with a long option does not depend on where the names are
    long_word_alike : (name : Option (Text × Option Text)) (held : Held)
        → WordStepAlike held (λ location. flag_word_fault (rules location) again name word held)
        (λ location. clap.long_or_other (rules location) waiting word name held)
    long_word_alike (Some (name, given_value)) held = sequence_without_fault (long_option_alike name given_value held) after_flag_alike
    long_word_alike None held = short_word_alike (short_of word) held

    -- reading a word that names no subcommand does not depend on where the names are
    other_word_alike : (name : Option Text) (position : ℕ) (held : Held)
        → WordStepAlike held (λ location. other_fault (shape location) name word held)
        (λ location. clap.subcommand_or_other (rules location) name waiting position word held)
    other_word_alike (Some name) position held = names_unused
    other_word_alike None position held = choice (bytes_eq word (codes "--")) names_unused (long_word_alike (long_of word) held)

    -- reading a word of the arguments does not depend on where the names are
    word_alike : (names : clap.Names) (is_trailing : Bool) (position : ℕ) (held : Held)
        → WordStepAlike held (λ location. word_fault (shape location) names is_trailing waiting word held)
        (λ location. word_met (rules location) names is_trailing waiting position word held)
    word_alike names true position held = names_unused
    word_alike names false position held = other_word_alike (clap.subcommand_met names waiting word) position held

  -- the step of the walk after a word of the arguments does not depend on where the names are
  step_alike : (word : Text) (walk : Walk) (result : Held × Step)
      → Alike elsewhere walk_rows result.0.rows (λ location. step_fault (shape location) walk.position result.0 result.1)
      (λ location. after_step (rules location) word walk result.0 result.1)
  step_alike word walk (held, next waiting) = names_unused
  step_alike word walk (held, trailing position) = names_unused
  step_alike word walk (held, subcommand name) = names_unused
  -- the word is a value of the positional argument whose index is the position of the walk, or no argument has this index
  step_alike word walk (held, value) =
      let placed = λ (rule : Rule) (held_after : Held). record walk {
        held = clap.pushed rule.id word held_after;
        waiting = cond (clap.is_multiple rule) positional idle;
        position = clap.next_position rule walk.position;
        is_trailing = walk.is_trailing || rule.trailing_var_arg;
        stopped = None;
      } in
      by_rule (λ found. Alike elsewhere walk_rows held.rows
      (λ location. option_map_or (λ rule. positional_fault (rules location) again rule held) (found location) (stray_fault base))
      (λ location. to_positional (rules location) (found location) word walk held))
      (λ rule. option_map_or (λ index. nat_eq index walk.position) rule.index false) (λ location rule. refl) names_unused
      (λ rule fit. alike_mapped (placed rule) (λ _. refl)
      (choice (clap.is_pending rule held.pending && clap.takes_several rule) names_unused (settle_alike held)))

  module _ (names : clap.Names) where
    -- a word and the step after it do not depend on where the names are; after a subcommand, the walk has stopped
    walked_word_alike : (stopped : Option (Text × List Text)) (walk : Walk) (word : Text) → Alike elsewhere walk_rows walk.held.rows
        (λ location. let met = word_met (rules location) names walk.is_trailing walk.waiting walk.position word walk.held in cond (is_some stopped) []
        (or_else (word_fault (shape location) names walk.is_trailing walk.waiting word walk.held)
        (step_fault (shape location) walk.position met.0 met.1)))
        (λ location. walked_from (rules location) names stopped walk word)
    walked_word_alike (Some x) walk word = names_unused
    walked_word_alike None walk word =
        sequence (word_alike walk.waiting word names walk.is_trailing walk.position walk.held) (step_alike word walk)

    -- the walk over all words does not depend on where the names are, by induction over the words
    walk_alike : (walk : Walk) (words : List Text)
        → Alike elsewhere walk_rows walk.held.rows (λ location. walk_fault (shape location) names walk words)
        (λ location. fold (walked (rules location) names) walk words)
    unfolding walk_fault walked
    walk_alike walk [] = names_unused
    walk_alike walk (word ∷ words) = sequence (walked_word_alike walk.stopped walk word) (λ x. walk_alike x words)

  -- setting the default values does not depend on where the names are, by induction over the rules
  defaults_alike : (others : List Rule) → AllByRecursion (Fits elsewhere) others → (rows : List Row)
      → Alike elsewhere result_as_rows rows (λ location. defaults_fault rows (map (rule_at location) others))
      (λ location. fold with_default rows (map (rule_at location) others))
  unfolding defaults_fault
  defaults_alike [] all_fit rows = names_unused
  defaults_alike (rule ∷ others) (rule_fits, others_fit) rows = sequence (rule_fits.default rows) (defaults_alike others others_fit)

  -- the check for required options does not depend on where the names are
  check_alike : (has_subcommand : Bool) (rows : List Row)
      → Alike elsewhere result_as_rows rows (λ location. check_fault (shape location) rows has_subcommand) (λ _. rows)
  check_alike has_subcommand rows =
      let none_missing = λ (location : Names). sym
      (list_any-map (λ (rule : Rule). rule.required && not (is_given rule.id rows)) (rule_at location) base.rules) in
      record { same_faults = rw (none_missing elsewhere, none_missing at_definition) refl; same_result = refl; keeps_good = λ no_fault good. good }

  -- reading one level of the arguments does not depend on where the names are: the words, then the default values and the check
  level_alike : (names : clap.Names) (words : List Text) (has_subcommand : Bool)
      → Alike elsewhere result_as_rows [] (λ location. level_fault (shape location) names nothing_held words has_subcommand [])
      (λ location. rows_after (rules location) names words)
  level_alike names words has_subcommand = sequence (walk_alike names (walk_from nothing_held) words)
      (λ walk. sequence (settle_alike walk.held) (λ held. sequence (defaults_alike base.rules fits held.rows) (check_alike has_subcommand)))

-- ---- the subcommand that is entered

-- `entered_rows` has the rows of the subcommand that was entered, or none without a subcommand
abbrev pub entered_rows : Option (Text × List Row) → List Row
entered_rows met = option_map_or (λ entered. entered.1) met []

-- the rows and the errors of the entered subcommand do not depend on the address of the names
pub entered_alike : (elsewhere : Names) (subcommands : List Shape) → AllByRecursion (λ shape. AllByRecursion (Fits elsewhere) shape.rules) subcommands
    → (stop : Option (Text × List Text)) → Alike elsewhere entered_rows []
    (λ location. option_map_or (λ entered. option_map_or (λ shape. level_fault shape [] nothing_held entered.1 false [])
    (find (λ shape. answers_to entered.0 (label_of shape)) (map (shape_at location) subcommands)) []) stop [])
    (λ location. option_and_then
    (λ entered. option_map (λ shape. rows_at shape entered.1)
    (find (λ shape. answers_to entered.0 (label_of shape)) (map (shape_at location) subcommands))) stop)
entered_alike elsewhere subcommands fits None = names_unused
entered_alike elsewhere subcommands fits (Some (name, words)) =
    -- the same claim for the shape that the search for the subcommand finds, or for none
    find_alike shape_at (λ shape. AllByRecursion (Fits elsewhere) shape.rules)
    (λ found. Alike elsewhere entered_rows []
    (λ location. option_map_or (λ shape. level_fault shape [] nothing_held words false []) (found location) [])
    (λ location. option_map (λ shape. rows_at shape words) (found location))) (λ shape. answers_to name (label_of shape))
    (λ location shape. refl) names_unused
    (λ shape fit. alike_mapped (λ rows. Some (shape.name, rows)) (λ _. refl) (level_alike elsewhere shape fit [] words false)) subcommands fits
