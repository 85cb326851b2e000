-- The rules of the program's options: the use of each does not depend on where the names of the image formats are, and gives readable values.
use Rattle.std.proofs.Common.{◌==◌, ◌∙◌, ◌∷◌, ◌≡◌, ◌≤◌, ◌<◌, ◌^◌, ◌||◌, [], ap, arith, Bool, codes, cond, false, length, List, None, ℕ, Option, option_map}
use Rattle.std.proofs.Common.{refl, Some, suc, true}
use Rattle.std.proofs.lemmas.Bool.{lt-ltb}
use Rattle.std.proofs.lemmas.Bool.Decides.{nat_tests}
use Rattle.std.specs.List.{list_all, list_any}
use Rattle.std.specs.Option.{option_map_or}
use Rattle.std.specs.Prelude.{is_some, nat_lt, option_and_then, pos}
use Rattle.std.specs.Str.{bytes_eq}
use Rattle.std.specs.Str.Parse.{ParsesUnsigned}
use Rattle.clap.proofs.CallerReads.{signed_reads}
use Rattle.clap.proofs.ValueTestLemmas.{accepts-Accepts}
use Rattle.clap.proofs.WalkLemmas.{list_any-map}
use Rattle.clap.specs.Faults.{entered_fault, fault_of, use_fault, walk_fault}
use Rattle.clap.specs.Kinds.{Kinds, or_else, range_kinds, value_kinds, values_kinds}
use Rattle.clap.specs.Lexer.{without_minus}
use Rattle.clap.specs.Simple.{argument_words, built, entered, filled, help_rule, names_of, subcommand_of, topic_rule}
use Rattle.clap.specs.Values.{read_as, reading_of, refused_kind, same_text}
use Rattle.clap.specs.ValueTests.{accepts}
use Rattle.clap.specs.Walk.{has_row, nothing_held, Row, stop_after, Text, texts, used, values_or_missing, walk_from}
use Rattle.clap.specs.declared.builder.value_parser.ValueParser.{ValueParser}
use Rattle.clap.specs.declared.builder.value_parser.ValueParser.TheVariants as parser
use Rattle.clap.specs.declared.error.kind.ErrorKind.{ErrorKind}
use Rattle.clap.specs.declared.error.kind.ErrorKind.TheVariants as kind
use Rattle.clap.specs.declared.parser.matches.ValueSource.TheVariants.{CommandLine, DefaultValue}
use Rattle.rv_command_line.proofs.Alike.{Alike, entered_alike, entered_rows, at_definition, Fits, no_fault_in_parts, result_as_rows, rule_at}
use Rattle.rv_command_line.proofs.Alike.{with_names}
use Rattle.rv_command_line.proofs.Numbers.{number_reads}
use Rattle.rv_command_line.proofs.Readable.{are_values, either_good, Good, how, is_read, values_good, without_good}
use Rattle.rv_command_line.specs.CommandLine as line
use Rattle.rv_command_line.specs.CommandLine.{faults_of, kind_names, Names, program, rvbench, valued}
use Rattle.rv_command_line.specs.Job.{harts_in_text, is_slot, kind_of, number_in_text}
use Rattle.rv_memory.specs.Harts.{counted_harts}
use Rattle.rv_command_line.specs.declared.image_kind.ImageKind.{ImageKind}
use Rattle.rv_command_line.specs.declared.image_kind.ImageKind.TheVariants as image

-- ---- accepted values are readable

-- `max_u32` is the largest number of 32 bits, the upper limit of `--ram`
abbrev max_u32 : ℕ
max_u32 = 4294967295

-- `last_slot` is the number of the last slot, the upper limit of `--slot`
abbrev last_slot : ℕ
last_slot = 12

-- an accepted value of `--kind` is readable
kind_read : (value : Text) → accepts false (parser.Names at_definition) value ≡ true → is_some (kind_of value) ≡ true
kind_read value = by_name (bytes_eq (codes "auto") value) (bytes_eq (codes "raw") value) (bytes_eq (codes "elf") value) where
  -- a text that is `auto`, `raw` or `elf` is the name of an image format
  by_name : (is_auto is_raw is_elf : Bool) → (is_auto || (is_raw || (is_elf || false))) ≡ true
      → is_some (option_map (λ (row : Text × ImageKind). row.1)
      (cond is_auto (Some (codes "auto", image.Auto))
      (cond is_raw (Some (codes "raw", image.Raw)) (cond is_elf (Some (codes "elf", image.Elf)) None)))) ≡ true
  by_name true is_raw is_elf accepted = refl
  by_name false true is_elf accepted = refl
  by_name false false true accepted = refl
  by_name false false false accepted = accepted

-- a text that the parser for a range of numbers accepts is read as a number of the range
number_between : (bits low high : ℕ) → high < 2 ^ bits → (value : Text) → accepts false (parser.Signed (pos low) (pos high)) value ≡ true
    → (number : ℕ) × (number_in_text bits (without_minus value) ≡ Some number) × (low ≤ number) × (number ≤ high)
number_between bits low high high_fits value accepted =
    signed_reads Bool (λ text result. ParsesUnsigned bits 10 text result) bits low high value (number_in_text bits (without_minus value))
    (number_reads bits (without_minus value)) (λ text result parses. parses) high_fits
    (accepts-Accepts false (parser.Signed (pos low) (pos high)) value accepted)

-- an accepted value of `--ram` is readable
ram_read : (value : Text) → accepts false (parser.Signed (pos 0) (pos max_u32)) value ≡ true
    → is_some (number_in_text 32 (without_minus value)) ≡ true
ram_read value accepted =
    let (number, number_is_read, from_low, up_to_high) = number_between 32 0 max_u32 (omega arith) value accepted in ap is_some number_is_read

-- an accepted value of `--slot` is readable
slot_read : (value : Text) → accepts false (parser.Signed (pos 0) (pos last_slot)) value ≡ true → is_slot (without_minus value) ≡ true
slot_read value accepted =
    let (number, number_is_read, from_0, up_to_last_slot) = number_between 8 0 last_slot (omega arith) value accepted in
    ap (λ found. option_map_or (λ slot. nat_lt slot 13) found false) number_is_read ∙ lt-ltb number 13 (omega arith)

-- 1 and 2 are valid numbers of harts
harts_counted : (number : ℕ) → 1 ≤ number → number ≤ 2 → is_some (counted_harts number) ≡ true
harts_counted number at_least_one at_most_two = grind (arith, nat_tests)

-- an accepted value of `--harts` is readable
harts_read : (value : Text) → accepts false (parser.Signed (pos 1) (pos 2)) value ≡ true → is_some (harts_in_text (without_minus value)) ≡ true
harts_read value accepted =
    let (number, number_is_read, at_least_one, at_most_two) = number_between 8 1 2 (omega arith) value accepted in
    ap (λ found. is_some (option_and_then counted_harts found)) number_is_read ∙ harts_counted number at_least_one at_most_two

-- if there is no error for the values of an option, all pass a test that each accepted value passes
values_pass : (value_parser : ValueParser) (test : Text → Bool) → ((value : Text) → accepts false value_parser value ≡ true → test value ≡ true)
    → (other_values : List Text) → values_kinds false value_parser other_values ≡ [] → list_all test other_values ≡ true
values_pass value_parser test each [] no_fault = refl
values_pass value_parser test each (value ∷ other_values) no_fault =
    let (first_accepted, others_accepted) = no_fault_in_parts _ _ no_fault in
    rw (
      each value (accepted_if_no_fault (accepts false value_parser value) first_accepted),
      values_pass value_parser test each other_values
          others_accepted,
    ) refl where
      -- a value is accepted if there is no error for it
      accepted_if_no_fault : (accepted : Bool) → cond accepted [] (refused_kind value_parser ∷ []) ≡ [] → accepted ≡ true
      accepted_if_no_fault true no_fault = refl
      accepted_if_no_fault false no_fault = cc

-- the arguments after `help` are not values of an option
topics_read : (other_values : List Text) → are_values (codes "subcommand") other_values ≡ true
topics_read [] = refl
topics_read (value ∷ other_values) = topics_read other_values

-- ---- the rules

-- a list with an error is not empty, so a premise that it is empty proves everything
not_empty : {P : Type 0} (fault : ErrorKind) (faults : Kinds) → fault ∷ faults ≡ [] → P
not_empty fault faults is_empty = cc

-- a flag with a value is an error, so the premise that no error was found is false
no_value_wanted : {P : Type 0} (number : ℕ) (faults : Kinds) → or_else (range_kinds 0 0 (suc number)) faults ≡ [] → P
no_value_wanted number faults none_given =
    let one_given : (0 == suc number) ≡ false = grind (arith, nat_tests) in not_empty _ _ (rw one_given at none_given)

module _ (elsewhere : Names) (alike : texts elsewhere.now ≡ kind_names) where
  -- the errors of a value do not depend on the address of the names
  value_same : (value_parser : ValueParser) (value : Text)
      → value_kinds false (with_names elsewhere value_parser) value ≡ value_kinds false (with_names at_definition value_parser) value
  value_same (parser.Names names) value =
      let test = λ (name : Text). same_text false name value in
      ap (λ accepted. cond accepted [] (kind.InvalidValue ∷ [])) (list_any-map test (λ name. name.now) elsewhere.now ∙ ap (list_any test) alike)
  value_same _ value = refl

  -- the errors of values do not depend on the address of the names
  values_same : (value_parser : ValueParser) (other_values : List Text)
      → values_kinds false (with_names elsewhere value_parser) other_values ≡ values_kinds false (with_names at_definition value_parser) other_values
  values_same value_parser [] = refl
  values_same value_parser (value ∷ other_values) = rw (value_same value_parser value, values_same value_parser other_values) refl

  -- a step that does not use the names is alike, if it keeps rows with readable values readable
  nameless : {rows after : List Row} {fault : Kinds} → (fault ≡ [] → Good rows → Good after)
      → Alike elsewhere result_as_rows rows (λ _. fault) (λ _. after)
  nameless rows_stay_good = record { same_faults = refl; same_result = refl; keeps_good = rows_stay_good }

  -- an option with a value does not depend on the address of the names
  valued_fits : (name : Text) (value_parser : ValueParser) → ((location : Names) → reading_of (with_names location value_parser) ≡ how name)
      → ((value : Text) → accepts false (with_names at_definition value_parser) value ≡ true → is_read name (read_as (how name) value) ≡ true)
      → Fits elsewhere (filled (valued name value_parser))
  valued_fits name value_parser same_reading accepted_is_read = record {
    uses = use_alike;
    default = λ rows. nameless (λ no_fault good. either_good (has_row name rows) rows rows good good);
  }
    where
      -- a use of the option with these values does not depend on the address of the names
      use_alike : (again : Bool) (values : List Text) (rows : List Row) → Alike elsewhere result_as_rows rows
          (λ location. use_fault again (rule_at location (filled (valued name value_parser))) values rows)
          (λ location. used (rule_at location (filled (valued name value_parser))) values rows)
      use_alike again [] rows = record {
        same_faults = refl;
        same_result = rw (same_reading elsewhere, same_reading at_definition) refl;
        keeps_good = λ no_fault good. not_empty _ _ no_fault;
      }
      use_alike again (value ∷ other_values) rows = record {
        same_faults = rw (values_same value_parser (value ∷ other_values)) refl;
        same_result = rw (same_reading elsewhere, same_reading at_definition) refl;
        keeps_good = λ no_fault good.
            -- the errors of a use are those of the number of values, then those of a repeated use, and then those of the values
            let (none_in_number, none_in_rest) = no_fault_in_parts _ _ no_fault in
            let (none_in_repetition, values_accepted) = no_fault_in_parts _ _ none_in_rest in
            let values_read =
            values_pass (with_names at_definition value_parser) (λ value. is_read name (read_as (how name) value)) accepted_is_read
            (value ∷ other_values) values_accepted in
            rw (same_reading at_definition) (values_good name CommandLine (value ∷ other_values) _ values_read (without_good name rows good));
      }

  -- `--monitor` does not depend on the address of the names
  monitor_fits : Fits elsewhere (filled line.monitor)
  monitor_fits = record {
    uses = use_alike;
    default = λ rows. nameless (λ no_fault good.
        let unset = values_good (codes "monitor") DefaultValue (codes "false" ∷ []) rows refl good in
        either_good (has_row (codes "monitor") rows) rows _ good unset);
  }
    where
      -- a use of `--monitor` with these values does not depend on the address of the names
      use_alike : (again : Bool) (values : List Text) (rows : List Row) → Alike elsewhere result_as_rows rows
          (λ location. use_fault again (rule_at location (filled line.monitor)) values rows)
          (λ location. used (rule_at location (filled line.monitor)) values rows)
      use_alike again [] rows = nameless (λ no_fault good.
          values_good (codes "monitor") CommandLine (codes "true" ∷ []) _ refl (without_good (codes "monitor") rows good))
      use_alike again (value ∷ other_values) rows = nameless (λ no_fault good. no_value_wanted (length other_values) _ no_fault)

  -- `--help` does not depend on the address of the names
  help_fits : Fits elsewhere (filled help_rule)
  help_fits = record {
    uses = λ again values rows. nameless (λ no_fault good. good);
    default = λ rows. nameless (λ no_fault good. either_good (has_row (codes "help") rows) rows rows good good);
  }

  -- the topic of help does not depend on the address of the names
  topic_fits : Fits elsewhere (record (filled topic_rule) { index = Some 1 })
  topic_fits = record {
    uses = λ again values rows. nameless (λ no_fault good.
        let raw = values_or_missing (filled topic_rule) values in values_good (codes "subcommand") CommandLine raw rows (topics_read raw) good);
    default = λ rows. nameless (λ no_fault good. either_good (has_row (codes "subcommand") rows) rows rows good good);
  }

  -- the errors and the rows of the entered subcommand do not depend on the address of the names, since each of its rules does not
  enters : (stop : Option (Text × List Text))
      → Alike elsewhere entered_rows [] (λ location. entered_fault (built (program location)) stop)
      (λ location. entered (built (program location)) stop)
  enters =
      let kind = valued_fits (codes "kind") (parser.Names at_definition) (λ location. refl) kind_read in
      let ram = valued_fits (codes "ram") (parser.Signed (pos 0) (pos max_u32)) (λ location. refl) ram_read in
      let harts = valued_fits (codes "harts") (parser.Signed (pos 1) (pos 2)) (λ location. refl) harts_read in
      let slot = valued_fits (codes "slot") (parser.Signed (pos 0) (pos last_slot)) (λ location. refl) slot_read in
      entered_alike elsewhere (built rvbench).subs (
        (kind, (ram, (monitor_fits, (harts, (help_fits, tt))))),
        ((slot, (kind, (ram, (harts, (help_fits, tt))))), ((help_fits, tt), ((help_fits, tt), ((topic_fits, tt), tt)))),
      )

-- ---- the program, with the names at any address and at that of the definition

-- `stop_at` is the word of the subcommand, and the words after it
abbrev stop_at : List Text → Option (Text × List Text)
stop_at words = let app = built rvbench in stop_after app.top.rules (names_of app) (argument_words app words)

-- the errors and the subcommand of the arguments do not depend on the address of the names
pub program_alike : (elsewhere : Names) → texts elsewhere.now ≡ kind_names → (words : List Text)
    → (fault_of (program elsewhere) words ≡ faults_of words) × (subcommand_of (program elsewhere) words ≡ subcommand_of rvbench words)
program_alike elsewhere same_names words =
    let entered = enters elsewhere same_names (stop_at words) in (rw (entered.same_result, entered.same_faults) refl, entered.same_result)

-- if the arguments are accepted, the options of the subcommand have readable values
pub accepted_good : (words : List Text) → faults_of words ≡ [] → Good (entered_rows (subcommand_of rvbench words))
accepted_good words no_fault =
    let app = built rvbench in
    let walks = walk_fault app.top (names_of app) (walk_from nothing_held) (argument_words app words) in
    let (none_in_walk, none_after_walk) = no_fault_in_parts walks _ no_fault in
    let (none_in_entered, none_later) = no_fault_in_parts (entered_fault app (stop_at words)) _ none_after_walk in
    (enters at_definition refl (stop_at words)).keeps_good none_in_entered tt
