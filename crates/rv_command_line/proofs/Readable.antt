-- Rows of options whose values are readable (`Good`): they stay so when values are set, and the value of an option in them is readable.
use Rattle.std.proofs.Common.{◌∷◌, ◌≡◌, ◌||◌, ◌++◌, [], Bool, codes, cond, false, List, Option, option_map, refl, Some, sym, true}
use Rattle.std.proofs.lemmas.List.Folds.{list_all-append}
use Rattle.std.proofs.lemmas.Slice.Eq.{bytes_eq-Decides}
use Rattle.std.specs.List.{AllByRecursion, list_all}
use Rattle.std.specs.Option.{option_map_or}
use Rattle.std.specs.Prelude.{find, is_some, option_and_then, slice_get}
use Rattle.std.specs.Str.{bytes_eq}
use Rattle.clap.proofs.WalkLemmas.{both}
use Rattle.clap.specs.Values.{read_as}
use Rattle.clap.specs.Walk.{first_of, more_values, one_of, Row, row_text, Text, with_values, without}
use Rattle.clap.specs.declared.builder.value_parser.Reading.{Reading}
use Rattle.clap.specs.declared.builder.value_parser.Reading.TheVariants as reading
use Rattle.clap.specs.declared.parser.matches.ValueSource.{ValueSource}
use Rattle.rv_command_line.specs.Job.{harts_in_text, is_slot, kind_of, number_in_text, truth_in_text}

-- `how` is the way in which the value of the option with this id is read
abbrev pub how : Text → Reading
how id = cond (bytes_eq id (codes "ram") || bytes_eq id (codes "harts") || bytes_eq id (codes "slot")) reading.WithoutMinus reading.AsWritten

-- `is_read` states whether a text is a readable value of the option
abbrev pub is_read : Text → Text → Bool
is_read id text =
    cond (bytes_eq id (codes "kind")) (is_some (kind_of text))
    (cond (bytes_eq id (codes "ram")) (is_some (number_in_text 32 text))
    (cond (bytes_eq id (codes "harts")) (is_some (harts_in_text text))
    (cond (bytes_eq id (codes "monitor")) (is_some (truth_in_text text))
    (cond (bytes_eq id (codes "slot")) (is_slot text) true))))

-- each text of a list is a readable value of the option
abbrev pub are_values : Text → List Text → Bool
are_values id = list_all (λ value. is_read id (read_as (how id) value))

-- a row has the reading of its option, and readable values
abbrev pub GoodRow : Row → Type 0
GoodRow row = (row.reading ≡ how row.id) × (are_values row.id row.values ≡ true)

-- each row has the reading of its option, and readable values
abbrev pub Good : List Row → Type 0
Good = AllByRecursion GoodRow

-- the chosen rows are good if the rows of both choices are good
pub either_good : (test : Bool) (rows others : List Row) → Good rows → Good others → Good (cond test rows others)
either_good true rows others rows_good others_good = rows_good
either_good false rows others rows_good others_good = others_good

-- rows stay good if the rows of one option are removed
pub without_good : (id : Text) (rows : List Row) → Good rows → Good (without id rows)
without_good id [] good = tt
without_good id (row ∷ other_rows) (row_good, others_are_good) = by_id (bytes_eq row.id id) (without_good id other_rows others_are_good) where
  -- the same claim by cases on whether the first row is one of that option
  by_id : (same_id : Bool) → Good (without id other_rows) → Good (cond same_id other_rows (row ∷ without id other_rows))
  by_id true kept_rows_good = others_are_good
  by_id false kept_rows_good = (row_good, kept_rows_good)

-- rows stay good if readable values of one option are added
pub values_good : (id : Text) (source : ValueSource) (values : List Text) (rows : List Row) → are_values id values ≡ true → Good rows
    → Good (with_values id (how id) source values rows)
values_good id source values [] values_readable good = ((refl, values_readable), tt)
values_good id source values (row ∷ other_rows) values_readable ((row_has_reading, row_values_readable), others_good) =
    by_id (bytes_eq row.id id) refl (values_good id source values other_rows values_readable others_good)
  where
    -- the same claim by cases on whether the first row is one of the option
    by_id : (same_id : Bool) → bytes_eq row.id id ≡ same_id → Good (with_values id (how id) source values other_rows)
        → Good (cond same_id (more_values source values row ++ other_rows) (row ∷ with_values id (how id) source values other_rows))
    by_id true id_is others_with_values_good =
        let (equal_if_test, test_if_equal) = bytes_eq-Decides row.id id in
        let ids_are_equal = equal_if_test id_is in (
          (
            row_has_reading,
            -- the row then has its readable values, followed by the new values, which are readable as values of the option `id`
            rw (list_all-append (λ value. is_read row.id (read_as (how row.id) value)) row.values values, row_values_readable, ids_are_equal)
                values_readable,
          ),
          others_good,
        )
    by_id false id_is others_with_values_good = ((row_has_reading, row_values_readable), others_with_values_good)

-- if a text is readable in each good row with this id, it is readable in the row that a search for the id finds
row_read : (id : Text) (text : Row → Option Text) → ((row : Row) → row.id ≡ id → GoodRow row → option_map_or (is_read id) (text row) true ≡ true)
    → (rows : List Row) → Good rows → option_map_or (is_read id) (option_and_then text (find (λ row. bytes_eq row.id id) rows)) true ≡ true
row_read id text each_read [] good = refl
row_read id text each_read (row ∷ other_rows) (row_good, others_good) =
    by_id (bytes_eq row.id id) refl (row_read id text each_read other_rows others_good)
  where
    -- the same claim by cases on whether the first row has the id
    by_id : (same_id : Bool) → bytes_eq row.id id ≡ same_id
        → option_map_or (is_read id) (option_and_then text (find (λ row. bytes_eq row.id id) other_rows)) true ≡ true
        → option_map_or (is_read id) (option_and_then text (cond same_id (Some row) (find (λ row. bytes_eq row.id id) other_rows))) true ≡ true
    by_id true id_is others_read = let (equal_if_test, test_if_equal) = bytes_eq-Decides row.id id in each_read row (equal_if_test id_is) row_good
    by_id false id_is others_read = others_read

-- the first of several readable values is readable
first_read : (id : Text) (other_values : List Text) → are_values id other_values ≡ true
    → option_map_or (is_read id) (option_map (read_as (how id)) (slice_get other_values 0)) true ≡ true
first_read id [] all_read = refl
first_read id (value ∷ other_values) all_read =
    let (value_is_read, others_are_read) = both (is_read id (read_as (how id) value)) (are_values id other_values) all_read in value_is_read

-- in good rows, the value of an option is readable, if the option has a value
pub one_read : (id : Text) (rows : List Row) → Good rows → option_map_or (is_read id) (one_of id rows) true ≡ true
one_read id = row_read id row_text (λ row same_id row_good. let (row_has_reading, row_values_readable) = row_good in
    rw (row_has_reading, sym same_id) (first_read row.id row.values row_values_readable))

-- in good rows, the value of `--kind` is readable, if the option has a value
pub kind_read : (rows : List Row) → Good rows → option_map_or (is_read (codes "kind")) (first_of (codes "kind") rows) true ≡ true
kind_read = row_read (codes "kind") (λ row. slice_get row.values 0) (λ row same_id row_good.
    let (row_has_reading, row_values_readable) = row_good in first_value_read row.values (rw same_id at row_values_readable))
  where
    -- the first of readable values of `--kind` is readable, if there is one
    first_value_read : (other_values : List Text) → are_values (codes "kind") other_values ≡ true
        → option_map_or (is_read (codes "kind")) (slice_get other_values 0) true ≡ true
    first_value_read [] all_read = refl
    first_value_read (value ∷ other_values) all_read =
        let (value_is_read, others_are_read) = both (is_read (codes "kind") value) (are_values (codes "kind") other_values) all_read in value_is_read
