-- The job of the arguments of a command line. (This project's own command line.)
use Rattle.std.specs.Prelude.{◌&&◌, ◌||◌, ◌==◌, ◌^◌, ℕ, Bool, true, false, List, [], codes, find, is_some, nat_lt}
use Rattle.std.specs.Prelude.{Option, Some, None, if◌then◌else◌, option_and_then, option_map, unwrap_or}
use Rattle.std.specs.Option.{option_map_or}
use Rattle.std.specs.Str.{bytes_eq}
use Rattle.std.specs.Str.Parse.{digits_value, without_leading_plus}
use Rattle.clap.specs.ValueTests.{is_numeral}
use Rattle.clap.specs.Words.{Row, Text, first_of, one_of, subcommand_of}
use Rattle.rv_memory.specs.Harts.{counted_harts, number_of_harts}
use Rattle.rv_memory.specs.declared.harts.Harts.{Harts}
use Rattle.rv_memory.specs.declared.harts.Harts.TheVariants as harts
use Rattle.rv_command_line.specs.CommandLine.{kinds, rvbench}
use Rattle.rv_command_line.specs.declared.image_kind.ImageKind.{ImageKind}
use Rattle.rv_command_line.specs.declared.image_kind.ImageKind.TheVariants as image
use Rattle.rv_command_line.specs.declared.job.Job.{Job}
use Rattle.rv_command_line.specs.declared.job.Job.TheVariants as job
use Rattle.rv_command_line.specs.declared.setup.Setup.{Setup}

-- `kind_of` is the image kind with a name
abbrev pub kind_of : Text → Option ImageKind
kind_of name = option_map (λ row. row.1) (find (λ row. bytes_eq row.0 name) kinds)

-- the number that a text of decimal digits, with an optional plus before them, has in `bits` bits
abbrev pub number_in_text : ℕ → Text → Option ℕ
number_in_text bits text =
    let digits = without_leading_plus text in
    if is_numeral digits && nat_lt (digits_value 10 digits) (2 ^ bits) then Some (digits_value 10 digits) else None

-- `harts_in_text` is the number of harts in a text
abbrev pub harts_in_text : Text → Option Harts
harts_in_text text = option_and_then counted_harts (number_in_text 8 text)

-- `truth_in_text` is the Boolean in a text
abbrev pub truth_in_text : Text → Option Bool
truth_in_text text =
    if bytes_eq text (codes "true") then Some true
    else (if bytes_eq text (codes "false") then Some false else None)

-- `setup_of` is the setup from `--kind`, `--ram` and `--harts`, with or without the monitor; the default RAM has 1 MiB (1048576 bytes)
abbrev pub setup_of : Bool → List Row → Setup
setup_of monitored options = record {
  kind = unwrap_or (option_and_then kind_of (first_of (codes "kind") options)) image.Auto;
  ram = unwrap_or (option_and_then (number_in_text 32) (one_of (codes "ram") options)) 1048576;
  monitored = monitored;
  harts = unwrap_or (option_and_then harts_in_text (one_of (codes "harts") options)) harts.One;
}

-- `run_of` is the job of `run` with its options, without the monitor unless they have `--monitor`
abbrev pub run_of : List Row → Job
run_of options = job.Run (setup_of (unwrap_or (option_and_then truth_in_text (one_of (codes "monitor") options)) false) options)

-- `twin_of` is the job of `twin` with its options; always with the monitor, and slot 0 by default
abbrev pub twin_of : List Row → Job
twin_of options = job.Twin (setup_of true options) (unwrap_or (option_and_then (number_in_text 8) (one_of (codes "slot") options)) 0)

-- `named_job` is the job of a subcommand with its options, or the job without a subcommand
abbrev pub named_job : Option (Text × List Row) → Job
named_job None = run_of []
named_job (Some (name, options)) =
    if bytes_eq name (codes "asm") then job.Asm
    else (if bytes_eq name (codes "dis") then job.Dis
    else (if bytes_eq name (codes "twin") then twin_of options else run_of options))

-- the job of the arguments; the first argument is the program's name
abbrev pub job_of : List Text → Job
job_of words = named_job (subcommand_of rvbench words)

-- `options_of` has the options for the subcommand with this name in the arguments
abbrev pub options_of : Text → List Text → List Row
options_of name words = option_map_or (λ met. if bytes_eq met.0 name then met.1 else []) (subcommand_of rvbench words) []

-- The values of `--kind` and `--ram`, if they are given, are readable. With the tests below for the other options, a default is used only for an
-- option that is not given.
abbrev pub is_image_read : List Row → Bool
is_image_read options = option_map_or (λ text. is_some (kind_of text)) (first_of (codes "kind") options) true
    && option_map_or (λ text. is_some (number_in_text 32 text)) (one_of (codes "ram") options) true

-- the value of `--harts`, if it is given, is readable
abbrev pub are_harts_read : List Row → Bool
are_harts_read options = option_map_or (λ text. is_some (harts_in_text text)) (one_of (codes "harts") options) true

-- the values of `--kind`, `--ram` and `--harts`, if they are given, are readable
abbrev pub is_setup_read : List Row → Bool
is_setup_read options = is_image_read options && are_harts_read options

-- the value of `--monitor`, if it is given, is readable
abbrev pub is_monitor_read : List Row → Bool
is_monitor_read options = option_map_or (λ text. is_some (truth_in_text text)) (one_of (codes "monitor") options) true

-- `is_slot` states whether a text is the number of one of the thirteen slots
abbrev pub is_slot : Text → Bool
is_slot text = option_map_or (λ n. nat_lt n 13) (number_in_text 8 text) false

-- the value of `--slot`, if it is given, is a number from 0 to 12
abbrev pub is_slot_read : List Row → Bool
is_slot_read options = option_map_or is_slot (one_of (codes "slot") options) true

-- the values of the options of `run` are readable
abbrev pub are_run_read : List Row → Bool
are_run_read options = is_setup_read options && is_monitor_read options

-- the values of the options of `twin` are readable
abbrev pub are_twin_read : List Row → Bool
are_twin_read options = is_setup_read options && is_slot_read options

-- all options in the arguments have readable values
abbrev pub are_options_read : List Text → Bool
are_options_read words = are_run_read (options_of (codes "run") words) && are_twin_read (options_of (codes "twin") words)

-- a job with a slot has one of the thirteen, and a setup with the monitor
abbrev pub is_valid_job : Job → Bool
is_valid_job (job.Twin setup slot) = setup.monitored && nat_lt slot 13
is_valid_job _ = true

-- a setup with two harts has the monitor
abbrev pub has_valid_harts : Setup → Bool
has_valid_harts setup = setup.monitored || number_of_harts setup.harts == 1

-- a job whose setup has two harts has the monitor
abbrev pub has_its_monitor : Job → Bool
has_its_monitor (job.Run setup) = has_valid_harts setup
has_its_monitor (job.Twin setup slot) = has_valid_harts setup
has_its_monitor _ = true
