-- If the arguments are accepted, each given option of `run` and of `twin` has a readable value, and the arguments mean a valid job.
use Rattle.std.proofs.Common.{◌≡◌, [], Bool, codes, cond, false, List, None, Option, refl, Some, true}
use Rattle.std.specs.Option.{option_map_or}
use Rattle.std.specs.Prelude.{Err, IfErr, IfOk, nat_lt, Ok, OnOk, option_and_then, Result, unwrap_or, ℕ}
use Rattle.std.specs.Str.{bytes_eq}
use Rattle.clap.specs.Simple.{subcommand_of}
use Rattle.clap.specs.Walk.{one_of, Row, Text}
use Rattle.rv_command_line.proofs.Alike.{entered_rows}
use Rattle.rv_command_line.proofs.Options.{accepted_good}
use Rattle.rv_command_line.proofs.Readable.{either_good, Good, kind_read, one_read}
use Rattle.rv_command_line.specs.CommandLine.{faults_of, rvbench}
use Rattle.rv_command_line.specs.Faults.{IsFaultOf}
use Rattle.rv_command_line.specs.Job.{are_options_read, has_its_monitor, is_valid_job, is_setup_read, is_slot, job_of, named_job, number_in_text}
use Rattle.rv_command_line.specs.Job.{run_of, twin_of}
use Rattle.rv_command_line.specs.Refusals.{refusals_of}
use Rattle.rv_command_line.specs.declared.job.Job.{Job}
use Rattle.rv_command_line.specs.declared.job.Job.TheVariants as job
use Rattle.rv_command_line.specs.declared.words_fault.WordsFault.{WordsFault}
use Rattle.rv_command_line.specs.declared.words_fault.WordsFault.TheVariants as fault

-- the rows of a subcommand's options are good (have readable values) if those of the entered subcommand are, or it was not entered
options_good : (name : Text) (met : Option (Text × List Row)) → Good (entered_rows met)
    → Good (option_map_or (λ met. cond (bytes_eq met.0 name) met.1 []) met [])
options_good name None good = tt
options_good name (Some (entered_name, rows)) good = either_good (bytes_eq entered_name name) rows [] good tt

-- rows with readable values (good rows) have a readable setup
setup_read : (rows : List Row) → Good rows → is_setup_read rows ≡ true
setup_read rows good = rw (kind_read rows good, one_read (codes "ram") rows good, one_read (codes "harts") rows good) refl

-- arguments without an error have readable options
accepted_options_read : (words : List Text) → faults_of words ≡ [] → are_options_read words ≡ true
accepted_options_read words no_fault =
    let good = λ (name : Text). options_good name (subcommand_of rvbench words) (accepted_good words no_fault) in
    rw (
      setup_read _ (good (codes "run")),
      one_read (codes "monitor") _ (good (codes "run")),
      setup_read _ (good (codes "twin")),
      one_read (codes "slot") _ (good (codes "twin")),
    ) refl

-- the slot in the arguments is below 13, the number of slots; without a slot, it is 0
slot_below : (slot : Option Text) → option_map_or is_slot slot true ≡ true → nat_lt (unwrap_or (option_and_then (number_in_text 8) slot) 0) 13 ≡ true
slot_below None no_slot = refl
slot_below (Some text) slot_is_valid = by_number (number_in_text 8 text) slot_is_valid where
  -- the same claim by cases on the number in the text, or `None` if the text is no number
  by_number : (slot : Option ℕ) → option_map_or (λ number. nat_lt number 13) slot false ≡ true → nat_lt (unwrap_or slot 0) 13 ≡ true
  by_number None slot_is_valid = refl
  by_number (Some number) slot_is_valid = slot_is_valid

-- the job of a subcommand with good options is valid
named_valid : (met : Option (Text × List Row)) → Good (entered_rows met) → is_valid_job (named_job met) ≡ true
named_valid None good = refl
named_valid (Some (name, rows)) good = by_name (bytes_eq name (codes "asm")) (bytes_eq name (codes "dis")) (bytes_eq name (codes "twin")) where
  -- the same claim by cases on the tests of the subcommand's name; only a twin run has a slot, which must be valid
  by_name : (is_asm is_dis is_twin : Bool)
      → is_valid_job (cond is_asm job.Asm (cond is_dis job.Dis (cond is_twin (twin_of rows) (run_of rows)))) ≡ true
  by_name true is_dis is_twin = refl
  by_name false true is_twin = refl
  by_name false false true = slot_below (one_of (codes "slot") rows) (one_read (codes "slot") rows good)
  by_name false false false = refl

-- arguments without an error have a valid job
accepted_job_valid : (words : List Text) → faults_of words ≡ [] → is_valid_job (job_of words) ≡ true
accepted_job_valid words no_fault = named_valid (subcommand_of rvbench words) (accepted_good words no_fault)

-- the clauses of `read_words`: the job of the arguments if they are accepted, or else an error that they have
abbrev pub Answers : List Text → Result Job WordsFault → Type 0
Answers words result = record {
  taken : OnOk result (refusals_of words ≡ []);
  job : IfOk result (λ job. job ≡ job_of words);
  read : OnOk result (are_options_read words ≡ true);
  valid : IfOk result (λ job. is_valid_job job ≡ true);
  monitor : IfOk result (λ job. has_its_monitor job ≡ true);
  fault : IfErr result (IsFaultOf (refusals_of words));
}

-- arguments without an error mean the job of the definition, or are refused since they ask for two harts without the monitor
pub answers : (words : List Text) → faults_of words ≡ [] → (has_monitor : Bool) → has_its_monitor (job_of words) ≡ has_monitor
    → Answers words (cond has_monitor (Ok (job_of words)) (Err fault.Refused))
answers words no_fault true monitor_is = record {
  taken = rw (no_fault, monitor_is) refl;
  job = refl;
  read = accepted_options_read words no_fault;
  valid = accepted_job_valid words no_fault;
  monitor = monitor_is;
  fault = tt;
}
answers words no_fault false no_monitor = record { taken = tt; job = tt; read = tt; valid = tt; monitor = tt; fault = rw (no_fault, no_monitor) refl }
