-- A closed instance of the law of declassification, from input to output, proved by computation. Two inputs poke the secret bytes 41 and 5a. Their
-- image and first lines lead to the bench of the instance for commands (`secret_bench`), and their other lines are its commands.
use Rattle.std.proofs.Common.{◌≡◌, ℕ, List, codes, IfOk, Result, Ok, Err, refl, sym, ◌∙◌, ap, subst}
use Rattle.std.specs.Prelude.{IsOkAnd}
use Rattle.rv_word.specs.Cases.{result_case}
use Rattle.rv_memory.specs.Memory.{write}
use Rattle.rv_text.specs.GoodLines.{is_text}
use Rattle.rv_text.specs.Lines.{lines_of}
use Rattle.rv_text.specs.Numbers.{number_of_digits}
use Rattle.rv_text.specs.Words.{words_of}
use Rattle.rv_script.specs.Command.{keyword_of, meaning_of, parse_of}
use Rattle.rv_script.specs.Numbers.{byte_of_text, decimal_of, hexadecimal_of}
use Rattle.rv_monitor.specs.MonitoredMachine.{at_start}
use Rattle.rv_debug.specs.BenchState.{BenchState, monitored}
use Rattle.rv_debug.specs.Execute.{execute, execute_line}
use Rattle.rv_debug.specs.SecretRun.{calling_host, secret_bench}
use Rattle.rv_debug.proofs.SecretCommands.{commands_alike}
use Rattle.rv_elf.specs.Faults.{place_faults}
use Rattle.rv_elf.specs.Places.{meets_reserved}
use Rattle.rv_elf.specs.Segments.{occupying}
use Rattle.rv_streams.specs.Image.{bytes_of_digits, image_in}
use Rattle.rv_streams.specs.Separator.{after_separator, line_word}
use Rattle.rv_streams.specs.declared.fault.BenchFault.{BenchFault}
use Rattle.rv_bench.specs.Declassification.{DifferInEnclave, LinesAlike}
use Rattle.rv_bench.specs.Loaded.{started}
use Rattle.rv_bench.specs.Output.{bench_in}
use Rattle.rv_bench.specs.Replies.{bench_line, state_after}
use Rattle.rv_bench.specs.SecretScript.{SecretScriptLaw, secret_input, secret_prefix, secret_script, secret_setup}
use Rattle.rv_bench.proofs.Declassified.{secret_declassification}
use Rattle.rv_bench.proofs.SecretImage.{loaded, memory_is}

-- ---- the bench

-- the bench at reset with the memory `loaded`, pc 80010000 and one hart
abbrev bench_at_reset : BenchState
bench_at_reset = monitored (at_start loaded 0x80010000 1)

-- the lines of the script before the secret
abbrev first_lines : List (List ℕ)
first_lines = lines_of (after_separator secret_prefix)

-- the lines of the script from the secret on, with the secret 41
abbrev lines_with_41 : List (List ℕ)
lines_with_41 = lines_of (secret_script (codes "41"))

-- the same lines with the other secret
abbrev lines_with_5a : List (List ℕ)
lines_with_5a = lines_of (secret_script (codes "5a"))

-- the text before the separator is the image of the host's code
image_is : image_in secret_prefix ≡ Ok calling_host
unfolding bytes_of_digits line_word is_text words_of
image_is = refl

-- the image starts the bench at reset, since `loaded` is the memory that the loader makes
started_is : started calling_host secret_setup ≡ Ok bench_at_reset
unfolding started place_faults occupying meets_reserved
started_is =
    let bench : List ℕ → Result BenchState BenchFault = λ memory. Ok (monitored (at_start memory 0x80010000 1)) in
    ap bench memory_is

-- the input starts the bench at reset
bench_is : bench_in secret_setup secret_prefix ≡ Ok bench_at_reset
bench_is = ap (λ (image : Result (List ℕ) BenchFault). result_case image (λ bytes. started bytes secret_setup) Err) image_is ∙ started_is

-- the first lines of the script lead to the bench of the instance for commands
first_lines_lead_to_bench : state_after bench_line bench_at_reset first_lines ≡ secret_bench
unfolding at_start execute execute_line write line_word parse_of is_text meaning_of words_of keyword_of hexadecimal_of number_of_digits
    byte_of_text decimal_of
first_lines_lead_to_bench = refl

-- ---- the lines

-- the lines of both scripts are alike, since their commands are
scripts_alike : LinesAlike 0 secret_bench secret_bench lines_with_41 lines_with_5a
unfolding execute_line parse_of is_text meaning_of words_of keyword_of hexadecimal_of number_of_digits byte_of_text decimal_of
scripts_alike = commands_alike 0x41 0x5a

-- the two inputs differ only in the secret
differ : DifferInEnclave 0 secret_setup (secret_input (codes "41")) (secret_input (codes "5a"))
unfolding line_word is_text words_of
differ = record {
  prefix = secret_prefix;
  rest = secret_script (codes "41");
  other_rest = secret_script (codes "5a");
  input_is = refl;
  other_is = refl;
  whole_prefix = refl;
  separated = refl;
  alike =
      let AlikeFrom : BenchState → Type 0 = λ start. LinesAlike 0 start start lines_with_41 lines_with_5a in
      subst (λ (bench : Result BenchState BenchFault). IfOk bench (λ bench. AlikeFrom (state_after bench_line bench first_lines))) (sym bench_is)
      (subst AlikeFrom (sym first_lines_lead_to_bench) scripts_alike);
}

-- proves the instance of the law for two inputs, by computation
pub secret_script_law : SecretScriptLaw
secret_script_law = record {
  starts =
      subst (λ (bench : Result BenchState BenchFault). IsOkAnd bench (λ bench. state_after bench_line bench first_lines ≡ secret_bench))
      (sym bench_is) first_lines_lead_to_bench;
  differ = differ;
  alike = secret_declassification secret_setup (secret_input (codes "41")) 0 (secret_input (codes "5a")) differ;
}
