-- Declassification over scripts: lines that are alike keep two benches related for `enclave`, and the observed parts of the replies are equal. The
-- proof is by the law of one command and induction over the lines, and then compares two inputs.
use Rattle.std.proofs.Common.{◌≡◌, ℕ, false, inl, List, [], ◌∷◌, ◌++◌, Result, Ok, Err, IfOk, refl, sym, ◌∙◌, ap, ap₂, true}
use Rattle.rv_word.specs.Cases.{result_case}
use Rattle.rv_text.specs.Lines.{lines_of, through_last_feed}
use Rattle.rv_script.specs.Command.{parse_of}
use Rattle.rv_script.specs.declared.command.Command.{Command}
use Rattle.rv_script.specs.declared.command.CommandFault.{CommandFault}
use Rattle.rv_debug.specs.BenchState.{BenchState}
use Rattle.rv_debug.specs.BothBenches.{RunsOnNoneIn, is_entered}
use Rattle.rv_debug.specs.Declassification.{AreRelatedForAll, BenchesAreRelated, WindowsAreEqual}
use Rattle.rv_debug.specs.Execute.{execute, execute_line, execute_or_fault}
use Rattle.rv_debug.specs.Noninterference.{harts_named}
use Rattle.rv_debug.specs.Observed.{observed}
use Rattle.rv_debug.specs.ReplyText.{command_fault_text}
use Rattle.rv_debug.specs.Targets.{TargetInvariant}
use Rattle.rv_debug.proofs.Declassification.{declassification, relation_law}
use Rattle.rv_debug.proofs.Ended.{ended_law}
use Rattle.rv_debug.proofs.LowCommands.{low_command}
use Rattle.rv_command_line.specs.declared.setup.Setup.{Setup}
use Rattle.rv_streams.specs.Separator.{after_separator, has_separator}
use Rattle.rv_streams.specs.declared.fault.BenchFault.{BenchFault}
use Rattle.rv_bench.specs.Declassification.{LineIsLow, LinesAreLow, LinesAlike, LinesObservedAlike, ParsedAlike, ScriptDeclassification}
use Rattle.rv_bench.specs.Declassification.{SecretDeclassification, observed_line, observed_output}
use Rattle.rv_bench.specs.Loaded.{started}
use Rattle.rv_bench.specs.Output.{bench_in}
use Rattle.rv_bench.specs.Replies.{bench_line, replies, state_after}
use Rattle.rv_bench.proofs.IntegrityLemmas.{line_keeps_invariant, lines_keep_invariant}
use Rattle.rv_bench.proofs.PrefixLines.{bench_in-prefix, script_lines-prefix}
use Rattle.rv_bench.proofs.RepliesLemmas.{replies-append}
use Rattle.rv_bench.proofs.Starts.{StartInvariant, bench_in_invariant, of_started}

module _ (enclave : ℕ) where
  -- ---- one line of each bench

  -- two lines have equal observations, and leave related benches
  record LineObserved (first second : BenchState) (line other : List ℕ) : Type 0 where
    -- the observed parts of the replies are equal
    pub text : (observed_line enclave first line).reply ≡ (observed_line enclave second other).reply
    -- the benches are related after the lines
    pub state : BenchesAreRelated enclave (execute_line first line).state (execute_line second other).state

  -- two lines that are alike have equal observations, and leave related benches
  line_observed : (first second : BenchState) (line other : List ℕ) → TargetInvariant first.target → TargetInvariant second.target
      → BenchesAreRelated enclave first second → ParsedAlike enclave first second (parse_of line) (parse_of other)
      → LineObserved first second line other
  unfolding execute_line
  line_observed first second line other first_invariant second_invariant related alike =
      let (text, state) = by_parsed (parse_of line) (parse_of other) alike in record { text = text; state = state } where
        -- two parsed lines that are alike have equal observations, and leave related benches
        by_parsed : (parsed other_parsed : Result Command CommandFault) → ParsedAlike enclave first second parsed other_parsed
            → (result_case parsed (observed enclave first) command_fault_text ≡ result_case other_parsed (observed enclave second) command_fault_text)
            × BenchesAreRelated enclave (execute_or_fault first parsed).state (execute_or_fault second other_parsed).state
        by_parsed (Ok command) (Ok other_command) alike =
            let alike_after = declassification enclave first second command other_command first_invariant second_invariant related alike in
            (alike_after.observed, alike_after.state)
        by_parsed (Err fault) (Err other_fault) same_fault = (ap command_fault_text same_fault, related)
        by_parsed (Ok command) (Err fault) impossible = absurd impossible
        by_parsed (Err fault) (Ok command) impossible = absurd impossible

  -- ---- lines

  -- lines that are alike have equal observations on related benches, and leave them related, by induction over both lists
  pub lines_observed : (first second : BenchState) (lines others : List (List ℕ)) → TargetInvariant first.target → TargetInvariant second.target
      → BenchesAreRelated enclave first second → LinesAlike enclave first second lines others → LinesObservedAlike enclave first second lines others
  lines_observed first second [] [] first_invariant second_invariant related alike = record { text = refl; state = related }
  lines_observed first second [] (other ∷ others) first_invariant second_invariant related impossible = absurd impossible
  lines_observed first second (line ∷ lines) [] first_invariant second_invariant related impossible = absurd impossible
  lines_observed first second (line ∷ lines) (other ∷ others) first_invariant second_invariant related (alike, others_alike) =
      let observed = line_observed first second line other first_invariant second_invariant related alike in
      let later = lines_observed (execute_line first line).state (execute_line second other).state lines others
      (line_keeps_invariant first line first_invariant) (line_keeps_invariant second other second_invariant) observed.state others_alike in
      record { text = ap₂ (λ (one others : List ℕ). one ++ others) observed.text later.text; state = later.state }

  -- ---- low lines

  -- A low line does not step a hart on which the enclave runs, and does not enter the enclave. It is alike in both benches, and leaves equal windows.
  line_low : (first second : BenchState) (line : List ℕ) → TargetInvariant first.target → TargetInvariant second.target
      → BenchesAreRelated enclave first second → WindowsAreEqual enclave first second → LineIsLow enclave first line
      → ParsedAlike enclave first second (parse_of line) (parse_of line)
      × WindowsAreEqual enclave (execute_line first line).state (execute_line second line).state
  unfolding execute_line
  line_low first second line first_invariant second_invariant related same_windows = by_parsed (parse_of line) where
    -- a low parsed line is alike in both benches, and leaves equal windows
    by_parsed : (parsed : Result Command CommandFault) → IfOk parsed (λ command.
        RunsOnNoneIn enclave (harts_named first.target command) first.target × (is_entered enclave (execute first command).entered ≡ false))
        → ParsedAlike enclave first second parsed parsed
        × WindowsAreEqual enclave (execute_or_fault first parsed).state (execute_or_fault second parsed).state
    by_parsed (Ok command) (on_none, not_entered) =
        let alike = low_command enclave first second command first_invariant second_invariant related same_windows on_none not_entered in
        (inl (inl alike.same), alike.window)
    by_parsed (Err fault) is_low = (refl, same_windows)

  -- lines that are low in the first bench are alike if the windows are equal, by induction over the lines
  pub lines_low : (first second : BenchState) (lines : List (List ℕ)) → TargetInvariant first.target → TargetInvariant second.target
      → BenchesAreRelated enclave first second → WindowsAreEqual enclave first second → LinesAreLow enclave first lines
      → LinesAlike enclave first second lines lines
  lines_low first second [] first_invariant second_invariant related same_windows are_low = tt
  lines_low first second (line ∷ lines) first_invariant second_invariant related same_windows (is_low, others_low) =
      let (alike, next_windows) = line_low first second line first_invariant second_invariant related same_windows is_low in
      let observed = line_observed first second line line first_invariant second_invariant related alike in (
        alike,
        lines_low (execute_line first line).state (execute_line second line).state lines (line_keeps_invariant first line first_invariant)
            (line_keeps_invariant second line second_invariant) observed.state next_windows others_low,
      )

  -- ---- the same lines, after an enclave has ended

  -- after an enclave has ended in related benches, the same line is alike for every slot, and leaves benches that are related for every slot
  line_after_end : (first second : BenchState) (line : List ℕ) → TargetInvariant first.target → TargetInvariant second.target
      → AreRelatedForAll first second
      → ParsedAlike enclave first second (parse_of line) (parse_of line)
      × AreRelatedForAll (execute_line first line).state (execute_line second line).state
  unfolding execute_line
  line_after_end first second line first_invariant second_invariant related = by_parsed (parse_of line) where
    -- the same claim for a parsed line
    by_parsed : (parsed : Result Command CommandFault) → ParsedAlike enclave first second parsed parsed
        × AreRelatedForAll (execute_or_fault first parsed).state (execute_or_fault second parsed).state
    by_parsed (Ok command) = (
      inl (inl (ended_law.same enclave first second command first_invariant second_invariant related)),
      ended_law.again first second command first_invariant second_invariant related,
    )
    by_parsed (Err fault) = (refl, related)

  -- after an enclave has ended in related benches, the same lines are alike for every slot, by induction over the lines
  pub lines_after_end : (first second : BenchState) (lines : List (List ℕ)) → TargetInvariant first.target → TargetInvariant second.target
      → AreRelatedForAll first second → LinesAlike enclave first second lines lines
  lines_after_end first second [] first_invariant second_invariant related = tt
  lines_after_end first second (line ∷ lines) first_invariant second_invariant related =
      let (alike, still_related) = line_after_end first second line first_invariant second_invariant related in (
        alike,
        lines_after_end (execute_line first line).state (execute_line second line).state lines (line_keeps_invariant first line first_invariant)
            (line_keeps_invariant second line second_invariant) still_related,
      )

  -- ---- scripts

  -- what is observed of the replies has no effect on the state: observed lines leave the state that the lines leave
  observed_state : (bench : BenchState) (lines : List (List ℕ)) → state_after (observed_line enclave) bench lines ≡ state_after bench_line bench lines
  observed_state bench [] = refl
  observed_state bench (line ∷ lines) = observed_state (bench_line bench line).state lines

  -- two scripts that are alike after the same lines have equal observations
  script_observed : (bench : BenchState) (before lines others : List (List ℕ)) → TargetInvariant bench.target
      → (let start = state_after bench_line bench before in LinesAlike enclave start start lines others)
      → replies (observed_line enclave) bench (before ++ lines) ≡ replies (observed_line enclave) bench (before ++ others)
  script_observed bench before lines others invariant alike =
      let start = state_after bench_line bench before in
      let start_invariant = lines_keep_invariant bench before invariant in
      let observed = lines_observed start start lines others start_invariant start_invariant (relation_law.itself enclave start) alike in
      let first_text = replies (observed_line enclave) bench before in
      let text : BenchState → List (List ℕ) → List ℕ = λ state script. first_text ++ replies (observed_line enclave) state script in
      replies-append (observed_line enclave) bench before lines
      ∙ ap (λ (state : BenchState). text state lines) (observed_state bench before)
      ∙ ap (λ (later_text : List ℕ). first_text ++ later_text) observed.text
      ∙ ap (λ (state : BenchState). text state others) (sym (observed_state bench before))
      ∙ sym (replies-append (observed_line enclave) bench before others)

-- on a bench with the invariant, every part of a script satisfies noninterference with declassification
script_declassification : (bench : BenchState) → TargetInvariant bench.target → ScriptDeclassification bench
script_declassification bench invariant = record {
  alike = λ enclave before lines others other other_invariant related alike.
      lines_observed enclave (state_after bench_line bench before) other lines others (lines_keep_invariant bench before invariant) other_invariant
      related alike;
  low = λ enclave before lines other other_invariant related same_windows are_low.
      lines_low enclave (state_after bench_line bench before) other lines (lines_keep_invariant bench before invariant) other_invariant
      related same_windows are_low;
  ended = λ enclave slot before lines other other_invariant related ended.
      let start = state_after bench_line bench before in
      let start_invariant = lines_keep_invariant bench before invariant in
      lines_after_end slot start other lines start_invariant other_invariant (ended_law.ended enclave start other start_invariant related ended);
}

-- on each bench that starts, every part of a script satisfies noninterference with declassification
pub started_declassification : (image : List ℕ) (setup : Setup) → IfOk (started image setup) ScriptDeclassification
started_declassification = of_started ScriptDeclassification script_declassification

-- ---- inputs

-- inputs that begin with the same prefix, which has the image, the separator and the first lines of the script
module _ (setup : Setup) (enclave : ℕ) (prefix : List ℕ) (whole : through_last_feed prefix ≡ prefix) (separated : has_separator prefix ≡ true) where
  -- the lines of the script in the prefix
  abbrev before : List (List ℕ)
  before = lines_of (after_separator prefix)

  -- `Observed` is the observed output of a script, if the bench starts
  abbrev Observed : Result BenchState BenchFault → List (List ℕ) → Result (List ℕ) BenchFault
  Observed bench script = result_case bench (λ state. Ok (replies (observed_line enclave) state script)) Err

  -- the observed output of an input is the observed output of the lines of its script
  observed_is : (rest : List ℕ) → observed_output enclave setup (prefix ++ rest) ≡ Observed (bench_in setup prefix) (before ++ lines_of rest)
  observed_is rest =
      ap₂ Observed (bench_in-prefix prefix whole separated setup rest) (script_lines-prefix prefix whole separated rest)

  -- two rests of a script that are alike have equal observed outputs
  rests_observed : (bench : Result BenchState BenchFault) (rest other_rest : List ℕ) → StartInvariant bench
      → IfOk bench (λ bench. let start = state_after bench_line bench before in LinesAlike enclave start start (lines_of rest) (lines_of other_rest))
      → Observed bench (before ++ lines_of rest) ≡ Observed bench (before ++ lines_of other_rest)
  rests_observed (Ok bench) rest other_rest invariant alike =
      ap Ok (script_observed enclave bench before (lines_of rest) (lines_of other_rest) invariant alike)
  rests_observed (Err fault) rest other_rest invariant alike = refl

-- proves that inputs which differ only in secrets have equal observed outputs
pub secret_declassification : (setup : Setup) (input : List ℕ) → SecretDeclassification setup input
secret_declassification setup input enclave other differ =
    ap (observed_output enclave setup) differ.input_is
    ∙ observed_is setup enclave differ.prefix differ.whole_prefix differ.separated differ.rest
    ∙ rests_observed setup enclave differ.prefix differ.whole_prefix differ.separated (bench_in setup differ.prefix) differ.rest differ.other_rest
    (bench_in_invariant setup differ.prefix) differ.alike
    ∙ sym (observed_is setup enclave differ.prefix differ.whole_prefix differ.separated differ.other_rest)
    ∙ sym (ap (observed_output enclave setup) differ.other_is)
