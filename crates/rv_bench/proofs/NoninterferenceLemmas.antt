-- Noninterference of scripts: two benches that are equivalent except for `enclave` reply the same to lines that avoid it. The proof is by the law of
-- one command and induction over the lines, and then compares two inputs that differ only in a secret.
use Rattle.std.proofs.Common.{◌≡◌, inl, inr, ℕ, Bool, true, false, List, [], ◌∷◌, ◌++◌, Result, Ok, Err, IfOk, IsOkAnd, refl, sym, ◌∙◌, ap, ap₂, subst}
use Rattle.rv_text.specs.Lines.{lines_of, through_last_feed}
use Rattle.rv_text.proofs.LineLemmas.{lines_of-append}
use Rattle.rv_debug.specs.Execute.{Executed, execute_or_fault, execute_line}
use Rattle.rv_debug.specs.BenchState.{BenchState}
use Rattle.rv_script.specs.Command.{parse_of}
use Rattle.rv_debug.specs.Noninterference.{AvoidsEnclave, PokesInto}
use Rattle.rv_debug.specs.Targets.{TargetInvariant, is_live_in}
use Rattle.rv_debug.specs.BothBenches.{BenchesEquivExcept, AvoidsHart, RunsOnNoHart}
use Rattle.rv_script.specs.declared.command.Command.{Command}
use Rattle.rv_script.specs.declared.command.CommandFault.{CommandFault}
use Rattle.rv_debug.proofs.ExecuteAlike.{equiv_again, noninterference}
use Rattle.rv_debug.proofs.NotRunning.{poked_on_no_hart, on_no_hart_law, scrambled_on_no_hart}
use Rattle.rv_debug.proofs.PokesAlike.{equiv_with_itself, poke_law}
use Rattle.rv_command_line.specs.declared.setup.Setup.{Setup}
use Rattle.rv_streams.specs.declared.fault.BenchFault.{BenchFault}
use Rattle.rv_streams.specs.Separator.{after_separator, has_separator}
use Rattle.rv_bench.specs.Noninterference.{RepliesAlike, AreSecret, SecretNoninterference, ScriptNoninterference, DifferInPokes, LineAvoidsHart}
use Rattle.rv_bench.specs.Noninterference.{LineAvoidsEnclave, LinesAvoidHart, EachLineAvoidsHart, LinesAvoidEnclave, PokeOrPass}
use Rattle.rv_bench.specs.Loaded.{started}
use Rattle.rv_bench.specs.Output.{bench_in, output, replies_of}
use Rattle.rv_bench.specs.Replies.{bench_line, replies, state_after}
use Rattle.rv_bench.proofs.PrefixLines.{bench_in-prefix, script_lines-prefix}
use Rattle.rv_bench.proofs.RepliesLemmas.{replies-append}
use Rattle.rv_bench.proofs.IntegrityLemmas.{line_keeps_invariant, lines_keep_invariant}
use Rattle.rv_bench.proofs.Starts.{StartInvariant, bench_in_invariant, of_started}

module _ (enclave : ℕ) where
  -- two executions have equal replies, and leave benches that are equivalent except for `enclave`
  abbrev Alike : Executed → Executed → Type 0
  Alike one other = (one.reply ≡ other.reply) × BenchesEquivExcept enclave one.state other.state

  -- ---- lines that avoid the enclave

  -- a line that avoids the enclave and its hart is executed alike
  line_alike : (first second : BenchState) (line : List ℕ) → TargetInvariant first.target → TargetInvariant second.target
      → BenchesEquivExcept enclave first second → LineAvoidsEnclave enclave first line → LineAvoidsHart enclave first line
      → Alike (execute_line first line) (execute_line second line)
  unfolding execute_line
  line_alike first second line first_invariant second_invariant equiv = by_parsed (parse_of line) where
    -- a parsed line that avoids the enclave and its hart is executed alike
    by_parsed : (parsed : Result Command CommandFault) → IfOk parsed (AvoidsEnclave enclave first) → IfOk parsed (AvoidsHart enclave first)
        → Alike (execute_or_fault first parsed) (execute_or_fault second parsed)
    by_parsed (Ok command) avoids_enclave avoids_hart =
        let law = noninterference enclave first second command first_invariant second_invariant equiv avoids_enclave.blind avoids_hart in
        let alike = law.passed avoids_enclave.past in (alike.reply, (let state = alike.state in state.but))
    by_parsed (Err fault) avoids_enclave avoids_hart = (refl, equiv)

  -- A property P of equivalent benches holds if it holds while the enclave is live, and holds of equal benches. Equivalent benches are equal after
  -- the end of the enclave.
  while_live : (first second : BenchState) → TargetInvariant first.target → TargetInvariant second.target → BenchesEquivExcept enclave first second
      → (P : BenchState → BenchState → Type 0) → (live : Bool) → is_live_in enclave first.target ≡ live
      → (is_live_in enclave first.target ≡ true → P first second) → (TargetInvariant first.target → P first first) → P first second
  while_live first second first_invariant second_invariant equiv P true is_live if_live if_equal = if_live is_live
  while_live first second first_invariant second_invariant equiv P false not_live if_live if_equal =
      subst (P first) ((equiv_again enclave first second first_invariant equiv).gone not_live) (if_equal first_invariant)

  -- lines that avoid the enclave and its hart have equal replies, by induction over the lines
  lines_alike : (first second : BenchState) (lines : List (List ℕ)) → TargetInvariant first.target → TargetInvariant second.target
      → BenchesEquivExcept enclave first second → LinesAvoidEnclave enclave first lines → LinesAvoidHart enclave first lines
      → RepliesAlike enclave first second lines
  lines_alike first second [] first_invariant second_invariant equiv avoid_enclave avoid_hart =
      record { text = refl; state = equiv_again enclave first second first_invariant equiv }
  lines_alike first second (line ∷ lines) first_invariant second_invariant equiv avoid_enclave avoid_hart =
      while_live first second first_invariant second_invariant equiv (λ one other. RepliesAlike enclave one other (line ∷ lines))
      (is_live_in enclave first.target) refl
      -- while the enclave is live, the first line has equal replies and leaves equivalent benches, and so do the other lines
      (λ live.
      let (avoids_enclave, others_avoid_enclave) = avoid_enclave live in
      let (avoids_hart, others_avoid_hart) = avoid_hart live in
      let (same_reply, next_equiv) = line_alike first second line first_invariant second_invariant equiv avoids_enclave avoids_hart in
      let other_lines = lines_alike (execute_line first line).state (execute_line second line).state lines
      (line_keeps_invariant first line first_invariant) (line_keeps_invariant second line second_invariant) next_equiv
      others_avoid_enclave others_avoid_hart in
      record { text = ap₂ (λ (one others : List ℕ). one ++ others) same_reply other_lines.text; state = other_lines.state })
      -- if the enclave is not live, the benches are equal
      (λ invariant.
      let end = state_after bench_line first (line ∷ lines) in
      record {
        text = refl;
        state = equiv_again enclave end end (lines_keep_invariant first (line ∷ lines) invariant)
            (equiv_with_itself enclave end);
      })

  -- ---- an enclave that runs on no hart at first

  -- a line that avoids an enclave that runs on no hart also avoids its hart, and leaves the enclave on no hart
  line_leaves_on_no_hart : (bench : BenchState) (line : List ℕ) → TargetInvariant bench.target → RunsOnNoHart enclave bench.target
      → LineAvoidsEnclave enclave bench line → LineAvoidsHart enclave bench line × RunsOnNoHart enclave (execute_line bench line).state.target
  unfolding execute_line
  line_leaves_on_no_hart bench line invariant not_running = by_parsed (parse_of line) where
    -- the same claim for a parsed line
    by_parsed : (parsed : Result Command CommandFault) → IfOk parsed (AvoidsEnclave enclave bench)
        → IfOk parsed (AvoidsHart enclave bench) × RunsOnNoHart enclave (execute_or_fault bench parsed).state.target
    by_parsed (Ok command) avoids_enclave =
        let stays = on_no_hart_law enclave bench command invariant not_running in (stays.by, stays.not_running avoids_enclave.past)
    by_parsed (Err fault) avoids_enclave = (tt, not_running)

  -- while the enclave runs on no hart, each line avoids its hart
  line_avoids_hart : (bench : BenchState) (line : List ℕ) → TargetInvariant bench.target → RunsOnNoHart enclave bench.target
      → LineAvoidsHart enclave bench line
  line_avoids_hart bench line invariant not_running = by_parsed (parse_of line) where
    -- a parsed line avoids the hart of an enclave that runs on no hart
    by_parsed : (parsed : Result Command CommandFault) → IfOk parsed (AvoidsHart enclave bench)
    by_parsed (Ok command) = (on_no_hart_law enclave bench command invariant not_running).by
    by_parsed (Err fault) = tt

  -- lines that avoid an enclave that runs on no hart also avoid its hart, by induction over the lines
  lines_avoid_hart : (bench : BenchState) (lines : List (List ℕ)) → TargetInvariant bench.target → RunsOnNoHart enclave bench.target
      → LinesAvoidEnclave enclave bench lines → LinesAvoidHart enclave bench lines
  lines_avoid_hart bench [] invariant not_running avoid_enclave = tt
  lines_avoid_hart bench (line ∷ lines) invariant not_running avoid_enclave = λ live.
      let (avoids_enclave, others_avoid_enclave) = avoid_enclave live in
      let (avoids_hart, still_not_running) = line_leaves_on_no_hart bench line invariant not_running avoids_enclave in
      let next_invariant = line_keeps_invariant bench line invariant in
      (avoids_hart, lines_avoid_hart (execute_line bench line).state lines next_invariant still_not_running others_avoid_enclave)

  -- ---- lines that poke into its region

  -- two lines that poke into the region are executed alike, also if they poke different bytes
  pokes_alike : (first second : BenchState) (line other : List ℕ) → TargetInvariant first.target → TargetInvariant second.target
      → BenchesEquivExcept enclave first second
      → IsOkAnd (parse_of line) (PokesInto enclave first) → IsOkAnd (parse_of other) (PokesInto enclave second)
      → Alike (execute_line first line) (execute_line second other)
  unfolding execute_line
  pokes_alike first second line other first_invariant second_invariant equiv = by_parsed (parse_of line) (parse_of other) where
    -- two parsed lines that poke into the region are executed alike
    by_parsed : (parsed other_parsed : Result Command CommandFault)
        → IsOkAnd parsed (PokesInto enclave first) → IsOkAnd other_parsed (PokesInto enclave second)
        → Alike (execute_or_fault first parsed) (execute_or_fault second other_parsed)
    by_parsed (Ok command) (Ok other_command) first_pokes second_pokes =
        let alike = poke_law enclave first second command other_command first_invariant second_invariant equiv first_pokes second_pokes in
        (alike.reply, (let state = alike.state in state.but))
    by_parsed (Ok command) (Err fault) first_pokes second_pokes = absurd second_pokes
    by_parsed (Err fault) other_parsed first_pokes second_pokes = absurd first_pokes

  -- two lines that poke into the region, or one that avoids the enclave, are executed alike
  poke_or_pass_alike : (first second : BenchState) (line other : List ℕ) → TargetInvariant first.target → TargetInvariant second.target
      → BenchesEquivExcept enclave first second → LineAvoidsHart enclave first line → PokeOrPass enclave first second line other
      → Alike (execute_line first line) (execute_line second other)
  poke_or_pass_alike first second line other first_invariant second_invariant equiv avoids_hart (inl (first_pokes, second_pokes)) =
      pokes_alike first second line other first_invariant second_invariant equiv first_pokes second_pokes
  poke_or_pass_alike first second line other first_invariant second_invariant equiv avoids_hart (inr (same_line, avoids_enclave)) =
      subst (λ (line_of_second : List ℕ). Alike (execute_line first line) (execute_line second line_of_second)) same_line
      (line_alike first second line first_invariant second_invariant equiv avoids_enclave avoids_hart)

  -- the replies to two lists of lines are equal, and the benches after them are equivalent except for the enclave
  record SecretsAlike (first second : BenchState) (lines others : List (List ℕ)) : Type 0 where
    -- the replies are equal
    pub text : replies bench_line first lines ≡ replies bench_line second others
    -- the benches are equivalent except for the enclave
    pub equiv : BenchesEquivExcept enclave (state_after bench_line first lines) (state_after bench_line second others)

  -- two lists of lines that differ in pokes into the region have equal replies, by induction over both lists
  secrets_alike : (first second : BenchState) (lines others : List (List ℕ)) → TargetInvariant first.target → TargetInvariant second.target
      → BenchesEquivExcept enclave first second → EachLineAvoidsHart enclave first lines → DifferInPokes enclave first second lines others
      → SecretsAlike first second lines others
  secrets_alike first second [] [] first_invariant second_invariant equiv avoid_hart differ = record { text = refl; equiv = equiv }
  secrets_alike first second [] (other ∷ others) first_invariant second_invariant equiv avoid_hart impossible = absurd impossible
  secrets_alike first second (line ∷ lines) [] first_invariant second_invariant equiv avoid_hart impossible = absurd impossible
  secrets_alike first second (line ∷ lines) (other ∷ others) first_invariant second_invariant equiv (avoids_hart, others_avoid_hart)
      (poke_or_pass, others_differ) =
      let (same_reply, next_equiv) = poke_or_pass_alike first second line other first_invariant second_invariant equiv avoids_hart poke_or_pass in
      let other_lines = secrets_alike (execute_line first line).state (execute_line second other).state lines others
      (line_keeps_invariant first line first_invariant) (line_keeps_invariant second other second_invariant) next_equiv
      others_avoid_hart others_differ in
      record { text = ap₂ (λ (one other : List ℕ). one ++ other) same_reply other_lines.text; equiv = other_lines.equiv }

  -- after a poke the enclave still runs on no hart
  poke_leaves_on_no_hart : (bench : BenchState) (line : List ℕ) → TargetInvariant bench.target → RunsOnNoHart enclave bench.target
      → IsOkAnd (parse_of line) (PokesInto enclave bench) → RunsOnNoHart enclave (execute_line bench line).state.target
  unfolding execute_line
  poke_leaves_on_no_hart bench line invariant not_running = by_parsed (parse_of line) where
    -- after a parsed line that pokes into the region, the enclave still runs on no hart
    by_parsed : (parsed : Result Command CommandFault) → IsOkAnd parsed (PokesInto enclave bench)
        → RunsOnNoHart enclave (execute_or_fault bench parsed).state.target
    by_parsed (Ok command) pokes = poked_on_no_hart enclave bench command invariant not_running pokes
    by_parsed (Err fault) impossible = absurd impossible

  -- a line that pokes into the region, or avoids the enclave, leaves the enclave on no hart
  poke_or_pass_leaves_on_no_hart : (first second : BenchState) (line other : List ℕ) → TargetInvariant first.target
      → RunsOnNoHart enclave first.target
      → PokeOrPass enclave first second line other → LineAvoidsHart enclave first line × RunsOnNoHart enclave (execute_line first line).state.target
  poke_or_pass_leaves_on_no_hart first second line other invariant not_running (inl (pokes, other_pokes)) =
      (line_avoids_hart first line invariant not_running, poke_leaves_on_no_hart first line invariant not_running pokes)
  poke_or_pass_leaves_on_no_hart first second line other invariant not_running (inr (same_line, avoids_enclave)) =
      line_leaves_on_no_hart first line invariant not_running avoids_enclave

  -- the enclave runs on no hart after these lines, and each line avoids its hart
  record StaysOnNoHart (bench : BenchState) (lines : List (List ℕ)) : Type 0 where
    -- each line avoids the hart of the enclave
    pub avoid_hart : EachLineAvoidsHart enclave bench lines
    -- the enclave runs on no hart after the lines
    pub not_running : RunsOnNoHart enclave (state_after bench_line bench lines).target

  -- lines that poke into the region or avoid the enclave leave the enclave on no hart, by induction over the lines
  pokes_leave_on_no_hart : (first second : BenchState) (lines others : List (List ℕ)) → TargetInvariant first.target
      → RunsOnNoHart enclave first.target → DifferInPokes enclave first second lines others → StaysOnNoHart first lines
  pokes_leave_on_no_hart first second [] [] invariant not_running differ = record { avoid_hart = tt; not_running = not_running }
  pokes_leave_on_no_hart first second [] (other ∷ others) invariant not_running impossible = absurd impossible
  pokes_leave_on_no_hart first second (line ∷ lines) [] invariant not_running impossible = absurd impossible
  pokes_leave_on_no_hart first second (line ∷ lines) (other ∷ others) invariant not_running (poke_or_pass, others_differ) =
      let (avoids_hart, still_not_running) = poke_or_pass_leaves_on_no_hart first second line other invariant not_running poke_or_pass in
      let other_lines = pokes_leave_on_no_hart (execute_line first line).state (execute_line second other).state lines others
      (line_keeps_invariant first line invariant) still_not_running others_differ in
      record { avoid_hart = (avoids_hart, other_lines.avoid_hart); not_running = other_lines.not_running }

  -- ---- a script with a secret in it

  -- The lines avoid the hart of the enclave: the enclave runs on no hart when the secret is poked, or it is a premise.
  secret_avoids_hart : (bench : BenchState) (secret other_secret rest : List (List ℕ)) → TargetInvariant bench.target
      → AreSecret enclave bench secret other_secret rest
      → EachLineAvoidsHart enclave bench secret × LinesAvoidHart enclave (state_after bench_line bench secret) rest
  secret_avoids_hart bench secret other_secret rest invariant are_secret = elim are_secret.hart_avoided [
    | inl is_scramblable ↦
        let not_running = scrambled_on_no_hart enclave bench.target invariant is_scramblable in
        let stays = pokes_leave_on_no_hart bench bench secret other_secret invariant not_running are_secret.pokes in
        let next_invariant = lines_keep_invariant bench secret invariant in
        (stays.avoid_hart, lines_avoid_hart (state_after bench_line bench secret) rest next_invariant stays.not_running are_secret.passes)
    | inr avoid_hart ↦ avoid_hart
  ]

  -- two scripts that differ only in a secret have equal replies: to the lines before it, to the secret, and to the rest
  script_alike : (bench : BenchState) (before secret other_secret rest : List (List ℕ)) → TargetInvariant bench.target
      → AreSecret enclave (state_after bench_line bench before) secret other_secret rest
      → replies bench_line bench (before ++ (secret ++ rest)) ≡ replies bench_line bench (before ++ (other_secret ++ rest))
  script_alike bench before secret other_secret rest invariant are_secret =
      let start = state_after bench_line bench before in
      let start_invariant = lines_keep_invariant bench before invariant in
      let (secret_avoid, rest_avoid) = secret_avoids_hart start secret other_secret rest start_invariant are_secret in
      -- the two secrets have equal replies, and leave equivalent benches
      let secrets =
      secrets_alike start start secret other_secret start_invariant start_invariant (equiv_with_itself enclave start) secret_avoid are_secret.pokes in
      -- equivalent benches have equal replies to the rest
      let rests = lines_alike (state_after bench_line start secret) (state_after bench_line start other_secret) rest
      (lines_keep_invariant start secret start_invariant) (lines_keep_invariant start other_secret start_invariant) secrets.equiv
      are_secret.passes rest_avoid in
      -- the replies to each script are the replies to its three parts
      replies-append bench_line bench before (secret ++ rest)
      ∙ ap (λ (text : List ℕ). replies bench_line bench before ++ text)
      (replies-append bench_line start secret rest ∙ ap₂ (λ (one others : List ℕ). one ++ others) secrets.text rests.text
      ∙ sym (replies-append bench_line start other_secret rest))
      ∙ sym (replies-append bench_line bench before (other_secret ++ rest))

-- ---- scripts

-- on a bench with the invariant, every part of a script satisfies noninterference
script_noninterference : (bench : BenchState) → TargetInvariant bench.target → ScriptNoninterference bench
script_noninterference bench invariant = record {
  alike = λ enclave before part other other_invariant equiv avoid_enclave avoid_hart.
      lines_alike enclave (state_after bench_line bench before) other part (lines_keep_invariant bench before invariant) other_invariant equiv
      avoid_enclave avoid_hart;
  not_running = λ enclave before part not_running avoid_enclave.
      lines_avoid_hart enclave (state_after bench_line bench before) part (lines_keep_invariant bench before invariant) not_running avoid_enclave;
}

-- on each bench that starts, every part of a script satisfies noninterference
pub started_noninterference : (image : List ℕ) (setup : Setup) → IfOk (started image setup) ScriptNoninterference
started_noninterference = of_started ScriptNoninterference script_noninterference

-- ---- inputs

-- two inputs with the same prefix and the same rest, where the prefix has the image, the separator and the first lines of the script
module _ (setup : Setup) (enclave : ℕ) (prefix secret other_secret rest : List ℕ) (whole : through_last_feed prefix ≡ prefix)
    (separated : has_separator prefix ≡ true) (whole_secret : through_last_feed secret ≡ secret)
    (whole_other_secret : through_last_feed other_secret ≡ other_secret) where
  -- the lines of the script in the prefix
  abbrev before : List (List ℕ)
  before = lines_of (after_separator prefix)

  -- the replies to the script with this text in the place of the secret, if the bench starts
  abbrev replies_with : Result BenchState BenchFault → List ℕ → Result (List ℕ) BenchFault
  replies_with bench text = replies_of bench (before ++ (lines_of text ++ lines_of rest))

  -- the output for an input is the replies to the lines of its script, from the bench that the prefix starts
  output_is : (text : List ℕ) → through_last_feed text ≡ text → output setup (prefix ++ (text ++ rest)) ≡ replies_with (bench_in setup prefix) text
  output_is text whole_text =
      ap₂ (λ (bench : Result BenchState BenchFault) (lines : List (List ℕ)). replies_of bench lines)
      (bench_in-prefix prefix whole separated setup (text ++ rest))
      (script_lines-prefix prefix whole separated (text ++ rest)
      ∙ ap (λ (lines : List (List ℕ)). before ++ lines) (lines_of-append text rest whole_text))

  -- the texts are secrets in the script, if the bench starts
  abbrev AreSecretIn : Result BenchState BenchFault → Type 0
  AreSecretIn bench =
      IfOk bench (λ bench. AreSecret enclave (state_after bench_line bench before) (lines_of secret) (lines_of other_secret) (lines_of rest))

  -- the replies with both secrets are equal
  replies_alike : (bench : Result BenchState BenchFault) → StartInvariant bench → AreSecretIn bench
      → replies_with bench secret ≡ replies_with bench other_secret
  replies_alike (Ok bench) invariant are_secret =
      ap Ok (script_alike enclave bench before (lines_of secret) (lines_of other_secret) (lines_of rest) invariant are_secret)
  replies_alike (Err fault) invariant are_secret = refl

  -- the outputs with both secrets are equal
  outputs_alike : AreSecretIn (bench_in setup prefix) → output setup (prefix ++ (secret ++ rest)) ≡ output setup (prefix ++ (other_secret ++ rest))
  outputs_alike are_secret =
      output_is secret whole_secret ∙ replies_alike (bench_in setup prefix) (bench_in_invariant setup prefix) are_secret
      ∙ sym (output_is other_secret whole_other_secret)

-- proves that inputs which differ only in the secret that they poke have equal outputs
pub secret_noninterference : (setup : Setup) (input : List ℕ) → SecretNoninterference setup input
secret_noninterference setup input enclave other differ =
    ap (output setup) differ.input_is
    ∙ outputs_alike setup enclave differ.prefix differ.secret differ.other_secret differ.rest differ.whole_prefix differ.separated
    differ.whole_secret differ.whole_other_secret differ.poked
    ∙ sym (ap (output setup) differ.other_is)
