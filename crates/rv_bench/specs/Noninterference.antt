-- Noninterference over scripts: the replies to lines that avoid an enclave do not depend on it. (A law of this project's own monitor and
-- debugger.)
use Rattle.std.specs.Prelude.{◌≡◌, ◌⊎◌, ℕ, List, [], ◌∷◌, ◌++◌, true, IfOk, IsOkAnd}
use Rattle.rv_text.specs.Lines.{lines_of, through_last_feed}
use Rattle.rv_debug.specs.BenchState.{BenchState}
use Rattle.rv_script.specs.Command.{parse_of}
use Rattle.rv_debug.specs.Noninterference.{RemainEquiv, AvoidsEnclave, PokesInto}
use Rattle.rv_debug.specs.Targets.{TargetInvariant, is_live_in}
use Rattle.rv_debug.specs.BothBenches.{BenchesEquivExcept, AvoidsHart, RunsOnNoHart, can_scramble}
use Rattle.rv_command_line.specs.declared.setup.Setup.{Setup}
use Rattle.rv_streams.specs.Separator.{after_separator, has_separator}
use Rattle.rv_bench.specs.Loaded.{started}
use Rattle.rv_bench.specs.Output.{bench_in, output}
use Rattle.rv_bench.specs.Replies.{bench_line, replies, state_after}

-- ---- a part of a script

-- a line avoids `enclave`: it accesses no byte of its region, and does not enter it; a line with an error does neither
abbrev pub LineAvoidsEnclave : ℕ → BenchState → List ℕ → Type 0
LineAvoidsEnclave enclave bench line = IfOk (parse_of line) (AvoidsEnclave enclave bench)

-- a line avoids the hart on which the enclave runs: it neither steps nor shows it
abbrev pub LineAvoidsHart : ℕ → BenchState → List ℕ → Type 0
LineAvoidsHart enclave bench line = IfOk (parse_of line) (AvoidsHart enclave bench)

-- The lines avoid the enclave that is live in slot `enclave`, as long as it is live. There is no condition on the lines after its end: they may enter
-- another enclave that is created there.
abbrev pub LinesAvoidEnclave : ℕ → BenchState → List (List ℕ) → Type 0
LinesAvoidEnclave enclave bench [] = Unit {0}
LinesAvoidEnclave enclave bench (line ∷ lines) =
    is_live_in enclave bench.target ≡ true → LineAvoidsEnclave enclave bench line × LinesAvoidEnclave enclave (bench_line bench line).state lines

-- the lines neither step nor show a hart on which the enclave runs, as long as it is live
abbrev pub LinesAvoidHart : ℕ → BenchState → List (List ℕ) → Type 0
LinesAvoidHart enclave bench [] = Unit {0}
LinesAvoidHart enclave bench (line ∷ lines) =
    is_live_in enclave bench.target ≡ true → LineAvoidsHart enclave bench line × LinesAvoidHart enclave (bench_line bench line).state lines

-- Two benches give the same replies to lines, byte for byte, and are equivalent again after them.
pub record RepliesAlike (enclave : ℕ) (first second : BenchState) (lines : List (List ℕ)) : Type 0 where
  -- the replies are equal, byte for byte
  pub text : replies bench_line first lines ≡ replies bench_line second lines
  -- the benches are equivalent again after the lines
  pub state : RemainEquiv enclave (state_after bench_line first lines) (state_after bench_line second lines)

-- After any lines, take a part of the script that avoids an enclave and the hart on which it runs. Every bench that is equivalent except for
-- that enclave replies the same to it. If the enclave runs on no hart at first, every part that avoids the enclave also avoids its hart.
pub record ScriptNoninterference (bench : BenchState) : Type 0 where
  -- lines that avoid the enclave and its hart have equal replies on each equivalent bench
  pub alike : (enclave : ℕ) (before part : List (List ℕ)) (other : BenchState) → TargetInvariant other.target
      → BenchesEquivExcept enclave (state_after bench_line bench before) other → LinesAvoidEnclave enclave (state_after bench_line bench before) part
      → LinesAvoidHart enclave (state_after bench_line bench before) part → RepliesAlike enclave (state_after bench_line bench before) other part
  -- if the enclave runs on no hart at first, lines that avoid the enclave also avoid its hart
  pub not_running : (enclave : ℕ) (before part : List (List ℕ)) → RunsOnNoHart enclave (state_after bench_line bench before).target
      → LinesAvoidEnclave enclave (state_after bench_line bench before) part → LinesAvoidHart enclave (state_after bench_line bench before) part

-- ---- from bytes to bytes

-- two lines, one for each bench: each pokes a byte into the region of `enclave`, or they are the same line, which avoids its enclave
abbrev pub PokeOrPass : ℕ → BenchState → BenchState → List ℕ → List ℕ → Type 0
PokeOrPass enclave first second line other =
    (IsOkAnd (parse_of line) (PokesInto enclave first) × IsOkAnd (parse_of other) (PokesInto enclave second))
    ⊎ ((line ≡ other) × LineAvoidsEnclave enclave first line)

-- two lists of lines of the same length, one for each bench, that differ only in what they poke into `enclave`
abbrev pub DifferInPokes : ℕ → BenchState → BenchState → List (List ℕ) → List (List ℕ) → Type 0
DifferInPokes enclave first second [] [] = Unit {0}
DifferInPokes enclave first second (line ∷ lines) (other ∷ others) =
    PokeOrPass enclave first second line other × DifferInPokes enclave (bench_line first line).state (bench_line second other).state lines others
DifferInPokes enclave first second _ _ = ⊥

-- each of these lines avoids the hart on which `enclave` runs
abbrev pub EachLineAvoidsHart : ℕ → BenchState → List (List ℕ) → Type 0
EachLineAvoidsHart enclave bench [] = Unit {0}
EachLineAvoidsHart enclave bench (line ∷ lines) = LineAvoidsHart enclave bench line × EachLineAvoidsHart enclave (bench_line bench line).state lines

-- Both lists of lines poke a secret into the region of an enclave. The other lines avoid it, both those between the pokes and the rest of the
-- script. The enclave runs on no hart, or the lines avoid the one on which it runs.
pub record AreSecret (enclave : ℕ) (bench : BenchState) (secret other_secret rest : List (List ℕ)) : Type 0 where
  -- the two lists of lines differ only in the bytes that they poke into the enclave
  pub pokes : DifferInPokes enclave bench bench secret other_secret
  -- the rest of the script avoids the enclave
  pub passes : LinesAvoidEnclave enclave (state_after bench_line bench secret) rest
  -- the enclave runs on no hart, or all lines avoid its hart
  pub hart_avoided : (can_scramble enclave bench ≡ true)
      ⊎ (EachLineAvoidsHart enclave bench secret × LinesAvoidHart enclave (state_after bench_line bench secret) rest)

-- Two inputs differ only in lines in the middle of the script, which poke a secret.
pub record DifferInSecret (enclave : ℕ) (setup : Setup) (input other : List ℕ) : Type 0 where
  -- the image, the separator, and the lines before the secret
  pub prefix : List ℕ
  -- the lines of one input that poke its secret
  pub secret : List ℕ
  -- the lines of the other input that poke its secret
  pub other_secret : List ℕ
  -- the lines after the secret, which are the same in both inputs
  pub rest : List ℕ
  -- the parts of the one input
  pub input_is : input ≡ prefix ++ (secret ++ rest)
  -- the parts of the other input
  pub other_is : other ≡ prefix ++ (other_secret ++ rest)
  -- the prefix consists of whole lines
  pub whole_prefix : through_last_feed prefix ≡ prefix
  -- the one secret consists of whole lines
  pub whole_secret : through_last_feed secret ≡ secret
  -- the other secret consists of whole lines
  pub whole_other_secret : through_last_feed other_secret ≡ other_secret
  -- the prefix has the separator after the image
  pub separated : has_separator prefix ≡ true
  -- if the prefix starts a bench, the two lists of lines are secrets for it
  pub poked : IfOk (bench_in setup prefix) (λ bench.
      AreSecret enclave (state_after bench_line bench (lines_of (after_separator prefix))) (lines_of secret) (lines_of other_secret) (lines_of rest))

-- the output for an input equals that for every other input that differs only in what is poked into an enclave
abbrev pub SecretNoninterference : Setup → List ℕ → Type 0
SecretNoninterference setup input = (enclave : ℕ) (other : List ℕ) → DifferInSecret enclave setup input other
    → output setup input ≡ output setup other

-- ---- the laws

-- from each bench that starts, a part of the script that avoids an enclave has equal replies on every equivalent bench
abbrev pub ScriptNoninterferenceLaw : Type 0
ScriptNoninterferenceLaw = (image : List ℕ) (setup : Setup) → IfOk (started image setup) ScriptNoninterference

-- inputs that differ only in the secret that they poke have equal outputs
abbrev pub SecretNoninterferenceLaw : Type 0
SecretNoninterferenceLaw = (setup : Setup) (input : List ℕ) → SecretNoninterference setup input
