-- Laws of a twin run: two benches execute the same script after one of them is scrambled. They stay equivalent until the slot is entered, and
-- each preserves every enclave that is undisturbed. (Laws of this project's own monitor and debugger.)
use Rattle.std.specs.Prelude.{◌≡◌, ℕ, false, List, [], ◌∷◌, ◌++◌, IfOk, IfSome, if◌then◌else◌}
use Rattle.rv_word.specs.Cases.{result_case}
use Rattle.rv_script.specs.Command.{parse_of}
use Rattle.rv_debug.specs.Isolation.{IsPreservedIn, UndisturbedByAll}
use Rattle.rv_debug.specs.BothBenches.{BenchesEquivExcept, RunsOnNoHart, both_execute}
use Rattle.rv_debug.specs.declared.both.BothWhy.{BothWhy}
use Rattle.rv_debug.specs.declared.both.BothWhy.TheVariants.{All, NotBlind}
use Rattle.rv_script.specs.declared.command.Command.{Command}
use Rattle.rv_command_line.specs.declared.setup.Setup.{Setup}
use Rattle.rv_streams.specs.Separator.{after_separator}
use Rattle.rv_bench.specs.declared.pair.Pair.{Pair}
use Rattle.rv_bench.specs.Pair.{pair_line, make_pair}
use Rattle.rv_bench.specs.Integrity.{PreservesThrough}
use Rattle.rv_bench.specs.Output.{bench_in}
use Rattle.rv_bench.specs.Replies.{state_after}
use Rattle.rv_bench.specs.Twin.{after_first_script, monitored_setup}

-- ---- noninterference

-- a line that both benches execute has the same reply in both
abbrev pub RepliesAlikeTo : ℕ → Pair → List ℕ → Type 0
RepliesAlikeTo slot pair line =
    IfOk (parse_of line) (λ command.
    let after = both_execute slot pair.first pair.second command in
    after.why ≡ All → after.first_reply ≡ after.second_reply)

-- until the slot is entered, the benches are equivalent except for it, its enclave runs on no hart, and the replies to the next line are alike
abbrev pub StayTogether : ℕ → Pair → Type 0
StayTogether slot start =
    (lines : List (List ℕ)) (line : List ℕ)
    → (let pair = state_after (pair_line slot) start lines in
    pair.entered ≡ false
    → BenchesEquivExcept slot pair.first pair.second × RunsOnNoHart slot pair.first.target × RepliesAlikeTo slot pair line)

-- ---- integrity

-- `done_by_both` is the command that both benches executed, or none
abbrev pub done_by_both : BothWhy → Command → List Command
done_by_both NotBlind command = []
done_by_both _ command = command ∷ []

-- `done_in_line` is the command of a line that both benches execute, or none after the slot was entered, or if the line has an error
abbrev pub done_in_line : ℕ → Pair → List ℕ → List Command
done_in_line slot pair line =
    if pair.entered then []
    else result_case (parse_of line) (λ command. done_by_both (both_execute slot pair.first pair.second command).why command) (λ _. [])

-- `commands_done` has the commands of lines that both benches executed, in their order
abbrev pub commands_done : ℕ → Pair → List (List ℕ) → List Command
commands_done slot pair [] = []
commands_done slot pair (line ∷ lines) =
    done_in_line slot pair line ++ commands_done slot (pair_line slot pair line).state lines

-- After any lines, take any part that follows them, and the commands of this part that both benches execute. In each bench, these commands
-- preserve every enclave that they leave undisturbed in this bench.
abbrev pub BothPreserve : ℕ → Pair → Type 0
BothPreserve slot start =
    (enclave : ℕ) (before part : List (List ℕ))
    → (let pair = state_after (pair_line slot) start before in
    let end = state_after (pair_line slot) start (before ++ part) in
    let commands = commands_done slot pair part in
    (UndisturbedByAll enclave pair.first commands → IsPreservedIn enclave pair.first.target end.first.target)
    × (UndisturbedByAll enclave pair.second commands → IsPreservedIn enclave pair.second.target end.second.target))

-- ---- a whole input

-- a law holds of the pair after the scramble, if the input starts a bench and the slot can be scrambled
abbrev pub OfPair : Setup → ℕ → List ℕ → (Pair → Type 0) → Type 0
OfPair setup slot input Law =
    IfOk (bench_in (monitored_setup setup) input) (λ bench. IfSome (make_pair slot (after_first_script bench (after_separator input))) Law)

-- the two benches of a twin run stay equivalent, and reply the same to each line
abbrev pub TwinNoninterference : Setup → ℕ → List ℕ → Type 0
TwinNoninterference setup slot input = OfPair setup slot input (StayTogether slot)

-- the first script, and in the second script both benches, preserve the enclaves that the commands leave undisturbed
pub record TwinIntegrity (setup : Setup) (slot : ℕ) (input : List ℕ) : Type 0 where
  -- the first script preserves each enclave that its commands leave undisturbed
  pub first : IfOk (bench_in (monitored_setup setup) input) PreservesThrough
  -- in the second script, each bench preserves each enclave that the commands leave undisturbed in it
  pub second : OfPair setup slot input (BothPreserve slot)

-- ---- the laws

-- `TwinLaw` has the laws of a twin run, for every input
pub record TwinLaw : Type 0 where
  -- until the slot is entered, the two benches stay equivalent and have equal replies
  pub noninterference : (setup : Setup) (slot : ℕ) (input : List ℕ) → TwinNoninterference setup slot input
  -- each bench preserves each enclave that is undisturbed
  pub integrity : (setup : Setup) (slot : ℕ) (input : List ℕ) → TwinIntegrity setup slot input
