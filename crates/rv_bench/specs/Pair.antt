-- The replies of a pair, line by line: two benches that differ in what is private to the enclave of a slot. (This project's own commands.)
use Rattle.std.specs.Prelude.{ℕ, ◌+◌, ◌-◌, ◌^◌, min, ◌==◌, Bool, true, false, List, [], ◌∷◌, ◌++◌, codes, decimal, Option, None, Some, if◌then◌else◌}
use Rattle.rv_text.specs.Characters.{line_feed}
use Rattle.rv_debug.specs.BenchState.{BenchState}
use Rattle.rv_debug.specs.BothBenches.{BothLineExecuted, both_execute_line, can_scramble, scrambled}
use Rattle.rv_debug.specs.declared.both.BothLine.{BothLine}
use Rattle.rv_debug.specs.declared.both.BothLine.TheVariants.{Faulty, Given}
use Rattle.rv_debug.specs.declared.both.BothWhy.TheVariants.{All, Entered, NotBlind}
use Rattle.rv_bench.specs.Replies.{Responding, Replied, replies, state_after}
use Rattle.rv_bench.specs.declared.pair.Pair.{Pair}

-- ---- the texts

-- `marked` is the text with the mark before each of its lines
abbrev pub marked : List ℕ → Bool → List ℕ → List ℕ
marked mark begins [] = []
marked mark begins (byte ∷ text) = (if begins then mark else []) ++ byte ∷ marked mark (byte == line_feed) text

-- `both_text` has the lines of the first bench's reply, and then those of the second's
abbrev pub both_text : List ℕ → List ℕ → List ℕ
both_text first second = marked (codes "a: ") true first ++ marked (codes "b: ") true second

-- `blind_text` is the reply to a command that is blocked
abbrev pub blind_text : List ℕ
blind_text = codes "error blind\n"

-- `no_slot_text` is the reply if the slot cannot be scrambled
abbrev pub no_slot_text : List ℕ
no_slot_text = codes "twin no slot\n"

-- the reply to the command that enters the slot, with the number of executed commands
unfoldable pub entered_text : ℕ → List ℕ
entered_text ran = codes "twin entered " ++ (decimal ran ++ codes "\n")

-- the last line, with the number of executed commands
unfoldable pub end_text : ℕ → List ℕ
end_text ran = codes "twin end " ++ (decimal ran ++ codes "\n")

-- ---- one line

-- `one_more` is the count after one more command; it saturates at the largest `u64`
abbrev pub one_more : ℕ → ℕ
one_more count = min (count + 1) (2 ^ 64 - 1)

-- the number of commands with the command of this line; a blank line has no command
abbrev pub with_line : Bool → ℕ → ℕ
with_line is_blank ran = if is_blank then ran else one_more ran

-- `done_by` is the result of a line on both benches
abbrev pub done_by : BothLine → BothLineExecuted → ℕ → Replied Pair
done_by Faulty both ran = record {
  state = record { first = both.first; second = both.second; ran = ran; entered = false };
  reply = both.first_reply;
}
done_by (Given All is_blank) both ran = record {
  state = record { first = both.first; second = both.second; ran = with_line is_blank ran; entered = false };
  reply = both_text both.first_reply both.second_reply;
}
done_by (Given Entered is_blank) both ran = record {
  state = record { first = both.first; second = both.second; ran = one_more ran; entered = true };
  reply = entered_text (one_more ran);
}
done_by (Given NotBlind is_blank) both ran = record {
  state = record { first = both.first; second = both.second; ran = ran; entered = false };
  reply = blind_text;
}

-- `pair_replied` is the pair of benches after a line, and the reply of both
abbrev pub pair_replied : Pair → BothLineExecuted → Replied Pair
pair_replied pair both = done_by both.line both pair.ran

-- once the slot was entered, a line has no effect and no reply
unfoldable pub pair_line : ℕ → Pair → List ℕ → Replied Pair
pair_line slot pair line =
    if pair.entered then record { state = pair; reply = [] } else pair_replied pair (both_execute_line slot pair.first pair.second line)

-- both benches are over once the slot was entered
abbrev pub both_benches : ℕ → Responding Pair
both_benches slot = record { respond = pair_line slot; is_over = λ pair. pair.entered }

-- ---- a script

-- the last line reports the end of the input, unless the slot was entered
abbrev pub last_text : Pair → List ℕ
last_text pair = if pair.entered then [] else end_text pair.ran

-- the output of the second script: the replies to its lines, and the last line
abbrev pub script_text : ℕ → Pair → List (List ℕ) → List ℕ
script_text slot pair script = replies (pair_line slot) pair script ++ last_text (state_after (pair_line slot) pair script)

-- the second of two equal benches is scrambled, if possible
abbrev pub make_pair : ℕ → BenchState → Option Pair
make_pair slot bench =
    if can_scramble slot bench then Some (record { first = bench; second = scrambled slot bench; ran = 0; entered = false })
    else None
