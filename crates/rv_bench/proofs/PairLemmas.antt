-- The replies of a pair of benches to the lines of a script, and the bytes that a sink has taken of such replies.
use Rattle.std.proofs.Common.{◌≡◌, ℕ, ◌+◌, ◌<◌, ◌==◌, Bool, true, cond, List, [], ◌∷◌, ◌++◌, length, take, drop, get_or}
use Rattle.std.proofs.Common.{refl, sym, ◌∙◌, ap, ap₂, subst, inl, inr, append_assoc, append-nil}
use Rattle.std.proofs.lemmas.Bool.{false≢true}
use Rattle.std.proofs.lemmas.List.{drop_more}
use Rattle.rv_text.specs.Characters.{line_feed}
use Rattle.rv_text.specs.GoodLines.{significant_bytes}
use Rattle.rv_text.specs.Lines.{lines_of}
use Rattle.rv_debug.proofs.Execution.{both_line-prefix}
use Rattle.rv_streams.specs.declared.device.Source.{Ghosts}
use Rattle.rv_streams.specs.declared.lines.Lines.{Lines}
use Rattle.rv_streams.specs.declared.separator.ScriptEnd.TheVariants.{Input}
use Rattle.rv_streams.specs.LineText.{ReadsLines}
use Rattle.rv_streams.specs.Script.{FindsEnd, IsAtEnd}
use Rattle.rv_streams.specs.Transfer.{WritesPrefix}
use Rattle.rv_bench.specs.declared.pair.Pair.{Pair}
use Rattle.rv_bench.specs.Pair.{pair_line, end_text, last_text, marked, script_text, pair_replied}
use Rattle.rv_bench.specs.Replies.{replies, state_after}
use Rattle.rv_bench.proofs.RepliesLemmas.{replies-append, state_after-append}

-- The byte of a text at an index is written, after the mark if the byte begins a line. The written bytes and the marked rest of the text stay the
-- same.
pub marked_step : (mark : List ℕ) (begins : Bool) (text : List ℕ) (index : ℕ) (old with_mark new : List ℕ) → index < length text
    → with_mark ≡ old ++ cond begins mark [] → new ≡ with_mark ++ get_or text index 0 ∷ []
    → new ++ marked mark (get_or text index 0 == line_feed) (drop (index + 1) text) ≡ old ++ marked mark begins (drop index text)
marked_step mark begins text index old with_mark new index_in_text mark_written byte_written =
    let byte = get_or text index 0 in
    let marked_rest = marked mark (byte == line_feed) (drop (index + 1) text) in
    ap (λ written. written ++ marked_rest) byte_written
    ∙ (append_assoc with_mark (byte ∷ []) marked_rest
    ∙ (ap (λ written. written ++ byte ∷ marked_rest) mark_written
    ∙ (append_assoc old (cond begins mark []) (byte ∷ marked_rest)
    ∙ ap (λ rest. old ++ marked mark begins rest) (sym (drop_more text index 0 index_in_text)))))

-- ---- a line

-- lines that begin with the same significant bytes have the same effect and reply
pub pair_line-prefix : (slot : ℕ) (pair : Pair) (other line : List ℕ) → take significant_bytes other ≡ take significant_bytes line
    → pair_line slot pair other ≡ pair_line slot pair line
unfolding pair_line
pair_line-prefix slot pair other line same_prefix =
    ap (λ both. cond pair.entered (record { state = pair; reply = [] }) (pair_replied pair both))
    (both_line-prefix slot pair.first pair.second other line same_prefix)

-- once the slot was entered, a line leaves the pair as it is and has no reply
no_effect_after_entry : (slot : ℕ) (pair : Pair) (line : List ℕ) → pair.entered ≡ true
    → pair_line slot pair line ≡ record { state = pair; reply = [] }
unfolding pair_line
no_effect_after_entry slot pair line is_entered = rw is_entered refl

-- once the slot was entered, lines have no replies
no_replies_after_entry : (slot : ℕ) (pair : Pair) (lines : List (List ℕ)) → pair.entered ≡ true → replies (pair_line slot) pair lines ≡ []
no_replies_after_entry slot pair [] is_entered = refl
no_replies_after_entry slot pair (line ∷ lines) is_entered =
    rw (no_effect_after_entry slot pair line is_entered) (no_replies_after_entry slot pair lines is_entered)

-- once the slot was entered, lines leave the pair as it is
same_state_after_entry : (slot : ℕ) (pair : Pair) (lines : List (List ℕ)) → pair.entered ≡ true → state_after (pair_line slot) pair lines ≡ pair
same_state_after_entry slot pair [] is_entered = refl
same_state_after_entry slot pair (line ∷ lines) is_entered =
    rw (no_effect_after_entry slot pair line is_entered) (same_state_after_entry slot pair lines is_entered)

-- ---- a script

-- The text of a script whose first `lines` entered the slot is the replies to these lines: `others` have no replies, and there is no last line.
pub entered_script : (slot : ℕ) (start pair_now : Pair) (lines others : List (List ℕ)) (unread : List ℕ)
    → pair_now ≡ state_after (pair_line slot) start lines
    → pair_now.entered ≡ true → lines_of unread ≡ lines ++ others → script_text slot start (lines_of unread) ≡ replies (pair_line slot) start lines
entered_script slot start pair_now lines others unread pair_is pair_entered unread_lines =
    let pair_between = state_after (pair_line slot) start lines in
    let first_replies = replies (pair_line slot) start lines in
    let is_entered : pair_between.entered ≡ true = ap (λ (pair : Pair). pair.entered) (sym pair_is) ∙ pair_entered in
    -- the other lines have no replies
    let replies_are : replies (pair_line slot) start (lines ++ others) ≡ first_replies =
    replies-append (pair_line slot) start lines others
    ∙ (ap (λ text. first_replies ++ text) (no_replies_after_entry slot pair_between others is_entered) ∙ append-nil first_replies) in
    -- after the entry, the end of the input is not reported
    let no_last_text : last_text (state_after (pair_line slot) start (lines ++ others)) ≡ [] =
    ap last_text (state_after-append (pair_line slot) start lines others ∙ same_state_after_entry slot pair_between others is_entered)
    ∙ ap (λ entered. cond entered [] (end_text pair_between.ran)) is_entered in
    ap (script_text slot start) unread_lines
    ∙ (ap (λ text. text ++ last_text (state_after (pair_line slot) start (lines ++ others))) replies_are
    ∙ (ap (λ text. first_replies ++ text) no_last_text ∙ append-nil first_replies))

-- the written bytes after a line that entered the slot are the whole text of the script
pub entered_all : (slot : ℕ) (start pair_now : Pair) (unread remaining : List ℕ) (is_at_end : Bool) (lines : List (List ℕ)) (old new : List ℕ)
    → ReadsLines unread remaining is_at_end lines → pair_now ≡ state_after (pair_line slot) start lines → pair_now.entered ≡ true
    → new ≡ old ++ replies (pair_line slot) start lines → new ≡ old ++ script_text slot start (lines_of unread)
entered_all slot start pair_now unread remaining is_at_end lines old new reads pair_is pair_entered wrote_replies =
    wrote_replies ∙ ap (λ text. old ++ text)
    (sym (entered_script slot start pair_now lines (lines_of remaining) unread pair_is pair_entered reads.all_lines))

-- ---- the written bytes

-- a prefix of a text is a prefix of a longer text
pub prefix_more : (old new text more : List ℕ) → WritesPrefix old new text → WritesPrefix old new (text ++ more)
prefix_more old new text more (unwritten, (prefix, wrote_prefix, text_is)) =
    (unwritten ++ more, (prefix, wrote_prefix, ap (λ start. start ++ more) text_is ∙ append_assoc prefix unwritten more))

-- a prefix of a text, after another text that is written, is a prefix of both texts
pub prefix_after : (old written_so_far new text more : List ℕ) → written_so_far ≡ old ++ text → WritesPrefix written_so_far new more
    → WritesPrefix old new (text ++ more)
prefix_after old written_so_far new text more written_so_far_is (unwritten, (prefix, wrote_prefix, more_is)) = (
  unwritten,
  (
    text ++ prefix,
    wrote_prefix ∙ (ap (λ taken. taken ++ prefix) written_so_far_is ∙ append_assoc old text prefix),
    ap (λ rest. text ++ rest) more_is ∙ sym (append_assoc text prefix unwritten),
  ),
)

-- a text that was written completely is a prefix of itself
pub prefix_all : (old new text : List ℕ) → new ≡ old ++ text → WritesPrefix old new text
prefix_all old new text new_is = ([], (text, new_is, sym (append-nil text)))

-- a prefix of the empty text writes nothing
pub prefix_none : (old new : List ℕ) → WritesPrefix old new [] → new ≡ old
prefix_none old new (unwritten, ([], wrote_prefix, empty_is)) = wrote_prefix ∙ append-nil old
prefix_none old new (unwritten, (byte ∷ prefix, wrote_prefix, empty_is)) = cc

-- the last text, which reports the end, is written after the replies to all lines of the script
module _ (slot : ℕ) (start pair_now : Pair) (lines : List (List ℕ)) (old written_so_far last : List ℕ) (pair_is : pair_now
    ≡ state_after (pair_line slot) start lines)
    (wrote_replies : written_so_far ≡ old ++ replies (pair_line slot) start lines) (last_reports : last ≡ last_text pair_now) where
  -- the last text is that of the pair after all lines
  last_is : last ≡ last_text (state_after (pair_line slot) start lines)
  last_is = last_reports ∙ ap last_text pair_is

  -- the replies to all lines and the last text are the output of the script
  pub ended_all : written_so_far ++ last ≡ old ++ script_text slot start lines
  ended_all = ap₂ (λ (taken last : List ℕ). taken ++ last) wrote_replies last_is
      ∙ append_assoc old (replies (pair_line slot) start lines) (last_text (state_after (pair_line slot) start lines))

  -- a sink that fails in the last text has a prefix of the output of the script
  pub ended_prefix : (new : List ℕ) → WritesPrefix written_so_far new last → WritesPrefix old new (script_text slot start lines)
  ended_prefix new wrote_prefix =
      prefix_after old written_so_far new (replies (pair_line slot) start lines) _ wrote_replies
      (subst (WritesPrefix written_so_far new) last_is wrote_prefix)

-- the second script ends at the end of the input, which the source has reported
pub at_input_end : {S : Type 0} {source_view : Ghosts S} {old new : Lines S source_view} → FindsEnd Input old new → IsAtEnd old new
at_input_end (inl at_end) = at_end
at_input_end (inr reads) = absurd (false≢true reads.ends)
