-- A line whose bytes are read part by part. The lemmas are about the bytes that are kept of it, and about the line that is taken at its line feed or
-- at the end of the source.
use Rattle.std.proofs.Common.{◌≡◌, ◌≢◌, ℕ, inl, inr, ◌+◌, ◌-◌, ◌<◌, ◌≤◌, Bool, true, false, ◌||◌, List, [], ◌∷◌, ◌++◌, length, take, drop, min, refl}
use Rattle.std.proofs.Common.{sym, ◌∙◌, ap, arith, append_assoc, append-nil, add-one}
use Rattle.std.proofs.Math.Seq.{take-append-add}
use Rattle.std.proofs.lemmas.Bool.{cases_lt}
use Rattle.std.proofs.lemmas.List.{take-append-le, take-append-drop, take_all, take-take, length-take, length-append}
use Rattle.rv_text.specs.Characters.{line_feed}
use Rattle.rv_text.specs.GoodLines.{significant_bytes, kept_bytes}
use Rattle.rv_text.specs.Lines.{has_feed, lines_of, after_line, after_lines}
use Rattle.rv_streams.specs.LineText.{ReadsLineText, TakesLine, ReadsLines}
use Rattle.rv_text.specs.Lines.{without_return}
use Rattle.rv_text.proofs.LineLemmas.{has_feed-append, eq_false, through_last_feed-append_feed, lines_of-line, lines_of-last, cut-kept, lines_of-append}
use Rattle.rv_text.proofs.LineLemmas.{after_line-feed, after_line-open, after_lines-more, through_last_feed-append}

-- before a further byte is read, the bytes of the line are the held bytes
pub ReadsText-none : (held remaining : List ℕ) → length held ≤ kept_bytes → has_feed held ≡ false → ReadsLineText (held ++ remaining) remaining held
ReadsText-none held remaining fits no_feed = record { text = held; split = refl; unfinished = no_feed; prefix = sym (take_all kept_bytes held fits) }

-- a text without a line feed has none after another byte that is no line feed
pub has_feed-push : (text : List ℕ) (byte : ℕ) → has_feed text ≡ false → byte ≢ line_feed → has_feed (text ++ byte ∷ []) ≡ false
has_feed-push text byte no_feed not_feed = rw (has_feed-append text (byte ∷ []), no_feed, eq_false byte line_feed not_feed) refl

-- a prefix of a text without a line feed has none
pub has_feed-take : (count : ℕ) (text : List ℕ) → has_feed text ≡ false → has_feed (take count text) ≡ false
has_feed-take count text no_feed =
    left_fails _ _ (sym (has_feed-append (take count text) (drop count text)) ∙ (ap has_feed (take-append-drop count text) ∙ no_feed)) where
      -- if a disjunction fails, its left part fails
      left_fails : (left right : Bool) → left || right ≡ false → left ≡ false
      left_fails true right neither = neither
      left_fails false right neither = refl

-- the kept part of a line without a line feed has none
pub has_feed-kept : (most : ℕ) (line text : List ℕ) → has_feed line ≡ false → has_feed text ≡ false → has_feed (take most (line ++ text)) ≡ false
has_feed-kept most line text none_in_line none_in_text =
    has_feed-take most (line ++ text) (rw (has_feed-append line text, none_in_line) none_in_text)

-- if the first count - 1 bytes of a part have no line feed, the text of these bytes has none
pub has_feed-before_last : (part text : List ℕ) (last count : ℕ) → count ≤ length part → take count part ≡ text ++ last ∷ []
    → length text + 1 ≡ length (take count part) → has_feed (take (count - 1) part) ≡ false → has_feed text ≡ false
has_feed-before_last part text last count count_in_part ends_in_last lengths no_feed =
    let length_is : length text ≡ count - 1 = omega (arith, lengths, length-take count part, count_in_part) in
    let text_is : take (count - 1) part ≡ text =
    sym (take-take (count - 1) count part (omega arith)) ∙ (ap (take (count - 1)) ends_in_last
    ∙ (take-append-le (count - 1) text (last ∷ []) (omega (arith, length_is)) ∙ take_all (count - 1) text (omega (arith, length_is)))) in
    sym (ap has_feed text_is) ∙ no_feed

-- if a part that was read is a text and a line feed, the old bytes are the text, the line feed and the bytes that are left
pub feed_next : (old remaining part text : List ℕ) (last : ℕ) → old ≡ part ++ remaining → part ≡ text ++ last ∷ [] → last ≡ line_feed
    → old ≡ text ++ line_feed ∷ remaining
feed_next old remaining part text last old_is part_is last_is_feed =
    old_is ∙ (ap (λ part. part ++ remaining) part_is ∙ (append_assoc text (last ∷ []) remaining ∙ ap (λ byte. text ++ byte ∷ remaining) last_is_feed))

-- the first min(length, count) bytes of a text are its first `count` bytes
take-min : (count : ℕ) (text : List ℕ) → take (min (length text) count) text ≡ take count text
take-min count text = elim (cases_lt count (length text)) [
  | inl count_is_less ↦ ap (λ taken. take taken text) (omega arith)
  | inr count_takes_all ↦ take_all _ text (omega arith) ∙ sym (take_all count text count_takes_all)
]

-- a line, and as many bytes of a text as there is room for, are the first `most` bytes of the line and the text
pub take-room : (most count : ℕ) (line text : List ℕ) → length line ≤ most → count ≡ min (length text) (most - length line)
    → line ++ take count text ≡ take most (line ++ text)
take-room most count line text line_fits count_is =
    let most_is : length line + (most - length line) ≡ most = omega (arith, line_fits) in
    ap (λ count. line ++ take count text) count_is ∙ (ap (λ added. line ++ added) (take-min (most - length line) text)
    ∙ (sym (take-append-add line text (most - length line)) ∙ ap (λ count. take count (line ++ text)) most_is))

-- the first `count` bytes of two lists depend on the first `count` bytes of the first list only
take-kept : (count : ℕ) (xs ys : List ℕ) → take count (take count xs ++ ys) ≡ take count (xs ++ ys)
take-kept count xs ys = elim (cases_lt count (length xs)) [
  | inl count_is_less ↦
      take-append-le count (take count xs) ys (omega (arith, length-take count xs))
      ∙ (take-take count count xs (omega arith) ∙ sym (take-append-le count xs ys (omega arith)))
  | inr count_takes_all ↦ ap (λ kept. take count (kept ++ ys)) (take_all count xs count_takes_all)
]

-- the next bytes of the line are read, and as many of them are kept as there is room for
pub ReadsText-more : (unread old remaining kept more : List ℕ) → ReadsLineText unread old kept → old ≡ more ++ remaining → has_feed more ≡ false
    → ReadsLineText unread remaining (take kept_bytes (kept ++ more))
ReadsText-more unread old remaining kept more reads old_is no_feed = record {
  text = reads.text ++ more;
  split = reads.split ∙ (ap (λ rest. reads.text ++ rest) old_is ∙ sym (append_assoc reads.text more remaining));
  unfinished = rw (has_feed-append reads.text more, reads.unfinished) no_feed;
  prefix = ap (λ kept. take kept_bytes (kept ++ more)) reads.prefix ∙ take-kept kept_bytes reads.text more;
}

-- a line is taken when its line feed is read
pub TakesLine-feed : (unread remaining kept shown : List ℕ) (is_at_end : Bool) → ReadsLineText unread (line_feed ∷ remaining) kept
    → shown ≡ take significant_bytes (without_return kept) → TakesLine unread remaining is_at_end shown
TakesLine-feed unread remaining kept shown is_at_end reads shown_is =
    let text = reads.text in
    let line_text = text ++ line_feed ∷ [] in
    let split : unread ≡ line_text ++ remaining = reads.split ∙ sym (append_assoc text (line_feed ∷ []) remaining) in
    let is_line = lines_of-line text reads.unfinished in
    let whole = through_last_feed-append_feed text (line_feed ∷ []) refl in record {
      text = line_text;
      line = without_return text;
      split = split;
      is_line = is_line;
      whole_lines = λ _. whole;
      lines = ap lines_of split ∙ (lines_of-append line_text remaining whole ∙ ap (λ lines. lines ++ lines_of remaining) is_line);
      rest = sym (ap after_line reads.split ∙ after_line-feed text remaining reads.unfinished);
      prefix = shown_is ∙ (ap (λ kept. take significant_bytes (without_return kept)) reads.prefix ∙ cut-kept text);
    }

-- a non-empty text without a line feed is one line
last_line : (text : List ℕ) → has_feed text ≡ false → 0 < length text → lines_of text ≡ text ∷ []
last_line [] no_feed is_nonempty = absurd (omega arith)
last_line (byte ∷ text) no_feed is_nonempty = lines_of-last byte text no_feed

-- at the end of the source, the remaining bytes are a line unless there are none
pub TakesLine-end : (unread remaining kept shown : List ℕ) → ReadsLineText unread remaining kept → remaining ≡ [] → 0 < length kept
    → shown ≡ take significant_bytes kept → TakesLine unread [] true shown
TakesLine-end unread remaining kept shown reads none_left some_kept shown_is =
    let text = reads.text in
    let is_nonempty : 0 < length text = omega (arith, ap length reads.prefix, length-take kept_bytes text, some_kept) in
    let split : unread ≡ text ++ [] = reads.split ∙ ap (λ rest. text ++ rest) none_left in
    let is_line = last_line text reads.unfinished is_nonempty in record {
      text = text;
      line = text;
      split = split;
      is_line = is_line;
      whole_lines = λ not_at_end. cc;
      lines = ap lines_of (split ∙ append-nil text) ∙ is_line;
      rest = sym (ap after_line (split ∙ append-nil text) ∙ after_line-open text reads.unfinished);
      prefix = shown_is ∙ (ap (take significant_bytes) reads.prefix ∙ take-take significant_bytes kept_bytes text (omega arith));
    }

-- no line is taken yet
pub ReadsLines-none : (unread : List ℕ) (is_at_end : Bool) → ReadsLines unread unread is_at_end []
ReadsLines-none unread is_at_end = record {
  text = [];
  split = refl;
  are_lines = refl;
  whole_lines = λ _. refl;
  all_lines = refl;
  rest = refl;
}

-- one more line is taken after the lines so far
pub ReadsLines-more : (unread remaining rest : List ℕ) (ends : Bool) (shown : List ℕ) (lines : List (List ℕ))
    → ReadsLines unread remaining false lines
    → (takes : TakesLine remaining rest ends shown) → ReadsLines unread rest ends (lines ++ takes.line ∷ [])
ReadsLines-more unread remaining rest ends shown lines reads takes =
    let line = takes.line in
    let rest_is : after_lines (length lines + 1) unread ≡ after_line remaining =
    rw (add-one) (after_lines-more (length lines) unread ∙ ap after_line (sym reads.rest)) in record {
      text = reads.text ++ takes.text;
      split = reads.split ∙ (ap (λ text. reads.text ++ text) takes.split ∙ sym (append_assoc reads.text takes.text rest));
      are_lines = lines_of-append reads.text takes.text (reads.whole_lines refl)
          ∙ (ap (λ first. first ++ lines_of takes.text) reads.are_lines ∙ ap (λ last. lines ++ last) takes.is_line);
      whole_lines = λ not_at_end. through_last_feed-append reads.text takes.text (reads.whole_lines refl) (takes.whole_lines not_at_end);
      all_lines = reads.all_lines ∙ (ap (λ others. lines ++ others) takes.lines ∙ sym (append_assoc lines (line ∷ []) (lines_of rest)));
      rest = takes.rest ∙ (sym rest_is ∙ ap (λ count. after_lines count unread) (sym (length-append lines (line ∷ []))));
    }
