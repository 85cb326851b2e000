-- This file proves lemmas about the first line of a text.
use Rattle.std.proofs.Common.{◌≡◌, ◌≢◌, ◌==◌, ◌||◌, ℕ, ◌+◌, ◌<◌, Bool, true, false, not, cond, sym, List, [], ◌∷◌}
use Rattle.std.proofs.Common.{◌++◌, length, take, get_or, refl, ap, ◌∙◌, arith, append_assoc, suc}
use Rattle.std.proofs.lemmas.List.{take_all}
use Rattle.std.specs.List.{position_or_len, before_first, after_first, prefix_len}
use Rattle.std.proofs.lemmas.Bool.Decides.{nat_tests}
use Rattle.std.proofs.lemmas.List.Sums.{split_at_first, passes_at_first}
use Rattle.rv_text.specs.Characters.{carriage_return, line_feed}
use Rattle.rv_text.specs.Lines.{has_feed, lines_of, through_last_feed, without_return}
use Rattle.rv_text.proofs.LineLemmas.{lines_of-append, lines_of-line, lines_of-last, without_return-other, through_last_feed-append_feed}

-- the byte is a line feed
abbrev is_feed : ℕ → Bool
is_feed byte = byte == line_feed

-- the first `count + 1` elements of a list are its first element and the first `count` of the others
take-one_more : (count byte : ℕ) (text : List ℕ) → take (1 + count) (byte ∷ text) ≡ byte ∷ take count text
take-one_more count byte text = let count_is : 1 + count ≡ suc count = omega arith in rw count_is refl

-- no byte before the first line feed of `byte ∷ text` is a line feed, if this holds for `text`; `byte_is_feed` states whether `byte` is one
no_feed-cons : (byte_is_feed : Bool) (count byte : ℕ) (text : List ℕ) → is_feed byte ≡ byte_is_feed → has_feed (take count text) ≡ false
    → has_feed (take (cond (not byte_is_feed) (1 + count) 0) (byte ∷ text)) ≡ false
no_feed-cons true count byte text test_is no_feed_in_rest = refl
no_feed-cons false count byte text test_is no_feed_in_rest =
    ap has_feed (take-one_more count byte text) ∙ ap (λ byte. byte || has_feed (take count text)) test_is ∙ no_feed_in_rest

-- the bytes of a text before its first line feed have no line feed (by induction over the text)
pub no_feed : (text : List ℕ) → has_feed (before_first is_feed text) ≡ false
no_feed [] = refl
no_feed (byte ∷ text) = no_feed-cons (is_feed byte) (prefix_len (λ other. not (is_feed other)) text) byte text refl (no_feed text)

-- a byte that passes the test for a line feed has the code of the line feed
code_of_line_feed : (count : ℕ) → is_feed count ≡ true → count ≡ line_feed
code_of_line_feed count is_line_feed = grind (arith, nat_tests)

-- a text that ends with a line feed consists of whole lines
whole_line : (prefix : List ℕ) → through_last_feed (prefix ++ line_feed ∷ []) ≡ prefix ++ line_feed ∷ []
whole_line prefix = through_last_feed-append_feed prefix (line_feed ∷ []) refl

-- the lines of a text with a line feed are the bytes before it, without a carriage return at their end, and the lines of the rest
lines_of-feed : (prefix rest : List ℕ) → has_feed prefix ≡ false
    → lines_of (prefix ++ line_feed ∷ rest) ≡ without_return prefix ∷ lines_of rest
lines_of-feed prefix rest no_feed_in_prefix =
    ap lines_of (sym (append_assoc prefix (line_feed ∷ []) rest))
    ∙ lines_of-append (prefix ++ line_feed ∷ []) rest (whole_line prefix)
    ∙ ap (λ lines. lines ++ lines_of rest) (lines_of-line prefix no_feed_in_prefix)

-- the lines of a text with a line feed are the bytes before the first one, without a carriage return, and the lines of the bytes after it
pub lines-cut : (text : List ℕ) → position_or_len is_feed text < length text
    → lines_of text ≡ without_return (before_first is_feed text) ∷ lines_of (after_first is_feed text)
lines-cut text feed_in_text =
    let feed_is : get_or text (position_or_len is_feed text) 0 ≡ line_feed =
    code_of_line_feed _ (passes_at_first is_feed text 0 feed_in_text) in
    let text_is : text ≡ before_first is_feed text ++ line_feed ∷ after_first is_feed text =
    rw feed_is at (split_at_first is_feed text 0 feed_in_text) in
    ap lines_of text_is ∙ lines_of-feed (before_first is_feed text) (after_first is_feed text) (no_feed text)

-- if the search for a line feed returns the length of the text, the text has no line feed
pub all_taken : (text : List ℕ) → position_or_len is_feed text ≡ length text → has_feed text ≡ false
all_taken text no_feed_found =
    let take_all_is : take (length text) text ≡ text = take_all (length text) text (omega arith) in
    sym (ap has_feed take_all_is) ∙ rw no_feed_found at (no_feed text)

-- a text without a line feed is one line
pub lines-whole : (text : List ℕ) → 0 < length text → position_or_len is_feed text ≡ length text → lines_of text ≡ text ∷ []
lines-whole [] not_empty no_feed_found = absurd (omega arith)
lines-whole (byte ∷ text) not_empty no_feed_found = lines_of-last byte text (all_taken (byte ∷ text) no_feed_found)

-- a line whose last byte is not a carriage return is not changed by the removal of carriage returns
pub no_return-other : (line prefix : List ℕ) (last : ℕ) → line ≡ prefix ++ last ∷ [] → last ≢ carriage_return → line ≡ without_return line
no_return-other line prefix last line_splits not_return = rw line_splits (sym (without_return-other prefix last not_return))
