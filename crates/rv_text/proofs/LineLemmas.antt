-- This file proves lemmas about the lines of a text that is read byte by byte.
use Rattle.std.proofs.Common.{◌≡◌, ◌≢◌, ℕ, suc, zero, inl, inr, ◌<◌, ◌≤◌, nat_eq, Bool, true, false, ◌&&◌, ◌||◌, cond, List}
use Rattle.std.proofs.Common.{[], ◌∷◌, ◌++◌, length, take, drop, min, refl, sym, ◌∙◌, ap, arith, append-nil}
use Rattle.std.proofs.lemmas.List.{take-append-le, take_all, take_min, take-take, length-take, length-append}
use Rattle.std.proofs.lemmas.Bool.{and_right, cases_lt, or_parts, or_right}
use Rattle.rv_text.specs.Characters.{carriage_return, line_feed}
use Rattle.rv_text.specs.Lines.{has_feed, starts_with_feed, onto_first, lines_of, through_last_feed, after_line, after_lines}
use Rattle.rv_text.specs.Lines.{without_return}
use Rattle.rv_text.specs.GoodLines.{significant_bytes, kept_bytes}

-- ---- line feeds, and the text through the last one

-- a disjunction of three tests may be grouped either way
or-assoc : (a b c : Bool) → a || (b || c) ≡ (a || b) || c
or-assoc true b c = refl
or-assoc false b c = refl

-- two texts together have a line feed if and only if one of them has
pub has_feed-append : (text later_text : List ℕ) → has_feed (text ++ later_text) ≡ has_feed text || has_feed later_text
has_feed-append [] later_text = refl
has_feed-append (byte ∷ text) later_text =
    rw (has_feed-append text later_text) (or-assoc (nat_eq byte line_feed) (has_feed text) (has_feed later_text))

-- a text without a line feed has no finished line: the text through its last line feed is empty
pub through_last_feed-open : (text : List ℕ) → has_feed text ≡ false → through_last_feed text ≡ []
through_last_feed-open [] no_feed = refl
through_last_feed-open (byte ∷ text) no_feed = rw no_feed refl

-- a disjunction whose right part fails has the value of its left part
or_right-false : (a b : Bool) → b ≡ false → a || b ≡ a
or_right-false true b right_fails = refl
or_right-false false b right_fails = right_fails

-- an appended text without a line feed finishes no line
pub through_last_feed-append_open : (text later_text : List ℕ) → has_feed later_text ≡ false
    → through_last_feed (text ++ later_text) ≡ through_last_feed text
through_last_feed-append_open [] later_text no_feed = through_last_feed-open later_text no_feed
through_last_feed-append_open (byte ∷ text) later_text no_feed =
    rw (
      has_feed-append text later_text,
      or_right-false (has_feed text)
          (has_feed later_text) no_feed,
      through_last_feed-append_open text later_text no_feed,
    ) refl

-- an appended text with a line feed finishes all lines before it
pub through_last_feed-append_feed : (text later_text : List ℕ) → has_feed later_text ≡ true
    → through_last_feed (text ++ later_text) ≡ text ++ through_last_feed later_text
through_last_feed-append_feed [] later_text feed_found = refl
through_last_feed-append_feed (byte ∷ text) later_text feed_found =
    rw (
      has_feed-append text later_text,
      or_right (has_feed text) (has_feed later_text) feed_found,
      or_right (nat_eq byte line_feed) true refl,
      through_last_feed-append_feed text later_text feed_found,
    ) refl

-- if a text with the first byte `byte` consists of finished lines, then it has a line feed, and the text after `byte` consists of finished lines
through_last_feed-cons : (byte : ℕ) (text : List ℕ) → through_last_feed (byte ∷ text) ≡ byte ∷ text
    → (nat_eq byte line_feed || has_feed text ≡ true) × (through_last_feed text ≡ text)
through_last_feed-cons byte text = rest_is_whole (nat_eq byte line_feed || has_feed text) where
  -- the same claim by cases: `feed_found` states whether `byte` or a later byte is a line feed
  rest_is_whole : (feed_found : Bool) → cond feed_found (byte ∷ through_last_feed text) [] ≡ byte ∷ text
      → (feed_found ≡ true) × (through_last_feed text ≡ text)
  rest_is_whole true text_is_whole = (refl, cc)
  rest_is_whole false text_is_whole = cc

-- ---- the lines of finished lines and of the text after them

-- the lines of `byte ∷ text` from those of `text`: `is_feed` states whether `byte` is a line feed, `is_return` whether `byte` is a carriage return
-- before one
abbrev lines_with : Bool → Bool → ℕ → List (List ℕ) → List (List ℕ)
lines_with is_feed is_return byte lines = cond is_feed ([] ∷ lines) (cond is_return lines (onto_first byte lines))

-- a list with a byte put before its first element is not empty
onto_first-not_empty : (byte : ℕ) (lines : List (List ℕ)) → onto_first byte lines ≡ [] → ⊥
onto_first-not_empty byte [] result_is_empty = cc
onto_first-not_empty byte (line ∷ lines) result_is_empty = cc

-- a text with a line feed has a line
pub lines_of-not_empty : (text : List ℕ) → has_feed text ≡ true → lines_of text ≡ [] → ⊥
lines_of-not_empty [] feed_found no_lines = cc
lines_of-not_empty (byte ∷ text) feed_found no_lines =
    has_line (nat_eq byte line_feed) (nat_eq byte carriage_return && starts_with_feed text) (lines_of-not_empty text) feed_found no_lines where
      -- the same claim by cases of the first byte, from the claim about the other bytes
      has_line : (is_feed is_return : Bool) → (has_feed text ≡ true → lines_of text ≡ [] → ⊥) → is_feed || has_feed text ≡ true
          → lines_with is_feed is_return byte (lines_of text) ≡ [] → ⊥
      has_line true is_return rest_has_line feed_found no_lines = cc
      has_line false true rest_has_line feed_found no_lines = rest_has_line feed_found no_lines
      has_line false false rest_has_line feed_found no_lines = onto_first-not_empty byte (lines_of text) no_lines

-- if the lines of a text are `first_lines` and then `last_lines`, this also holds after a byte is put in front of the text and of the first part
lines_split-cons : (is_feed is_return : Bool) (byte : ℕ) (all_lines first_lines last_lines : List (List ℕ))
    → all_lines ≡ first_lines ++ last_lines → (is_feed ≡ false → first_lines ≡ [] → ⊥)
    → lines_with is_feed is_return byte all_lines ≡ lines_with is_feed is_return byte first_lines ++ last_lines
lines_split-cons true is_return byte all_lines first_lines last_lines lines_split first_not_empty =
    ap (λ (lines : List (List ℕ)). [] ∷ lines) lines_split
lines_split-cons false true byte all_lines first_lines last_lines lines_split first_not_empty = lines_split
lines_split-cons false false byte all_lines [] last_lines lines_split first_not_empty = absurd (first_not_empty refl refl)
lines_split-cons false false byte all_lines (line ∷ first_lines) last_lines lines_split first_not_empty = ap (onto_first byte) lines_split

-- a text starts with a line feed if its first part does, provided the first part has a line feed
starts_with_feed-append : (text later_text : List ℕ) → has_feed text ≡ true → starts_with_feed (text ++ later_text) ≡ starts_with_feed text
starts_with_feed-append [] later_text feed_found = cc
starts_with_feed-append (byte ∷ text) later_text feed_found = refl

-- the lines of a text that begins with finished lines are these lines, followed by the lines of the text after them
pub lines_of-append : (text later_text : List ℕ) → through_last_feed text ≡ text
    → lines_of (text ++ later_text) ≡ lines_of text ++ lines_of later_text
lines_of-append [] later_text text_is_whole = refl
lines_of-append (byte ∷ text) later_text text_is_whole =
    let parts = through_last_feed-cons byte text text_is_whole in
    lines_by_test (nat_eq byte line_feed) (lines_of-append text later_text parts.1) parts.0 where
      -- the same claim by cases: `is_feed` states whether the first byte is a line feed
      lines_by_test : (is_feed : Bool) → lines_of (text ++ later_text) ≡ lines_of text ++ lines_of later_text → is_feed || has_feed text ≡ true
          → lines_with is_feed (nat_eq byte carriage_return && starts_with_feed (text ++ later_text)) byte (lines_of (text ++ later_text))
          ≡ lines_with is_feed (nat_eq byte carriage_return && starts_with_feed text) byte (lines_of text) ++ lines_of later_text
      lines_by_test true rest_splits feed_found = ap (λ (lines : List (List ℕ)). [] ∷ lines) rest_splits
      lines_by_test false rest_splits feed_found =
          rw (starts_with_feed-append text later_text feed_found)
          (lines_split-cons false (nat_eq byte carriage_return && starts_with_feed text) byte _ _ _ rest_splits
          (λ _. lines_of-not_empty text feed_found))

-- ---- one line

-- if two texts consist of finished lines, then both together consist of finished lines
pub through_last_feed-append : (text later_text : List ℕ) → through_last_feed text ≡ text → through_last_feed later_text ≡ later_text
    → through_last_feed (text ++ later_text) ≡ text ++ later_text
through_last_feed-append text [] first_is_whole second_is_whole =
    through_last_feed-append_open text [] refl ∙ (first_is_whole ∙ sym (append-nil text))
through_last_feed-append text (next_byte ∷ later_text) first_is_whole second_is_whole =
    let feed_found = (through_last_feed-cons next_byte later_text second_is_whole).0 in
    through_last_feed-append_feed text (next_byte ∷ later_text) feed_found ∙ ap (λ whole_text. text ++ whole_text) second_is_whole

-- a carriage return at the end of a line of two or more bytes is removed from the bytes after the first
without_return-cons : (byte next_byte : ℕ) (later_text : List ℕ)
    → without_return (byte ∷ next_byte ∷ later_text) ≡ byte ∷ without_return (next_byte ∷ later_text)
without_return-cons byte next_byte later_text = rw (and_right (nat_eq byte carriage_return) false refl) refl

-- if a text is one line, a byte and the text are one line, provided that neither this byte nor the next byte is a line feed
one_line-cons : (is_feed is_return next_is_feed : Bool) (byte : ℕ) (line : List ℕ) (lines : List (List ℕ))
    → lines ≡ line ∷ [] → is_feed ≡ false → next_is_feed ≡ false
    → lines_with is_feed (is_return && next_is_feed) byte lines ≡ (byte ∷ line) ∷ []
one_line-cons true is_return next_is_feed byte line lines is_one_line not_feed next_not_feed = cc
one_line-cons false is_return true byte line lines is_one_line not_feed next_not_feed = cc
one_line-cons false is_return false byte line lines is_one_line not_feed next_not_feed =
    rw (and_right is_return false refl) (ap (onto_first byte) is_one_line)

-- bytes without a line feed, followed by a line feed, are one line
pub lines_of-line : (text : List ℕ) → has_feed text ≡ false → lines_of (text ++ line_feed ∷ []) ≡ without_return text ∷ []
lines_of-line [] no_feed = refl
lines_of-line (byte ∷ []) no_feed =
    rw ((or_parts (nat_eq byte line_feed) false no_feed).0) (one_byte_line (nat_eq byte carriage_return)) where
      -- a byte followed by a line feed is one line, which is empty if it is a carriage return
      one_byte_line : (is_return : Bool) → cond (is_return && true) ([] ∷ []) ((byte ∷ []) ∷ []) ≡ cond (is_return && true) [] (byte ∷ []) ∷ []
      one_byte_line true = refl
      one_byte_line false = refl
lines_of-line (byte ∷ next_byte ∷ later_text) no_feed =
    let no_feed_from_byte = or_parts (nat_eq byte line_feed) (has_feed (next_byte ∷ later_text)) no_feed in
    let no_feed_from_next = or_parts (nat_eq next_byte line_feed) (has_feed later_text) no_feed_from_byte.1 in
    one_line-cons (nat_eq byte line_feed) (nat_eq byte carriage_return) (nat_eq next_byte line_feed) byte (without_return (next_byte ∷ later_text))
    (lines_of (next_byte ∷ later_text ++ line_feed ∷ []))
    (lines_of-line (next_byte ∷ later_text) no_feed_from_byte.1) no_feed_from_byte.0 no_feed_from_next.0
    ∙ sym (ap (λ (line : List ℕ). line ∷ []) (without_return-cons byte next_byte later_text))

-- bytes without a line feed at the end of a text are one line
pub lines_of-last : (byte : ℕ) (text : List ℕ) → has_feed (byte ∷ text) ≡ false → lines_of (byte ∷ text) ≡ (byte ∷ text) ∷ []
lines_of-last byte [] no_feed = rw ((or_parts (nat_eq byte line_feed) false no_feed).0, and_right (nat_eq byte carriage_return) false refl) refl
lines_of-last byte (next_byte ∷ later_text) no_feed =
    let no_feed_from_byte = or_parts (nat_eq byte line_feed) (has_feed (next_byte ∷ later_text)) no_feed in
    let no_feed_from_next = or_parts (nat_eq next_byte line_feed) (has_feed later_text) no_feed_from_byte.1 in
    one_line-cons (nat_eq byte line_feed) (nat_eq byte carriage_return) (nat_eq next_byte line_feed) byte (next_byte ∷ later_text)
    (lines_of (next_byte ∷ later_text))
    (lines_of-last next_byte later_text no_feed_from_byte.1) no_feed_from_byte.0 no_feed_from_next.0

-- a carriage return at the end of a line is removed
pub without_return-return : (text : List ℕ) → without_return (text ++ carriage_return ∷ []) ≡ text
without_return-return [] = refl
without_return-return (byte ∷ []) = rw (and_right (nat_eq byte carriage_return) false refl) refl
without_return-return (byte ∷ next_byte ∷ later_text) =
    rw (and_right (nat_eq byte carriage_return) false refl) (ap (λ (line : List ℕ). byte ∷ line) (without_return-return (next_byte ∷ later_text)))

-- the test for equality of two different numbers fails
pub eq_false : (x y : ℕ) → x ≢ y → nat_eq x y ≡ false
eq_false x y differ = grind arith

-- a last byte of a line that is not a carriage return is not removed
pub without_return-other : (text : List ℕ) (byte : ℕ) → byte ≢ carriage_return → without_return (text ++ byte ∷ []) ≡ text ++ byte ∷ []
without_return-other [] byte not_return = rw (eq_false byte carriage_return not_return) refl
without_return-other (next_byte ∷ []) byte not_return =
    rw (and_right (nat_eq next_byte carriage_return) false refl) (ap (λ (line : List ℕ). next_byte ∷ line) (without_return-other [] byte not_return))
without_return-other (next_byte ∷ third_byte ∷ other_bytes) byte not_return =
    rw (and_right (nat_eq next_byte carriage_return) false refl)
    (ap (λ (line : List ℕ). next_byte ∷ line) (without_return-other (third_byte ∷ other_bytes) byte not_return))

-- removing a carriage return from the end of a line does not change its first `count` bytes, if the line has more than `count` bytes
pub take-without_return : (count : ℕ) (text : List ℕ) → count < length text → take count (without_return text) ≡ take count text
take-without_return zero text count_below_length = refl
take-without_return (suc count) [] count_below_length = refl
take-without_return (suc count) (byte ∷ []) count_below_length = absurd (omega arith)
take-without_return (suc count) (byte ∷ next_byte ∷ later_text) count_below_length =
    rw (and_right (nat_eq byte carriage_return) false refl)
    (ap (λ (line : List ℕ). byte ∷ line) (take-without_return count (next_byte ∷ later_text) (omega arith)))

-- ---- the significant bytes of a line

-- of a long line only the first `kept_bytes` bytes are kept: they have the same significant bytes as the whole line
pub cut-kept : (text : List ℕ) → take significant_bytes (without_return (take kept_bytes text)) ≡ take significant_bytes (without_return text)
cut-kept text = elim (cases_lt kept_bytes (length text)) [
  | inl is_longer ↦
      let part_is_longer : significant_bytes < length (take kept_bytes text) = rw (length-take kept_bytes text) (omega arith) in
      let line_is_longer : significant_bytes < length text = omega arith in
      take-without_return significant_bytes (take kept_bytes text) part_is_longer
      ∙ (take-take significant_bytes kept_bytes text (omega arith) ∙ sym (take-without_return significant_bytes text line_is_longer))
  | inr is_kept_whole ↦ rw (take_all kept_bytes text is_kept_whole) refl
]

-- the first min(length, count) bytes of a text are its first `count` bytes
take-min : (count : ℕ) (text : List ℕ) → take (min (length text) count) text ≡ take count text
take-min count text = let min_is : min (length text) count ≡ min count (length text) = omega arith in rw min_is (take_min count text)

-- if a kept text ends with a carriage return, the bytes before it are the significant bytes of the line
pub shown-return : (text prefix : List ℕ) → text ≡ prefix ++ carriage_return ∷ [] → length text ≤ kept_bytes
    → take (length prefix) text ≡ take significant_bytes (without_return text)
shown-return text prefix text_is is_kept_whole =
    let prefix_is_shown : length prefix ≤ significant_bytes = omega (arith, simp length-append at (ap length text_is)) in
    rw (
      text_is,
      without_return-return prefix,
      take-append-le (length prefix) prefix (carriage_return ∷ []) (omega arith),
      take_all (length prefix) prefix (omega arith),
      take_all significant_bytes prefix prefix_is_shown,
    ) refl

-- if a text does not end with a carriage return, its first bytes, at most `significant_bytes`, are the significant bytes of the line
pub shown-other : (text prefix : List ℕ) (last : ℕ) → text ≡ prefix ++ last ∷ [] → last ≢ carriage_return
    → take (min (length text) significant_bytes) text ≡ take significant_bytes (without_return text)
shown-other text prefix last text_is not_return =
    take-min significant_bytes text
    ∙ ap (take significant_bytes) (text_is ∙ (sym (without_return-other prefix last not_return) ∙ ap without_return (sym text_is)))

-- an empty text shows no byte
pub shown-empty : (text : List ℕ) → length text ≡ 0
    → take (min (length text) significant_bytes) text ≡ take significant_bytes (without_return text)
shown-empty [] is_empty = refl
shown-empty (byte ∷ text) is_empty = absurd (omega arith)

-- ---- the text after a line

-- if a text has no line feed, the text after it and a line feed is the text after the first line
pub after_line-feed : (text later_text : List ℕ) → has_feed text ≡ false → after_line (text ++ line_feed ∷ later_text) ≡ later_text
after_line-feed [] later_text no_feed = refl
after_line-feed (byte ∷ text) later_text no_feed =
    let no_feed_from_byte = or_parts (nat_eq byte line_feed) (has_feed text) no_feed in
    rw no_feed_from_byte.0 (after_line-feed text later_text no_feed_from_byte.1)

-- a text without a line feed is one line, so that the text after its first line is empty
pub after_line-open : (text : List ℕ) → has_feed text ≡ false → after_line text ≡ []
after_line-open [] no_feed = refl
after_line-open (byte ∷ text) no_feed =
    let no_feed_from_byte = or_parts (nat_eq byte line_feed) (has_feed text) no_feed in
    rw no_feed_from_byte.0 (after_line-open text no_feed_from_byte.1)

-- the text after `count` lines and one more is the text after the first line of the text after `count` lines
pub after_lines-more : (count : ℕ) (text : List ℕ) → after_lines (suc count) text ≡ after_line (after_lines count text)
after_lines-more zero text = refl
after_lines-more (suc count) text = after_lines-more count (after_line text)

-- the lines of the text after the first line are the other lines
lines_of-after_line : (text : List ℕ) → lines_of (after_line text) ≡ drop 1 (lines_of text)
lines_of-after_line [] = refl
lines_of-after_line (byte ∷ text) =
    other_lines (nat_eq byte line_feed) (nat_eq byte carriage_return && starts_with_feed text) (lines_of-after_line text) where
      -- a byte put before the first line does not change the lines after the first
      drop-onto_first : (lines : List (List ℕ)) → drop 1 lines ≡ drop 1 (onto_first byte lines)
      drop-onto_first [] = refl
      drop-onto_first (line ∷ lines) = refl

      -- the same claim by cases: `is_feed` states whether `byte` is a line feed, `is_return` whether `byte` is a carriage return before one
      other_lines : (is_feed is_return : Bool) → lines_of (after_line text) ≡ drop 1 (lines_of text)
          → lines_of (cond is_feed text (after_line text)) ≡ drop 1 (lines_with is_feed is_return byte (lines_of text))
      other_lines true is_return rest_drops_one = refl
      other_lines false true rest_drops_one = rest_drops_one
      other_lines false false rest_drops_one = rest_drops_one ∙ drop-onto_first (lines_of text)

-- to drop the first line and then `count` lines is to drop `count + 1` lines
drop-drop_one : (count : ℕ) (lines : List (List ℕ)) → drop count (drop 1 lines) ≡ drop (suc count) lines
drop-drop_one zero [] = refl
drop-drop_one (suc count) [] = refl
drop-drop_one count (line ∷ lines) = refl

-- the lines of the text after `count` lines are the lines from number `count` on
pub lines_of-after_lines : (count : ℕ) (text : List ℕ) → lines_of (after_lines count text) ≡ drop count (lines_of text)
lines_of-after_lines zero text = refl
lines_of-after_lines (suc count) text =
    lines_of-after_lines count (after_line text) ∙ (ap (drop count) (lines_of-after_line text) ∙ drop-drop_one count (lines_of text))
