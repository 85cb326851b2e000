-- Inputs that begin with the same whole lines, including the separator. They start the same bench, and their scripts begin with the same lines. A
-- text consists of whole lines if it ends at its last line feed (`through_last_feed text ≡ text`).
use Rattle.std.proofs.Common.{◌≡◌, ℕ, zero, suc, ◌+◌, ◌≤◌, Bool, true, false, cond, not, ◌||◌, List, [], ◌∷◌, ◌++◌}
use Rattle.std.proofs.Common.{length, drop, Err, refl, sym, ◌∙◌, ap, arith, subst, nat_eq}
use Rattle.std.proofs.lemmas.List.Sums.{take_while-cons}
use Rattle.std.specs.List.{list_any, take_while}
use Rattle.rv_text.specs.Characters.{line_feed}
use Rattle.rv_text.specs.Lines.{has_feed, lines_of, through_last_feed, after_line, after_lines}
use Rattle.rv_text.proofs.LineLemmas.{lines_of-append, lines_of-after_lines}
use Rattle.rv_word.specs.Cases.{result_case}
use Rattle.rv_command_line.specs.declared.setup.Setup.{Setup}
use Rattle.rv_streams.specs.Image.{image_of}
use Rattle.rv_streams.specs.Separator.{is_separator, has_separator, before_separator, after_separator}
use Rattle.rv_bench.specs.Loaded.{started}
use Rattle.rv_bench.specs.Output.{bench_in}

-- ---- the first line that satisfies a test

module _ (passes : List ℕ → Bool) where
  -- `before` has the lines before the first that passes the test
  abbrev before : List (List ℕ) → List (List ℕ)
  before lines = take_while (λ line. not (passes line)) lines

  -- the lines before the first that passes the test depend only on a prefix that has such a line
  before-append : (lines later_lines : List (List ℕ)) → list_any passes lines ≡ true → before (lines ++ later_lines) ≡ before lines
  before-append [] later_lines one_passes = cc
  before-append (line ∷ lines) later_lines one_passes =
      take_while-cons (λ line. not (passes line)) line (lines ++ later_lines)
      ∙ (by_first (passes line) one_passes (before-append lines later_lines) ∙ sym (take_while-cons (λ line. not (passes line)) line lines)) where
        -- the same claim by cases on the test of the first line, with the claim for the other lines as a premise
        by_first : (line_passes : Bool) → line_passes || list_any passes lines ≡ true
            → (list_any passes lines ≡ true → before (lines ++ later_lines) ≡ before lines)
            → cond (not line_passes) (line ∷ before (lines ++ later_lines)) [] ≡ cond (not line_passes) (line ∷ before lines) []
        by_first true one_passes hypothesis = refl
        by_first false one_passes hypothesis = ap (λ others. line ∷ others) (hypothesis one_passes)

  -- the lines before the first that passes the test are fewer than all lines, if there is such a line
  before-shorter : (lines : List (List ℕ)) → list_any passes lines ≡ true → length (before lines) + 1 ≤ length lines
  before-shorter [] one_passes = cc
  before-shorter (line ∷ lines) one_passes =
      subst (λ (some : List (List ℕ)). length some + 1 ≤ length (line ∷ lines)) (sym (take_while-cons (λ line. not (passes line)) line lines))
      (by_first (passes line) one_passes (before-shorter lines)) where
        -- the same claim by cases on the test of the first line, with the claim for the other lines as a premise
        by_first : (line_passes : Bool) → line_passes || list_any passes lines ≡ true
            → (list_any passes lines ≡ true → length (before lines) + 1 ≤ length lines)
            → length (cond (not line_passes) (line ∷ before lines) []) + 1 ≤ length (line ∷ lines)
        by_first true one_passes hypothesis = omega arith
        by_first false one_passes hypothesis = let shorter = hypothesis one_passes in omega (arith, shorter)

-- ---- whole lines

-- a text of whole lines has a line feed, in its first byte or later, and the text after the first byte consists of whole lines
whole_tail : (byte : ℕ) (text : List ℕ) → through_last_feed (byte ∷ text) ≡ byte ∷ text
    → (nat_eq byte line_feed || has_feed text ≡ true) × (through_last_feed text ≡ text)
whole_tail byte text = by_feed (nat_eq byte line_feed || has_feed text) where
  -- the same claim by cases on `feeds`, which states whether the text has a line feed
  by_feed : (feeds : Bool) → cond feeds (byte ∷ through_last_feed text) [] ≡ byte ∷ text → (feeds ≡ true) × (through_last_feed text ≡ text)
  by_feed true whole_lines = (refl, ap (drop 1) whole_lines)
  by_feed false whole_lines = cc

-- the text after the first line of a text of whole lines consists of whole lines
after_line-whole : (text : List ℕ) → through_last_feed text ≡ text → through_last_feed (after_line text) ≡ after_line text
after_line-whole [] whole_lines = refl
after_line-whole (byte ∷ text) whole_lines =
    let tail_whole = (whole_tail byte text whole_lines).1 in by_feed (nat_eq byte line_feed) tail_whole (after_line-whole text tail_whole) where
      -- the same claim by cases: the first byte is the line feed of the first line, or the first line ends later
      by_feed : (is_feed : Bool) → through_last_feed text ≡ text → through_last_feed (after_line text) ≡ after_line text
          → through_last_feed (cond is_feed text (after_line text)) ≡ cond is_feed text (after_line text)
      by_feed true tail_whole hypothesis = tail_whole
      by_feed false tail_whole hypothesis = hypothesis

-- a text that is appended after a line feed is appended to the text after the first line
after_line-append : (text later_text : List ℕ) → has_feed text ≡ true → after_line (text ++ later_text) ≡ after_line text ++ later_text
after_line-append [] later_text feeds = cc
after_line-append (byte ∷ text) later_text feeds = by_feed (nat_eq byte line_feed) feeds (after_line-append text later_text) where
  -- the same claim by cases: the first byte is the line feed of the first line, or the first line ends later
  by_feed : (is_feed : Bool) → is_feed || has_feed text ≡ true
      → (has_feed text ≡ true → after_line (text ++ later_text) ≡ after_line text ++ later_text)
      → cond is_feed (text ++ later_text) (after_line (text ++ later_text)) ≡ cond is_feed text (after_line text) ++ later_text
  by_feed true feeds hypothesis = refl
  by_feed false feeds hypothesis = hypothesis feeds

-- a text of whole lines that has more than `count` lines has a line feed
has_feed_if_has_lines : (text : List ℕ) (count : ℕ) → through_last_feed text ≡ text → count + 1 ≤ length (lines_of text) → has_feed text ≡ true
has_feed_if_has_lines [] count whole_lines enough_lines = absurd (omega (arith, enough_lines))
has_feed_if_has_lines (byte ∷ text) count whole_lines enough_lines = (whole_tail byte text whole_lines).0

-- the text after the first `count` lines of a text of whole lines consists of whole lines, by induction over `count`
after_lines-whole : (count : ℕ) (text : List ℕ) → through_last_feed text ≡ text → through_last_feed (after_lines count text) ≡ after_lines count text
after_lines-whole zero text whole_lines = whole_lines
after_lines-whole (suc count) text whole_lines = after_lines-whole count (after_line text) (after_line-whole text whole_lines)

-- without its first element, a list with more than `count` elements has at least `count`
enough_after_first : (lines : List (List ℕ)) (count : ℕ) → suc count ≤ length lines → count ≤ length (drop 1 lines)
enough_after_first [] count enough_lines = absurd (omega (arith, enough_lines))
enough_after_first (line ∷ lines) count enough_lines = omega (arith, enough_lines)

-- a text that is appended to a text of at least `count` whole lines is appended to the text after these lines, by induction over `count`
after_lines-append : (count : ℕ) (text later_text : List ℕ) → through_last_feed text ≡ text → count ≤ length (lines_of text)
    → after_lines count (text ++ later_text) ≡ after_lines count text ++ later_text
after_lines-append zero text later_text whole_lines enough_lines = refl
after_lines-append (suc count) text later_text whole_lines enough_lines =
    let feeds = has_feed_if_has_lines text count whole_lines (omega (arith, enough_lines)) in
    let enough_left =
    subst (λ (lines : List (List ℕ)). count ≤ length lines) (sym (lines_of-after_lines 1 text))
    (enough_after_first (lines_of text) count enough_lines) in
    ap (after_lines count) (after_line-append text later_text feeds)
    ∙ after_lines-append count (after_line text) later_text (after_line-whole text whole_lines) enough_left

-- ---- an input

-- an input begins with a prefix of whole lines that has a separator
module _ (prefix : List ℕ) (whole_lines : through_last_feed prefix ≡ prefix) (separated : has_separator prefix ≡ true) where
  -- the lines before the separator depend on the prefix only
  same_before : (rest : List ℕ) → before_separator (lines_of (prefix ++ rest)) ≡ before_separator (lines_of prefix)
  same_before rest = ap before_separator (lines_of-append prefix rest whole_lines)
      ∙ before-append is_separator (lines_of prefix) (lines_of rest) separated

  -- the bench that an input starts depends only on the lines through the separator
  pub bench_in-prefix : (setup : Setup) (rest : List ℕ) → bench_in setup (prefix ++ rest) ≡ bench_in setup prefix
  bench_in-prefix setup rest = ap (λ (lines : List (List ℕ)). result_case (image_of lines) (λ image. started image setup) Err) (same_before rest)

  -- the script of the whole input is the script in the prefix, followed by the rest
  pub after_separator-prefix : (rest : List ℕ) → after_separator (prefix ++ rest) ≡ after_separator prefix ++ rest
  after_separator-prefix rest =
      ap (λ (lines : List (List ℕ)). after_lines (length lines + 1) (prefix ++ rest)) (same_before rest)
      ∙ after_lines-append (length (before_separator (lines_of prefix)) + 1) prefix rest whole_lines
      (before-shorter is_separator (lines_of prefix) separated)

  -- the lines of the script are the lines of the prefix after its separator, followed by the lines of the rest
  pub script_lines-prefix : (rest : List ℕ) → lines_of (after_separator (prefix ++ rest)) ≡ lines_of (after_separator prefix) ++ lines_of rest
  script_lines-prefix rest =
      ap lines_of (after_separator-prefix rest)
      ∙ lines_of-append (after_separator prefix) rest (after_lines-whole (length (before_separator (lines_of prefix)) + 1) prefix whole_lines)
