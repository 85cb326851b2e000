-- Reading the bytes of one line. (This project's own streams.)
use Rattle.std.specs.Prelude.{◌≡◌, ℕ, Bool, true, false, List, [], ◌∷◌, ◌++◌, take, length, Result, Ok, Err}
use Rattle.rv_streams.specs.declared.line.Stop.{Stop}
use Rattle.rv_streams.specs.declared.line.Stop.TheVariants.{LineFeed, End}
use Rattle.rv_text.specs.Characters.{line_feed}
use Rattle.rv_text.specs.GoodLines.{significant_bytes, kept_bytes}
use Rattle.rv_text.specs.Lines.{has_feed, lines_of, through_last_feed, after_line, after_lines}

-- a text without a line feed was read, up to the remaining bytes, and its first `kept_bytes` bytes are kept
pub record ReadsLineText (unread remaining kept : List ℕ) : Type 0 where
  -- the bytes of the line that were read
  pub text : List ℕ
  -- the unread bytes are these, followed by the bytes that are left
  pub split : unread ≡ text ++ remaining
  -- the text has no line feed
  pub unfinished : has_feed text ≡ false
  -- at most `kept_bytes` bytes of the text are kept
  pub prefix : kept ≡ take kept_bytes text

-- The first line of the unread bytes was taken, up to the remaining bytes, and its significant bytes are shown. Its text ends with a line feed, or
-- with the last byte of the source.
pub record TakesLine (unread remaining : List ℕ) (is_at_end : Bool) (shown : List ℕ) : Type 0 where
  -- the bytes of the line, with its ending
  pub text : List ℕ
  -- the line without its ending
  pub line : List ℕ
  -- the unread bytes are these, followed by the bytes that are left
  pub split : unread ≡ text ++ remaining
  -- the text is exactly this line
  pub is_line : lines_of text ≡ line ∷ []
  -- before the end of the input, the text ends with a line feed
  pub whole_lines : is_at_end ≡ false → through_last_feed text ≡ text
  -- the other lines of the unread bytes are left
  pub lines : lines_of unread ≡ line ∷ lines_of remaining
  -- the bytes after the first line are left
  pub rest : remaining ≡ after_line unread
  -- the shown bytes are the significant bytes of the line
  pub prefix : shown ≡ take significant_bytes line

-- The lines were taken one by one, up to the remaining bytes.
pub record ReadsLines (unread remaining : List ℕ) (is_at_end : Bool) (lines : List (List ℕ)) : Type 0 where
  -- the bytes of the lines, with their endings
  pub text : List ℕ
  -- the unread bytes are these, followed by the bytes that are left
  pub split : unread ≡ text ++ remaining
  -- the text has exactly these lines
  pub are_lines : lines_of text ≡ lines
  -- before the end of the input, the text ends with a line feed, or is empty
  pub whole_lines : is_at_end ≡ false → through_last_feed text ≡ text
  -- the other lines of the unread bytes are left
  pub all_lines : lines_of unread ≡ lines ++ lines_of remaining
  -- the bytes after these lines are left
  pub rest : remaining ≡ after_lines (length lines) unread

-- `left_from` has the bytes from the end of a text on, including the line feed that was read
abbrev pub left_from : {E : Type 0} → Result Stop E → List ℕ → List ℕ
left_from (Ok LineFeed) remaining = line_feed ∷ remaining
left_from (Ok End) remaining = remaining
left_from (Err e) remaining = remaining

-- `stops_at_end` states whether the text was ended by the end of the source
abbrev pub stops_at_end : {E : Type 0} → Result Stop E → Bool
stops_at_end (Ok LineFeed) = false
stops_at_end (Ok End) = true
stops_at_end (Err e) = false
