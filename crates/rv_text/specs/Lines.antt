-- The lines of a text. (This project's own rule; the characters are those of ASCII, ISO/IEC 646.)
use Rattle.std.specs.Prelude.{ℕ, suc, zero, ◌==◌, Bool, true, false, ◌&&◌, ◌||◌, List, [], ◌∷◌, if◌then◌else◌}
use Rattle.rv_text.specs.Characters.{line_feed, carriage_return}

-- the text has a line feed
abbrev pub has_feed : List ℕ → Bool
has_feed [] = false
has_feed (byte ∷ bytes) = (byte == line_feed) || has_feed bytes

-- the text starts with a line feed
abbrev pub starts_with_feed : List ℕ → Bool
starts_with_feed [] = false
starts_with_feed (byte ∷ bytes) = byte == line_feed

-- `onto_first` has the lines with a byte added at the start of the first
abbrev pub onto_first : ℕ → List (List ℕ) → List (List ℕ)
onto_first byte [] = (byte ∷ []) ∷ []
onto_first byte (line ∷ lines) = (byte ∷ line) ∷ lines

-- The lines of a text. Each line ends before a line feed; the bytes after the last line feed are a line unless there are none. A carriage return
-- before a line feed is dropped.
abbrev pub lines_of : List ℕ → List (List ℕ)
lines_of [] = []
lines_of (byte ∷ bytes) =
    if byte == line_feed then [] ∷ lines_of bytes
    else (if (byte == carriage_return) && starts_with_feed bytes then lines_of bytes else onto_first byte (lines_of bytes))

-- `through_last_feed` is the text through its last line feed
abbrev pub through_last_feed : List ℕ → List ℕ
through_last_feed [] = []
through_last_feed (byte ∷ bytes) = if (byte == line_feed) || has_feed bytes then byte ∷ through_last_feed bytes else []

-- `after_line` is the text after the first line
abbrev pub after_line : List ℕ → List ℕ
after_line [] = []
after_line (byte ∷ bytes) = if byte == line_feed then bytes else after_line bytes

-- `after_lines` is the text after the first `count` lines
abbrev pub after_lines : ℕ → List ℕ → List ℕ
after_lines zero text = text
after_lines (suc count) text = after_lines count (after_line text)

-- `is_empty` states whether the text has no byte
abbrev pub is_empty : List ℕ → Bool
is_empty [] = true
is_empty (byte ∷ bytes) = false

-- `without_return` is the text before a line feed, without a carriage return at its end
abbrev pub without_return : List ℕ → List ℕ
without_return [] = []
without_return (byte ∷ bytes) = if (byte == carriage_return) && is_empty bytes then [] else byte ∷ without_return bytes
