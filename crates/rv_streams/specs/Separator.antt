-- The line `--`, which separates an image from a script, and one script from another. (This project's own format.)
use Rattle.std.specs.Prelude.{ℕ, ◌+◌, Bool, false, not, List, [], ◌∷◌, length, codes, take_while, Option, Some, None, if◌then◌else◌}
use Rattle.std.specs.List.{list_any}
use Rattle.std.specs.Str.{bytes_eq}
use Rattle.rv_text.specs.GoodLines.{is_good_line}
use Rattle.rv_text.specs.Lines.{lines_of, after_lines}
use Rattle.rv_text.specs.Words.{words_of}

-- `only_word` is the only word, or an empty word if there is none
abbrev pub only_word : List (List ℕ) → Option (List ℕ)
only_word [] = Some []
only_word (word ∷ []) = Some word
only_word (first ∷ second ∷ words) = None

-- `line_word` is the only word of a well-formed line, or `None` if the line is malformed or has more words
unfoldable pub line_word : List ℕ → Option (List ℕ)
line_word line = if is_good_line line then only_word (words_of line) else None

-- `is_dashes` states whether the first word of a line is `--`
abbrev pub is_dashes : Option (List ℕ) → Bool
is_dashes None = false
is_dashes (Some word) = bytes_eq word (codes "--")

-- a separator is a line whose only word is `--`
abbrev pub is_separator : List ℕ → Bool
is_separator line = is_dashes (line_word line)

-- `before_separator` has the lines before the first separator, or all
abbrev pub before_separator : List (List ℕ) → List (List ℕ)
before_separator lines = take_while (λ line. not (is_separator line)) lines

-- the input has a separator
abbrev pub has_separator : List ℕ → Bool
has_separator input = list_any is_separator (lines_of input)

-- `after_separator` is the input after the first separator
abbrev pub after_separator : List ℕ → List ℕ
after_separator input = after_lines (length (before_separator (lines_of input)) + 1) input
