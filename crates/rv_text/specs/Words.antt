-- The words in a line of text (ASCII, ISO/IEC 646).
use Rattle.std.specs.Prelude.{ℕ, Bool, ◌==◌, not, List, length, filter}
use Rattle.std.specs.List.{slice_split}
use Rattle.rv_text.specs.GoodLines.{is_blank}

-- `is_filled` states whether the word has a byte
abbrev pub is_filled : List ℕ → Bool
is_filled word = not (length word == 0)

-- `words_of` has the non-empty texts between the spaces and tabs of a line
unfoldable pub words_of : List ℕ → List (List ℕ)
words_of line = filter is_filled (slice_split is_blank line)
