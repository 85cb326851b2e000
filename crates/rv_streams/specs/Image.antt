-- The image in a text of hexadecimal lines. (This project's own format; the text is ASCII, ISO/IEC 646.)
use Rattle.std.specs.Prelude.{◌≡◌, ℕ, ◌+◌, ◌*◌, ◌%◌, ◌<◌, ◌++◌, ◌==◌, ◌&&◌, nat_lt, Bool, false, List, [], ◌∷◌}
use Rattle.std.specs.Prelude.{length, flat_map, take_while, is_some, unwrap_or, option_and_then, Option, IsSomeAnd, ◌≤◌, Some, None, Result, Ok, Err}
use Rattle.std.specs.Prelude.{if◌then◌else◌}
use Rattle.std.specs.List.{list_all}
use Rattle.std.specs.Char.{is_digit, digit_value}
use Rattle.rv_streams.specs.declared.fault.BenchFault.{BenchFault}
use Rattle.rv_streams.specs.declared.fault.BenchFault.TheVariants.{Hex, TooLong, NoMemory}
use Rattle.rv_text.specs.Lines.{lines_of, after_lines}
use Rattle.rv_streams.specs.LineText.{ReadsLineText, ReadsLines}
use Rattle.rv_streams.specs.Separator.{line_word, before_separator}

-- `pair_values` has the bytes of pairs of hexadecimal digits, the high digit first
abbrev pub pair_values : List ℕ → List ℕ
pair_values [] = []
pair_values (digit ∷ []) = []
pair_values (high ∷ low ∷ digits) = (16 * digit_value high + digit_value low) ∷ pair_values digits

-- `bytes_of_digits` has the bytes of a text of hexadecimal digits of either case, or `None` if their number is odd or there is any other character
unfoldable pub bytes_of_digits : List ℕ → Option (List ℕ)
bytes_of_digits text = if (length text % 2 == 0) && list_all (λ c. is_digit c 16) text then Some (pair_values text) else None

-- the bytes of a line of an image are those of its word
abbrev pub line_bytes : List ℕ → Option (List ℕ)
line_bytes line = option_and_then bytes_of_digits (line_word line)

-- `is_image_line` states whether a line of the image is hexadecimal, so that it has bytes
abbrev pub is_image_line : List ℕ → Bool
is_image_line line = is_some (line_bytes line)

-- `bytes_of_lines` has the bytes of lines, one after another
abbrev pub bytes_of_lines : List (List ℕ) → List ℕ
bytes_of_lines lines = flat_map (λ line. unwrap_or (line_bytes line) []) lines

-- The image of lines. The result is `TooLong` if there are more than 32 MiB (33554432 bytes) before the first line with an error. Otherwise it is
-- `Hex` if there is a line with an error, and all bytes if there is none.
abbrev pub image_of : List (List ℕ) → Result (List ℕ) BenchFault
image_of lines =
    if nat_lt 33554432 (length (bytes_of_lines (take_while is_image_line lines))) then Err TooLong
    else (if list_all is_image_line lines then Ok (bytes_of_lines lines) else Err Hex)

-- `image_in` is the image at the start of an input
abbrev pub image_in : List ℕ → Result (List ℕ) BenchFault
image_in input = image_of (before_separator (lines_of input))

-- Lines of the image were read: none is `--` or has an error, and there are not too many bytes. Then a prefix of a line was read, which is kept.
pub record ReadsInImage (unread remaining kept : List ℕ) : Type 0 where
  -- the whole lines that were read
  pub lines : List (List ℕ)
  -- the unread bytes after these lines
  pub others : List ℕ
  -- exactly these lines were read
  pub reads : ReadsLines unread others false lines
  -- no line of them is the separator
  pub unmarked : before_separator lines ≡ lines
  -- the lines have no error
  pub image : image_of lines ≡ Ok (bytes_of_lines lines)
  -- a part of the next line was read
  pub begun : ReadsLineText others remaining kept

-- The lines were read, up to the remaining bytes, and none is `--`.
pub record ReadsUnmarked (unread remaining : List ℕ) (lines : List (List ℕ)) : Type 0 where
  -- the other lines of the unread bytes are left
  pub all_lines : lines_of unread ≡ lines ++ lines_of remaining
  -- the bytes after these lines are left
  pub rest : remaining ≡ after_lines (length lines) unread
  -- no line of them is the separator
  pub unmarked : before_separator lines ≡ lines

-- Lines of the image with at least one byte were read: none is `--` or has an error, and there are not too many bytes.
pub record ReadsPrefixOfImage (unread remaining : List ℕ) : Type 0 where
  -- the lines that were read
  pub lines : List (List ℕ)
  -- the lines have at least one byte of the image
  pub some : 0 < length (bytes_of_lines lines)
  -- exactly these lines were read, and none is the separator
  pub reads : ReadsUnmarked unread remaining lines
  -- the lines have no error
  pub image : image_of lines ≡ Ok (bytes_of_lines lines)

-- Lines of the image were read, none of them `--`, through the first that has an error or with which there are too many bytes.
pub record StopsAtFault (unread remaining : List ℕ) (fault : BenchFault) : Type 0 where
  -- the lines without an error
  pub sound : List (List ℕ)
  -- the first line with an error
  pub line : List ℕ
  -- exactly these lines were read, and none is the separator
  pub reads : ReadsUnmarked unread remaining (sound ++ line ∷ [])
  -- the lines before have no error
  pub image : image_of sound ≡ Ok (bytes_of_lines sound)
  -- the last line gives the image its error
  pub fails : image_of (sound ++ line ∷ []) ≡ Err fault

-- the meaning of each result of appending the bytes of a word to an image, which may have at most 32 MiB (33554432 bytes)
abbrev pub AddsBytes : List ℕ → List ℕ → List ℕ → Result (Unit {0}) BenchFault → Type 0
AddsBytes word old new (Ok _) = IsSomeAnd (bytes_of_digits word) (λ bytes. new ≡ old ++ bytes)
AddsBytes word old new (Err Hex) = (bytes_of_digits word ≡ None) × (new ≡ old)
AddsBytes word old new (Err TooLong) = IsSomeAnd (bytes_of_digits word) (λ bytes. 33554432 < length old + length bytes) × (new ≡ old)
AddsBytes word old new (Err NoMemory) =
    IsSomeAnd (bytes_of_digits word) (λ bytes. (0 < length bytes) × (length old + length bytes ≤ 33554432)) × (new ≡ old)
AddsBytes word old new (Err _) = ⊥
