-- The pieces of a line of an assembler text. (This project's own grammar.)
use Rattle.std.specs.Prelude.{ℕ, Bool, false, ◌+◌, ◌==◌, ◌||◌, ◌&&◌, nat_le, nat_lt, List, [], ◌∷◌, length}
use Rattle.std.specs.Prelude.{take, drop, map, reverse, Option, Some, None, if◌then◌else◌}
use Rattle.std.specs.List.{slice_split, position_or_len, list_all}
use Rattle.rv_text.specs.Characters.{number_sign, comma, full_stop, colon, low_line}
use Rattle.rv_text.specs.GoodLines.{is_blank}

-- ---- blanks and commas

-- `after_blanks` is the text without leading blanks
abbrev pub after_blanks : List ℕ → List ℕ
after_blanks [] = []
after_blanks (byte ∷ text) = if is_blank byte then after_blanks text else byte ∷ text

-- `before_blanks` is the text without trailing blanks
abbrev pub before_blanks : List ℕ → List ℕ
before_blanks text = reverse (after_blanks (reverse text))

-- `trimmed` is the text without the blanks at its start and at its end
unfoldable pub trimmed : List ℕ → List ℕ
trimmed text = before_blanks (after_blanks text)

-- `comma_fields` has the fields between commas, without leading and trailing blanks
unfoldable pub comma_fields : List ℕ → List (List ℕ)
comma_fields text = map trimmed (slice_split (λ byte. byte == comma) text)

-- the operands; a text of blanks alone has none
abbrev pub operands_in : List ℕ → List (List ℕ)
operands_in text = if length (trimmed text) == 0 then [] else comma_fields text

-- ---- comment and label

-- `before_comment` is the line before the first `#`
abbrev pub before_comment : List ℕ → List ℕ
before_comment line = take (position_or_len (λ byte. byte == number_sign) line) line

-- `colon_place` is the index of the first `:`, or the length of the text
abbrev pub colon_place : List ℕ → ℕ
colon_place text = position_or_len (λ byte. byte == colon) text

-- `label_text` is the text before the first `:`, if there is one, without leading blanks
unfoldable pub label_text : List ℕ → Option (List ℕ)
label_text text = if nat_lt (colon_place text) (length text) then Some (after_blanks (take (colon_place text) text)) else None

-- `statement_text` is the text after the first `:`, or the whole text if there is none, without leading blanks
unfoldable pub statement_text : List ℕ → List ℕ
statement_text text = after_blanks (if nat_lt (colon_place text) (length text) then drop (colon_place text + 1) text else text)

-- ---- mnemonic and operands

-- `first_word` has the bytes of a statement before the first blank
abbrev pub first_word : List ℕ → List ℕ
first_word text = take (position_or_len is_blank text) text

-- `after_word` has the bytes of a statement from the first blank on
abbrev pub after_word : List ℕ → List ℕ
after_word text = drop (position_or_len is_blank text) text

-- ---- names

-- a letter of a name is a letter, `_` or `.`
abbrev pub is_letter : ℕ → Bool
is_letter byte = nat_le 97 byte && nat_le byte 122 || nat_le 65 byte && nat_le byte 90 || byte == low_line || byte == full_stop

-- a byte of a name is a letter, `_`, `.` or a digit
unfoldable pub is_name_byte : ℕ → Bool
is_name_byte byte = is_letter byte || nat_le 48 byte && nat_le byte 57

-- a name: 1 to 32 of these bytes, and the first is no digit
unfoldable pub is_name : List ℕ → Bool
is_name [] = false
is_name (byte ∷ text) = is_letter byte && list_all is_name_byte text && nat_lt (length text) 32
