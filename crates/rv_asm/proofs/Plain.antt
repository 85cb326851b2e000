-- This file proves lemmas about the pieces of a line that the disassembler writes. No byte of a piece is a blank, a comma, the start of a comment,
-- the end of a label or the end of a line.
use Rattle.std.proofs.Common.{◌≡◌, ℕ, zero, suc, ◌<◌, ◌≤◌, Bool, true, false, List, [], ◌∷◌, ◌++◌, length, reverse, map, All, refl, ap, ◌∙◌}
use Rattle.std.proofs.Common.{arith, append-nil}
use Rattle.std.specs.Prelude.{◌==◌, ◌&&◌, ◌||◌, not, slice_index_or, nat_lt, nat_le, codes, if◌then◌else◌}
use Rattle.std.specs.List.{list_all, flat_map, slice_split}
use Rattle.std.proofs.lemmas.Bool.{and_parts, and_from}
use Rattle.std.proofs.lemmas.Bool.Decides.{nat_tests}
use Rattle.std.proofs.lemmas.Grind.{reverse_onto}
use Rattle.std.proofs.lemmas.List.{reverse-reverse, length-reverse}
use Rattle.std.proofs.lemmas.List.Folds.{list_all-append}
use Rattle.std.proofs.lemmas.List.Splits.{slice_split_none, slice_split_at}
use Rattle.std.proofs.lemmas.List.Sums.{AllPass-from_list_all}
use Rattle.rv_text.specs.Characters.{comma, left_parenthesis, space}
use Rattle.rv_text.specs.GoodLines.{is_blank}
use Rattle.rv_asm.specs.Cuts.{after_blanks, before_blanks, trimmed, comma_fields, operands_in}

-- `is_plain` is the test of a plain byte: `(` to `9` except the comma, and `a` to `z`
abbrev pub is_plain : ℕ → Bool
is_plain byte = nat_le left_parenthesis byte && nat_le byte 57 && not (byte == comma) || nat_le 97 byte && nat_le byte 122

-- `is_piece` is the test of a piece: 1 to 20 plain bytes
abbrev pub is_piece : List ℕ → Bool
is_piece text = nat_lt 0 (length text) && nat_le (length text) 20 && list_all is_plain text

-- a piece of a line is a text of 1 to 20 plain bytes
pub record IsPiece (text : List ℕ) : Type 0 where
  -- the text is not empty
  pub some : 0 < length text
  -- the text has at most 20 bytes
  pub short : length text ≤ 20
  -- each byte is plain
  pub plain : list_all is_plain text ≡ true

-- a text that passes the test is a piece
pub IsPiece-from_test : (text : List ℕ) → is_piece text ≡ true → IsPiece text
IsPiece-from_test text passes =
    record { some = grind (arith, nat_tests, passes); short = grind (arith, nat_tests, passes); plain = grind (arith, nat_tests, passes) }

-- each text in the list is a piece
abbrev pub ArePieces : List (List ℕ) → Type 0
ArePieces [] = Unit {0}
ArePieces (text ∷ texts) = IsPiece text × ArePieces texts

-- ---- bytes that are not plain

-- a plain byte is no comma (44)
pub is_plain-comma : (byte : ℕ) → is_plain byte ≡ true → (byte == comma) ≡ false
is_plain-comma byte is_plain_byte = grind (arith, nat_tests)

-- a plain byte is no blank
pub is_plain-blank : (byte : ℕ) → is_plain byte ≡ true → is_blank byte ≡ false
is_plain-blank byte is_plain_byte = grind (arith, nat_tests)

-- if no plain byte passes a test, then no byte of a plain text passes it
pub meets_none : (test : ℕ → Bool) (text : List ℕ) → ((byte : ℕ) → is_plain byte ≡ true → test byte ≡ false) → list_all is_plain text ≡ true
    → All (λ byte. test byte ≡ false) text
meets_none test text plain_fails are_plain =
    λ index default index_in_text. plain_fails _ (AllPass-from_list_all is_plain text are_plain index default index_in_text)

-- ---- blanks

-- the reverse of a plain text is plain
list_all-reverse : (text : List ℕ) → list_all is_plain text ≡ true → list_all is_plain (reverse text) ≡ true
list_all-reverse [] are_plain = refl
list_all-reverse (byte ∷ text) are_plain =
    let (byte_is_plain, others_are_plain) = and_parts (is_plain byte) (list_all is_plain text) are_plain in
    ap (list_all is_plain) (reverse_onto text byte []) ∙ list_all-append is_plain (reverse text) (byte ∷ [])
    ∙ and_from _ _ (list_all-reverse text others_are_plain) (and_from _ _ byte_is_plain refl)

-- a plain text has no leading blanks to remove
after_blanks-plain : (text : List ℕ) → list_all is_plain text ≡ true → after_blanks text ≡ text
after_blanks-plain [] are_plain = refl
after_blanks-plain (byte ∷ text) are_plain =
    let (byte_is_plain, others_are_plain) = and_parts (is_plain byte) (list_all is_plain text) are_plain in
    let not_blank = is_plain-blank byte byte_is_plain in
    rw not_blank refl

-- a text that begins with a plain byte has no leading blanks to remove
pub after_blanks-start : (byte : ℕ) (text : List ℕ) → is_plain byte ≡ true → after_blanks (byte ∷ text) ≡ byte ∷ text
after_blanks-start byte text is_plain_byte = let not_blank = is_plain-blank byte is_plain_byte in rw not_blank refl

-- a plain text has no trailing blanks to remove
before_blanks-plain : (text : List ℕ) → list_all is_plain text ≡ true → before_blanks text ≡ text
before_blanks-plain text are_plain =
    ap reverse (after_blanks-plain (reverse text) (list_all-reverse text are_plain)) ∙ reverse-reverse text

-- a plain text with a space (32) before it is trimmed to the plain text
trimmed-padded : (text : List ℕ) → list_all is_plain text ≡ true → trimmed (space ∷ text) ≡ text
unfolding trimmed
trimmed-padded text are_plain = ap before_blanks (after_blanks-plain text are_plain) ∙ before_blanks-plain text are_plain

-- a text that ends in a plain byte is not empty after its leading blanks were removed
after_blanks-end : (prefix : List ℕ) (byte : ℕ) → is_plain byte ≡ true → 0 < length (after_blanks (prefix ++ byte ∷ []))
after_blanks-end [] byte is_plain_byte = let not_blank = is_plain-blank byte is_plain_byte in rw not_blank (omega arith)
after_blanks-end (first ∷ prefix) byte is_plain_byte = by_first (is_blank first) (after_blanks-end prefix byte is_plain_byte)
  where
    -- the text is not empty, whether its first byte is removed as a blank or not
    by_first : (is_blank_first : Bool) → 0 < length (after_blanks (prefix ++ byte ∷ []))
        → 0 < length (if is_blank_first then after_blanks (prefix ++ byte ∷ []) else first ∷ (prefix ++ byte ∷ []))
    by_first true rest_not_empty = rest_not_empty
    by_first false rest_not_empty = omega arith

-- a text with a plain byte after a space is not empty after it was trimmed
trimmed-some : (byte : ℕ) (text : List ℕ) → is_plain byte ≡ true → 0 < length (trimmed (space ∷ byte ∷ text))
unfolding trimmed
trimmed-some byte text is_plain_byte =
    let same_length : length (trimmed (space ∷ byte ∷ text)) ≡ length (after_blanks (reverse text ++ byte ∷ [])) =
    ap (λ text. length (before_blanks text)) (after_blanks-start byte text is_plain_byte) ∙ length-reverse (after_blanks (reverse (byte ∷ text)))
    ∙ ap (λ text. length (after_blanks text)) (reverse_onto text byte []) in
    rw same_length (after_blanks-end (reverse text) byte is_plain_byte)

-- ---- the operands, in the text after a mnemonic

-- `spaced` is the text of operands: a space before the first, and a comma and a space before each other
abbrev pub spaced : List ℕ → List (List ℕ) → List ℕ
spaced first more = space ∷ (first ++ flat_map (λ operand. codes ", " ++ operand) more)

-- a space (32) and a plain text have no comma (44)
no_comma : (text : List ℕ) → list_all is_plain text ≡ true → (index default : ℕ) → index < length (space ∷ text)
    → (slice_index_or (space ∷ text) index default == comma) ≡ false
no_comma text are_plain zero default index_in_text = refl
no_comma text are_plain (suc index) default index_in_text =
    meets_none (λ byte. byte == comma) text is_plain-comma are_plain index default (omega (arith, index_in_text))

-- the operands of `spaced` are split at the commas into the operands, each with the space before it
split-spaced : (first : List ℕ) (more : List (List ℕ)) → IsPiece first → ArePieces more
    → slice_split (λ byte. byte == comma) (spaced first more) ≡ map (λ text. space ∷ text) (first ∷ more)
split-spaced first [] first_is_piece are_pieces =
    ap (λ text. slice_split (λ byte. byte == comma) (space ∷ text)) (append-nil first) ∙ slice_split_none (λ byte. byte == comma) (space ∷ first)
    (no_comma first first_is_piece.plain)
split-spaced first (next ∷ more) first_is_piece (next_is_piece, others_are_pieces) =
    slice_split_at (λ byte. byte == comma) (space ∷ first) comma (spaced next more) (no_comma first first_is_piece.plain) refl
    ∙ ap (λ parts. (space ∷ first) ∷ parts) (split-spaced next more next_is_piece others_are_pieces)

-- pieces with a space before each are trimmed to the pieces
trimmed-all : (texts : List (List ℕ)) → ArePieces texts → map trimmed (map (λ text. space ∷ text) texts) ≡ texts
trimmed-all [] are_pieces = refl
trimmed-all (text ∷ texts) (text_is_piece, others_are_pieces) =
    rw (trimmed-padded text text_is_piece.plain, trimmed-all texts others_are_pieces) refl

-- the fields between the commas of `spaced`, without blanks, are the operands
fields_of-spaced : (first : List ℕ) (more : List (List ℕ)) → IsPiece first → ArePieces more → comma_fields (spaced first more) ≡ first ∷ more
unfolding comma_fields
fields_of-spaced first more first_is_piece are_pieces = ap (map trimmed) (split-spaced first more first_is_piece are_pieces) ∙ trimmed-all
    (first ∷ more) (first_is_piece, are_pieces)

-- the operands that are read from the text `spaced` are the operands from which it was written
pub operands_of-spaced : (first : List ℕ) (more : List (List ℕ)) → IsPiece first → ArePieces more → operands_in (spaced first more) ≡ first ∷ more
operands_of-spaced [] more first_is_piece are_pieces = absurd (omega (arith, first_is_piece.some))
operands_of-spaced (byte ∷ first) more first_is_piece are_pieces =
    let (byte_is_plain, others_are_plain) = and_parts (is_plain byte) (list_all is_plain first) first_is_piece.plain in
    let not_empty = trimmed-some byte (first ++ flat_map (λ operand. codes ", " ++ operand) more) byte_is_plain in
    all_fields (length (trimmed (spaced (byte ∷ first) more))) not_empty ∙ fields_of-spaced (byte ∷ first) more first_is_piece are_pieces
  where
    -- a text that is not empty without its blanks has all its comma fields as operands
    all_fields : (field_length : ℕ) → 0 < field_length
        → (if field_length == 0 then [] else comma_fields (spaced (byte ∷ first) more)) ≡ comma_fields (spaced (byte ∷ first) more)
    all_fields field_length not_empty = let not_none : (field_length == 0) ≡ false = grind (arith, nat_tests) in rw not_none refl
