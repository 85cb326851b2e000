-- Each operand that the disassembler writes is a piece of a line, and is read back as the same operand.
use Rattle.std.proofs.Common.{◌≡◌, ℕ, zero, suc, ◌+◌, ◌-◌, ◌/◌, ◌%◌, ◌^◌, ◌<◌, ◌≤◌, Bool, true, false, List, [], ◌∷◌, ◌++◌, length, map}
use Rattle.std.proofs.Common.{Some, Ok, refl, ap, sym, ◌∙◌, subst, arith, decimal, append_assoc, length-append}
use Rattle.std.specs.Prelude.{◌==◌, ◌&&◌, nat_lt, nat_le, codes, if◌then◌else◌}
use Rattle.std.specs.Char.{digit_char}
use Rattle.std.specs.Fmt.{digits}
use Rattle.std.specs.List.{list_all, range_with_len}
use Rattle.std.specs.Str.Parse.{AllDigits}
use Rattle.std.proofs.Math.Seq.{take-append_seam, drop-append_seam}
use Rattle.std.proofs.lemmas.Bool.{and_parts, and_from}
use Rattle.std.proofs.lemmas.Bool.Decides.{nat_tests}
use Rattle.std.proofs.lemmas.Fmt.{decimal_is_IsNumeral, length-decimal-le}
use Rattle.std.proofs.lemmas.List.Folds.{list_all-append}
use Rattle.rv_text.specs.Characters.{full_stop, left_parenthesis, low_line}
use Rattle.rv_text.specs.Digits.{hex_digits}
use Rattle.rv_asm.specs.CsrNames.{csrs}
use Rattle.rv_state.specs.CsrTable.{csr_listing}
use Rattle.rv_asm.specs.Cuts.{is_name}
use Rattle.rv_asm.specs.FenceSets.{fence_sets}
use Rattle.rv_asm.specs.RegisterNames.{registers}
use Rattle.rv_asm.specs.Operands.{register_at, number_operand, csr_operand, base_of, offset_and_base, address_operand, target_at, fence_set_at}
use Rattle.rv_asm.specs.Operands.{opening}
use Rattle.rv_asm.specs.declared.operand.Target.TheVariants.{Offset}
use Rattle.rv_asm.specs.Numbers.{plus, written_number}
use Rattle.rv_disassembler.specs.Spelling.{register_operand_text, hex_text, csr_operand_text, signed_text, address_text, accesses_text}
use Rattle.rv_text.proofs.HexDigits.{length-hex_digits}
use Rattle.rv_disassembler.proofs.HexTexts.{one_digit, two_digits, three_digits, four_digits, five_digits}
use Rattle.rv_asm.proofs.Plain.{is_plain, is_piece, IsPiece, IsPiece-from_test}
use Rattle.rv_asm.proofs.ReadNumbers.{digit_between, signed_number, written-signed, written-hex, written-hex_text, written-decimal}

-- ---- properties of each number below a bound, by computation

-- if two functions have the same values on the numbers from `start` on, they agree on each of these numbers
maps_agree : {A : Type 0} (value other_value : ℕ → A) (count start number : ℕ) → number < count
    → map value (range_with_len start count) ≡ map other_value (range_with_len start count)
    → value (start + number) ≡ other_value (start + number)
maps_agree value other_value zero start number number_below_count same_values = absurd (omega (arith, number_below_count))
maps_agree value other_value (suc count) start zero number_below_count same_values =
    let same_head : value start ≡ other_value start = cc in
    let sum_is : start + 0 ≡ start = omega arith in
    rw sum_is same_head
maps_agree value other_value (suc count) start (suc number) number_below_count same_values =
    let same_tail : map value (range_with_len (start + 1) count) ≡ map other_value (range_with_len (start + 1) count) = cc in
    let sum_is : start + suc number ≡ (start + 1) + number = omega arith in
    rw sum_is (maps_agree value other_value count (start + 1) number (omega (arith, number_below_count)) same_tail)

-- if two functions have the same list of values on the numbers below `count`, which is computed, they agree on each of these numbers
agree_below : {A : Type 0} (value other_value : ℕ → A) (count number : ℕ) → number < count
    → map value (range_with_len 0 count) ≡ map other_value (range_with_len 0 count)
    → value number ≡ other_value number
agree_below value other_value count number number_below_count same_values = let sum_is : 0 + number ≡ number = omega arith in
    rw sum_is at (maps_agree value other_value count 0 number number_below_count same_values)

-- ---- registers, small numbers, and the access sets of fences

-- the name of a register is a piece
pub piece-register : (number : ℕ) → number < 32 → IsPiece (register_operand_text number)
unfolding digits
piece-register number number_below_limit =
    IsPiece-from_test _ (agree_below (λ number. is_piece (register_operand_text number)) (λ number. true) 32 number number_below_limit refl)

-- the name of a register is read as its number
pub read-register : (number : ℕ) → number < 32 → register_at (register_operand_text number) ≡ Ok number
unfolding digits registers
read-register number number_below_limit =
    agree_below (λ number. register_at (register_operand_text number)) (λ number. Ok number) 32 number number_below_limit refl

-- a decimal number below 32 is a piece
pub piece-small : (number : ℕ) → number < 32 → IsPiece (decimal number)
unfolding digits
piece-small number number_below_limit =
    IsPiece-from_test _ (agree_below (λ number. is_piece (decimal number)) (λ number. true) 32 number number_below_limit refl)

-- a decimal number below 32 is read as the number
pub read-small : (number : ℕ) → number < 32 → number_operand (decimal number) ≡ Ok (plus number)
read-small number number_below_limit = let number_is = written-decimal number (omega (arith, number_below_limit)) in rw number_is refl

-- the name of a set of accesses is a piece
pub piece-accesses : (number : ℕ) → number < 16 → IsPiece (accesses_text number)
piece-accesses number number_below_limit =
    IsPiece-from_test _ (agree_below (λ number. is_piece (accesses_text number)) (λ number. true) 16 number number_below_limit refl)

-- the name of a set of accesses is read as its bits
pub read-accesses : (number : ℕ) → number < 16 → fence_set_at (accesses_text number) ≡ Ok number
unfolding fence_sets
read-accesses number number_below_limit =
    agree_below (λ number. fence_set_at (accesses_text number)) (λ number. Ok number) 16 number number_below_limit refl

-- ---- hexadecimal numbers

-- a hexadecimal digit is plain
digit_char-plain : (digit : ℕ) → digit < 16 → is_plain (digit_char digit) ≡ true
digit_char-plain digit below_16 = agree_below (λ digit. is_plain (digit_char digit)) (λ digit. true) 16 digit below_16 refl

-- hexadecimal digits are plain
plain-hex : (places number : ℕ) → list_all is_plain (hex_digits places number) ≡ true
unfolding hex_digits
plain-hex zero number = refl
plain-hex (suc places) number =
    list_all-append is_plain (hex_digits places (number / 16)) (digit_char (number % 16) ∷ [])
    ∙ and_from _ _ (plain-hex places (number / 16)) (and_from _ _ (digit_char-plain (number % 16) (omega arith)) refl)

-- `0x` (the bytes 48 and 120) and up to 8 hexadecimal digits are a piece
pub piece-hex : (places number : ℕ) → places ≤ 8 → IsPiece (48 ∷ 120 ∷ hex_digits places number)
piece-hex places number at_most_8_digits =
    record { some = omega arith; short = omega (arith, at_most_8_digits, length-hex_digits places number); plain = plain-hex places number }

-- the text of a hexadecimal number of at most 20 bits is a piece: the cases are the numbers of digits
pub piece-hex_text : (number : ℕ) → number < 2 ^ 20 → IsPiece (hex_text number)
piece-hex_text number fits_20_bits =
    by_size (nat_lt number 0x10) (nat_lt number 0x100) (nat_lt number 0x1000) (nat_lt number 0x10000) refl refl refl refl
  where
    -- the text of a number is a piece, if `places` digits are all of its digits
    by_places : (places : ℕ) → places ≤ 8 → hex_digits places number ≡ digits 16 false number → IsPiece (hex_text number)
    by_places places at_most_8 digits_agree = subst (λ text. IsPiece (48 ∷ 120 ∷ text)) digits_agree (piece-hex places number at_most_8)

    -- the text of a number is a piece whatever its size is: below 2^4, 2^8, 2^12, 2^16 or 2^20
    by_size : (fits_1 fits_2 fits_3 fits_4 : Bool) → nat_lt number 0x10 ≡ fits_1 → nat_lt number 0x100 ≡ fits_2 → nat_lt number 0x1000 ≡ fits_3
        → nat_lt number 0x10000 ≡ fits_4 → IsPiece (hex_text number)
    -- below 2^4, with one digit
    by_size true fits_2 fits_3 fits_4 test_1 test_2 test_3 test_4 = by_places 1 (omega arith) (one_digit number (grind (arith, nat_tests)))
    -- below 2^8, with two digits
    by_size false true fits_3 fits_4 test_1 test_2 test_3 test_4 =
        by_places 2 (omega arith) (two_digits number (grind (arith, nat_tests)) (grind (arith, nat_tests)))
    -- below 2^12, with three digits
    by_size false false true fits_4 test_1 test_2 test_3 test_4 =
        by_places 3 (omega arith) (three_digits number (grind (arith, nat_tests)) (grind (arith, nat_tests)))
    -- below 2^16, with four digits
    by_size false false false true test_1 test_2 test_3 test_4 =
        by_places 4 (omega arith) (four_digits number (grind (arith, nat_tests)) (grind (arith, nat_tests)))
    -- below 2^20, with five digits
    by_size false false false false test_1 test_2 test_3 test_4 =
        by_places 5 (omega arith) (five_digits number (grind (arith, nat_tests)) (omega (arith, fits_20_bits)))

-- a hexadecimal number of 20 bits is read as the number
pub read-hex_text : (number : ℕ) → number < 2 ^ 20 → number_operand (hex_text number) ≡ Ok (plus number)
read-hex_text number fits_20_bits = let number_is = written-hex_text number fits_20_bits in rw number_is refl

-- `0x` and 1 to 8 hexadecimal digits of a number are read as the number
pub read-hex : (places number : ℕ) → 0 < places → places ≤ 8 → number < 16 ^ places
    → number_operand (48 ∷ 120 ∷ hex_digits places number) ≡ Ok (plus number)
read-hex places number at_least_1 at_most_8 digits_suffice =
    let number_is = written-hex places number at_least_1 at_most_8 digits_suffice in rw number_is refl

-- the text of a CSR number is read as the number, since no name of a CSR begins with a digit
pub read-csr : (number : ℕ) → number < 2 ^ 12 → csr_operand (csr_operand_text number) ≡ Ok (plus number)
unfolding csrs csr_listing
read-csr number fits_12_bits = let number_is = written-hex 3 number (omega arith) (omega arith) (omega (arith, fits_12_bits)) in rw number_is refl

-- ---- signed numbers

-- `is_signed` is a test by range that each byte of a signed number passes: `-` (45), `.`, `/`, and the digits (48 to 57)
abbrev is_signed : ℕ → Bool
is_signed byte = nat_le 45 byte && nat_le byte 57

-- decimal digits pass the test `is_signed`
are_signed : (text : List ℕ) → AllDigits 10 text → list_all is_signed text ≡ true
are_signed [] are_digits = refl
are_signed (byte ∷ text) (byte_is_digit, others_are_digits) =
    let is_decimal = digit_between byte byte_is_digit in
    and_from _ _ (grind (arith, nat_tests, is_decimal)) (are_signed text others_are_digits)

-- bytes that pass the test `is_signed` are plain
signed-plain : (text : List ℕ) → list_all is_signed text ≡ true → list_all is_plain text ≡ true
signed-plain [] are_signed_bytes = refl
signed-plain (byte ∷ text) are_signed_bytes =
    let (byte_is_signed, others_are_signed) = and_parts (is_signed byte) (list_all is_signed text) are_signed_bytes in
    and_from _ _ (signed_is_plain byte_is_signed) (signed-plain text others_are_signed)
  where
    -- a byte that passes the test `is_signed` is plain
    signed_is_plain : is_signed byte ≡ true → is_plain byte ≡ true
    signed_is_plain byte_is_signed = grind (arith, nat_tests)

-- the text of a signed number: it has 1 to 9 bytes (a minus and 8 digits) that pass the test `is_signed`, and is no name of a label
pub record IsSignedText (text : List ℕ) : Type 0 where
  -- the text is not empty
  pub not_empty : 0 < length text
  -- the text has at most 9 bytes
  pub short : length text ≤ 9
  -- each byte passes the test `is_signed`
  pub signed : list_all is_signed text ≡ true
  -- the text is no name of a label
  pub no_name : is_name text ≡ false

-- decimal digits are no name, since a name begins with a letter (from 97 or 65 on), `_` (95) or `.` (46)
digits-no_name : (text : List ℕ) → AllDigits 10 text → is_name text ≡ false
unfolding is_name
digits-no_name [] are_digits = refl
digits-no_name (byte ∷ text) (byte_is_digit, others_are_digits) =
    let is_decimal = digit_between byte byte_is_digit in
    let no_lower_case : nat_le 97 byte ≡ false = grind (arith, nat_tests, is_decimal) in
    let no_upper_case : nat_le 65 byte ≡ false = grind (arith, nat_tests, is_decimal) in
    let no_underscore : (byte == low_line) ≡ false = grind (arith, nat_tests, is_decimal) in
    let no_dot : (byte == full_stop) ≡ false = grind (arith, nat_tests, is_decimal) in
    rw (no_lower_case, no_upper_case, no_underscore, no_dot) refl

-- the decimal text of a number below 10 ^ 8 is the text of a signed number
signed-decimal : (number : ℕ) → number < 10 ^ 8 → IsSignedText (decimal number)
signed-decimal number has_8_digits =
    let ((not_empty, are_digits), value_is) = decimal_is_IsNumeral number (omega (arith, has_8_digits)) in
    let at_most_8_bytes = length-decimal-le 8 number (omega arith) has_8_digits (omega (arith, has_8_digits)) in
    let no_name = digits-no_name (decimal number) are_digits in
    record { not_empty = not_empty; short = omega (arith, at_most_8_bytes); signed = are_signed (decimal number) are_digits; no_name = no_name }

-- a minus (45) and the decimal text of a number below 10 ^ 8 are the text of a signed number
signed-minus : (number : ℕ) → number < 10 ^ 8 → IsSignedText (45 ∷ decimal number)
unfolding is_name
signed-minus number has_8_digits =
    let ((not_empty, are_digits), value_is) = decimal_is_IsNumeral number (omega (arith, has_8_digits)) in
    let at_most_8_bytes = length-decimal-le 8 number (omega arith) has_8_digits (omega (arith, has_8_digits)) in
    record { not_empty = omega arith; short = omega (arith, at_most_8_bytes); signed = are_signed (decimal number) are_digits; no_name = refl }

-- the text of a signed field is the text of a signed number
signed_text-signed : (width field : ℕ) → field < 10 ^ 8 → 2 ^ width < 10 ^ 8 → IsSignedText (signed_text width field)
signed_text-signed width field field_has_8_digits width_has_8_digits = by_sign (nat_lt field (2 ^ (width - 1))) (2 ^ width - field)
    (omega (arith, width_has_8_digits))
  where
    -- the text is that of a signed number, whether the field is a nonnegative number or a negative one
    by_sign : (is_nonnegative : Bool) (magnitude : ℕ) → magnitude < 10 ^ 8
        → IsSignedText (if is_nonnegative then decimal field else codes "-" ++ decimal magnitude)
    by_sign true magnitude magnitude_has_8_digits = signed-decimal field field_has_8_digits
    by_sign false magnitude magnitude_has_8_digits = signed-minus magnitude magnitude_has_8_digits

-- the text of a signed field is a piece
pub piece-signed : (width field : ℕ) → field < 10 ^ 8 → 2 ^ width < 10 ^ 8 → IsPiece (signed_text width field)
piece-signed width field field_has_8_digits width_has_8_digits =
    let signed_is = signed_text-signed width field field_has_8_digits width_has_8_digits in
    record { some = signed_is.not_empty; short = omega (arith, signed_is.short); plain = signed-plain (signed_text width field) signed_is.signed }

-- the text of a signed field is read as its number
pub read-signed : (width field : ℕ) → field < 10 ^ 8 → 2 ^ width < 10 ^ 8 → number_operand (signed_text width field) ≡ Ok (signed_number width field)
read-signed width field field_has_8_digits width_has_8_digits =
    let number_is = written-signed width field (omega (arith, field_has_8_digits)) (omega (arith, width_has_8_digits)) in rw number_is refl

-- the text of a signed field is read as the offset of a target
pub read-target : (width field : ℕ) → field < 10 ^ 8 → 2 ^ width < 10 ^ 8
    → target_at (signed_text width field) ≡ Ok (Offset (signed_number width field))
unfolding target_at
read-target width field field_has_8_digits width_has_8_digits =
    let no_name = (signed_text-signed width field field_has_8_digits width_has_8_digits).no_name in
    let number_is = written-signed width field (omega (arith, field_has_8_digits)) (omega (arith, width_has_8_digits)) in
    rw (no_name, number_is) refl

-- ---- addresses

-- `base_text` is the text of a base register in parentheses (40 is the opening one)
abbrev base_text : ℕ → List ℕ
base_text base = left_parenthesis ∷ (register_operand_text base ++ codes ")")

-- the text of an address is the offset and then the base register
address-parts : (offset base : ℕ) → address_text offset base ≡ signed_text 12 offset ++ base_text base
address-parts offset base = simp append_assoc

-- the text of a base register is plain, has at most 5 bytes, and is read as its number
piece-base : (number : ℕ) → number < 32
    → (list_all is_plain (base_text number) ≡ true) × (nat_le (length (base_text number)) 5 ≡ true) × (base_of (base_text number) ≡ Some number)
unfolding digits base_of registers
piece-base number below_32 = (
  agree_below (λ number. list_all is_plain (base_text number)) (λ number. true) 32 number below_32 refl,
  agree_below (λ number. nat_le (length (base_text number)) 5) (λ number. true) 32 number below_32 refl,
  agree_below (λ number. base_of (base_text number)) (λ number. Some number) 32 number below_32 refl,
)

-- the text of an address, which is an offset with a base register in parentheses, is a piece
pub piece-address : (offset base : ℕ) → offset < 2 ^ 12 → base < 32 → IsPiece (address_text offset base)
piece-address offset base offset_fits base_below_32 =
    let offset_is = signed_text-signed 12 offset (omega (arith, offset_fits)) (omega arith) in
    let (base_is_plain, base_length_test, base_is_read) = piece-base base base_below_32 in
    let base_is_short : length (base_text base) ≤ 5 = grind (arith, nat_tests, base_length_test) in
    let piece : IsPiece (signed_text 12 offset ++ base_text base) = record {
      some = omega (arith, offset_is.not_empty, length-append (signed_text 12 offset) (base_text base));
      short = omega (arith, offset_is.short, base_is_short, length-append (signed_text 12 offset) (base_text base));
      plain =
          list_all-append is_plain (signed_text 12 offset) (base_text base)
          ∙ and_from _ _ (signed-plain (signed_text 12 offset) offset_is.signed) base_is_plain;
    } in
    subst IsPiece (sym (address-parts offset base)) piece

-- the position of the first opening parenthesis is the length of the offset before it, since no byte of the offset is a parenthesis
opening-signed : (prefix back : List ℕ) → list_all is_signed prefix ≡ true → opening (prefix ++ left_parenthesis ∷ back) ≡ length prefix
opening-signed [] back is_signed_prefix = refl
opening-signed (byte ∷ prefix) back is_signed_prefix =
    let (byte_is_signed, others_are_signed) = and_parts (is_signed byte) (list_all is_signed prefix) is_signed_prefix in
    let no_parenthesis : (byte == left_parenthesis) ≡ false = signed_differs byte_is_signed in
    rw no_parenthesis (omega (arith, opening-signed prefix back others_are_signed))
  where
    -- a byte that passes the test `is_signed` is not an opening parenthesis (40)
    signed_differs : is_signed byte ≡ true → (byte == left_parenthesis) ≡ false
    signed_differs byte_is_signed = grind (arith, nat_tests)

-- an address is read as its offset and its base register, if these are read from the parts before and after the parenthesis
address_of-parts : (prefix back : List ℕ) (offset : _) (base : ℕ) → list_all is_signed prefix ≡ true → written_number prefix ≡ Some offset
    → base_of (left_parenthesis ∷ back) ≡ Some base → offset_and_base (prefix ++ left_parenthesis ∷ back) ≡ Some (offset, base)
unfolding offset_and_base
address_of-parts prefix back offset base are_signed_bytes offset_is base_is =
    let at_prefix = opening-signed prefix back are_signed_bytes in
    rw (at_prefix, take-append_seam prefix (left_parenthesis ∷ back), drop-append_seam prefix (left_parenthesis ∷ back), offset_is, base_is) refl

-- the text of an address is read as the offset and the base register
pub read-address : (offset base : ℕ) → offset < 2 ^ 12 → base < 32 → address_operand (address_text offset base) ≡ Ok (signed_number 12 offset, base)
read-address offset base offset_fits base_below_32 =
    let offset_is = signed_text-signed 12 offset (omega (arith, offset_fits)) (omega arith) in
    let number_is = written-signed 12 offset (omega (arith, offset_fits)) (omega arith) in
    let (base_is_plain, base_length_test, base_is_read) = piece-base base base_below_32 in
    let parts_are_read =
    address_of-parts (signed_text 12 offset) (register_operand_text base ++ codes ")") (signed_number 12 offset) base offset_is.signed number_is
    base_is_read in
    ap address_operand (address-parts offset base) ∙ by_parts parts_are_read
  where
    -- an operand whose parts are read as an offset and a base register is read as both
    by_parts : offset_and_base (signed_text 12 offset ++ base_text base) ≡ Some (signed_number 12 offset, base)
        → address_operand (signed_text 12 offset ++ base_text base) ≡ Ok (signed_number 12 offset, base)
    by_parts parts_are_read = rw parts_are_read refl
