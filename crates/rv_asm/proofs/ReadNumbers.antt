-- Each number that the disassembler writes is read back as the same number.
use Rattle.std.proofs.Common.{◌≡◌, ℕ, ◌-◌, ◌%◌, ◌/◌, ◌^◌, ◌<◌, ◌≤◌, Bool, true, false, List, [], ◌∷◌, ◌++◌}
use Rattle.std.proofs.Common.{length, Some, Ok, refl, ap, sym, ◌∙◌, arith, decimal}
use Rattle.std.specs.Prelude.{◌&&◌, nat_lt, nat_le, nat_eq, codes, if◌then◌else◌}
use Rattle.std.specs.Char.{is_digit, digit_value}
use Rattle.std.specs.Fmt.{digits}
use Rattle.std.specs.List.{list_all, starts_with}
use Rattle.std.specs.Str.Parse.{AllDigits}
use Rattle.std.proofs.lemmas.Bool.{and_from}
use Rattle.std.proofs.lemmas.Bool.Decides.{nat_tests}
use Rattle.std.proofs.lemmas.Fmt.{decimal_is_IsNumeral}
use Rattle.rv_asm.specs.declared.number.Number.{Number}
use Rattle.rv_text.specs.Digits.{hex_digits}
use Rattle.rv_asm.specs.Numbers.{plus, minus, decimal_digits, written_number}
use Rattle.rv_text.specs.Numbers.{number_of_digits}
use Rattle.rv_asm.specs.OperandRanges.{immediate_of, upper_immediate_of, five_bits_of, csr_number_field, branch_offset_of, jump_offset_of}
use Rattle.rv_asm.specs.OperandRanges.{word_of_number}
use Rattle.rv_disassembler.specs.Spelling.{signed_text, hex_text}
use Rattle.rv_text.proofs.HexDigits.{length-hex_digits, AllDigits-hex_digits, digits_value-hex_digits}
use Rattle.rv_disassembler.proofs.HexTexts.{one_digit, two_digits, three_digits, four_digits, five_digits}

-- ---- digits

-- the digits of a base pass the test `is_digit`
list_all-digits : (base : ℕ) (text : List ℕ) → AllDigits base text → list_all (λ byte. is_digit byte base) text ≡ true
list_all-digits base [] are_digits = refl
list_all-digits base (byte ∷ text) (byte_is_digit, others_are_digits) =
    and_from _ _ (digit_passes byte_is_digit) (list_all-digits base text others_are_digits)
  where
    -- a digit whose value is below the base passes the test of a digit
    digit_passes : digit_value byte < base → is_digit byte base ≡ true
    digit_passes value_below_base = grind (arith, nat_tests)

-- a decimal digit is one of the characters `0` (48) to `9` (57)
pub digit_between : (byte : ℕ) → digit_value byte < 10 → (48 ≤ byte) × (byte ≤ 57)
digit_between byte value_below_10 = (grind (arith, nat_tests), grind (arith, nat_tests))

-- an and whose second part is false is false
and_false : (test : Bool) → (test && false) ≡ false
and_false true = refl
and_false false = refl

-- decimal digits do not begin with `0x`, because no digit is an `x` (120)
digits-no_hex : (text : List ℕ) → AllDigits 10 text → starts_with nat_eq text (codes "0x") ≡ false
digits-no_hex [] are_digits = refl
digits-no_hex (byte ∷ []) are_digits = and_false (nat_eq 48 byte)
digits-no_hex (byte ∷ digit ∷ text) (byte_is_digit, (second_is_digit, others_are_digits)) =
    let is_decimal = digit_between digit second_is_digit in
    let no_x : nat_eq 120 digit ≡ false = grind (arith, nat_tests, is_decimal) in
    rw no_x (and_false (nat_eq 48 byte))

-- decimal digits do not begin with a minus, because no digit is a minus (45)
digits-no_minus : (text : List ℕ) → AllDigits 10 text → starts_with nat_eq text (codes "-") ≡ false
digits-no_minus [] are_digits = refl
digits-no_minus (byte ∷ text) (byte_is_digit, others_are_digits) =
    let is_decimal = digit_between byte byte_is_digit in
    let no_minus_sign : nat_eq 45 byte ≡ false = grind (arith, nat_tests, is_decimal) in
    rw no_minus_sign refl

-- ---- decimal numbers

-- `decimal_digits` reads the decimal text of a number as the number
decimal_digits-decimal : (number : ℕ) → number < 2 ^ 64 → decimal_digits (decimal number) ≡ Some number
unfolding decimal_digits
decimal_digits-decimal number fits_64_bits =
    let ((some_digits, are_digits), value_is) = decimal_is_IsNumeral number fits_64_bits in
    let all_digits = list_all-digits 10 (decimal number) are_digits in
    let not_empty : nat_lt 0 (length (decimal number)) ≡ true = grind (arith, nat_tests, some_digits) in
    rw (not_empty, all_digits, value_is) (ap Some (omega (arith, fits_64_bits)))

-- the decimal text of a number is read as the number
pub written-decimal : (number : ℕ) → number < 2 ^ 64 → written_number (decimal number) ≡ Some (plus number)
unfolding written_number
written-decimal number fits_64_bits =
    let ((some_digits, are_digits), digits_value_is) = decimal_is_IsNumeral number fits_64_bits in
    let no_hex = digits-no_hex (decimal number) are_digits in
    let no_minus = digits-no_minus (decimal number) are_digits in
    let value_is = decimal_digits-decimal number fits_64_bits in
    rw (no_hex, no_minus, value_is) refl

-- a minus (45) and the decimal text of a number are read as its negative
pub written-minus : (number : ℕ) → number < 2 ^ 64 → written_number (45 ∷ decimal number) ≡ Some (minus number)
unfolding written_number
written-minus number fits_64_bits = let value_is = decimal_digits-decimal number fits_64_bits in rw value_is refl

-- ---- signed numbers

-- `signed_number` is the number that a field of this width has as a signed number
abbrev pub signed_number : ℕ → ℕ → Number
signed_number width field = if nat_lt field (2 ^ (width - 1)) then plus field else minus (2 ^ width - field)

-- the signed text of a field is read as the signed number of the field
pub written-signed : (width field : ℕ) → field < 2 ^ 64 → 2 ^ width < 2 ^ 64
    → written_number (signed_text width field) ≡ Some (signed_number width field)
written-signed width field field_fits width_fits = by_sign (nat_lt field (2 ^ (width - 1))) (2 ^ width - field) (omega (arith, width_fits))
  where
    -- the text is read as its number, whether the field is a nonnegative number or a negative one
    by_sign : (is_nonnegative : Bool) (magnitude : ℕ) → magnitude < 2 ^ 64
        → written_number (if is_nonnegative then decimal field else codes "-" ++ decimal magnitude) ≡ Some
        (if is_nonnegative then plus field else minus magnitude)
    by_sign true magnitude magnitude_fits = written-decimal field field_fits
    by_sign false magnitude magnitude_fits = written-minus magnitude magnitude_fits

-- the signed number of a 12-bit field is read back as the field
pub immediate-signed : (field : ℕ) → field < 2 ^ 12 → immediate_of (signed_number 12 field) ≡ Ok field
immediate-signed field field_fits = grind (arith, nat_tests)

-- the signed number of a branch offset is read back as the offset
pub branch_offset-signed : (field : ℕ) → field < 2 ^ 13 → field % 2 ≡ 0 → branch_offset_of (signed_number 13 field) ≡ Ok field
branch_offset-signed field field_fits is_even = grind (arith, nat_tests)

-- the signed number of a jump offset is read back as the offset
pub jump_offset-signed : (field : ℕ) → field < 2 ^ 21 → field % 2 ≡ 0 → jump_offset_of (signed_number 21 field) ≡ Ok field
jump_offset-signed field field_fits is_even = grind (arith, nat_tests)

-- a number below 32 is accepted as a field of 5 bits
pub five_bits-plus : (number : ℕ) → number < 32 → five_bits_of (plus number) ≡ Ok number
five_bits-plus number fits_field = grind (arith, nat_tests)

-- a number below 4096 is accepted as the number of a CSR
pub csr_number-plus : (number : ℕ) → number < 2 ^ 12 → csr_number_field (plus number) ≡ Ok number
csr_number-plus number fits_field = grind (arith, nat_tests)

-- a number below 2 ^ 32 is accepted as a word
pub word_of-plus : (number : ℕ) → number < 2 ^ 32 → word_of_number (plus number) ≡ Ok number
word_of-plus number fits_field = grind (arith, nat_tests)

-- the upper 20 bits of an upper immediate are read back as the immediate
pub upper-plus : (imm : ℕ) → imm < 2 ^ 32 → imm % 2 ^ 12 ≡ 0 → upper_immediate_of (plus (imm / 2 ^ 12)) ≡ Ok imm
upper-plus imm fits_field low_bits_are_0 = grind (arith, nat_tests)

-- ---- hexadecimal numbers

-- `0x` (the bytes 48 and 120) and 1 to 8 hexadecimal digits of a number are read as the number
pub written-hex : (places number : ℕ) → 0 < places → places ≤ 8 → number < 16 ^ places
    → written_number (48 ∷ 120 ∷ hex_digits places number) ≡ Some (plus number)
unfolding written_number number_of_digits
written-hex places number at_least_1 at_most_8 digits_suffice =
    let all_digits = list_all-digits 16 (hex_digits places number) (AllDigits-hex_digits places number) in
    let value_is = digits_value-hex_digits places number digits_suffice in
    let digit_count = length-hex_digits places number in
    let not_empty : nat_lt 0 places ≡ true = grind (arith, nat_tests) in
    let at_most_8_digits : nat_le places 8 ≡ true = grind (arith, nat_tests) in
    rw (digit_count, not_empty, at_most_8_digits, all_digits, value_is) refl

-- a hexadecimal number of at most 20 bits, without leading zeros, is read as the number: the cases are the numbers of digits
pub written-hex_text : (number : ℕ) → number < 2 ^ 20 → written_number (hex_text number) ≡ Some (plus number)
written-hex_text number fits_20_bits =
    by_size (nat_lt number 0x10) (nat_lt number 0x100) (nat_lt number 0x1000) (nat_lt number 0x10000) refl refl refl refl
  where
    -- a hexadecimal number without leading zeros is read back, if `places` digits are all of its digits
    by_places : (places : ℕ) → 0 < places → places ≤ 8 → number < 16 ^ places → hex_digits places number ≡ digits 16 false number
        → written_number (hex_text number) ≡ Some (plus number)
    by_places places at_least_1 at_most_8 digits_suffice digits_agree = ap (λ text. written_number (48 ∷ 120 ∷ text)) (sym digits_agree)
        ∙ written-hex places number at_least_1 at_most_8 digits_suffice

    -- the number is read back whatever its size is: below 2^4, 2^8, 2^12, 2^16 or 2^20
    by_size : (fits_1 fits_2 fits_3 fits_4 : Bool) → nat_lt number 0x10 ≡ fits_1 → nat_lt number 0x100 ≡ fits_2 → nat_lt number 0x1000 ≡ fits_3
        → nat_lt number 0x10000 ≡ fits_4 → written_number (hex_text number) ≡ Some (plus number)
    -- below 2^4, with one digit
    by_size true fits_2 fits_3 fits_4 test_1 test_2 test_3 test_4 =
        let is_below : number < 0x10 = grind (arith, nat_tests) in by_places 1 (omega arith) (omega arith) (omega (arith, is_below))
        (one_digit number is_below)
    -- below 2^8, with two digits
    by_size false true fits_3 fits_4 test_1 test_2 test_3 test_4 =
        let is_above : 0x10 ≤ number = grind (arith, nat_tests) in let is_below : number < 0x100 = grind (arith, nat_tests) in
        by_places 2 (omega arith) (omega arith) (omega (arith, is_below)) (two_digits number is_above is_below)
    -- below 2^12, with three digits
    by_size false false true fits_4 test_1 test_2 test_3 test_4 =
        let is_above : 0x100 ≤ number = grind (arith, nat_tests) in let is_below : number < 0x1000 = grind (arith, nat_tests) in
        by_places 3 (omega arith) (omega arith) (omega (arith, is_below)) (three_digits number is_above is_below)
    -- below 2^16, with four digits
    by_size false false false true test_1 test_2 test_3 test_4 =
        let is_above : 0x1000 ≤ number = grind (arith, nat_tests) in let is_below : number < 0x10000 = grind (arith, nat_tests) in
        by_places 4 (omega arith) (omega arith) (omega (arith, is_below)) (four_digits number is_above is_below)
    -- below 2^20, with five digits
    by_size false false false false test_1 test_2 test_3 test_4 =
        let is_above : 0x10000 ≤ number = grind (arith, nat_tests) in
        by_places 5 (omega arith) (omega arith) (omega (arith, fits_20_bits)) (five_digits number is_above (omega (arith, fits_20_bits)))
