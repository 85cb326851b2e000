-- The hexadecimal digits of a number: written one by one from the highest, they are its digits, and they are read back as the number.
use Rattle.std.proofs.Common.{◌≡◌, ℕ, zero, suc, ◌+◌, ◌-◌, ◌*◌, ◌/◌, ◌%◌, ◌^◌, ◌<◌, [], ◌∷◌, ◌++◌, length, bit_and, refl}
use Rattle.std.proofs.Common.{ap, sym, ◌∙◌, arith, add-one, length-append, Option, Some, None}
use Rattle.std.specs.Option.{SomeIff}
use Rattle.std.proofs.lemmas.Option.{none-some}
use Rattle.std.specs.Char.{digit_char, digit_value}
use Rattle.std.specs.Str.Parse.{AllDigits, digits_value}
use Rattle.std.proofs.lemmas.Int.Digits.{digits_push, digits_value_push}
use Rattle.std.proofs.lemmas.Str.{digit_value-digit_char}
use Rattle.std.proofs.lemmas.Bool.Decides.{nat_tests}
use Rattle.std.proofs.lemmas.Nat.{and_mask, pow-add}
use Rattle.std.proofs.Math.Nat.{div-div-eq-div-mul, pow-suc}
use Rattle.rv_text.specs.Digits.{hex_digits}

-- the character of a hexadecimal digit is an ASCII character
pub digit_char-lt : (digit : ℕ) → digit < 16 → digit_char digit < 128
digit_char-lt digit digit_below_16 = grind (arith, nat_tests)

-- a number written with `places` digits has a text of `places` bytes
pub length-hex_digits : (places number : ℕ) → length (hex_digits places number) ≡ places
unfolding hex_digits
length-hex_digits zero number = refl
length-hex_digits (suc places) number =
    omega (arith, length-append (hex_digits places (number / 16)) (digit_char (number % 16) ∷ []), length-hex_digits places (number / 16))

-- a number written with no digits has the empty text
pub hex_digits-start : (number : ℕ) → [] ≡ hex_digits 0 number
unfolding hex_digits
hex_digits-start number = refl

-- `leading` is the number of the first `written` of the `places` hexadecimal digits of a value: each digit that is not yet written has 4 bits
abbrev leading : ℕ → ℕ → ℕ → ℕ
leading value places written = value / 2 ^ (4 * (places - written))

-- the number of the first digits without the last of them is the number divided by 16
leading-shorter : (value places written : ℕ) → written < places → leading value places (written + 1) / 16 ≡ leading value places written
leading-shorter value places written digits_left =
    let exponent : 4 * (places - (written + 1)) + 4 ≡ 4 * (places - written) = omega arith in
    div-div-eq-div-mul value (2 ^ (4 * (places - (written + 1)))) 16
    ∙ ap (λ power. value / power) (sym (pow-add 2 (4 * (places - (written + 1))) 4) ∙ ap (λ bits. 2 ^ bits) exponent)

-- the digits of `number / 16`, followed by the last digit of the number, which is its low 4 bits, are the digits of the number
hex_digits-last : (written number quotient : ℕ) → quotient ≡ number / 16
    → hex_digits written quotient ++ digit_char (bit_and number 15) ∷ [] ≡ hex_digits (written + 1) number
unfolding hex_digits
hex_digits-last written number quotient quotient_is =
    let last_digit : bit_and number 15 ≡ number % 16 = and_mask number 4 in
    rw (quotient_is, last_digit, add-one written)

-- if the first `written` digits of a value are written and the next digit is appended, then the first `written + 1` digits are written
pub hex_digits_more : (value places written : ℕ) → written < places
    → hex_digits written (leading value places written) ++ digit_char (bit_and (leading value places (written + 1)) 15) ∷ []
    ≡ hex_digits (written + 1) (leading value places (written + 1))
hex_digits_more value places written digits_left =
    hex_digits-last written _ _ (sym (leading-shorter value places written digits_left))

-- the first `places` of `places` digits of a value are the digits of the whole value
pub hex_digits-all : (value places : ℕ) → hex_digits places (leading value places places) ≡ hex_digits places value
hex_digits-all value places =
    let no_digit_left : places - places ≡ 0 = omega arith in
    rw no_digit_left (ap (hex_digits places) (omega arith))

-- if an option is `Some v` exactly under a condition, and is `Some x`, then the condition holds and x is v
pub SomeIff-at_some : {T : Type 0} (result : Option T) (P : Type 0) (v x : T) → SomeIff result P v → result ≡ Some x → P × (x ≡ v)
SomeIff-at_some None P v x some_iff result_is = absurd (none-some x result_is)
SomeIff-at_some (Some found) P v x some_iff result_is =
    let same : found ≡ x = cc in
    (some_iff.0, sym same ∙ some_iff.1)

-- each byte of a number in hexadecimal is a hexadecimal digit (by induction over the digits)
pub AllDigits-hex_digits : (places number : ℕ) → AllDigits 16 (hex_digits places number)
unfolding hex_digits
AllDigits-hex_digits zero number = tt
AllDigits-hex_digits (suc places) number =
    let digit_value_is : digit_value (digit_char (number % 16)) ≡ number % 16 = digit_value-digit_char (number % 16) (omega arith) in
    digits_push 16 (hex_digits places (number / 16)) (digit_char (number % 16))
    (AllDigits-hex_digits places (number / 16)) (rw digit_value_is (omega arith))

-- a number in hexadecimal is read back as this number, if it fits in the digits (by induction over the digits)
pub digits_value-hex_digits : (places number : ℕ) → number < 16 ^ places → digits_value 16 (hex_digits places number) ≡ number
unfolding hex_digits
digits_value-hex_digits zero number number_fits = omega arith
digits_value-hex_digits (suc places) number number_fits =
    let quotient_fits : number / 16 < 16 ^ places = omega (arith, pow-suc 16 places) in
    let quotient_read : digits_value 16 (hex_digits places (number / 16)) ≡ number / 16 =
    digits_value-hex_digits places (number / 16) quotient_fits in
    let digit_read : digit_value (digit_char (number % 16)) ≡ number % 16 = digit_value-digit_char (number % 16) (omega arith) in
    digits_value_push 16 (hex_digits places (number / 16)) (digit_char (number % 16)) ∙ rw (quotient_read, digit_read) (omega arith)
