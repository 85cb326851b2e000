-- Numbers in hexadecimal with leading zeros, in ASCII digits (ISO/IEC 646).
use Rattle.std.specs.Prelude.{ℕ, zero, suc, ◌/◌, ◌%◌, List, [], ◌∷◌, ◌++◌}
use Rattle.std.specs.Char.{digit_char}

-- `hex_digits places number` has the `places` last hexadecimal digits of the number, in lower case
unfoldable pub hex_digits : ℕ → ℕ → List ℕ
hex_digits zero number = []
hex_digits (suc places) number = hex_digits places (number / 16) ++ digit_char (number % 16) ∷ []

-- `hex8` is a number as eight hexadecimal digits
abbrev pub hex8 : ℕ → List ℕ
hex8 number = hex_digits 8 number

-- `hex3` is a number as three hexadecimal digits
abbrev pub hex3 : ℕ → List ℕ
hex3 number = hex_digits 3 number

-- `hex2` is a number as two hexadecimal digits
abbrev pub hex2 : ℕ → List ℕ
hex2 number = hex_digits 2 number
