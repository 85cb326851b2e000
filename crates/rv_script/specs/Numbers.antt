-- Numbers in the operands of a command, in ASCII digits (ISO/IEC 646). (This project's own commands.)
use Rattle.std.specs.Prelude.{ℕ, List, drop, Option, codes, nat_eq, if◌then◌else◌}
use Rattle.std.specs.List.{starts_with}
use Rattle.rv_text.specs.Numbers.{number_of_digits}

-- `without_0x` is the text without a leading `0x`
abbrev pub without_0x : List ℕ → List ℕ
without_0x text = if starts_with nat_eq text (codes "0x") then drop 2 text else text

-- a hexadecimal number has one to eight digits of either case, with an optional `0x` before them
unfoldable pub hexadecimal_of : List ℕ → Option ℕ
hexadecimal_of text = number_of_digits 16 8 (without_0x text)

-- the number of a control and status register has one to three hexadecimal digits of either case, without `0x`
unfoldable pub csr_number_of : List ℕ → Option ℕ
csr_number_of text = number_of_digits 16 3 text

-- a byte has one or two hexadecimal digits, without `0x`
unfoldable pub byte_of_text : List ℕ → Option ℕ
byte_of_text text = number_of_digits 16 2 text

-- a decimal number has one to seven digits, without a sign
unfoldable pub decimal_of : List ℕ → Option ℕ
decimal_of text = number_of_digits 10 7 text
