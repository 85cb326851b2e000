-- Numbers in an assembler text, in ASCII digits (ISO/IEC 646).
use Rattle.std.specs.Prelude.{ℕ, ◌-◌, ◌^◌, true, false, ◌&&◌, List, length, drop, min, codes, nat_eq, Option, Some, None, nat_lt, if◌then◌else◌}
use Rattle.std.specs.List.{list_all, starts_with}
use Rattle.std.specs.Option.{option_map}
use Rattle.std.specs.Char.{is_digit}
use Rattle.std.specs.Str.Parse.{digits_value}
use Rattle.rv_text.specs.Numbers.{number_of_digits}
use Rattle.rv_asm.specs.declared.number.Number.{Number}

-- `plus` is the nonnegative number with this magnitude
abbrev pub plus : ℕ → Number
plus magnitude = record { is_negative = false; magnitude = magnitude }

-- `minus` is the negative number with this magnitude
abbrev pub minus : ℕ → Number
minus magnitude = record { is_negative = true; magnitude = magnitude }

-- `decimal_digits` is the value of one or more decimal digits; a value above 2^64 - 1, which is out of every range, counts as 2^64 - 1
unfoldable pub decimal_digits : List ℕ → Option ℕ
decimal_digits text =
    if nat_lt 0 (length text) && list_all (λ digit. is_digit digit 10) text then Some (min (digits_value 10 text) (2 ^ 64 - 1)) else None

-- A number is written as `0x` and one to eight hexadecimal digits of either case, or as decimal digits with an optional `-` before them.
unfoldable pub written_number : List ℕ → Option Number
written_number text =
    if starts_with nat_eq text (codes "0x") then option_map plus (number_of_digits 16 8 (drop 2 text))
    else (if starts_with nat_eq text (codes "-") then option_map minus (decimal_digits (drop 1 text))
    else option_map plus (decimal_digits text))
