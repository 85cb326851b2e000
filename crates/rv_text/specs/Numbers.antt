-- Numbers in ASCII digits (ISO/IEC 646).
use Rattle.std.specs.Prelude.{ℕ, Bool, ◌&&◌, List, length, Option, Some, None, nat_lt, nat_le, if◌then◌else◌}
use Rattle.std.specs.List.{list_all}
use Rattle.std.specs.Char.{is_digit}
use Rattle.std.specs.Str.Parse.{digits_value}

-- a number is a text of 1 to `most` digits of the base
abbrev pub is_number : ℕ → ℕ → List ℕ → Bool
is_number base most text = nat_lt 0 (length text) && nat_le (length text) most && list_all (λ byte. is_digit byte base) text

-- `number_of_digits` is the number that a text of 1 to `most` digits of the base has, or `None` for any other text
unfoldable pub number_of_digits : ℕ → ℕ → List ℕ → Option ℕ
number_of_digits base most text = if is_number base most text then Some (digits_value base text) else None
