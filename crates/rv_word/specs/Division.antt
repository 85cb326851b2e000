-- Quotients and remainders (RISC-V Unprivileged ISA 20191213, section 7.2 and table 7.1).
use Rattle.std.specs.Prelude.{◌≡◌, ℕ, ◌+◌, ◌-◌, ◌*◌, ◌/◌, ◌%◌, ◌^◌, ◌<◌, ◌==◌, Bool, ◌&&◌, if◌then◌else◌}
use Rattle.std.specs.Prelude.{ℤ, pos, ◌+ℤ◌, ◌*ℤ◌, ◌≤ℤ◌, unsigned_abs, int_div, int_rem}
use Rattle.rv_word.specs.Word.{signed, low_word}

-- Signed division: dividend = quotient * divisor + remainder. The absolute value of the remainder is smaller than that of the divisor, and its
-- sign is that of the dividend. The quotient is thus rounded towards zero.
pub record IsDivision (dividend divisor quotient remainder : ℤ) : Type 0 where
  -- the dividend is the product of quotient and divisor, plus the remainder
  pub whole : (quotient *ℤ divisor) +ℤ remainder ≡ dividend
  -- the remainder is smaller than the divisor, by absolute value
  pub smaller : unsigned_abs remainder < unsigned_abs divisor
  -- the remainder of a dividend of at least 0 is at least 0
  pub not_negative : pos 0 ≤ℤ dividend → pos 0 ≤ℤ remainder
  -- the remainder of a dividend of at most 0 is at most 0
  pub not_positive : dividend ≤ℤ pos 0 → remainder ≤ℤ pos 0

-- the word is the quotient of a division, modulo 2 ^ 32
abbrev pub IsQuotient : ℤ → ℤ → ℕ → Type 0
IsQuotient dividend divisor word = (q : ℤ) × (r : ℤ) × IsDivision dividend divisor q r × (word ≡ low_word q)

-- the word is the remainder of a division, modulo 2 ^ 32
abbrev pub IsRemainder : ℤ → ℤ → ℕ → Type 0
IsRemainder dividend divisor word = (q : ℤ) × (r : ℤ) × IsDivision dividend divisor q r × (word ≡ low_word r)

-- a signed division overflows if it divides -2 ^ 31 by -1: the quotient 2 ^ 31 is no signed word
abbrev pub overflows : ℕ → ℕ → Bool
overflows dividend divisor = dividend == 2 ^ 31 && divisor == 2 ^ 32 - 1

-- The signed columns of table 7.1. Division by 0 gives all ones and the dividend. If the quotient overflows, the results are the dividend and 0.
-- Otherwise they are the words of the division.
abbrev pub quotient : ℕ → ℕ → ℕ
quotient dividend divisor =
    if divisor == 0 then 2 ^ 32 - 1
    else (if overflows dividend divisor then dividend
    else low_word (int_div (signed dividend) (signed divisor)))

-- `remainder` is the signed remainder of rem: the dividend for a divisor of 0, and 0 on overflow
abbrev pub remainder : ℕ → ℕ → ℕ
remainder dividend divisor =
    if divisor == 0 then dividend
    else (if overflows dividend divisor then 0
    else low_word (int_rem (signed dividend) (signed divisor)))

-- Unsigned division: dividend = quotient * divisor + remainder, and the remainder is below the divisor. Division by 0 gives all ones and the
-- dividend.
abbrev pub IsUnsignedQuotient : ℕ → ℕ → ℕ → Type 0
IsUnsignedQuotient dividend divisor word = (r : ℕ) × (r < divisor) × (word * divisor + r ≡ dividend)

-- the word is the remainder of a division of unsigned numbers
abbrev pub IsUnsignedRemainder : ℕ → ℕ → ℕ → Type 0
IsUnsignedRemainder dividend divisor word = (q : ℕ) × (word < divisor) × (q * divisor + word ≡ dividend)

-- `unsigned_quotient` is the unsigned quotient of divu: 2 ^ 32 - 1 for a divisor of 0
abbrev pub unsigned_quotient : ℕ → ℕ → ℕ
unsigned_quotient dividend divisor = if divisor == 0 then 2 ^ 32 - 1 else dividend / divisor

-- `unsigned_remainder` is the unsigned remainder of remu: the dividend for a divisor of 0
abbrev pub unsigned_remainder : ℕ → ℕ → ℕ
unsigned_remainder dividend divisor = if divisor == 0 then dividend else dividend % divisor
