-- This file has examples: rows of table 7.1 (RISC-V Unprivileged ISA 20191213, section 7.2). They cover division by zero, and -2^31 by -1, the only
-- signed division whose quotient fits in no word.
use Rattle.std.proofs.Common.{◌≡◌, ℕ, refl}
use Rattle.rv_word.specs.Division.{quotient, remainder, unsigned_quotient, unsigned_remainder}

-- `least` is the word of -2^31, the least signed number
abbrev least : ℕ
least = 0x80000000

-- `all_ones` is the word of -1, and the largest word
abbrev all_ones : ℕ
all_ones = 0xFFFFFFFF

-- the quotient of the division that overflows, -2^31 by -1, is the dividend
div-overflow : quotient least all_ones ≡ least
div-overflow = refl

-- the remainder of the division that overflows, -2^31 by -1, is 0
rem-overflow : remainder least all_ones ≡ 0
rem-overflow = refl

-- the words of -2^31 and -1 are the unsigned numbers 2^31 and 2^32 - 1, so the unsigned quotient is 0
divu-of_these : unsigned_quotient least all_ones ≡ 0
divu-of_these = refl

-- the unsigned remainder of the words of -2^31 and -1 is the dividend
remu-of_these : unsigned_remainder least all_ones ≡ least
remu-of_these = refl

-- the signed quotient by 0 is all ones, the word of -1
div-by_zero : (dividend : ℕ) → quotient dividend 0 ≡ all_ones
div-by_zero dividend = refl

-- the signed remainder by 0 is the dividend
rem-by_zero : (dividend : ℕ) → remainder dividend 0 ≡ dividend
rem-by_zero dividend = refl

-- the unsigned quotient by 0 is all ones, the largest word
divu-by_zero : (dividend : ℕ) → unsigned_quotient dividend 0 ≡ all_ones
divu-by_zero dividend = refl

-- the unsigned remainder by 0 is the dividend
remu-by_zero : (dividend : ℕ) → unsigned_remainder dividend 0 ≡ dividend
remu-by_zero dividend = refl
