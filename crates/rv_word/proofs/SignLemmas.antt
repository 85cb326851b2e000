-- The signed value of a word, by its highest bit and by the cast of std.
use Rattle.std.proofs.Common.{◌≡◌, ℕ, ◌^◌, ◌<◌, pos, arith}
use Rattle.std.specs.Int.{w32, cast_signed}
use Rattle.std.proofs.lemmas.Int.{ints}
use Rattle.rv_word.specs.Word.{signed}

-- a word below 2 ^ 31 is its own signed value, which is not negative
pub signed-low : (n : ℕ) → n < 2 ^ 31 → signed n ≡ pos n
signed-low n highest_bit_clear = grind (arith, ints)

-- the signed value of a word is the one that the cast of std to i32 gives
pub signed-is : (n : ℕ) → n < 2 ^ 32 → signed n ≡ cast_signed w32 n
signed-is n n_is_word = grind (arith, ints)
