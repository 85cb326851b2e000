-- The high words of products (RISC-V Unprivileged ISA 20191213, section 7.1).
use Rattle.std.specs.Prelude.{◌≡◌, ℕ, ◌^◌, ◌<◌, ℤ, pos, ◌+ℤ◌, ◌*ℤ◌}
use Rattle.rv_word.specs.Word.{signed, low_word, rounded_down}

-- `high_word` is a product shifted right by 32 bits, modulo 2 ^ 32: the word above its low word
abbrev pub high_word : ℤ → ℕ
high_word product = low_word (rounded_down product (2 ^ 32))

-- a word is the high word of a product: its signed value times 2 ^ 32, plus some low word, is the product
abbrev pub IsSignedHighWord : ℤ → ℕ → Type 0
IsSignedHighWord product high = (low : ℕ) × (low < 2 ^ 32) × (product ≡ (signed high *ℤ pos (2 ^ 32)) +ℤ pos low)
