-- Words, and the integers that they represent (RISC-V Unprivileged ISA 20191213, sections 1.3 and 2.1). A word is a natural number below 2 ^ 32.
use Rattle.std.specs.Prelude.{ℕ, ◌-◌, ◌/◌, ◌%◌, ◌^◌, ℤ, pos, negsuc, ◌-ℤ◌, nat_lt, if◌then◌else◌}

-- `signed` is the signed value of a word: the word itself below 2 ^ 31, otherwise the word minus 2 ^ 32
abbrev pub signed : ℕ → ℤ
signed word = if nat_lt word (2 ^ 31) then pos word else (pos word -ℤ pos (2 ^ 32))

-- `low_word` is the word of an integer modulo 2 ^ 32; negsuc n is -(n + 1)
abbrev pub low_word : ℤ → ℕ
low_word (pos n) = n % 2 ^ 32
low_word (negsuc n) = 2 ^ 32 - 1 - n % 2 ^ 32

-- `rounded_down` is an integer divided by a positive one, rounded down; negsuc n is -(n + 1)
abbrev pub rounded_down : ℤ → ℕ → ℤ
rounded_down (pos n) divisor = pos (n / divisor)
rounded_down (negsuc n) divisor = negsuc (n / divisor)
