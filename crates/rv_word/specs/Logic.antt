-- Logic on words, by their lists of bits (RISC-V Unprivileged ISA 20191213, section 2.4).
use Rattle.std.specs.Prelude.{ℕ, zero, suc, ◌+◌, ◌*◌, ◌/◌, ◌%◌, ◌==◌, Bool, true, false, ◌&&◌, ◌||◌, not, List, [], ◌∷◌}

-- `bit_list` has the `count` lowest bits of a number, the lowest first
abbrev pub bit_list : ℕ → ℕ → List Bool
bit_list zero number = []
bit_list (suc count) number = (number % 2 == 1) ∷ bit_list count (number / 2)

-- `digit` is a bit as a number
abbrev pub digit : Bool → ℕ
digit true = 1
digit false = 0

-- `word_of_bits` is the number with these bits, the lowest first
abbrev pub word_of_bits : List Bool → ℕ
word_of_bits [] = 0
word_of_bits (bit ∷ bits) = digit bit + 2 * word_of_bits bits

-- `bitwise` is an operation on each bit of one list and the bit at the same position of the other
abbrev pub bitwise : (Bool → Bool → Bool) → List Bool → List Bool → List Bool
bitwise f [] ys = []
bitwise f (x ∷ xs) [] = []
bitwise f (x ∷ xs) (y ∷ ys) = f x y ∷ bitwise f xs ys

-- `by_bits` is an operation on the `count` lowest bits of two numbers
unfoldable pub by_bits : (Bool → Bool → Bool) → ℕ → ℕ → ℕ → ℕ
by_bits f count left right = word_of_bits (bitwise f (bit_list count left) (bit_list count right))

-- `exclusive_or` is the exclusive or of two bits
abbrev pub exclusive_or : Bool → Bool → Bool
exclusive_or true b = not b
exclusive_or false b = b

-- `and_by_bits` has the bits that both words have
abbrev pub and_by_bits : ℕ → ℕ → ℕ
and_by_bits left right = by_bits (λ x y. x && y) 32 left right

-- `or_by_bits` has the bits that one of the words has
abbrev pub or_by_bits : ℕ → ℕ → ℕ
or_by_bits left right = by_bits (λ x y. x || y) 32 left right

-- `xor_by_bits` has the bits that exactly one of the words has
abbrev pub xor_by_bits : ℕ → ℕ → ℕ
xor_by_bits left right = by_bits exclusive_or 32 left right

-- `and_not_by_bits` has the bits that the left word has and the right one does not have
abbrev pub and_not_by_bits : ℕ → ℕ → ℕ
and_not_by_bits left right = by_bits (λ x y. x && not y) 32 left right
