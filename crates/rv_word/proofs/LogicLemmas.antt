-- The machine's bit operations on words are the operations on their lists of bits: each of them computes bit by bit, from the lowest bit up.
use Rattle.std.proofs.Common.{◌≡◌, ℕ, zero, suc, ◌+◌, ◌-◌, ◌*◌, ◌/◌, ◌%◌, ◌^◌, ◌<◌, Bool, refl, sym, ap, ◌∙◌, arith, bit_and, bit_or, bit_xor}
use Rattle.std.specs.Prelude.{◌&&◌, ◌||◌, ◌==◌, not}
use Rattle.std.proofs.lemmas.Nat.{and_block, or_block, xor_block, div-add-mod', and-not, and_comm, and_le_r}
use Rattle.std.proofs.Math.Nat.{pow-suc}
use Rattle.rv_word.specs.Logic.{bit_list, word_of_bits, digit, bitwise, by_bits, exclusive_or, and_by_bits, or_by_bits, xor_by_bits, and_not_by_bits}

-- ---- an operation on numbers, bit by bit

-- half of a number of `count + 1` bits is a number of `count` bits
half-lt : (count number : ℕ) → number < 2 ^ suc count → number / 2 < 2 ^ count
half-lt count number number_fits = omega (arith, pow-suc 2 count)

-- the operation `on_numbers` computes `on_bits` on each pair of bits, from the lowest bit up
record GoesByBits (on_bits : Bool → Bool → Bool) (on_numbers : ℕ → ℕ → ℕ) : Type 0 where
  -- the result for two numbers without a bit that is 1
  of_zeros : on_numbers 0 0 ≡ 0
  -- the lowest bit of the result is `on_bits` of the lowest bits, and the others are those of the halves
  of_halves : (left right : ℕ) → on_numbers left right ≡ digit (on_bits (left % 2 == 1) (right % 2 == 1)) + 2 * on_numbers (left / 2) (right / 2)

-- an operation that goes by bits gives, for two numbers of `count` bits, the number of the bits that `on_bits` gives (by induction over the count)
number_of-bitwise : (on_bits : Bool → Bool → Bool) (on_numbers : ℕ → ℕ → ℕ) → GoesByBits on_bits on_numbers → (count left right : ℕ)
    → left < 2 ^ count → right < 2 ^ count
    → word_of_bits (bitwise on_bits (bit_list count left) (bit_list count right)) ≡ on_numbers left right
number_of-bitwise on_bits on_numbers goes_by_bits zero left right left_fits right_fits =
    let left_is : left ≡ 0 = omega arith in
    let right_is : right ≡ 0 = omega arith in
    rw (left_is, right_is) (sym goes_by_bits.of_zeros)
number_of-bitwise on_bits on_numbers goes_by_bits (suc count) left right left_fits right_fits =
    let of_halves = number_of-bitwise on_bits on_numbers goes_by_bits count (left / 2) (right / 2) (half-lt count left left_fits)
    (half-lt count right right_fits) in
    ap (λ half_result. digit (on_bits (left % 2 == 1) (right % 2 == 1)) + 2 * half_result) of_halves
    ∙ sym (goes_by_bits.of_halves left right)

-- ---- the four operations on single bits

-- a claim about two bits holds if it holds in each of the four cases
bit_cases : (P : ℕ → ℕ → Type 0) → P 0 0 → P 0 1 → P 1 0 → P 1 1 → (left_bit right_bit : ℕ) → left_bit < 2 → right_bit < 2 → P left_bit right_bit
bit_cases P at_00 at_01 at_10 at_11 zero zero left_is_bit right_is_bit = at_00
bit_cases P at_00 at_01 at_10 at_11 zero (suc zero) left_is_bit right_is_bit = at_01
bit_cases P at_00 at_01 at_10 at_11 (suc zero) zero left_is_bit right_is_bit = at_10
bit_cases P at_00 at_01 at_10 at_11 (suc zero) (suc zero) left_is_bit right_is_bit = at_11
bit_cases P at_00 at_01 at_10 at_11 (suc (suc left_bit)) right_bit left_is_bit right_is_bit = absurd (omega arith)
bit_cases P at_00 at_01 at_10 at_11 left_bit (suc (suc right_bit)) left_is_bit right_is_bit = absurd (omega arith)

-- `&` of two single bits is 1 if both are 1
bit_and-bits : (left_bit right_bit : ℕ) → left_bit < 2 → right_bit < 2 → bit_and left_bit right_bit ≡ digit (left_bit == 1 && right_bit == 1)
bit_and-bits = bit_cases (λ left_bit right_bit. bit_and left_bit right_bit ≡ digit (left_bit == 1 && right_bit == 1)) refl refl refl refl

-- `|` of two single bits is 1 if one of them is 1
bit_or-bits : (left_bit right_bit : ℕ) → left_bit < 2 → right_bit < 2 → bit_or left_bit right_bit ≡ digit (left_bit == 1 || right_bit == 1)
bit_or-bits = bit_cases (λ left_bit right_bit. bit_or left_bit right_bit ≡ digit (left_bit == 1 || right_bit == 1)) refl refl refl refl

-- `^` of two single bits is 1 if exactly one of them is 1
bit_xor-bits : (left_bit right_bit : ℕ) → left_bit < 2 → right_bit < 2
    → bit_xor left_bit right_bit ≡ digit (exclusive_or (left_bit == 1) (right_bit == 1))
bit_xor-bits = bit_cases (λ left_bit right_bit. bit_xor left_bit right_bit
    ≡ digit (exclusive_or (left_bit == 1) (right_bit == 1))) refl refl refl refl

-- the left bit is the sum of two bits: "left and not right", and "right and left"
and_not-bits : (left_bit right_bit : ℕ) → left_bit < 2 → right_bit < 2
    → digit (left_bit == 1 && not (right_bit == 1)) + bit_and right_bit left_bit ≡ left_bit
and_not-bits = bit_cases (λ left_bit right_bit. digit (left_bit == 1 && not (right_bit == 1)) + bit_and right_bit left_bit
    ≡ left_bit) refl refl refl refl

-- ---- the four operations on numbers, by their lowest bits and their halves

-- a number is twice its half, plus its lowest bit
halved : (number : ℕ) → number ≡ number / 2 * 2 ^ 1 + number % 2
halved number = sym (div-add-mod' number 2)

-- an operation on two numbers has the same result if each is written as twice its half, plus its lowest bit
split_lowest : (on_numbers : ℕ → ℕ → ℕ) (left right : ℕ)
    → on_numbers left right ≡ on_numbers (left / 2 * 2 ^ 1 + left % 2) (right / 2 * 2 ^ 1 + right % 2)
split_lowest on_numbers left right =
    ap (λ number. on_numbers number right) (halved left) ∙ ap (on_numbers (left / 2 * 2 ^ 1 + left % 2)) (halved right)

-- `&` of two numbers is `&` of their lowest bits, plus twice `&` of their halves
bit_and-halves : (left right : ℕ) → bit_and left right ≡ digit (left % 2 == 1 && right % 2 == 1) + 2 * bit_and (left / 2) (right / 2)
bit_and-halves left right =
    let of_blocks = and_block 1 (left / 2) (right / 2) (left % 2) (right % 2) (omega arith) (omega arith) in
    let of_lowest_bits = bit_and-bits (left % 2) (right % 2) (omega arith) (omega arith) in
    split_lowest bit_and left right ∙ of_blocks ∙ omega (arith, of_lowest_bits)

-- `|` of two numbers is `|` of their lowest bits, plus twice `|` of their halves
bit_or-halves : (left right : ℕ) → bit_or left right ≡ digit (left % 2 == 1 || right % 2 == 1) + 2 * bit_or (left / 2) (right / 2)
bit_or-halves left right =
    let of_blocks = or_block 1 (left / 2) (right / 2) (left % 2) (right % 2) (omega arith) (omega arith) in
    let of_lowest_bits = bit_or-bits (left % 2) (right % 2) (omega arith) (omega arith) in
    split_lowest bit_or left right ∙ of_blocks ∙ omega (arith, of_lowest_bits)

-- `^` of two numbers is `^` of their lowest bits, plus twice `^` of their halves
bit_xor-halves : (left right : ℕ) → bit_xor left right ≡ digit (exclusive_or (left % 2 == 1) (right % 2 == 1)) + 2 * bit_xor (left / 2) (right / 2)
bit_xor-halves left right =
    let of_blocks = xor_block 1 (left / 2) (right / 2) (left % 2) (right % 2) (omega arith) (omega arith) in
    let of_lowest_bits = bit_xor-bits (left % 2) (right % 2) (omega arith) (omega arith) in
    split_lowest bit_xor left right ∙ of_blocks ∙ omega (arith, of_lowest_bits)

-- The left number minus `&` of both has the bits that the left number has and the right one does not have. These are those of the lowest bits,
-- plus twice those of the halves.
and_not-halves : (left right : ℕ)
    → left - bit_and right left ≡ digit (left % 2 == 1 && not (right % 2 == 1)) + 2 * (left / 2 - bit_and (right / 2) (left / 2))
and_not-halves left right =
    let split_and = split_lowest bit_and right left in
    let of_blocks = and_block 1 (right / 2) (left / 2) (right % 2) (left % 2) (omega arith) (omega arith) in
    let of_lowest_bits = and_not-bits (left % 2) (right % 2) (omega arith) (omega arith) in
    omega (arith, split_and, of_blocks, of_lowest_bits, and_le_r (right / 2) (left / 2), and_le_r right left)

-- ---- the four operations on words

-- `&` of two words has the bits that both words have
pub bit_and_is : (left right : ℕ) → left < 2 ^ 32 → right < 2 ^ 32 → bit_and left right ≡ and_by_bits left right
unfolding by_bits
bit_and_is left right left_fits right_fits =
    sym (number_of-bitwise (λ x y. x && y) bit_and (record { of_zeros = refl; of_halves = bit_and-halves }) 32 left right left_fits right_fits)

-- `|` of two words has the bits that one of the words has
pub bit_or_is : (left right : ℕ) → left < 2 ^ 32 → right < 2 ^ 32 → bit_or left right ≡ or_by_bits left right
unfolding by_bits
bit_or_is left right left_fits right_fits =
    sym (number_of-bitwise (λ x y. x || y) bit_or (record { of_zeros = refl; of_halves = bit_or-halves }) 32 left right left_fits right_fits)

-- `^` of two words has the bits that exactly one of the words has
pub bit_xor_is : (left right : ℕ) → left < 2 ^ 32 → right < 2 ^ 32 → bit_xor left right ≡ xor_by_bits left right
unfolding by_bits
bit_xor_is left right left_fits right_fits =
    sym (number_of-bitwise exclusive_or bit_xor (record { of_zeros = refl; of_halves = bit_xor-halves }) 32 left right left_fits right_fits)

-- `&` of a word with the complement of another has the bits that the first word has and the second does not have
pub bit_and_not_is : (left right : ℕ) → left < 2 ^ 32 → right < 2 ^ 32 → bit_and left (2 ^ 32 - 1 - right) ≡ and_not_by_bits left right
unfolding by_bits
bit_and_not_is left right left_fits right_fits =
    and_comm left (2 ^ 32 - 1 - right)
    ∙ omega (arith, and-not 32 right left right_fits left_fits)
    ∙ sym (number_of-bitwise (λ x y. x && not y) (λ left right. left - bit_and right left) (record { of_zeros = refl; of_halves = and_not-halves }) 32
    left right left_fits right_fits)
