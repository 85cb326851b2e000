-- Words under a mask, bit by bit: masking twice is masking once, and mie, mip and mcountinhibit keep the bits of their masks.
use Rattle.std.proofs.Common.{◌≡◌, ℕ, zero, suc, ◌+◌, ◌*◌, ◌/◌, ◌%◌, ◌^◌, ◌<◌, ◌≤◌, Bool, true, false}
use Rattle.std.proofs.Common.{List, [], ◌∷◌, refl, sym, ap, ◌∙◌, arith}
use Rattle.std.specs.Prelude.{◌&&◌, ◌==◌}
use Rattle.std.proofs.Math.Nat.{pow-suc, div-div-eq-div-mul, div-one}
use Rattle.rv_word.specs.BitFields.{is_set}
use Rattle.rv_word.specs.Logic.{bit_list, word_of_bits, digit, bitwise, by_bits, and_by_bits}
use Rattle.rv_state.specs.Bits.{kept_bits}
use Rattle.rv_state.specs.CsrTable.{enabled_of, inhibited_of}
use Rattle.rv_state.specs.Interrupts.{software_pending_of}

-- the number whose bits are those that both numbers have, among the lowest `count` bits
abbrev common_bits : ℕ → ℕ → ℕ → ℕ
common_bits count left right = word_of_bits (bitwise (λ x y. x && y) (bit_list count left) (bit_list count right))

-- the lowest bit of `bit + 2 * rest` is the bit
pub low_bit_of : (bit : Bool) (rest : ℕ) → ((digit bit + 2 * rest) % 2 == 1) ≡ bit
low_bit_of true rest = let remainder_is : (1 + 2 * rest) % 2 ≡ 1 = omega arith in rw remainder_is refl
low_bit_of false rest = let remainder_is : (0 + 2 * rest) % 2 ≡ 0 = omega arith in rw remainder_is refl

-- the bits of `bit + 2 * rest` above the lowest are the rest
pub upper_bits_of : (bit : Bool) (rest : ℕ) → (digit bit + 2 * rest) / 2 ≡ rest
upper_bits_of true rest = omega arith
upper_bits_of false rest = omega arith

-- a second conjunction with the same bit changes nothing
and-again : (x y : Bool) → ((x && y) && y) ≡ (x && y)
and-again true true = refl
and-again true false = refl
and-again false y = refl

-- the bits that a word has in common with a mask are also those of the masked word; by induction over the bits
common_bits-again : (count word mask : ℕ) → common_bits count (common_bits count word mask) mask ≡ common_bits count word mask
common_bits-again zero word mask = refl
common_bits-again (suc count) word mask =
    let bit = (word % 2 == 1) && (mask % 2 == 1) in
    let rest = common_bits count (word / 2) (mask / 2) in
    rw (low_bit_of bit rest, upper_bits_of bit rest, and-again (word % 2 == 1) (mask % 2 == 1))
    (ap (λ number. digit bit + 2 * number) (common_bits-again count (word / 2) (mask / 2)))

-- masking a masked word again changes nothing
pub masked_again : (word mask : ℕ) → and_by_bits (and_by_bits word mask) mask ≡ and_by_bits word mask
unfolding by_bits
masked_again word mask = common_bits-again 32 word mask

-- a number below 2, read as a bit and back as a number, is the number itself
digit-below_2 : (number : ℕ) → number < 2 → digit (number == 1) ≡ number
digit-below_2 zero is_below_2 = refl
digit-below_2 (suc zero) is_below_2 = refl
digit-below_2 (suc (suc number)) is_below_2 = absurd (omega arith)

-- the lowest bit of a number, as 0 or 1, is its remainder by 2
pub digit_is_remainder : (number : ℕ) → digit (number % 2 == 1) ≡ number % 2
digit_is_remainder number = digit-below_2 (number % 2) (omega arith)

-- ---- a word under a mask, as the sum of the bits in the mask

-- the bits of the second list where the mask, the first list, has a 1, and 0 elsewhere
abbrev pub bits_in_mask : List Bool → List Bool → List Bool
bits_in_mask [] bits = []
bits_in_mask (mask_bit ∷ mask_bits) [] = []
bits_in_mask (mask_bit ∷ mask_bits) (bit ∷ bits) = (mask_bit && bit) ∷ bits_in_mask mask_bits bits

-- conjunction is commutative
and-comm : (x y : Bool) → (x && y) ≡ (y && x)
and-comm true true = refl
and-comm true false = refl
and-comm false true = refl
and-comm false false = refl

-- the common bits of a list and a mask are the bits of the list in the mask
pub bitwise-in_mask : (bits mask : List Bool) → bitwise (λ x y. x && y) bits mask ≡ bits_in_mask mask bits
bitwise-in_mask [] [] = refl
bitwise-in_mask [] (mask_bit ∷ mask_bits) = refl
bitwise-in_mask (bit ∷ bits) [] = refl
bitwise-in_mask (bit ∷ bits) (mask_bit ∷ mask_bits) = rw (and-comm bit mask_bit, bitwise-in_mask bits mask_bits) refl

-- `count` bits of a word, from bit `position` upwards
abbrev pub bits_from : ℕ → ℕ → ℕ → List Bool
bits_from zero position word = []
bits_from (suc count) position word = is_set word position ∷ bits_from count (suc position) word

-- half of a word shifted right by `position` is the word shifted right by `position` + 1
halved : (word position : ℕ) → word / 2 ^ position / 2 ≡ word / 2 ^ suc position
halved word position = div-div-eq-div-mul word (2 ^ position) 2 ∙ sym (ap (λ number. word / number) (pow-suc 2 position))

-- the bits of a word shifted right by `position` are its bits from `position` up
pub bit_list-from : (count position word : ℕ) → bit_list count (word / 2 ^ position) ≡ bits_from count position word
bit_list-from zero position word = refl
bit_list-from (suc count) position word =
    rw (halved word position) (ap (λ bits. is_set word position ∷ bits) (bit_list-from count (suc position) word))

-- a word under a mask is the number whose bits are those of the word that are in the mask
pub masked_word_is : (word mask : ℕ) → and_by_bits word mask ≡ word_of_bits (bits_in_mask (bit_list 32 mask) (bits_from 32 0 word))
unfolding by_bits
masked_word_is word mask =
    let bits_are : bit_list 32 word ≡ bits_from 32 0 word = ap (bit_list 32) (sym (div-one word)) ∙ bit_list-from 32 0 word in
    ap word_of_bits (bitwise-in_mask (bit_list 32 word) (bit_list 32 mask) ∙ ap (bits_in_mask (bit_list 32 mask)) bits_are)

-- ---- the bits that a register keeps are the word under its mask, and masking them again changes nothing

-- the bits that mstatus implements: SIE, MIE, SPIE, MPIE, SPP, MPP, MPRV, MXR, TVM, TW and TSR
abbrev pub mstatus_bits : ℕ
mstatus_bits = 0x007A19AA

-- the same bits without MPP (bits 12:11)
abbrev pub mstatus_bits_without_mpp : ℕ
mstatus_bits_without_mpp = 0x007A01AA

-- the bits of mstatus that sstatus shows: SIE, SPIE, SPP and MXR
abbrev pub sstatus_bits : ℕ
sstatus_bits = 0x00080122

-- the bits of mie that can be set: SSIE, MSIE, STIE, MTIE, SEIE and MEIE (bits 1, 3, 5, 7, 9 and 11)
abbrev mie_mask : ℕ
mie_mask = 0xAAA

-- the bits of mip that software can write: SSIP, STIP and SEIP (bits 1, 5 and 9)
abbrev software_mask : ℕ
software_mask = 0x222

-- the bits of mcountinhibit that can be set: CY and IR (bits 0 and 2)
abbrev inhibit_mask : ℕ
inhibit_mask = 0x5

-- if `keep` is masking with the mask, then keeping the kept bits again changes nothing
kept_again : (keep : ℕ → ℕ) (mask : ℕ) → ((word : ℕ) → and_by_bits word mask ≡ keep word) → (word : ℕ) → keep (keep word) ≡ keep word
kept_again keep mask keep_is_mask word =
    let masked_twice = sym (keep_is_mask (keep word)) ∙ ap (λ number. and_by_bits number mask) (sym (keep_is_mask word)) in
    masked_twice ∙ masked_again word mask ∙ keep_is_mask word

-- mie keeps the bits of its mask
pub enabled_is : (word : ℕ) → and_by_bits word mie_mask ≡ enabled_of word
unfolding kept_bits
enabled_is word = omega (arith, masked_word_is word mie_mask)

-- a value of mie does not change if it is written again
pub enabled_again : (word : ℕ) → enabled_of (enabled_of word) ≡ enabled_of word
enabled_again word = kept_again enabled_of mie_mask enabled_is word

-- the bits of mip that software writes are the bits of their mask
pub software_is : (word : ℕ) → and_by_bits word software_mask ≡ software_pending_of word
unfolding kept_bits
software_is word = omega (arith, masked_word_is word software_mask)

-- taking the bits of mip that software writes a second time changes nothing
pub software_again : (word : ℕ) → software_pending_of (software_pending_of word) ≡ software_pending_of word
software_again word = kept_again software_pending_of software_mask software_is word

-- the bits of mip that software writes are bits 1, 5 and 9 of the word (SSIP, STIP and SEIP)
pub software_of : (word : ℕ)
    → software_pending_of word ≡ word / 2 ^ 1 % 2 * 2 ^ 1 + word / 2 ^ 5 % 2 * 2 ^ 5 + word / 2 ^ 9 % 2 * 2 ^ 9
unfolding kept_bits
software_of word =
    omega (arith, digit_is_remainder (word / 2 ^ 1), digit_is_remainder (word / 2 ^ 5), digit_is_remainder (word / 2 ^ 9))

-- the software bits of mip, as a number, are at most their mask
pub software_at_most : (word : ℕ) → software_pending_of word ≤ software_mask
software_at_most word = omega (arith, software_of word)

-- mcountinhibit keeps the bits of its mask
pub inhibited_is : (word : ℕ) → and_by_bits word inhibit_mask ≡ inhibited_of word
unfolding kept_bits
inhibited_is word = omega (arith, masked_word_is word inhibit_mask)

-- a value of mcountinhibit does not change if it is written again
pub inhibited_again : (word : ℕ) → inhibited_of (inhibited_of word) ≡ inhibited_of word
inhibited_again word = kept_again inhibited_of inhibit_mask inhibited_is word
