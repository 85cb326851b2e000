-- The words of mstatus and sstatus have no bit outside their masks, and sstatus is mstatus under its mask.
use Rattle.std.proofs.Common.{◌≡◌, ℕ, ◌+◌, ◌*◌, Bool, true, false, List, [], ◌∷◌, length, refl, sym, ap, ◌∙◌, arith}
use Rattle.std.specs.Prelude.{◌&&◌}
use Rattle.rv_word.specs.Logic.{bit_list, word_of_bits, digit, bitwise, by_bits, and_by_bits}
use Rattle.rv_pmp.specs.Mode.{mode_number}
use Rattle.rv_pmp.specs.declared.mode.Mode.{Mode}
use Rattle.rv_pmp.specs.declared.mode.Mode.TheVariants.{U, S, M}
use Rattle.rv_state.specs.Mstatus.{mstatus_word, sstatus_word}
use Rattle.rv_state.specs.declared.mstatus.Mstatus.{Mstatus}
use Rattle.rv_state.proofs.MaskLemmas.{low_bit_of, upper_bits_of, bits_in_mask, bitwise-in_mask, mstatus_bits, sstatus_bits}

-- the bits of a number that is made of a list of bits are the list
bit_list-word_of_bits : (bits : List Bool) → bit_list (length bits) (word_of_bits bits) ≡ bits
bit_list-word_of_bits [] = refl
bit_list-word_of_bits (bit ∷ bits) =
    rw (low_bit_of bit (word_of_bits bits), upper_bits_of bit (word_of_bits bits))
    (ap (λ rest. bit ∷ rest) (bit_list-word_of_bits bits))

-- the number of a list of 32 bits, under a mask, is the number of the bits that are in the mask
number_in_mask : (bits : List Bool) (mask : ℕ) → length bits ≡ 32
    → and_by_bits (word_of_bits bits) mask ≡ word_of_bits (bits_in_mask (bit_list 32 mask) bits)
unfolding by_bits
number_in_mask bits mask has_32_bits =
    let same_bits : bit_list 32 (word_of_bits bits) ≡ bits =
    ap (λ n. bit_list n (word_of_bits bits)) (sym has_32_bits) ∙ bit_list-word_of_bits bits
    in
    ap word_of_bits (ap (λ list. bitwise (λ x y. x && y) list (bit_list 32 mask)) same_bits ∙ bitwise-in_mask bits (bit_list 32 mask))

-- whether the lower bit of a mode's two-bit number is set: U is 0, S is 1 and M is 3
has_lower_bit : Mode → Bool
has_lower_bit U = false
has_lower_bit S = true
has_lower_bit M = true

-- whether the upper bit of a mode's two-bit number is set
has_upper_bit : Mode → Bool
has_upper_bit U = false
has_upper_bit S = false
has_upper_bit M = true

-- a mode's number is the sum of its lower bit and twice its upper bit
mode-digits : (mode : Mode) → mode_number mode ≡ digit (has_lower_bit mode) + 2 * digit (has_upper_bit mode)
unfolding has_lower_bit has_upper_bit
mode-digits U = refl
mode-digits S = refl
mode-digits M = refl

-- the 32 bits of mstatus, the lowest first, eight in a line
abbrev bits_of : Mstatus → List Bool
bits_of status =
    false ∷ status.sie ∷ false ∷ status.mie ∷ false ∷ status.spie ∷ false ∷ status.mpie
    ∷ status.spp ∷ false ∷ false ∷ has_lower_bit status.mpp ∷ has_upper_bit status.mpp ∷ false ∷ false ∷ false
    ∷ false ∷ status.mprv ∷ false ∷ status.mxr ∷ status.tvm ∷ status.tw ∷ status.tsr ∷ false
    ∷ false ∷ false ∷ false ∷ false ∷ false ∷ false ∷ false ∷ false ∷ []

-- the word of mstatus is the number of its bits
mstatus_of_bits : (status : Mstatus) → mstatus_word status ≡ word_of_bits (bits_of status)
mstatus_of_bits status = omega (arith, mode-digits status.mpp)

-- mstatus has no bit outside those that it implements
pub mstatus_masked : (status : Mstatus) → and_by_bits (mstatus_word status) mstatus_bits ≡ mstatus_word status
mstatus_masked status =
    ap (λ word. and_by_bits word mstatus_bits) (mstatus_of_bits status)
    ∙ number_in_mask (bits_of status) mstatus_bits refl
    ∙ sym (mstatus_of_bits status)

-- sstatus is mstatus under the mask of the bits that sstatus shows
pub sstatus_is_masked : (status : Mstatus) → sstatus_word status ≡ and_by_bits (mstatus_word status) sstatus_bits
sstatus_is_masked status =
    let under_mask : and_by_bits (mstatus_word status) sstatus_bits ≡ word_of_bits (bits_in_mask (bit_list 32 sstatus_bits) (bits_of status)) =
    ap (λ word. and_by_bits word sstatus_bits) (mstatus_of_bits status) ∙ number_in_mask (bits_of status) sstatus_bits refl
    in
    omega (arith, under_mask)
