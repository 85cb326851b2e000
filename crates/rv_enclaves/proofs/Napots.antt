-- A NAPOT entry for a block covers exactly the bytes of the block (Privileged 3.7.1). A block has a power of two as its size, and its base is a
-- multiple of its size.
use Rattle.std.proofs.Common.{◌≡◌, ℕ, ◌+◌, ◌-◌, ◌*◌, ◌/◌, ◌%◌, ◌^◌, ◌<◌, ◌≤◌, Bool, true, false, refl, sym, ◌∙◌, ap, subst, inl, inr, arith}
use Rattle.std.specs.Prelude.{◌&&◌, nat_le, nat_lt}
use Rattle.std.proofs.Math.Nat.{div-eq_of_lt-le, mul_comm}
use Rattle.std.proofs.lemmas.Nat.{pow_pos, pow-add, div-add-mod'}
use Rattle.std.proofs.lemmas.Nat.Bits.{bit_at_lowest, bit_at-trailing_ones, bit_at_cat_low, bit_at_cat_high, bit_at_ones}
use Rattle.std.proofs.lemmas.Bool.{cases_order, leb-true, ltb-true, le-leb, lt-ltb, and_parts, and_from}
use Rattle.std.specs.Int.{w32, bit_at, trailing_ones}
use Rattle.rv_pmp.proofs.CoversLemmas.{same_quotient, trailing_ones_is}
use Rattle.rv_pmp.specs.Covers.{matches, napot_size}
use Rattle.rv_pmp.specs.Cfg.{matching_of}

-- the pmpaddr value of the NAPOT entry for a block with this base and size
abbrev pub napot_addr : ℕ → ℕ → ℕ
napot_addr base size = base / 4 + (size / 8 - 1)

-- whether the byte is among the `size` bytes from the base on
abbrev pub is_within : ℕ → ℕ → ℕ → Bool
is_within base size address = nat_le base address && nat_lt address (base + size)

-- two tests that imply each other are equal
pub equal_if_equivalent : (test other : Bool) → (test ≡ true → other ≡ true) → (other ≡ true → test ≡ true) → test ≡ other
equal_if_equivalent true true other_if_test test_if_other = refl
equal_if_equivalent true false other_if_test test_if_other = sym (other_if_test refl)
equal_if_equivalent false true other_if_test test_if_other = test_if_other refl
equal_if_equivalent false false other_if_test test_if_other = refl

-- a number whose binary digits end in a 0 and then `ones` ones has `ones` trailing ones
pub trailing_ones-block : (half ones : ℕ) → ones < 32 → 2 * half * 2 ^ ones + (2 ^ ones - 1) + 1 < 2 ^ 32
    → trailing_ones w32 (2 * half * 2 ^ ones + (2 ^ ones - 1)) ≡ ones
trailing_ones-block half ones ones_below_32 fits =
    let number = 2 * half * 2 ^ ones + (2 ^ ones - 1) in
    let trailing = trailing_ones w32 number in
    let (_, bit_after_trailing_is_0, trailing_bits_are_1) = bit_at-trailing_ones w32 number fits in
    let power_positive = pow_pos ones in
    let no_shift : ones - ones ≡ 0 = omega arith in
    let bit_after_ones_is_0 : bit_at number ones ≡ 0 =
    bit_at_cat_high (2 * half) ones (2 ^ ones - 1) ones (omega arith) (omega arith)
    ∙ ap (bit_at (2 * half)) no_shift
    ∙ bit_at_lowest (2 * half)
    ∙ omega arith in
    let lower_bits_are_1 : (bit : ℕ) → bit < ones → bit_at number bit ≡ 1 =
    λ bit in_ones. bit_at_cat_low (2 * half) ones (2 ^ ones - 1) bit in_ones ∙ bit_at_ones ones bit in_ones in
    elim (cases_order trailing ones) [
      -- the number of trailing ones is compared with `ones`: fewer and more both contradict the bits of the number
      | inl equal ↦ equal
      | inr different ↦ elim different [
        | inl fewer ↦
            let bit_is_1 = lower_bits_are_1 trailing fewer in
            absurd (omega (arith, bit_is_1, bit_after_trailing_is_0))
        | inr more ↦
            let bit_is_1 = trailing_bits_are_1 ones more in
            absurd (omega (arith, bit_is_1, bit_after_ones_is_0))
      ]
    ]

-- the block of 8 * 2 ^ `exponent` bytes whose base is `quotient` times its size
module _ (quotient exponent : ℕ) (below_32 : exponent < 32) (fits : quotient * (8 * 2 ^ exponent) + 8 * 2 ^ exponent ≤ 2 ^ 33) where
  -- the pmpaddr value for the block ends in a 0 and `exponent` ones
  napot_addr_is : napot_addr (quotient * (8 * 2 ^ exponent)) (8 * 2 ^ exponent) ≡ 2 * quotient * 2 ^ exponent + (2 ^ exponent - 1)
  napot_addr_is = omega (arith, pow_pos exponent)

  -- the size that the pmpaddr value encodes is the size of the block
  napot_size_is : napot_size (napot_addr (quotient * (8 * 2 ^ exponent)) (8 * 2 ^ exponent)) ≡ 8 * 2 ^ exponent
  napot_size_is =
      rw napot_addr_is
      (ap (λ exponent. 8 * 2 ^ exponent) (sym (trailing_ones_is (2 * quotient * 2 ^ exponent + (2 ^ exponent - 1)) (omega (arith, pow_pos exponent)))
      ∙ trailing_ones-block quotient exponent below_32 (omega (arith, pow_pos exponent))))

  -- the pmpaddr value encodes `quotient` as the number of the block
  quotient_is : 4 * napot_addr (quotient * (8 * 2 ^ exponent)) (8 * 2 ^ exponent) / (8 * 2 ^ exponent) ≡ quotient
  quotient_is =
      rw napot_addr_is (div-eq_of_lt-le (8 * 2 ^ exponent) (omega (arith, pow_pos exponent)) (omega (arith, pow_pos exponent)))

  -- the NAPOT entry for the block matches exactly the bytes of the block
  block_matches : (previous address : ℕ)
      → matches (matching_of 0x18) previous (napot_addr (quotient * (8 * 2 ^ exponent)) (8 * 2 ^ exponent)) address
      ≡ is_within (quotient * (8 * 2 ^ exponent)) (8 * 2 ^ exponent) address
  block_matches previous address =
      let (to_bounds, from_bounds) = same_quotient (8 * 2 ^ exponent) quotient address (omega (arith, pow_pos exponent)) in
      rw (napot_size_is, quotient_is)
      (equal_if_equivalent _ _
      (λ test_holds. let (from_base, below_end) = to_bounds test_holds in and_from _ _ (le-leb _ _ from_base) (lt-ltb _ _ below_end))
      (λ test_holds. let (from_base, below_end) = and_parts _ _ test_holds in from_bounds (leb-true _ _ from_base, ltb-true _ _ below_end)))

-- the NAPOT entry for a block with this base and size matches exactly the bytes of the block
pub napot_matches : (base size exponent previous address : ℕ) → exponent < 32 → size ≡ 2 ^ (exponent + 3) → base % size ≡ 0 → base + size ≤ 2 ^ 33
    → matches (matching_of 0x18) previous (napot_addr base size) address ≡ is_within base size address
napot_matches base size exponent previous address below_32 power aligned fits =
    let quotient = base / size in
    let size_is : size ≡ 8 * 2 ^ exponent = power ∙ pow-add 2 exponent 3 ∙ mul_comm (2 ^ exponent) 8 in
    let base_is : base ≡ quotient * size = omega (arith, div-add-mod' base size) in
    let base_is_product : base ≡ quotient * (8 * 2 ^ exponent) = base_is ∙ ap (λ number. quotient * number) size_is in
    let product_fits : quotient * (8 * 2 ^ exponent) + 8 * 2 ^ exponent ≤ 2 ^ 33 = omega (arith, base_is_product, size_is) in
    let Matches : ℕ → ℕ → Type 0 = λ base size. matches (matching_of 0x18) previous (napot_addr base size) address ≡ is_within base size address in
    let at_product : Matches (quotient * (8 * 2 ^ exponent)) (8 * 2 ^ exponent) =
    block_matches quotient exponent below_32 product_fits previous address in
    subst (λ base. Matches base size) (sym base_is_product) (subst (λ size. Matches (quotient * (8 * 2 ^ exponent)) size) (sym size_is) at_product)
