-- This file proves that the range of a NAPOT entry is an interval.
use Rattle.std.proofs.Common.{◌∙◌, sym, zero, suc, ◌-◌, refl, ap, ap₂, inl, inr, ◌≡◌, ℕ, ◌+◌, ◌*◌, ◌/◌, ◌%◌, ◌^◌, ◌<◌, ◌≤◌, ◌↔◌, ◌==◌, IsTrue}
use Rattle.std.proofs.Common.{arith, lit<}
use Rattle.std.proofs.Math.Nat.{div-mul-le_self, lt-div-mul-add, div-eq_of_lt-le}
use Rattle.std.proofs.lemmas.Nat.{shl_whole}
use Rattle.std.proofs.lemmas.Bool.{eqb-true, eq-eqb, ne_eqb, cases_eq, cond-true, cond-false}
use Rattle.std.specs.Int.{w32, trailing_ones}
use lib.Count.{count_trailing_zeros, under}
use native.Mathlib.Nat.{pow-suc}
use Rattle.rv_pmp.specs.Covers.{ones_at_end}
use Rattle.std.specs.Int.Count.{trailing_le}

-- the numbers `byte` with `byte / size ≡ quotient` are those from `quotient * size` up to the next multiple of `size`
pub same_quotient : (size quotient byte : ℕ) → 0 < size
    → IsTrue (byte / size == quotient) ↔ ((quotient * size ≤ byte) × (byte < quotient * size + size))
same_quotient size quotient byte positive = (
  λ test_holds. let quotient_is : byte / size ≡ quotient = eqb-true _ _ test_holds in
      let from_start = div-mul-le_self byte size in
      let before_next : byte < byte / size * size + size = lt-div-mul-add positive in
      (rw (← quotient_is) from_start, rw (← quotient_is) before_next),
  λ in_interval. let (from_multiple, before_next_multiple) = in_interval in
      eq-eqb _ _ (div-eq_of_lt-le size from_multiple (omega (arith, before_next_multiple))),
)

-- the trailing ones of a number are the trailing zeros of its complement (by induction over the bits: the lowest bits differ)
ones_by_complement : (bits number : ℕ) → number < 2 ^ bits → count_trailing_zeros bits (2 ^ bits - 1 - number) ≡ ones_at_end bits number
unfolding count_trailing_zeros ones_at_end
ones_by_complement zero number fits = refl
ones_by_complement (suc bits) number fits =
    let power_doubled : 2 ^ suc bits ≡ 2 ^ bits * 2 = pow-suc 2 bits in
    let half : (2 ^ suc bits - 1 - number) / 2 ≡ 2 ^ bits - 1 - number / 2 = omega (arith, power_doubled, fits) in
    let rest_alike = ap (count_trailing_zeros bits) half ∙ ones_by_complement bits (number / 2) (omega (arith, power_doubled, fits)) in
    let ones = ones_at_end bits (number / 2) in
    elim (cases_eq (number % 2) 1) [
      | inl odd ↦
          let lowest_bit : (2 ^ suc bits - 1 - number) % 2 ≡ 0 = omega (arith, power_doubled, fits, odd) in
          let suc_is : suc ones ≡ 1 + ones = omega arith in
          ap₂ under lowest_bit rest_alike ∙ suc_is ∙ sym (cond-true (number % 2 == 1) (1 + ones) 0 (eq-eqb _ _ odd))
      | inr even ↦
          let lowest_bit : (2 ^ suc bits - 1 - number) % 2 ≡ 1 = omega (arith, power_doubled, fits, even) in
          ap₂ under lowest_bit rest_alike ∙ sym (cond-false (number % 2 == 1) (1 + ones) 0 (ne_eqb _ _ even))
    ]

-- the code counts as many trailing ones of a word as the definition
pub trailing_ones_is : (addr : ℕ) → addr < 2 ^ 32 → trailing_ones w32 addr ≡ ones_at_end 32 addr
trailing_ones_is addr fits = ones_by_complement 32 addr fits

-- a number of 32 bits has at most 32 trailing ones
pub ones_at_end_le : (addr : ℕ) → addr < 2 ^ 32 → ones_at_end 32 addr ≤ 32
ones_at_end_le addr fits = rw (← trailing_ones_is addr fits) (trailing_le 32 _)

-- `8 << k` loses no bit
pub eight_shifted : (exponent : ℕ) → exponent ≤ 32 → 8 * 2 ^ exponent % 2 ^ 64 ≡ 8 * 2 ^ exponent
eight_shifted exponent at_most_32 = shl_whole 8 4 exponent 64 (lit< tt) (omega arith)
