-- This file proves obligations of `matched_range`, which returns the first byte that matches and the first one after the range, or `None` if no byte
-- matches.
use Rattle.std.proofs.Common.{◌*◌, ◌/◌, ◌^◌, ◌<◌, ℕ, ◌∙◌, arith}
use Rattle.std.proofs.lemmas.Nat.{pow_pos}
use Rattle.rv_pmp.specs.Covers.{ones_at_end}
use Rattle.rv_pmp.proofs.CoversLemmas.{same_quotient, trailing_ones_is, ones_at_end_le, eight_shifted}
use Rattle.rv_pmp.proofs.matched_range.matched_range.Goals as goal

-- the bytes with the quotient of `4 * addr` are one block
pub returns-in-Napot-clause-range : goal.returns-in-Napot-clause-range
returns-in-Napot-clause-range c =
    let addr = c.args.addr in
    let fits = c.ranges.addr.fits in
    let k = ones_at_end 32 addr in
    let size : ℕ = 8 * 2 ^ k in
    let positive : 0 < size = omega (arith, pow_pos k) in
    rw (c.in-Napot.is, c.trailing_ones.ensures ∙ trailing_ones_is addr fits, eight_shifted k (ones_at_end_le addr fits))
    (λ byte. same_quotient size (4 * addr / size) byte positive)
