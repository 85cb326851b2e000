-- This file proves obligations of `EntryRanges::byte_match`, which returns the lowest entry whose range has a byte.
use Rattle.std.proofs.Common.{arith, sym, ◌∙◌}
use Rattle.rv_pmp.specs.Cache.Segments.{is_within}
use Rattle.rv_pmp.proofs.ByteMatchLemmas.{byte_match_is}
use Rattle.rv_pmp.proofs.entry_ranges.EntryRanges.byte_match.Goals as goal

-- the entry that is returned is the first whose range has the byte: no range before it has, by the invariant
pub returns-then-has : goal.returns-then-has
returns-then-has c =
    let i = c.new-index.result in
    sym (byte_match_is (is_within c.args.self.now) c.args.byte i (omega (arith, c.new-index.ensures, c.loop-number-test.true))
    (sym c.has.ensures ∙ c.if-has.true) (λ j j_before. c.loop-number.invariant j (omega (arith, j_before, c.new-index.ensures))))
