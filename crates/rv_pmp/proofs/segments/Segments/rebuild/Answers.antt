-- This file proves obligations of `Segments::rebuild`, which builds the segments of the entries with these cfg bytes and pmpaddr values.
use Rattle.std.proofs.Common.{◌∙◌}
use Rattle.rv_pmp.specs.Covers.{covers}
use Rattle.rv_pmp.specs.Cache.Segments.{is_within, AreSegments}
use Rattle.rv_pmp.specs.Entries.{Entries}
use Rattle.rv_pmp.proofs.ByteMatchLemmas.{byte_match_alike}
use Rattle.rv_pmp.proofs.segments.Segments.rebuild.Goals as goal

-- the segments are those of the entries, because `divide` made them from the ranges of the entries
pub returns : goal.returns
unfolding AreSegments
returns c =
    let pmp : Entries = record { cfgs = c.args.cfgs.now; addrs = c.args.addrs.now } in
    let ranges = c.of-ranges.result in
    let made = c.divide.ensures in (
      made.order,
      made.whole,
      λ k byte k_used from_start before_end.
          byte_match_alike (covers pmp) (is_within ranges) byte byte (λ i in_range. c.of-ranges.ensures i byte in_range)
          ∙ made.matched k byte k_used from_start before_end,
    )
