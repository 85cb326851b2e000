-- This file proves obligations of `Segments::extend`, which extends the segments up to `end`.
use Rattle.std.proofs.Common.{arith, sym, ◌∙◌, ◌-◌, slice_index_or, None}
use Rattle.std.proofs.lemmas.List.{get_or_default}
use Rattle.rv_pmp.specs.Cache.Segments.{is_within, byte_match}
use Rattle.rv_pmp.proofs.ByteMatchLemmas.{option_same}
use Rattle.rv_pmp.proofs.SegmentLemmas.{last_grows, one_added}
use Rattle.rv_pmp.proofs.segments.Segments.extend.Goals as goal

-- the last segment grows if it has the same matching entry as the new bytes
pub returns-then-eq : goal.returns-then-eq
returns-then-eq c =
    let a = c.args in
    let r = c.requires in
    let covering = is_within a.ranges.now in
    let found = c.index-self-count.result in
    let last = a.self.now.count - 1 in
    let match_is = get_or_default a.self.now.byte_matches last None found (omega (arith, c.if-count-gt0.true)) in
    let is_same = option_same (slice_index_or a.self.now.byte_matches last found) c.byte_match-byte_match.result (sym c.eq.ensures ∙ c.if-eq.true) in
    let new =
    last_grows covering a.self.now a.start a.end (byte_match covering a.start) r.order r.matched r.start r.some r.alike
    c.if-count-gt0.true (omega arith) (match_is ∙ is_same ∙ c.byte_match-byte_match.ensures) in
    record { room = omega arith; reach = new.reach; order = new.order; matched = new.matched }

-- otherwise a segment is added for the new bytes
pub returns-else-count-gt0 : goal.returns-else-count-gt0
returns-else-count-gt0 c =
    let a = c.args in
    let r = c.requires in
    let new =
    one_added (is_within a.ranges.now) a.self.now a.start a.end c.byte_match-byte_match.result r.order r.matched r.start r.some
    (λ byte from_start before_end. r.alike byte from_start before_end ∙ sym c.byte_match-byte_match.ensures) r.room (omega arith) (omega arith) in
    record { room = omega arith; reach = new.reach; order = new.order; matched = new.matched }
