-- This file proves obligations of `through_feed`, which returns the bytes through the first line feed, or all if there is none, but at most the
-- first `most` bytes.
use Rattle.std.proofs.Common.{arith}
use Rattle.rv_streams.proofs.BufferedLemmas.{feedless-whole, feedless-cut}
use Rattle.rv_streams.proofs.buffered.through_feed.Goals as goal

-- if the first bytes have a line feed, the result has no line feed before its last byte (clause `line`)
pub returns-then-end-head-clause-line : goal.returns-then-end-head-clause-line
returns-then-end-head-clause-line c = feedless-cut _ _ c.position_in_short-end.ensures.value c.if-end-head.true

-- if the prefix has no line feed, the result, which is the whole prefix, has none before its last byte (clause `line`)
pub returns-then-end-prefix-clause-line : goal.returns-then-end-prefix-clause-line
returns-then-end-prefix-clause-line c = feedless-whole _ _ c.position_of-end.ensures.value c.if-end-prefix.true

-- if the first line feed is behind the first bytes, the result has none before its last byte (clause `line`)
pub returns-clause-line : goal.returns-clause-line
returns-clause-line c =
    feedless-cut _ _ c.position_of-end.ensures.value (omega (arith, c.position_of-end.ensures.within, c.if-end-prefix.false))
