-- This file proves obligations of `has_feed`, which returns whether the bytes have a line feed.
use Rattle.std.proofs.Common.{sym}
use Rattle.rv_streams.proofs.BufferedLemmas.{feed_found, feed_in_part, feed_within}
use Rattle.rv_streams.proofs.buffered.has_feed.Goals as goal

-- if the first bytes have a line feed, the result is true
pub returns-then-position_in_short-head : goal.returns-then-position_in_short-head
returns-then-position_in_short-head c =
    sym (feed_in_part c.min.result c.args.bytes.now (feed_within _ _ c.position_in_short.ensures.value c.if-position_in_short-head.true))

-- otherwise the result states whether the position of the first line feed is in the bytes
pub returns : goal.returns
returns c = feed_found _ _ c.position_of.ensures.value
