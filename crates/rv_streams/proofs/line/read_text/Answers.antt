-- This file proves obligations of `read_text`, which reads bytes after those that `line` holds, up to a line feed or the end of the source.
use Rattle.std.proofs.Common.{rules, ◌≡◌, ◌++◌, false, take, length, arith, ap}
use Rattle.std.proofs.lemmas.List.{length-take, length-append}
use Rattle.rv_text.specs.GoodLines.{kept_bytes}
use Rattle.rv_text.specs.Lines.{has_feed}
use Rattle.rv_streams.proofs.LineTextLemmas.{ReadsText-none, ReadsText-more, feed_next, has_feed-before_last, has_feed-kept, has_feed-push}
use Rattle.rv_streams.proofs.line.read_text.Goals as goal

-- the invariant of the loop over `count` holds before its first iteration: the bytes of the line are those that it holds
pub loop-count-init : goal.loop-count-init
loop-count-init g c = record {
  bytes = λ _. ReadsText-none _ _ c.requires.short c.requires.unfinished;
  same_input = search rules;
  followed_input = search rules;
  failures = search rules;
  ends = search rules;
  line_fits = search rules;
  no_feed = search rules;
  fewer_calls = search rules;
}

-- if the part that was read ends with a line feed, the text before the line feed was read after the bytes so far (clause `bytes`)
pub returns-then-last-eq-LINE_FEED-clause-bytes : goal.returns-then-last-eq-LINE_FEED-clause-bytes
returns-then-last-eq-LINE_FEED-clause-bytes g c = λ follows.
    let (ends_in_last, lengths) = c.in-Some.ensures.cases in
    let read = c.in_ok-count.ensures in
    rw c.keep.ensures (ReadsText-more _ _ _ _ _ (c.loop-count.invariant.bytes (read.before follows))
    (feed_next _ _ _ _ _ (read.bytes follows) ends_in_last c.if-last-eq-LINE_FEED.true)
    (has_feed-before_last _ _ _ _ read.room ends_in_last lengths read.line))

-- at a line feed, the line holds at most `kept_bytes` bytes (clause `short`)
pub returns-then-last-eq-LINE_FEED-clause-short : goal.returns-then-last-eq-LINE_FEED-clause-short
returns-then-last-eq-LINE_FEED-clause-short g c =
    omega (arith, ap length c.keep.ensures, length-take kept_bytes (c.loop-count.line.items ++ c.in-Some.text.now))

-- at a line feed, the line holds no line feed (clause `unfinished`)
pub returns-then-last-eq-LINE_FEED-clause-unfinished : goal.returns-then-last-eq-LINE_FEED-clause-unfinished
returns-then-last-eq-LINE_FEED-clause-unfinished g c =
    let (ends_in_last, lengths) = c.in-Some.ensures.cases in
    rw c.keep.ensures (has_feed-kept kept_bytes c.loop-count.line.items c.in-Some.text.now c.loop-count.invariant.no_feed
    (has_feed-before_last _ _ _ _ c.in_ok-count.ensures.room ends_in_last lengths c.in_ok-count.ensures.line))

-- at a line feed, the calls that are left and the bytes that the line holds are not more than before (clause `falls`)
pub returns-then-last-eq-LINE_FEED-clause-falls : goal.returns-then-last-eq-LINE_FEED-clause-falls
returns-then-last-eq-LINE_FEED-clause-falls g c =
    omega (
      arith,
      ap length c.keep.ensures,
      length-take kept_bytes (c.loop-count.line.items ++ c.in-Some.text.now),
      length-append c.loop-count.line.items c.in-Some.text.now,
      c.in-Some.ensures.cases.1,
      length-take c.in_ok-count.count c.read_in_line.new.buffer,
      c.loop-count.invariant.fewer_calls,
      c.in_ok-count.ensures.falls,
    )

-- at a line feed, the calls that are left and the bytes that the line holds are fewer, since the line feed is not held (clause `feed_falls`)
pub returns-then-last-eq-LINE_FEED-clause-feed_falls : goal.returns-then-last-eq-LINE_FEED-clause-feed_falls
returns-then-last-eq-LINE_FEED-clause-feed_falls g c = λ _.
    omega (
      arith,
      ap length c.keep.ensures,
      length-take kept_bytes (c.loop-count.line.items ++ c.in-Some.text.now),
      length-append c.loop-count.line.items c.in-Some.text.now,
      c.in-Some.ensures.cases.1,
      length-take c.in_ok-count.count c.read_in_line.new.buffer,
      c.loop-count.invariant.fewer_calls,
      c.in_ok-count.ensures.falls,
    )

-- an iteration that read a part without a line feed preserves the invariant of the loop
pub loop-count-preserved : goal.loop-count-preserved
loop-count-preserved g c =
    let (ends_in_last, lengths) = c.in-Some.ensures.cases in
    let read = c.in_ok-count.ensures in
    let part = take c.in_ok-count.count c.read_in_line.new.buffer in
    -- the part has no line feed before its last byte, and its last byte is no line feed
    let text_no_feed = has_feed-before_last _ _ _ _ read.room ends_in_last lengths read.line in
    let part_no_feed : has_feed part ≡ false =
    rw ends_in_last (has_feed-push c.in-Some.text.now c.in-Some.last.now text_no_feed c.if-last-eq-LINE_FEED.false) in record {
      -- the text so far and the part, without a line feed, are the text that was read
      bytes = λ follows. rw c.keep-in-loop-count.ensures
          (ReadsText-more _ _ _ _ _ (c.loop-count.invariant.bytes (read.before follows)) (read.bytes follows) part_no_feed);
      same_input = search rules;
      followed_input = search rules;
      failures = search rules;
      ends = search rules;
      line_fits = omega (arith, ap length c.keep-in-loop-count.ensures, length-take kept_bytes (c.loop-count.line.items ++ part));
      -- the kept bytes of the text and of the part have no line feed
      no_feed = rw c.keep-in-loop-count.ensures
          (has_feed-kept kept_bytes c.loop-count.line.items part c.loop-count.invariant.no_feed part_no_feed);
      fewer_calls = omega (
        arith,
        ap length c.keep-in-loop-count.ensures,
        length-take kept_bytes (c.loop-count.line.items ++ part),
        length-append c.loop-count.line.items part,
        length-take c.in_ok-count.count c.read_in_line.new.buffer,
        c.loop-count.invariant.fewer_calls,
        read.falls,
      );
    }
