-- This file proves obligations of `Lines::next_line`, which returns the next line, or `None` if the source has returned its end and no line is left.
use Rattle.rv_streams.proofs.Ends.{EndsWithSource-ends}
use Rattle.std.proofs.Common.{rules, refl, ◌≡◌, ◌<◌, ◌∙◌, ap, arith, ℕ, Bool, false, ◌==◌, Ok}
use Rattle.rv_streams.proofs.LineTextLemmas.{TakesLine-feed, TakesLine-end}
use Rattle.rv_streams.proofs.lines.Lines.next_line.Goals as goal

-- a length is positive if the test of emptiness is false
length_positive : (count : ℕ) (is_empty : Bool) → is_empty ≡ (count == 0) → is_empty ≡ false → 0 < count
length_positive count is_empty is_empty_test not_empty = grind arith

-- the line that a line feed ends is returned, and its line feed is taken (clause `read`)
pub returns-in-LineFeed-clause-read : goal.returns-in-LineFeed-clause-read
returns-in-LineFeed-clause-read g c = record {
  line = λ follows.
      let reads = rw c.in-LineFeed.is at (c.in_ok-read_text.ensures.bytes follows) in
      let shown_is = c.take_prefix.ensures.taken ∙ (rw c.as_slice.ensures.value at c.shown_len-count.ensures) in
      rw c.take_prefix.ensures.rest (TakesLine-feed _ _ _ _ _ reads shown_is);
  not_at_end = search rules;
  end = search rules;
  failures = search rules;
  err = search rules;
  kept = search rules;
  emptied = search rules;
  falls = search rules;
}

-- at the end of the source, the bytes that are left are the last line (clause `read`)
pub returns-else-is_empty-clause-read : goal.returns-else-is_empty-clause-read
returns-else-is_empty-clause-read g c = record {
  line = λ follows.
      let end = c.in_ok-read_text.ensures.end follows (ap Ok c.in-End.is) in
      rw (c.take_prefix-in-End.ensures.rest, end) (
      TakesLine-end _ _ _ _ (rw c.in-End.is at (c.in_ok-read_text.ensures.bytes follows)) end
      (length_positive _ _ c.is_empty.ensures c.if-is_empty.false) c.take_prefix-in-End.ensures.taken
      );
  not_at_end = search rules;
  end = EndsWithSource-ends _ _ c.if-self.false refl (rw c.in-End.is at c.in_ok-read_text.ensures.ends) c.read_text.ensures.same
      c.read_text.ensures.before;
  failures = search rules;
  err = search rules;
  kept = search rules;
  emptied = search rules;
  falls = search rules;
}

-- at the end of the source, no line is returned if no byte is left (clause `read`)
pub returns-then-is_empty-clause-read : goal.returns-then-is_empty-clause-read
returns-then-is_empty-clause-read g c = record {
  line = search rules;
  not_at_end = search rules;
  end = EndsWithSource-ends _ _ c.if-self.false refl (rw c.in-End.is at c.in_ok-read_text.ensures.ends) c.read_text.ensures.same
      c.read_text.ensures.before;
  failures = search rules;
  err = search rules;
  kept = search rules;
  emptied = search rules;
  falls = search rules;
}
