-- This file states the loop invariants of `read_image`, which reads the image: the lines before the first line whose only word is `--`, or all
-- lines.
use Rattle.std.proofs.Common.{◌≡◌, ◌≤◌, vec_len}
use Rattle.rv_streams.specs.Unread.{unread, calls_left, EndsWithSource}
use Rattle.rv_streams.proofs.ImageLemmas.{image_limit, EncodesImage}
use Rattle.rv_streams.proofs.image.read_image.Given as goal

-- the lines so far encode the image, which is not too long, and no call has failed
abbrev pub invariant-loop-image : goal.invariant-loop-image
invariant-loop-image g l = record {
  within_limit : vec_len l.image ≤ image_limit;
  failures : g.S.Source.failures l.lines.source ≡ g.S.Source.failures l.initial.lines.source;
  end : EndsWithSource l.initial.lines l.lines;
  image : g.S.Source.follows_input l.lines.source → EncodesImage (unread l.initial.lines) (unread l.lines) l.lines.is_at_end l.image.items;
}

-- the loop ends, since the number of calls that the source can still answer decreases
abbrev pub decreases-loop-image : goal.decreases-loop-image
decreases-loop-image g l = calls_left l.lines
