-- This file proves obligations of `keep`, which appends a text to a line, as far as there is room.
use Rattle.std.proofs.Common.{rules, ◌≡◌, ◌++◌, ◌∙◌, take, arith}
use Rattle.rv_text.specs.GoodLines.{kept_bytes}
use Rattle.rv_streams.proofs.LineTextLemmas.{take-room}
use Rattle.rv_streams.proofs.line.keep.Goals as goal

-- the line has the first `kept_bytes` bytes of the old line and the text
pub returns : goal.returns
returns c =
    let appended : c.try_extend_from_slice.new.self.items ≡ c.args.line.now.items ++ take c.min-count.result c.args.text.now = search rules in
    appended ∙ take-room kept_bytes _ _ _ c.requires (omega (arith, c.min-count.ensures, c.remaining_capacity.ensures))
