-- This file states the loop invariants of `words_of`, which returns the words of all lines of a text.
use Rattle.std.proofs.Common.{◌+◌, ◌≤◌, length}
use Rattle.rv_asm.specs.LabelMap.{places_of}
use Rattle.rv_asm.proofs.WordLemmas.{HasWrittenUpTo}
use Rattle.rv_asm.proofs.second_pass.words_of.Given as goal

-- the words are those of the lines before the rest of the text
abbrev pub invariant-loop-line : goal.invariant-loop-line
invariant-loop-line l = record {
  written : HasWrittenUpTo (places_of l.labels) l.words.items l.lines l.text l.rest;
  count : l.lines + length l.rest ≤ length l.text;
}

-- the rest of the text gets shorter
abbrev pub decreases-loop-line : goal.decreases-loop-line
decreases-loop-line l = length l.rest
