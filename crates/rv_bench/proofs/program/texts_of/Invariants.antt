-- This file states the loop invariants of `texts_of`, which returns the texts of strings.
use Rattle.std.proofs.Common.{◌≡◌, ◌++◌, drop, map, string_bytes}
use Rattle.clap.specs.Walk.{texts}
use Rattle.rv_bench.proofs.program.texts_of.Given as goal

-- the texts of all strings are the texts found so far, and those of the other strings
abbrev pub invariant-loop-word : goal.invariant-loop-word
invariant-loop-word l = texts l.found.items ++ map string_bytes (drop l.word-index l.words) ≡ map string_bytes l.words
