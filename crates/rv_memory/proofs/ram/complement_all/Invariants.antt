-- This file states the loop invariant of `complement_all`, which complements each byte of a slice.
use Rattle.std.proofs.Common.{◌≡◌, ◌++◌, map, take, drop}
use Rattle.rv_memory.specs.Complement.{complement_of}
use Rattle.rv_memory.proofs.ram.complement_all.Given as goal

-- the bytes before the current index are complemented, and the bytes from it on are unchanged
abbrev pub invariant-loop-byte : goal.invariant-loop-byte
invariant-loop-byte l = l.bytes ≡ map complement_of (take l.byte-index l.fn.bytes) ++ drop l.byte-index l.fn.bytes
