-- This file proves obligations of `load`, which decodes a word with the opcode LOAD (0000011).
use Rattle.std.proofs.Common.{arith}
use Rattle.rv_encoding.proofs.ReadingLemmas.{only_load}
use Rattle.rv_encoding.proofs.decoder.load.Goals as goal

-- if `load` returns None since no load has the funct3 of the word, the word encodes no instruction
pub returns-in_err-kind-clause-only : goal.returns-in_err-kind-clause-only
returns-in_err-kind-clause-only c = λ instr encodes.
    let read_is = only_load c.args.word instr c.requires encodes in grind arith

-- each instruction that the word encodes is the result of `load`, since it is the one that `read_load` reads from the word
pub returns-clause-only : goal.returns-clause-only
returns-clause-only c = λ instr encodes.
    let read_is = only_load c.args.word instr c.requires encodes in grind arith
