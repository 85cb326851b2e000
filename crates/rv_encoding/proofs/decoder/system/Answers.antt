-- This file proves obligations of `system`, which decodes a word with the opcode SYSTEM (1110011).
use Rattle.std.proofs.Common.{arith}
use Rattle.rv_encoding.proofs.ReadingLemmas.{only_system}
use Rattle.rv_encoding.proofs.decoder.system.Goals as goal

-- if `system` returns a CSR instruction with a register, each instruction that the word encodes is this one
pub returns-in-Some-clause-only : goal.returns-in-Some-clause-only
returns-in-Some-clause-only c = λ instr encodes.
    let read_is = only_system c.args.word instr c.requires encodes in grind arith

-- each instruction that the word encodes is the result of `system`, since it is the one that `read_system` reads from the word
pub returns-clause-only : goal.returns-clause-only
returns-clause-only c = λ instr encodes.
    let read_is = only_system c.args.word instr c.requires encodes in grind arith
