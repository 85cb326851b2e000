-- This file proves obligations of `op`, which decodes a word with the opcode OP (0110011).
use Rattle.std.proofs.Common.{arith}
use Rattle.rv_encoding.proofs.ReadingLemmas.{only_op}
use Rattle.rv_encoding.proofs.decoder.op.Goals as goal

-- if `op` returns None since no operation has the funct3 and funct7 of the word, the word encodes no instruction
pub returns-in_err-kind-clause-only : goal.returns-in_err-kind-clause-only
returns-in_err-kind-clause-only c = λ instr encodes.
    let read_is = only_op c.args.word instr c.requires encodes in grind arith

-- each instruction that the word encodes is the result of `op`, since it is the one that `read_op` reads from the word
pub returns-clause-only : goal.returns-clause-only
returns-clause-only c = λ instr encodes.
    let read_is = only_op c.args.word instr c.requires encodes in grind arith
