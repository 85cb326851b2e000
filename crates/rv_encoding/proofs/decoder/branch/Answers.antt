-- This file proves obligations of `branch`, which decodes a word with the opcode BRANCH (1100011).
use Rattle.std.proofs.Common.{arith}
use Rattle.rv_encoding.proofs.ReadingLemmas.{only_branch}
use Rattle.rv_encoding.proofs.decoder.branch.Goals as goal

-- if `branch` returns None since no branch has the funct3 of the word, the word encodes no instruction
pub returns-in_err-kind-clause-only : goal.returns-in_err-kind-clause-only
returns-in_err-kind-clause-only c = λ instr encodes.
    let read_is = only_branch c.args.word instr c.requires encodes in grind arith

-- each instruction that the word encodes is the result of `branch`, since it is the one that `read_branch` reads from the word
pub returns-clause-only : goal.returns-clause-only
returns-clause-only c = λ instr encodes.
    let read_is = only_branch c.args.word instr c.requires encodes in grind arith
