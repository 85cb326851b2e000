-- This file proves obligations of `store`, which decodes a word with the opcode STORE (0100011).
use Rattle.std.proofs.Common.{arith}
use Rattle.rv_encoding.proofs.ReadingLemmas.{only_store}
use Rattle.rv_encoding.proofs.decoder.store.Goals as goal

-- if `store` returns None since no store has the funct3 of the word, the word encodes no instruction
pub returns-in_err-kind-clause-only : goal.returns-in_err-kind-clause-only
returns-in_err-kind-clause-only c = λ instr encodes.
    let read_is = only_store c.args.word instr c.requires encodes in grind arith

-- each instruction that the word encodes is the result of `store`, since it is the one that `read_store` reads from the word
pub returns-clause-only : goal.returns-clause-only
returns-clause-only c = λ instr encodes.
    let read_is = only_store c.args.word instr c.requires encodes in grind arith
