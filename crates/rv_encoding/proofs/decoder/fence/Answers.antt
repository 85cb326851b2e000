-- This file proves obligations of `fence`, which decodes a word with the opcode MISC-MEM (0001111).
use Rattle.std.proofs.Common.{arith}
use Rattle.rv_encoding.proofs.ReadingLemmas.{only_fence}
use Rattle.rv_encoding.proofs.decoder.fence.Goals as goal

-- each instruction that the word encodes is the result of `fence`, since it is the one that `read_fence` reads from the word
pub returns-clause-only : goal.returns-clause-only
returns-clause-only c = λ instr encodes.
    let read_is = only_fence c.args.word instr c.requires encodes in grind arith
