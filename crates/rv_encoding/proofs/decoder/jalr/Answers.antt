-- This file proves obligations of `jalr`, which decodes a word with the opcode JALR (1100111).
use Rattle.std.proofs.Common.{arith}
use Rattle.rv_encoding.proofs.ReadingLemmas.{only_jalr}
use Rattle.rv_encoding.proofs.decoder.jalr.Goals as goal

-- each instruction that the word encodes is the result of `jalr`, since it is the one that `read_jalr` reads from the word
pub returns-clause-only : goal.returns-clause-only
returns-clause-only c = λ instr encodes.
    let read_is = only_jalr c.args.word instr c.requires encodes in grind arith
