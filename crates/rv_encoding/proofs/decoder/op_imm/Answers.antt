-- This file proves obligations of `op_imm`, which decodes a word with the opcode OP-IMM (0010011): a shift or another operation.
use Rattle.std.proofs.Common.{arith}
use Rattle.rv_encoding.proofs.ReadingLemmas.{only_op_imm}
use Rattle.rv_encoding.proofs.decoder.op_imm.Goals as goal

-- if `op_imm` returns None since no shift and no other operation has the codes of the word, the word encodes no instruction
pub returns-in_err-kind-clause-only : goal.returns-in_err-kind-clause-only
returns-in_err-kind-clause-only c = λ instr encodes.
    let read_is = only_op_imm c.args.word instr c.requires encodes in grind arith

-- each instruction that the word encodes is the result of `op_imm`, since it is the one that `read_op_imm` reads from the word
pub returns-clause-only : goal.returns-clause-only
returns-clause-only c = λ instr encodes.
    let read_is = only_op_imm c.args.word instr c.requires encodes in grind arith
