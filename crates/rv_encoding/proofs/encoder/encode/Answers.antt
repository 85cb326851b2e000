-- This file proves obligations of `encode`, which encodes an instruction to its word.
use Rattle.std.proofs.Common.{◌+◌, rules}
use Rattle.rv_encoding.proofs.DecodingLemmas.{word_of_parts, encodes_only_one, decodes_to_encoded}
use Rattle.rv_encoding.proofs.encoder.encode.Goals as goal

-- the result of `encode` encodes no other instruction
pub returns-clause-only : goal.returns-clause-only
returns-clause-only c =
    let word_is = word_of_parts c.args.instr.now c.match_of.result c.fields_of.result c.match_of.ensures c.fields_of.ensures.value in
    λ other. encodes_only_one (c.match_of.result + c.fields_of.result) c.args.instr.now other (c.fields_of.ensures.in_range, word_is)

-- the result of `encode` decodes to the instruction, since a word decodes to the instruction that it encodes
pub returns-clause-round_trip : goal.returns-clause-round_trip
returns-clause-round_trip c =
    let word_is = word_of_parts c.args.instr.now c.match_of.result c.fields_of.result c.match_of.ensures c.fields_of.ensures.value in
    decodes_to_encoded (c.match_of.result + c.fields_of.result) c.args.instr.now (search rules) (c.fields_of.ensures.in_range, word_is)
