-- This file proves obligations of `assemble`, which assembles a text, and returns its words.
use Rattle.std.proofs.lemmas.Result.{IfOk-weaker}
use Rattle.rv_asm.specs.Passes.{HasRead}
use Rattle.rv_asm.specs.Program.{readings}
use Rattle.rv_asm.proofs.DenotesLemmas.{denotes_assembled, assembled_denoted}
use Rattle.rv_asm.proofs.PassResults.{name_fails_if, twice_line, words_decide_if}
use Rattle.rv_asm.proofs.assembler.assemble.Goals as goal

-- if the first pass fails, each list of words that the text denotes is the one to which it assembles
pub returns-in_err-pass-clause-only : goal.returns-in_err-pass-clause-only
returns-in_err-pass-clause-only c = assembled_denoted c.args.text.now

-- the line of a repeated label is a line of the text
pub returns-in-Some-clause-line : goal.returns-in-Some-clause-line
returns-in-Some-clause-line c =
    let (read_all, no_own_fault) = c.in_ok-pass.ensures.ok in
    let has_read : HasRead c.in_ok-pass.pass (readings c.args.text.now) = read_all in
    twice_line c.args.text.now c.in_ok-pass.pass c.in-Some.line has_read c.in-Some.is

-- if the second pass returns words, the text assembles to these words
pub returns-clause-ok : goal.returns-clause-ok
returns-clause-ok c =
    let (has_read_all, no_own_fault) = c.in_ok-pass.ensures.ok in
    words_decide_if c.args.text.now c.in_ok-pass.pass c.words_of.result has_read_all no_own_fault c.in_default.is c.words_of.ensures.ok

-- if the second pass fails, the text has an error of a used label, or memory is exhausted
pub returns-clause-fault : goal.returns-clause-fault
returns-clause-fault c =
    let (has_read_all, no_own_fault) = c.in_ok-pass.ensures.ok in
    name_fails_if c.args.text.now c.in_ok-pass.pass c.words_of.result has_read_all no_own_fault c.in_default.is c.words_of.ensures.fault

-- the words that are returned are words that the text denotes
pub returns-clause-denotes : goal.returns-clause-denotes
returns-clause-denotes c = IfOk-weaker c.words_of.result _ _ (λ words. denotes_assembled c.args.text.now words.items) (returns-clause-ok c)

-- each list of words that the text denotes is the one to which it assembles
pub returns-clause-only : goal.returns-clause-only
returns-clause-only c = assembled_denoted c.args.text.now
