-- This file proves obligations of `read_statement`, which reads a statement from a text without leading blanks.
use Rattle.std.proofs.Common.{◌∙◌, sym}
use Rattle.rv_asm.specs.Statements.{statement_at}
use Rattle.rv_asm.proofs.ManyOperands.{statement_of-take}
use Rattle.rv_asm.proofs.reading.read_statement.Goals as goal

-- the statement is read from the mnemonic before the first blank, and from the first four operands after it
pub returns : goal.returns
unfolding statement_at
returns c =
    let value =
    rw (c.as_slice.ensures.value, c.first_operands.ensures, statement_of-take, c.split_at.ensures.back, c.blank_position.ensures.value) at
    c.statement_of.ensures in
    let word = rw (c.split_at.ensures.front, c.blank_position.ensures.value) at (sym c.mnemonic_of.ensures ∙ c.in_ok-mnemonic.was) in
    rw word value
