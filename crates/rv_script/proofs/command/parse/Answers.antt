-- This file proves obligations of `parse`, which parses a line without its ending.
use Rattle.std.proofs.Common.{◌≡◌, arith}
use Rattle.std.proofs.lemmas.Bool.Decides.{nat_tests}
use Rattle.rv_text.specs.Words.{words_of}
use Rattle.rv_script.specs.Command.{parse_of, meaning_of}
use Rattle.rv_script.proofs.Commands.{meaning_of-take}
use Rattle.rv_script.proofs.command.parse.Goals as goal

-- the result is the meaning of the words of the line, or `BadLine`; the meaning depends only on the first six words
pub returns : goal.returns
unfolding parse_of
returns c =
    let meaning_is : c.meaning.result ≡ meaning_of (words_of c.args.line.now) =
    rw (c.meaning.ensures, c.as_slice.ensures.value, c.first_words.ensures, meaning_of-take) in
    grind (arith, nat_tests)
