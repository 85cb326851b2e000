-- This file proves obligations of `matched_number`, which returns the number that an option has, if it is given.
use Rattle.std.specs.Str.Parse.{ExplainsUnsignedError, HasUnsignedDigitsIfOk, ParsesUnsigned}
use Rattle.clap.specs.Words.{found_of}
use Rattle.rv_command_line.proofs.Numbers.{getter_value, reads_number}
use Rattle.rv_command_line.specs.Job.{number_in_text}
use Rattle.rv_command_line.proofs.reading.matched_number.Goals as goal

-- the result is the number in the text of the option, if the option is given
pub returns : goal.returns
returns c = getter_value (number_in_text 32) (found_of c.args.matches.now) c.args.id.now c.get_one.result c.get_one.ensures.none (λ text text_is.
    reads_number 32 text (λ u x. ParsesUnsigned 32 10 u x × ExplainsUnsignedError 10 u x × HasUnsignedDigitsIfOk u x) c.get_one.result
    (c.get_one.ensures.value text text_is) (λ result parses. parses.0))
