-- This file proves obligations of `matched_kind`, which returns the image format in the options, if it is given.
use Rattle.std.proofs.Common.{codes, rules, sym}
use Rattle.clap.proofs.WalkLemmas.{first_value-rows}
use Rattle.clap.specs.Words.{found_of}
use Rattle.rv_command_line.proofs.reading.matched_kind.Goals as goal

-- if the option `--kind` is not given, the result is `None`
pub returns-in_err-get_str : goal.returns-in_err-get_str
returns-in_err-get_str c = rw (sym (first_value-rows (found_of c.args.matches.now) (codes "kind"))) (search rules)

-- otherwise the result is the image format that the first value names
pub returns : goal.returns
returns c = rw (sym (first_value-rows (found_of c.args.matches.now) (codes "kind"))) (search rules)
