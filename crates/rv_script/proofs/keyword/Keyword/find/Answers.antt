-- This file proves obligations of `Keyword::find`, which returns the keyword with this text, if there is one.
use Rattle.std.proofs.Common.{◌∙◌}
use Rattle.rv_script.proofs.Keywords.{keyword_of-rows}
use Rattle.rv_script.proofs.keyword.Keyword.find.Goals as goal

-- the result is the keyword of the word, if it has one, since the table has a row for each keyword
pub returns : goal.returns
returns c = c.matching.ensures ∙ keyword_of-rows c.args.word.now
