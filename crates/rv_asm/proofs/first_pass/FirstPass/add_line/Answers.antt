-- This file proves obligations of `FirstPass::add_line`, which adds the next line.
use Rattle.std.proofs.Common.{◌≡◌, ◌∙◌, ◌+◌, ◌≤◌, sym, arith, inr, refl, true, false, is_some, Ok}
use Rattle.rv_word.specs.Cases.{option_case}
use Rattle.rv_asm.specs.LabelMap.{places_of}
use Rattle.rv_asm.specs.Passes.{AddsLabel}
use Rattle.rv_asm.specs.LineReading.{line_read}
use Rattle.rv_asm.specs.Program.{line_size}
use Rattle.rv_asm.proofs.LabelLemmas.{reads_more, own_fault-none, label_fault-none, max_words}
use Rattle.rv_asm.proofs.first_pass.FirstPass.add_line.Goals as goal

-- if the line was added, the pass has read one more line, and the line has no error of its own
pub returns-clause-ok : goal.returns-clause-ok
returns-clause-ok c = λ before has_read.
    let line = c.in-Ok.line in
    let line_is : line_read c.args.text.now ≡ Ok line = sym c.read_line.ensures ∙ c.in-Ok.is in
    let within_limit : c.args.self.now.words + line_size (Ok line) ≤ max_words =
    omega (arith, c.optional_size.ensures.value, c.if-words-gt-MAX_WORDS.false) in
    let label_added : AddsLabel c.args.self.now c.add_label.new.self line.label = grind (arith, c.add_label.ensures) in
    rw (line_is, c.optional_size.ensures.value) (
      reads_more c.args.self.now c.add_label.new.self before line has_read label_added within_limit,
      own_fault-none before line c.args.self.now.words
          has_read.words within_limit,
    )

-- if the label was not added because memory is exhausted, the line has a label, and neither an error of its own nor that of a repeated label
pub returns-then-is_err-clause-fault : goal.returns-then-is_err-clause-fault
returns-then-is_err-clause-fault c = λ before has_read.
    let line = c.in-Ok.line in
    let line_is : line_read c.args.text.now ≡ Ok line = sym c.read_line.ensures ∙ c.in-Ok.is in
    let within_limit : c.args.self.now.words + line_size (Ok line) ≤ max_words =
    omega (arith, c.optional_size.ensures.value, c.if-words-gt-MAX_WORDS.false) in
    let is_absent : option_case line.label false (λ name. is_some (places_of c.args.self.now.labels name)) ≡ false =
    grind (arith, c.add_label.ensures) in
    let labelled : is_some line.label ≡ true = grind (arith, c.add_label.ensures) in
    rw line_is (inr (record {
      memory = refl;
      labelled = labelled;
      own = own_fault-none before line c.args.self.now.words has_read.words within_limit;
      label = label_fault-none c.args.self.now before line has_read is_absent;
    }))
