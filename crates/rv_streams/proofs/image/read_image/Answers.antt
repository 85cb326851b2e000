-- This file proves obligations of `read_image`, which reads the image: the lines before the first line whose only word is `--`, or all lines.
use Rattle.std.proofs.Common.{rules, ◌≡◌, ◌∙◌, false, Global, Ok, Err, sym, ap, subst, arith, inl, inr}
use Rattle.std.proofs.lemmas.Result.{IfOk-at_ok, IfErr-at_err}
use Rattle.rv_streams.specs.declared.fault.BenchFault.TheVariants.{Read, Hex}
use Rattle.rv_streams.specs.LineText.{TakesLine}
use Rattle.rv_streams.specs.ReadImage.{FindsFault, ReadsImage}
use Rattle.rv_streams.specs.Separator.{is_dashes, is_separator}
use Rattle.rv_streams.specs.Unread.{unread}
use Rattle.rv_streams.proofs.Ends.{EndsWithSource-more}
use Rattle.rv_streams.proofs.ImageLemmas.{TakesInImage, EncodesImage-going, EncodesImage-read, EncodesImage-more, EncodesImage-no_word}
use Rattle.rv_streams.proofs.ImageResults.{image_read, no_separator, other_word, refused}
use Rattle.rv_streams.proofs.Mapped.{ok_mapped, err_mapped, passed_on}
use Rattle.rv_streams.proofs.WordLengths.{length-line_word}
use Rattle.rv_streams.proofs.image.read_image.Given as given
use Rattle.rv_streams.proofs.image.read_image.Goals as goal
use Rattle.rv_streams.proofs.image.read_image.Goals.{After-as_slice}

-- if `next_line` returned a line that is no separator, this line is a line of the image after the lines so far
line_taken : (g : given.Over) (c : After-as_slice g) → is_separator c.as_slice.result.now ≡ false
    → g.S.Source.follows_input c.next_line.new.self.source → TakesInImage (unread c.args.lines.now) (unread c.loop-image.lines)
    (unread c.next_line.new.self) c.next_line.new.self.is_at_end c.loop-image.image.items c.as_slice.result.now
line_taken g c not_separator follows =
    let found = ok_mapped _ c.next_line.result c.map_err.result _ c.map_err.ensures.cases c.in_ok-line.was ∙ ap Ok c.in-Some.is in
    let encodes = c.loop-image.invariant.image (c.next_line.ensures.read.end.followed_before follows) in record {
      so_far = EncodesImage-going _ _ _ _ encodes (IfOk-at_ok _ found c.next_line.ensures.read.not_at_end);
      takes = subst (TakesLine _ _ _) (sym c.as_slice.ensures.value) (IfOk-at_ok _ found (c.next_line.ensures.read.line follows));
      not_separator = not_separator;
      within_limit = omega arith;
    }

-- if the source fails in a line, the result is `Read`, and the lines before it have no error (clause `outcome`)
pub returns-in_err-line-clause-outcome : goal.returns-in_err-line-clause-outcome
returns-in_err-line-clause-outcome g c =
    let fault_is : c.from_residual.result ≡ Err Read = search rules in
    let (read_fault, read_failed) = err_mapped _ c.next_line.result c.map_err.result _ c.map_err.ensures.cases c.in_err-line.was in
    let (not_at_end, new_not_at_end) = IfErr-at_err _ read_failed c.next_line.ensures.read.err in
    rw fault_is (record {
      source = search rules;
      not_at_end = new_not_at_end;
      reads = λ follows.
          let encodes = c.loop-image.invariant.image (c.next_line.ensures.read.end.followed_before follows) in
          EncodesImage-read _ _ _ _ _ (EncodesImage-going _ _ _ _ encodes not_at_end) (omega arith)
          (IfErr-at_err _ read_failed (c.next_line.ensures.read.kept follows));
    })

-- if a line has no valid word, the result is `Hex` (clause `outcome`)
pub returns-in_default-only_word-clause-outcome : goal.returns-in_default-only_word-clause-outcome
returns-in_default-only_word-clause-outcome g c =
    let taken =
    line_taken g (goal.at.returns-in_default-only_word-clause-outcome g c).After-as_slice (no_separator _ c.in_default-only_word.ensures) in
    let finds : FindsFault Hex c.args.lines.now c.next_line.new.self = record {
      source = search rules;
      emptied = search rules;
      image = λ follows. let (image_fails, stops_at_line) = EncodesImage-no_word (taken follows) c.in_default-only_word.ensures in image_fails;
      reads = λ follows. let (image_fails, stops_at_line) = EncodesImage-no_word (taken follows) c.in_default-only_word.ensures in stops_at_line;
    } in
    finds

-- the word that is passed to `add_bytes` is not longer than a line (clause `word` of its `requires`)
pub add_bytes-requires-clause-word : goal.add_bytes-requires-clause-word
add_bytes-requires-clause-word g c = length-line_word _ _ (sym c.in-Some-only_word.ensures)

-- an iteration of the loop over `image` preserves the invariant: the bytes of the line are appended to the image
pub loop-image-preserved : goal.loop-image-preserved
loop-image-preserved g c = record {
  within_limit = search rules;
  failures = search rules;
  end = EndsWithSource-more _ _ _ c.loop-image.invariant.end c.next_line.ensures.read.end;
  image = λ follows.
      let not_dashes = sym c.is_dashes.ensures ∙ c.if-is_dashes.false in
      EncodesImage-more
      (line_taken g (goal.at.loop-image-preserved g c).After-as_slice (other_word _ _ c.in-Some-only_word.ensures not_dashes) follows)
      c.in-Some-only_word.ensures c.in_ok-add_bytes.ensures.outcome;
}

-- if the bytes of a line cannot be appended, the result is the fault of `add_bytes` (clause `outcome`)
pub returns-in_err-add_bytes-clause-outcome : goal.returns-in_err-add_bytes-clause-outcome
returns-in_err-add_bytes-clause-outcome g c =
    let not_dashes = sym c.is_dashes.ensures ∙ c.if-is_dashes.false in
    passed_on (ReadsImage c.args.lines.now c.next_line.new.self) c.from_residual-in_err-add_bytes.result _
    c.from_residual-in_err-add_bytes.ensures.1
    (refused Global c.args.lines.now c.next_line.new.self (search rules) (search rules) _ _ _ _ _ _
    (line_taken g (goal.at.returns-in_err-add_bytes-clause-outcome g c).After-as_slice (other_word _ _ c.in-Some-only_word.ensures not_dashes))
    c.in-Some-only_word.ensures c.in_err-add_bytes.ensures.outcome)

-- at the separator, the result is the image, and the bytes after the separator are left (clause `outcome`)
pub returns-then-is_dashes-clause-outcome : goal.returns-then-is_dashes-clause-outcome
returns-then-is_dashes-clause-outcome g c =
    let found = ok_mapped _ c.next_line.result c.map_err.result _ c.map_err.ensures.cases c.in_ok-line.was ∙ ap Ok c.in-Some.is in
    image_read Global c.args.lines.now c.next_line.new.self (search rules) (search rules) c.loop-image.lines c.loop-image.image
    (inr (record {
      shown = c.in-Some.line.items;
      not_at_end = IfOk-at_ok _ found c.next_line.ensures.read.not_at_end;
      takes = λ follows. IfOk-at_ok _ found (c.next_line.ensures.read.line follows);
      ends = ap is_separator (sym c.as_slice.ensures.value) ∙ (ap is_dashes (sym c.in-Some-only_word.ensures)
          ∙ (sym c.is_dashes.ensures ∙ c.if-is_dashes.true));
    }))
    c.loop-image.invariant.within_limit (λ follows. c.loop-image.invariant.image (c.next_line.ensures.read.end.followed_before follows))

-- at the end of the input, the result is the image (clause `outcome`)
pub returns-clause-outcome : goal.returns-clause-outcome
returns-clause-outcome g c =
    let no_line = ok_mapped _ c.next_line.result c.map_err.result _ c.map_err.ensures.cases c.in_ok-line.was ∙ ap Ok c.in_default.is in
    image_read Global c.args.lines.now c.next_line.new.self (search rules) (search rules) c.loop-image.lines c.loop-image.image
    (inl (record {
      at_end = IfOk-at_ok _ no_line c.next_line.ensures.none;
      none = λ follows. let (none_before, none_after) = IfOk-at_ok _ no_line (c.next_line.ensures.nothing follows) in none_before;
      none_left = λ follows. let (none_before, none_after) = IfOk-at_ok _ no_line (c.next_line.ensures.nothing follows) in none_after;
    }))
    c.loop-image.invariant.within_limit (λ follows. c.loop-image.invariant.image (c.next_line.ensures.read.end.followed_before follows))
