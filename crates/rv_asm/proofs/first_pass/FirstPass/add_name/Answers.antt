-- This file proves obligations of `FirstPass::add_name`, which adds the label of the next line, unless it repeats one.
use Rattle.std.proofs.Common.{◌≡◌, ◌∙◌, sym, refl, ℕ, List, cond, Some, is_some, false}
use Rattle.std.specs.Str.{bytes_eq}
use Rattle.std.proofs.lemmas.Map.Text.{is_eq-slice_cmp}
use Rattle.rv_asm.specs.LabelMap.{places_of}
use Rattle.rv_asm.proofs.LabelLemmas.{adds_new}
use Rattle.rv_asm.proofs.first_pass.FirstPass.add_name.Goals as goal

-- if the name was added to the map, the pass has the label of the line: the map did not have the name before
pub returns-in-Ok-clause-ok : goal.returns-in-Ok-clause-ok
returns-in-Ok-clause-ok c =
    let pass = c.args.self.now in
    let is_absent : is_some (places_of pass.labels c.args.name) ≡ false =
    rw c.bytes.ensures at (sym c.contains_key.ensures ∙ c.if-contains_key.false) in
    let updated : (other : List ℕ)
    → places_of c.insert.new.self other ≡ cond (bytes_eq c.args.name other) (Some pass.words) (places_of pass.labels other) = λ other.
    rw (is_eq-slice_cmp c.into_bytes.result.items other, c.into_bytes.ensures) at (c.in-Ok.ensures.updates.0 (record { items = other })) in
    record {
      count = refl;
      words = refl;
      labels = λ other. updated other ∙ adds_new (places_of pass.labels) c.args.name other pass.words is_absent;
      repeated = rw is_absent refl;
    }

-- if the name was not added because memory is exhausted, the map did not have it
pub returns-in-Err-clause-err : goal.returns-in-Err-clause-err
returns-in-Err-clause-err c = rw c.bytes.ensures at (sym c.contains_key.ensures ∙ c.if-contains_key.false)
