-- The significant bytes of a line have the same meaning as the line.
use Rattle.std.proofs.Common.{◌≡◌, ℕ, ◌<◌, leb, false, cond, List, length, take, refl, sym, ◌∙◌, ap, arith, inl, inr}
use Rattle.std.proofs.lemmas.Bool.{cases_lt}
use Rattle.std.proofs.lemmas.List.{take_all, length-take}
use Rattle.rv_text.specs.GoodLines.{max_line, significant_bytes, is_good_line}

-- a line of more than `max_line` bytes is not well-formed
long_is_bad : (line : List ℕ) → max_line < length line → is_good_line line ≡ false
long_is_bad line is_longer = let test_fails : leb (length line) max_line ≡ false = grind arith in rw test_fails refl

-- A function that is used only for well-formed lines has the same result for a line and for its significant bytes. A longer line and its significant
-- bytes are both not well-formed; of any other line all bytes are significant.
pub if_good-take : {A : Type 0} (f : List ℕ → A) (if_bad : A) (line : List ℕ)
    → cond (is_good_line (take significant_bytes line)) (f (take significant_bytes line)) if_bad ≡ cond (is_good_line line) (f line) if_bad
if_good-take f if_bad line = elim (cases_lt max_line (length line)) [
  | inl is_longer ↦
      let cut_is_longer : max_line < length (take significant_bytes line) = rw (length-take significant_bytes line) (omega arith) in
      ap (λ is_good. cond is_good (f (take significant_bytes line)) if_bad) (long_is_bad (take significant_bytes line) cut_is_longer)
      ∙ sym (ap (λ is_good. cond is_good (f line) if_bad) (long_is_bad line is_longer))
  | inr is_no_longer ↦ ap (λ text. cond (is_good_line text) (f text) if_bad) (take_all significant_bytes line (omega arith))
]
