-- The lines of a list before the first line that fails a test (`take_while`), for lists that are appended.
use Rattle.std.proofs.Common.{◌≡◌, ℕ, Bool, true, false, cond, ◌&&◌, List, [], ◌∷◌, ◌++◌, refl, sym, ◌∙◌, ap, append-nil}
use Rattle.std.proofs.lemmas.List.Folds.{list_all-append}
use Rattle.std.proofs.lemmas.List.Sums.{take_while-cons}
use Rattle.std.specs.List.{list_all, take_while}

-- if all `lines` pass the test, the passing lines of both lists are `lines` and the passing lines of `later_lines`
take_while-append : (passes : List ℕ → Bool) (lines later_lines : List (List ℕ)) → list_all passes lines ≡ true
    → take_while passes (lines ++ later_lines) ≡ lines ++ take_while passes later_lines
take_while-append passes [] later_lines all_pass = refl
take_while-append passes (line ∷ lines) later_lines all_pass =
    take_while-cons passes line (lines ++ later_lines)
    ∙ by_first (passes line) all_pass (λ others_pass. take_while-append passes lines later_lines others_pass) where
      -- the same claim by cases on the test of the first line, with the claim for the other lines as a premise
      by_first : (line_passes : Bool) → line_passes && list_all passes lines ≡ true
          → (list_all passes lines ≡ true → take_while passes (lines ++ later_lines) ≡ lines ++ take_while passes later_lines)
          → cond line_passes (line ∷ take_while passes (lines ++ later_lines)) [] ≡ line ∷ (lines ++ take_while passes later_lines)
      by_first true others_pass hypothesis = ap (λ others. line ∷ others) (hypothesis others_pass)
      by_first false all_pass hypothesis = cc

-- an element that passes the test is taken
take_while-cons_yes : (passes : List ℕ → Bool) (line : List ℕ) (lines : List (List ℕ)) → passes line ≡ true
    → take_while passes (line ∷ lines) ≡ line ∷ take_while passes lines
take_while-cons_yes passes line lines line_passes =
    take_while-cons passes line lines ∙ ap (λ test. cond test (line ∷ take_while passes lines) []) line_passes

-- an element that fails the test ends the list
take_while-cons_no : (passes : List ℕ → Bool) (line : List ℕ) (lines : List (List ℕ)) → passes line ≡ false → take_while passes (line ∷ lines) ≡ []
take_while-cons_no passes line lines line_fails =
    take_while-cons passes line lines ∙ ap (λ test. cond test (line ∷ take_while passes lines) []) line_fails

-- if all elements pass the test, all are taken
pub take_while-all : (passes : List ℕ → Bool) (lines : List (List ℕ)) → list_all passes lines ≡ true → take_while passes lines ≡ lines
take_while-all passes lines all_pass =
    ap (take_while passes) (sym (append-nil lines)) ∙ (take_while-append passes lines [] all_pass ∙ append-nil lines)

-- the elements before the first that fails the test are taken
pub take_while-stop : (passes : List ℕ → Bool) (lines : List (List ℕ)) (line : List ℕ) (later_lines : List (List ℕ))
    → list_all passes lines ≡ true → passes line ≡ false
    → take_while passes (lines ++ line ∷ later_lines) ≡ lines
take_while-stop passes lines line later_lines all_pass line_fails =
    take_while-append passes lines (line ∷ later_lines) all_pass
    ∙ (ap (λ taken. lines ++ taken) (take_while-cons_no passes line later_lines line_fails) ∙ append-nil lines)

-- after elements that pass the test, one more that passes is taken, and then the passing elements of the rest
pub take_while-pass : (passes : List ℕ → Bool) (lines : List (List ℕ)) (line : List ℕ) (later_lines : List (List ℕ))
    → list_all passes lines ≡ true → passes line ≡ true
    → take_while passes (lines ++ line ∷ later_lines) ≡ lines ++ line ∷ take_while passes later_lines
take_while-pass passes lines line later_lines all_pass line_passes =
    take_while-append passes lines (line ∷ later_lines) all_pass
    ∙ ap (λ taken. lines ++ taken) (take_while-cons_yes passes line later_lines line_passes)

-- if all elements of a list pass the test, and one more element passes it, all pass it
pub list_all-push : (passes : List ℕ → Bool) (lines : List (List ℕ)) (line : List ℕ) → list_all passes lines ≡ true → passes line ≡ true
    → list_all passes (lines ++ line ∷ []) ≡ true
list_all-push passes lines line all_pass line_passes = list_all-append passes lines (line ∷ []) ∙ (rw (all_pass, line_passes) refl)

-- not all elements pass the test, if one in the middle fails it
pub list_all-stop : (passes : List ℕ → Bool) (lines : List (List ℕ)) (line : List ℕ) (later_lines : List (List ℕ)) → list_all passes lines ≡ true
    → passes line ≡ false
    → list_all passes (lines ++ line ∷ later_lines) ≡ false
list_all-stop passes lines line later_lines all_pass line_fails = list_all-append passes lines (line ∷ later_lines) ∙ (rw (all_pass, line_fails) refl)

-- the passing lines of a prefix are a prefix of the passing lines of all
pub take_while-prefix : (passes : List ℕ → Bool) (lines later_lines : List (List ℕ))
    → (others : List (List ℕ)) × (take_while passes (lines ++ later_lines) ≡ take_while passes lines ++ others)
take_while-prefix passes [] later_lines = (take_while passes later_lines, refl)
take_while-prefix passes (line ∷ lines) later_lines =
    let (others, taken_is) = take_while-prefix passes lines later_lines in
    let (rest, cond_is) = by_first (passes line) others taken_is in (
      rest,
      take_while-cons passes line (lines ++ later_lines)
          ∙ (cond_is ∙ ap (λ taken. taken ++ rest) (sym (take_while-cons passes line lines))),
    ) where
      -- the same claim by cases on the test of the first line, with the claim for the other lines as a premise
      by_first : (line_passes : Bool) (others : List (List ℕ)) → take_while passes (lines ++ later_lines) ≡ take_while passes lines ++ others
          → (rest : List (List ℕ))
          × (cond line_passes (line ∷ take_while passes (lines ++ later_lines)) [] ≡ cond line_passes (line ∷ take_while passes lines) [] ++ rest)
      by_first true others hypothesis = (others, ap (λ others. line ∷ others) hypothesis)
      by_first false others hypothesis = ([], refl)
