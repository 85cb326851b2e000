-- The code finds the keyword of a word by a search in a table of texts and keywords. This is the keyword of the definition, which searches the list
-- of keywords.
use Rattle.std.proofs.Common.{◌≡◌, ◌∙◌, ℕ, Bool, true, false, cond, List, [], ◌∷◌, map, Option, Some, None, Bor, refl, sym, ap}
use Rattle.std.specs.List.{find}
use Rattle.std.specs.Option.{option_map}
use Rattle.std.specs.Str.{bytes_eq}
use Rattle.rv_script.specs.declared.keyword.Keyword.{Keyword}
use Rattle.rv_script.specs.declared.keyword.Keyword.TheVariants.{Step, Run, Break, Clear, Watch, Unwatch, Reg, Regs, SetReg, Csr, Mem, Poke, Dis, Pmp, Enclaves}
use Rattle.rv_script.specs.declared.keyword.Keyword.TheVariants.{Access, Timer, Hart, Sched}
use Rattle.rv_script.specs.Command.{spelling_of, keywords, keyword_of}

-- a function of the choice of `Some x` or another option is the choice of the function of each
mapped_if : {A B : Type 0} (convert : A → B) (test : Bool) (x : A) (other : Option A) (mapped_other : Option B)
    → option_map convert other ≡ mapped_other
    → option_map convert (cond test (Some x) other) ≡ cond test (Some (convert x)) mapped_other
mapped_if convert true x other mapped_other mapped_is = refl
mapped_if convert false x other mapped_other mapped_is = mapped_is

-- a search in a mapped list finds the function of what a search in the list finds, by induction over the list
found_in_map : {A B : Type 0} (convert : A → B) (test : B → Bool) (xs : List A)
    → option_map convert (find (λ x. test (convert x)) xs) ≡ find test (map convert xs)
found_in_map convert test [] = refl
found_in_map convert test (x ∷ xs) =
    mapped_if convert (test (convert x)) x (find (λ x. test (convert x)) xs) (find test (map convert xs)) (found_in_map convert test xs)

-- `row_of` is a borrowed row of the table, by value: a text and its keyword
abbrev row_of : Bor (List ℕ) × Keyword → List ℕ × Keyword
row_of row = (row.0.now, row.1)

-- the keyword of a borrowed row is the keyword of the row by value
keyword_of_borrowed_row : (found : Option (Bor (Bor (List ℕ) × Keyword)))
    → option_map (λ row. row.now.1) found
    ≡ option_map (λ (row : List ℕ × Keyword). row.1) (option_map row_of (option_map (λ row. row.now) found))
keyword_of_borrowed_row None = refl
keyword_of_borrowed_row (Some row) = refl

-- if the code finds the first row with the text of a word, its keyword is that of the first such row in the table by value
pub row-found : (word : List ℕ) (rows : List (Bor (List ℕ) × Keyword)) (found : Option (Bor (Bor (List ℕ) × Keyword)))
    → option_map (λ row. row.now) found ≡ find (λ row. bytes_eq word row.0.now) rows
    → option_map (λ row. row.now.1) found ≡ option_map (λ (row : List ℕ × Keyword). row.1) (find (λ row. bytes_eq word row.0) (map row_of rows))
row-found word rows found found_is =
    keyword_of_borrowed_row found ∙ ap (λ row. option_map (λ x. x.1) (option_map row_of row)) found_is
    ∙ ap (option_map (λ x. x.1)) (found_in_map row_of (λ row. bytes_eq word row.0) rows)

-- the keyword in the row of a keyword is this keyword
keyword_of_row : (found : Option Keyword)
    → option_map (λ (row : List ℕ × Keyword). row.1) (option_map (λ keyword. (spelling_of keyword, keyword)) found) ≡ found
keyword_of_row None = refl
keyword_of_row (Some keyword) = refl

-- the keyword of a word in the table of all keywords is the keyword of the definition
pub keyword_of-rows : (word : List ℕ)
    → option_map (λ (row : List ℕ
    × Keyword). row.1) (find (λ row. bytes_eq word row.0) (map (λ keyword. (spelling_of keyword, keyword)) keywords)) ≡ keyword_of word
unfolding keyword_of
keyword_of-rows word =
    ap (option_map (λ (row : List ℕ × Keyword). row.1))
    (sym (found_in_map (λ keyword. (spelling_of keyword, keyword)) (λ row. bytes_eq word row.0) keywords))
    ∙ keyword_of_row (find (λ keyword. bytes_eq word (spelling_of keyword)) keywords)

-- the keyword of the text of a keyword is this keyword
pub keyword_of-spelling_of : (keyword : Keyword) → Some keyword ≡ keyword_of (spelling_of keyword)
unfolding keyword_of
keyword_of-spelling_of Step = refl
keyword_of-spelling_of Run = refl
keyword_of-spelling_of Break = refl
keyword_of-spelling_of Clear = refl
keyword_of-spelling_of Watch = refl
keyword_of-spelling_of Unwatch = refl
keyword_of-spelling_of Reg = refl
keyword_of-spelling_of Regs = refl
keyword_of-spelling_of SetReg = refl
keyword_of-spelling_of Csr = refl
keyword_of-spelling_of Mem = refl
keyword_of-spelling_of Poke = refl
keyword_of-spelling_of Dis = refl
keyword_of-spelling_of Pmp = refl
keyword_of-spelling_of Enclaves = refl
keyword_of-spelling_of Access = refl
keyword_of-spelling_of Timer = refl
keyword_of-spelling_of Hart = refl
keyword_of-spelling_of Sched = refl

-- no two keywords have the same text, since the keyword of a text is unique
pub spelling_of-injective : (first second : Keyword) → spelling_of first ≡ spelling_of second → first ≡ second
spelling_of-injective first second same_text =
    let first_is = keyword_of-spelling_of first in
    let second_is = keyword_of-spelling_of second in
    let same_keyword = ap keyword_of same_text in
    cc
