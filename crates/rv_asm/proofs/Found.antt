-- A lookup among borrowed rows finds what a lookup in the table finds.
use Rattle.std.proofs.Common.{◌≡◌, ◌∙◌, ℕ, Bool, true, false, cond, List, [], ◌∷◌, map, Option, Some, None, Bor, refl, ap}
use Rattle.std.specs.Option.{option_map}
use Rattle.std.specs.List.{find}
use Rattle.std.specs.Str.{bytes_eq}
use Rattle.rv_asm.specs.Tables.{looked_up}

-- a function is mapped over a choice between two options by mapping it over each
mapped_if : {A B : Type 0} (convert : A → B) (is_first : Bool) (first : A) (later : Option A) (mapped_later : Option B)
    → option_map convert later ≡ mapped_later
    → option_map convert (cond is_first (Some first) later) ≡ cond is_first (Some (convert first)) mapped_later
mapped_if convert true first later mapped_later map_is = refl
mapped_if convert false first later mapped_later map_is = map_is

-- a search in a mapped list finds the function of the element that the search in the list finds
found_in_map : {A B : Type 0} (convert : A → B) (test : B → Bool) (items : List A)
    → option_map convert (find (λ item. test (convert item)) items) ≡ find test (map convert items)
found_in_map convert test [] = refl
found_in_map convert test (item ∷ items) =
    mapped_if convert (test (convert item)) item (find (λ item. test (convert item)) items) (find test (map convert items))
    (found_in_map convert test items)

-- `row_of` is a borrowed row, as the table has it
abbrev pub row_of : {A : Type 0} → Bor (List ℕ) × A → List ℕ × A
row_of row = (row.0.now, row.1)

-- the value of a row that was found is the second part of the row
value-of-found : {A : Type 0} (found : Option (Bor (Bor (List ℕ) × A)))
    → option_map (λ item. item.now.1) found ≡ option_map (λ (item : List ℕ × A). item.1) (option_map row_of (option_map (λ item. item.now) found))
value-of-found None = refl
value-of-found (Some item) = refl

-- if the search in a slice of rows finds what the definition finds, the value of the row is the one that the definition looks up
pub looked_up-found : {A : Type 0} (name : List ℕ) (rows : List (Bor (List ℕ) × A)) (found : Option (Bor (Bor (List ℕ) × A)))
    → option_map (λ item. item.now) found ≡ find (λ row. bytes_eq name row.0.now) rows
    → option_map (λ item. item.now.1) found ≡ looked_up (map row_of rows) name
looked_up-found name rows found map_is =
    value-of-found found ∙ ap (λ found_row. option_map (λ item. item.1) (option_map row_of found_row)) map_is ∙ ap (option_map (λ item. item.1))
    (found_in_map row_of (λ item. bytes_eq name item.0) rows)
