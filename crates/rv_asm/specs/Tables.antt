-- Lookup of a name in a table. (Not defined by a standard.)
use Rattle.std.specs.Prelude.{ℕ, List, find, Option}
use Rattle.std.specs.Option.{option_map}
use Rattle.std.specs.Str.{bytes_eq}

-- `looked_up` is the value in the row of this name, if there is one
abbrev pub looked_up : {A : Type 0} → List (List ℕ × A) → List ℕ → Option A
looked_up rows name = option_map (λ row. row.1) (find (λ row. bytes_eq name row.0) rows)
