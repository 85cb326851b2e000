-- The labels of a text, as a map from names to addresses. (This project's own assembler.)
use Rattle.std.specs.Prelude.{ℕ, List, Option}
use Rattle.std.specs.BTreeMap.{BTreeMap, get_by}
use Rattle.std.specs.Cmp.Lexicographic.{slice_cmp}
use Rattle.std.specs.Ordering.{nat_cmp}
use Rattle.arrayvec.specs.ArrayVec.{ArrayVec}

-- `places_of` is the address of a label in the map of the first pass
abbrev pub places_of : BTreeMap (ArrayVec ℕ) ℕ → List ℕ → Option ℕ
places_of labels name = get_by (λ label. slice_cmp nat_cmp name label.items) labels
