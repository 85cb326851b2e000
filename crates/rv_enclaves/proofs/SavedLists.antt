-- The same write to two lists of equal length keeps equal elements equal. Outside the list a write changes nothing, and a read returns the default.
use Rattle.std.proofs.Common.{◌≡◌, ℕ, ◌<◌, List, length, get_or, set, sym, ◌∙◌, inl, inr, arith, get_or-set_same, get_or-set_other, length-set}
use Rattle.std.proofs.lemmas.List.{get_or_past}
use Rattle.std.proofs.lemmas.Bool.{cases_lt, cases_eq}

-- after the same write to two lists of equal length, the lists have the same element at the index of the write
pub same_at_set : {X : Type 0} (list other_list : List X) (index : ℕ) (value default : X) → length list ≡ length other_list
    → get_or (set list index value) index default ≡ get_or (set other_list index value) index default
same_at_set list other_list index value default same_length = elim (cases_lt index (length list)) [
  | inl in_range ↦
      let in_other_range : index < length other_list = omega arith in
      get_or-set_same list index value default in_range ∙ sym (get_or-set_same other_list index value default in_other_range)
  | inr past_last ↦
      get_or_past (set list index value) index default (omega (arith, length-set list index value))
      ∙ sym (get_or_past (set other_list index value) index default (omega (arith, length-set other_list index value)))
]

-- after the same write to two lists of equal length, the lists still have the same element at each index at which they were equal
pub same_after_set : {X : Type 0} (list other_list : List X) (index other_index : ℕ) (value default : X) → length list ≡ length other_list
    → get_or list other_index default ≡ get_or other_list other_index default
    → get_or (set list index value) other_index default ≡ get_or (set other_list index value) other_index default
same_after_set list other_list index other_index value default same_length same_element = elim (cases_eq other_index index) [
  | inl is_index ↦ rw is_index (same_at_set list other_list index value default same_length)
  | inr is_other ↦
      get_or-set_other list index other_index value default is_other ∙ same_element
      ∙ sym (get_or-set_other other_list index other_index value default is_other)
]

-- two lists of equal length have equal length after the same write
pub length_after : {X : Type 0} (list other_list : List X) (index : ℕ) (value : X) → length list ≡ length other_list
    → length (set list index value) ≡ length (set other_list index value)
length_after list other_list index value same_length = length-set list index value ∙ same_length ∙ sym (length-set other_list index value)
