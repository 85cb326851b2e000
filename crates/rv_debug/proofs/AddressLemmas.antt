-- Operations on sorted lists of addresses are the operations on sets of addresses: search, insertion, removal, the lowest address that passes a test,
-- and the gap around an address.
use Rattle.std.proofs.Common.{◌≡◌, ◌≢◌, ℕ, zero, suc, ◌+◌, ◌-◌, ◌<◌, ◌≤◌, ◌==◌, ltb, Bool, true, false, cond, ◌||◌, List, [], ◌∷◌, ◌++◌, length, take}
use Rattle.std.proofs.Common.{drop, filter, get_or, Option, Some, None, Result, Ok, Err, MatchResult, refl, sym, ◌∙◌, ap, arith, inl, inr, ap₂}
use Rattle.std.specs.Prelude.{min}
use Rattle.std.proofs.lemmas.List.Folds.{list_any_at}
use Rattle.std.proofs.lemmas.List.Sorted.{searched}
use Rattle.std.specs.List.Sorted.{IsBinarySearchResult}
use Rattle.std.specs.Ordering.{nat_cmp}
use Rattle.std.specs.Result.{is_ok}
use Rattle.rv_debug.proofs.Prelude.{HasPlace, IsSorted, IsSortedAbove, cases_lt, find, insert, is_among, is_between, is_in, lower, lowest, nat_tests}
use Rattle.rv_debug.proofs.Prelude.{remove, with_address, with_room_for, without_address}

-- a sorted list whose addresses are all above `high` is also a sorted list above each lower bound `low`
pub sorted_above-weaker : (low high : ℕ) (addresses : List ℕ) → low ≤ high → IsSortedAbove high addresses → IsSortedAbove low addresses
sorted_above-weaker low high [] low_at_most_high sorted_above = tt
sorted_above-weaker low high (first ∷ rest) low_at_most_high (high_below_first, rest_sorted) = (omega (arith, high_below_first), rest_sorted)

-- a list that is sorted above `low` is sorted
sorted_above-is : (low : ℕ) (addresses : List ℕ) → IsSortedAbove low addresses → IsSorted addresses
sorted_above-is low [] sorted_above = tt
sorted_above-is low (first ∷ rest) (first_above, rest_sorted) = rest_sorted

-- each address of a list that is sorted above `low` is above `low`
sorted_above-at : (low : ℕ) (addresses : List ℕ) (index : ℕ) → IsSortedAbove low addresses → index < length addresses → low < get_or addresses index 0
sorted_above-at low [] index sorted_above in_bounds = absurd (omega arith)
sorted_above-at low (first ∷ rest) zero (first_above, rest_sorted) in_bounds = first_above
sorted_above-at low (first ∷ rest) (suc index) (first_above, rest_sorted) in_bounds =
    let rest_above : first < get_or rest index 0 = sorted_above-at first rest index rest_sorted (omega arith) in
    omega (arith, first_above)

-- each address of a sorted list is above the addresses before it
pub sorted-at : (addresses : List ℕ) → IsSorted addresses → (earlier later : ℕ) → earlier < later → later < length addresses
    → get_or addresses earlier 0 < get_or addresses later 0
sorted-at [] sorted earlier later is_before in_bounds = absurd (omega arith)
sorted-at (first ∷ rest) sorted earlier zero is_before in_bounds = absurd (omega arith)
sorted-at (first ∷ rest) sorted zero (suc later) is_before in_bounds = sorted_above-at first rest later sorted (omega arith)
sorted-at (first ∷ rest) sorted (suc earlier) (suc later) is_before in_bounds =
    sorted-at rest (sorted_above-is first rest sorted) earlier later (omega arith) (omega arith)

-- each address of a sorted list is at or below the addresses after it, as a binary search needs
pub sorted-le : (addresses : List ℕ) → IsSorted addresses → (earlier later : ℕ) → earlier ≤ later → later < length addresses
    → get_or addresses earlier 0 ≤ get_or addresses later 0
sorted-le addresses sorted earlier later at_most in_bounds = elim (cases_lt earlier later) [
  | inl is_before ↦
      let is_above : get_or addresses earlier 0 < get_or addresses later 0 = sorted-at addresses sorted earlier later is_before in_bounds in
      omega arith
  | inr is_at_or_after ↦
      let same_index : earlier ≡ later = omega arith in
      let same_address : get_or addresses earlier 0 ≡ get_or addresses later 0 = ap (λ index. get_or addresses index 0) same_index in
      omega arith
]

-- a binary search of a sorted list returns the index of the address, or the index at which the address would be inserted
pub searched-place : (addresses : List ℕ) (address : ℕ) (result : Result ℕ ℕ) → IsSorted addresses
    → IsBinarySearchResult (λ element. nat_cmp element address) addresses result
    → MatchResult result (λ place. (place < length addresses) × (get_or addresses place 0 ≡ address)) (HasPlace addresses address)
searched-place addresses address result sorted search_result =
    place_from result (searched addresses address result search_result (sorted-le addresses sorted)) where
      -- if the search fails, it returns the index for insertion: lower addresses are before this index, and higher addresses are from this index on
      place_from : (result : Result ℕ ℕ) → MatchResult result (λ place. (place < length addresses) × (get_or addresses place 0 ≡ address))
          (λ place. (place ≤ length addresses) × ((index : ℕ) → index < place → get_or addresses index 0 < address)
          × ((index : ℕ) → place ≤ index → index < length addresses → address < get_or addresses index 0))
          → MatchResult result (λ place. (place < length addresses) × (get_or addresses place 0 ≡ address)) (HasPlace addresses address)
      place_from (Ok place) address_at_place = address_at_place
      place_from (Err place) (within, below, above) = record { within = within; below = below; above = above }

-- an address that has an index for insertion is not in the list
pub not_at_insertion : (address : ℕ) (addresses : List ℕ) (place : ℕ) → HasPlace addresses address place → (index : ℕ)
    → index < length addresses → get_or addresses index 0 ≢ address
not_at_insertion address addresses place insertion index in_bounds is_address = elim (cases_lt index place) [
  -- an address before the index for insertion is below the address
  | inl is_before ↦
      let is_below : get_or addresses index 0 < address = insertion.below index is_before in
      absurd (omega arith)
  -- an address from the index for insertion on is above the address
  | inr is_at_or_after ↦
      let is_above : address < get_or addresses index 0 = insertion.above index is_at_or_after in_bounds in
      absurd (omega arith)
]

-- ---- an address in the list

-- an address at an index of the list is in the list
pub among-found : (address : ℕ) (addresses : List ℕ) (index : ℕ) → index < length addresses → get_or addresses index 0 ≡ address
    → is_among address addresses ≡ true
among-found address addresses index in_bounds element_is = list_any_at (λ element. element == address) addresses index 0 in_bounds (grind arith)

-- an address that differs from each address of the list is not in the list
pub among-absent : (address : ℕ) (addresses : List ℕ) → ((index : ℕ) → index < length addresses → get_or addresses index 0 ≢ address)
    → is_among address addresses ≡ false
among-absent address [] differs = refl
among-absent address (first ∷ rest) differs =
    let is_other : (first == address) ≡ false = let first_differs = differs 0 (omega arith) in grind arith in
    rw is_other (among-absent address rest (λ index in_bounds. differs (suc index) (omega arith)))

-- the test of membership is false for an address that has an index for insertion
pub among-insertion : (address : ℕ) (addresses : List ℕ) (place : ℕ) → HasPlace addresses address place → is_among address addresses ≡ false
among-insertion address addresses place insertion = among-absent address addresses (not_at_insertion address addresses place insertion)

-- the search succeeds if and only if the address is in the list
pub found-is : (address : ℕ) (addresses : List ℕ) (result : Result ℕ ℕ)
    → MatchResult result (λ place. (place < length addresses) × (get_or addresses place 0 ≡ address)) (HasPlace addresses address)
    → is_ok result ≡ is_among address addresses
found-is address addresses (Ok place) (in_bounds, element_is) = sym (among-found address addresses place in_bounds element_is)
found-is address addresses (Err place) insertion = sym (among-insertion address addresses place insertion)

-- ---- the insertion of an address between the lower and the higher addresses

-- an address that would be inserted before the first address of a list would also be inserted before the rest of the list
insertion_before_rest : (address first : ℕ) (rest : List ℕ) → HasPlace (first ∷ rest) address zero → HasPlace rest address zero
insertion_before_rest address first rest insertion = record {
  within = omega arith;
  below = λ index is_before. absurd (omega (arith, is_before));
  above = λ index at_most in_bounds. insertion.above (suc index) (omega arith) (omega (arith, in_bounds));
}

-- an address that would be inserted after the first address has an index in the rest of the list that is less by one
insertion_in_rest : (address first : ℕ) (rest : List ℕ) (place : ℕ) → HasPlace (first ∷ rest) address (suc place) → HasPlace rest address place
insertion_in_rest address first rest place insertion = record {
  within = let within = insertion.within in omega (arith, within);
  below = λ index is_before. insertion.below (suc index) (omega (arith, is_before));
  above = λ index at_most in_bounds. insertion.above (suc index) (omega (arith, at_most)) (omega (arith, in_bounds));
}

-- no address has an index for insertion past the end of the empty list
no_insertion_past_end : (address place : ℕ) → HasPlace [] address (suc place) → ⊥
no_insertion_past_end address place insertion =
    let within = insertion.within in
    omega (arith, within)

-- if `place` is the index for insertion of the address, the lower addresses are the first `place` addresses, and the higher addresses are the others
filter_at_index : (address : ℕ) (addresses : List ℕ) (place : ℕ) → HasPlace addresses address place
    → (filter (λ element. ltb element address) addresses ≡ take place addresses)
    × (filter (λ element. ltb address element) addresses ≡ drop place addresses)
filter_at_index address [] zero insertion = (refl, refl)
filter_at_index address [] (suc place) insertion = absurd (no_insertion_past_end address place insertion)
filter_at_index address (first ∷ rest) zero insertion =
    let is_above : address < first = insertion.above 0 (omega arith) (omega arith) in
    let fails : ltb first address ≡ false = grind (arith, nat_tests) in
    let passes : ltb address first ≡ true = grind (arith, nat_tests) in
    let (lower_filtered, higher_filtered) = filter_at_index address rest zero (insertion_before_rest address first rest insertion) in
    (rw fails lower_filtered, rw passes (ap (λ tail. first ∷ tail) higher_filtered))
filter_at_index address (first ∷ rest) (suc place) insertion =
    let is_below : first < address = insertion.below 0 (omega arith) in
    let passes : ltb first address ≡ true = grind (arith, nat_tests) in
    let fails : ltb address first ≡ false = grind (arith, nat_tests) in
    let (lower_filtered, higher_filtered) = filter_at_index address rest place (insertion_in_rest address first rest place insertion) in
    (rw passes (ap (λ tail. first ∷ tail) lower_filtered), rw fails higher_filtered)

-- an insertion at the index that the search returns gives the set with the address
pub insert-is : (address : ℕ) (addresses : List ℕ) (place : ℕ) → HasPlace addresses address place
    → insert addresses place address ≡ with_address address addresses
insert-is address addresses place insertion =
    let (lower_filtered, higher_filtered) = filter_at_index address addresses place insertion in
    ap₂ (λ (lower_addresses higher_addresses : List ℕ). lower_addresses ++ address ∷ higher_addresses) (sym lower_filtered) (sym higher_filtered)

-- the insertion of an address above `low` into a list that is sorted above `low` leaves the list sorted above `low`
sorted_above-insert : (low address : ℕ) (addresses : List ℕ) (place : ℕ) → IsSortedAbove low addresses → low < address
    → HasPlace addresses address place → IsSortedAbove low (insert addresses place address)
sorted_above-insert low address [] zero sorted_above is_above insertion = (is_above, tt)
sorted_above-insert low address [] (suc place) sorted_above is_above insertion = absurd (no_insertion_past_end address place insertion)
sorted_above-insert low address (first ∷ rest) zero (first_above, rest_sorted) is_above insertion =
    (is_above, (insertion.above 0 (omega arith) (omega arith), rest_sorted))
sorted_above-insert low address (first ∷ rest) (suc place) (first_above, rest_sorted) is_above insertion = (
  first_above,
  sorted_above-insert first address rest place rest_sorted (insertion.below 0 (omega arith))
      (insertion_in_rest address first rest place insertion),
)

-- an insertion at the index that the search found leaves the list sorted
pub sorted-insert : (address : ℕ) (addresses : List ℕ) (place : ℕ) → IsSorted addresses → HasPlace addresses address place
    → IsSorted (insert addresses place address)
sorted-insert address [] zero sorted insertion = tt
sorted-insert address [] (suc place) sorted insertion = absurd (no_insertion_past_end address place insertion)
sorted-insert address (first ∷ rest) zero sorted insertion = (insertion.above 0 (omega arith) (omega arith), sorted)
sorted-insert address (first ∷ rest) (suc place) sorted insertion =
    sorted_above-insert first address rest place sorted (insertion.below 0 (omega arith)) (insertion_in_rest address first rest place insertion)

-- a set of 32 addresses, the maximum, has no room for a new address
pub full_has_no_room : (address : ℕ) (addresses : List ℕ) (place : ℕ) → HasPlace addresses address place → length addresses ≡ 32
    → None ≡ with_room_for address addresses
unfolding with_room_for
full_has_no_room address addresses place insertion is_full =
    let fails : ltb (length addresses) 32 ≡ false = grind (arith, nat_tests) in
    rw (among-insertion address addresses place insertion, fails) refl

-- a set of fewer than 32 addresses with a new address is the list after the insertion at the index that the search returns
pub insert_with_room : (address : ℕ) (addresses : List ℕ) (place : ℕ) → HasPlace addresses address place → length addresses < 32
    → Some (insert addresses place address) ≡ with_room_for address addresses
unfolding with_room_for
insert_with_room address addresses place insertion has_room =
    let passes : ltb (length addresses) 32 ≡ true = grind (arith, nat_tests) in
    rw (among-insertion address addresses place insertion, passes) (ap Some (insert-is address addresses place insertion))

-- ---- an address removed

-- the removal of an address that is not in the set leaves the set unchanged
without-absent : (address : ℕ) (addresses : List ℕ) → ((index : ℕ) → index < length addresses → get_or addresses index 0 ≢ address)
    → without_address address addresses ≡ addresses
without-absent address [] differs = refl
without-absent address (first ∷ rest) differs =
    let is_other : (first == address) ≡ false = let first_differs = differs 0 (omega arith) in grind arith in
    rw is_other (ap (λ tail. first ∷ tail) (without-absent address rest (λ index in_bounds. differs (suc index) (omega arith))))

-- the removal of the element at the index of an address gives the set without the address
pub remove-is : (address : ℕ) (addresses : List ℕ) (index : ℕ) → IsSorted addresses → index < length addresses
    → get_or addresses index 0 ≡ address → remove addresses index ≡ without_address address addresses
remove-is address [] index sorted in_bounds element_is = absurd (omega arith)
remove-is address (first ∷ rest) zero sorted in_bounds element_is =
    let is_address : (first == address) ≡ true = grind arith in
    let others = λ (later : ℕ) (in_bounds : later < length rest) (is_address : get_or rest later 0 ≡ address).
    let above_first : first < get_or rest later 0 = sorted_above-at first rest later sorted in_bounds in
    let first_is_address : first ≡ address = element_is in absurd (omega arith) in
    rw is_address (sym (without-absent address rest others))
remove-is address (first ∷ rest) (suc index) sorted in_bounds element_is =
    let is_above : first < get_or rest index 0 = sorted_above-at first rest index sorted (omega arith) in
    let found_after : get_or rest index 0 ≡ address = element_is in
    let is_other : (first == address) ≡ false = grind arith in
    rw is_other (ap (λ tail. first ∷ tail) (remove-is address rest index (sorted_above-is first rest sorted) (omega arith) found_after))

-- the removal of an address that has an index for insertion leaves the set unchanged
pub removal_of_absent : (address : ℕ) (addresses : List ℕ) (place : ℕ) → HasPlace addresses address place
    → addresses ≡ without_address address addresses
removal_of_absent address addresses place insertion = sym (without-absent address addresses (not_at_insertion address addresses place insertion))

-- a filter leaves a list that is sorted above `low` sorted above `low`
sorted_above-filter : (test : ℕ → Bool) (low : ℕ) (addresses : List ℕ) → IsSortedAbove low addresses → IsSortedAbove low (filter test addresses)
sorted_above-filter test low [] sorted_above = tt
sorted_above-filter test low (first ∷ rest) (first_above, rest_sorted) =
    with_first (test first) (sorted_above-filter test first rest rest_sorted) where
      -- the filtered list is sorted above `low`, where `passes` states whether the first address passes the test
      with_first : (passes : Bool) → IsSortedAbove first (filter test rest)
          → IsSortedAbove low (cond passes (first ∷ filter test rest) (filter test rest))
      with_first true filtered_sorted = (first_above, filtered_sorted)
      with_first false filtered_sorted = sorted_above-weaker low first (filter test rest) (omega (arith, first_above)) filtered_sorted

-- a filtered sorted list is sorted
pub sorted-filter : (test : ℕ → Bool) (addresses : List ℕ) → IsSorted addresses → IsSorted (filter test addresses)
sorted-filter test [] sorted = tt
sorted-filter test (first ∷ rest) sorted = with_first (test first) (sorted_above-filter test first rest sorted) where
  -- the filtered list is sorted, where `passes` states whether the first address passes the test
  with_first : (passes : Bool) → IsSortedAbove first (filter test rest) → IsSorted (cond passes (first ∷ filter test rest) (filter test rest))
  with_first true rest_sorted = rest_sorted
  with_first false rest_sorted = sorted_above-is first (filter test rest) rest_sorted

-- ---- the first address that satisfies a test

-- a search finds the address at an index, if this address passes the test and no earlier address does
find-first : (test : ℕ → Bool) (addresses : List ℕ) (index : ℕ)
    → ((position : ℕ) → position < index → test (get_or addresses position 0) ≡ false) → index < length addresses
    → test (get_or addresses index 0) ≡ true → find test addresses ≡ Some (get_or addresses index 0)
find-first test [] index none_before in_bounds passes = absurd (omega arith)
find-first test (first ∷ rest) zero none_before in_bounds passes = rw passes refl
find-first test (first ∷ rest) (suc index) none_before in_bounds passes =
    rw (none_before 0 (omega arith))
    (find-first test rest index (λ position is_before. none_before (suc position) (omega arith)) (omega arith) passes)

-- a search finds no address if no address passes the test
find-none : (test : ℕ → Bool) (addresses : List ℕ) → ((position : ℕ) → position < length addresses → test (get_or addresses position 0) ≡ false)
    → find test addresses ≡ None
find-none test [] none_passes = refl
find-none test (first ∷ rest) none_passes =
    rw (none_passes 0 (omega arith)) (find-none test rest (λ position in_bounds. none_passes (suc position) (omega arith)))

-- if a list is sorted above `low`, then the first address that passes the test is above `low`
find-above : (test : ℕ → Bool) (low : ℕ) (addresses : List ℕ) (found_address : ℕ) → IsSortedAbove low addresses
    → find test addresses ≡ Some found_address → low < found_address
find-above test low [] found_address sorted_above search_finds = cc
find-above test low (first ∷ rest) found_address (first_above, rest_sorted) search_finds =
    with_first (test first) search_finds (find-above test first rest found_address rest_sorted) where
      -- the found address is above `low`, where `passes` states whether the first address passes the test
      with_first : (passes : Bool) → cond passes (Some first) (find test rest) ≡ Some found_address
          → (find test rest ≡ Some found_address → first < found_address) → low < found_address
      with_first true found_is rest_above =
          let first_is_found : first ≡ found_address = cc in
          omega (arith, first_above)
      with_first false found_is rest_above =
          let found_above_first : first < found_address = rest_above found_is in
          omega (arith, first_above)

-- the lower of an address and of a higher found address is the address; `maybe_found` is None if no address was found
lower-before : (address : ℕ) (maybe_found : Option ℕ) → ((found_address : ℕ) → maybe_found ≡ Some found_address → address < found_address)
    → lower (Some address) maybe_found ≡ Some address
lower-before address None found_is_above = refl
lower-before address (Some found_address) found_is_above =
    let is_above : address < found_address = found_is_above found_address refl in
    let min_is : min address found_address ≡ address = omega arith in ap Some min_is

-- the lower of a higher found address and of an address is the address; `maybe_found` is None if no address was found
lower-after : (address : ℕ) (maybe_found : Option ℕ) → ((found_address : ℕ) → maybe_found ≡ Some found_address → address < found_address)
    → lower maybe_found (Some address) ≡ Some address
lower-after address None found_is_above = refl
lower-after address (Some found_address) found_is_above =
    let is_above : address < found_address = found_is_above found_address refl in
    let min_is : min found_address address ≡ address = omega arith in ap Some min_is

-- the first address that passes one of two tests is the lower of the first address that passes each test
pub find-either : (test other_test : ℕ → Bool) (addresses : List ℕ) → IsSorted addresses
    → lower (find test addresses) (find other_test addresses) ≡ find (λ address. test address || other_test address) addresses
find-either test other_test [] sorted = refl
find-either test other_test (first ∷ rest) sorted =
    with_first (test first) (other_test first) (find-either test other_test rest (sorted_above-is first rest sorted)) where
      -- the same law, where `passes` and `passes_other` are the results of the two tests for the first address
      with_first : (passes passes_other : Bool)
          → lower (find test rest) (find other_test rest) ≡ find (λ address. test address || other_test address) rest
          → lower (cond passes (Some first) (find test rest)) (cond passes_other (Some first) (find other_test rest))
          ≡ cond (passes || passes_other) (Some first) (find (λ address. test address || other_test address) rest)
      with_first true true rest_equal =
          let min_is : min first first ≡ first = omega arith in
          ap Some min_is
      with_first true false rest_equal =
          lower-before first (find other_test rest) (λ found_address. find-above other_test first rest found_address sorted)
      with_first false true rest_equal = lower-after first (find test rest) (λ found_address. find-above test first rest found_address sorted)
      with_first false false rest_equal = rest_equal

-- the first address of a sorted list that passes a test is the lowest address that passes the test
pub lowest-is : (test : ℕ → Bool) (addresses : List ℕ) → IsSorted addresses → find test addresses ≡ lowest (filter test addresses)
lowest-is test [] sorted = refl
lowest-is test (first ∷ rest) sorted = with_first (test first) (lowest-is test rest (sorted_above-is first rest sorted)) where
  -- the same law, where `passes` states whether the first address passes the test
  with_first : (passes : Bool) → find test rest ≡ lowest (filter test rest)
      → cond passes (Some first) (find test rest) ≡ lowest (cond passes (first ∷ filter test rest) (filter test rest))
  with_first true rest_equal =
      sym (ap (lower (Some first)) (sym rest_equal)
      ∙ lower-before first (find test rest) (λ found_address. find-above test first rest found_address sorted))
  with_first false rest_equal = rest_equal

-- the first member among the `count` addresses from an address on is the address itself, if it is in the list
pub find-address_itself : (address count : ℕ) (addresses : List ℕ) (index : ℕ) → IsSorted addresses → 0 < count → index < length addresses
    → get_or addresses index 0 ≡ address
    → Some address ≡ find (is_between address count) addresses
find-address_itself address count addresses index sorted not_empty in_bounds element_is =
    let passes : is_between address count (get_or addresses index 0) ≡ true = grind (arith, nat_tests) in
    let earlier_fail = λ (earlier : ℕ) (is_before : earlier < index). let is_below : get_or addresses earlier 0 < get_or addresses index 0 =
    sorted-at addresses sorted earlier index is_before in_bounds in
    let fails : is_between address count (get_or addresses earlier 0) ≡ false = grind (arith, nat_tests) in fails in
    ap Some (sym element_is) ∙ sym (find-first (is_between address count) addresses index earlier_fail in_bounds passes)

-- the member after an absent address is the first member among the `count` addresses from it on, if the member is less than `count` above
pub find-next_member : (address count : ℕ) (addresses : List ℕ) (place : ℕ) → HasPlace addresses address place → place < length addresses
    → get_or addresses place 0 < address + count
    → Some (get_or addresses place 0) ≡ find (is_between address count) addresses
find-next_member address count addresses place insertion in_bounds is_in_interval =
    let is_above : address < get_or addresses place 0 = insertion.above place (omega arith) in_bounds in
    let passes : is_between address count (get_or addresses place 0) ≡ true = grind (arith, nat_tests) in
    let earlier_fail = λ (index : ℕ) (is_before : index < place). let is_below : get_or addresses index 0 < address =
    insertion.below index is_before in
    let fails : is_between address count (get_or addresses index 0) ≡ false = grind (arith, nat_tests) in fails in
    sym (find-first (is_between address count) addresses place earlier_fail in_bounds passes)

-- if the member after an absent address is `count` or more above, no member is among the `count` addresses from the absent address on
pub find-nothing_between : (address count : ℕ) (addresses : List ℕ) (place : ℕ) → IsSorted addresses → HasPlace addresses address place
    → (place < length addresses → address + count ≤ get_or addresses place 0)
    → None ≡ find (is_between address count) addresses
find-nothing_between address count addresses place sorted insertion is_past_interval =
    sym (find-none (is_between address count) addresses not_in_interval) where
      -- no address of the list is one of the `count` addresses from `address` on
      not_in_interval : (index : ℕ) → index < length addresses → is_between address count (get_or addresses index 0) ≡ false
      not_in_interval index in_bounds = elim (cases_lt index place) [
        -- an address before the index for insertion is below the interval
        | inl is_before ↦
            let is_below : get_or addresses index 0 < address = insertion.below index is_before in
            grind (arith, nat_tests)
        -- an address from the index for insertion on is at or above `address + count`, the end of the interval
        | inr is_at_or_after ↦
            let interval_is_below : address + count ≤ get_or addresses place 0 = is_past_interval (omega arith) in
            let is_above : get_or addresses place 0 ≤ get_or addresses index 0 = sorted-le addresses sorted place index is_at_or_after in_bounds in
            grind (arith, nat_tests)
      ]

-- no address is in a missing span
pub find-no_span : (addresses : List ℕ) → None ≡ find (is_in None) addresses
find-no_span addresses = sym (find-none (is_in None) addresses (λ index in_bounds. refl))

-- ---- the gap around an index: no address of the list is between two neighbours

-- no address of the set is in an interval between two neighbours in the sorted list
pub gap-free : (addresses : List ℕ) (place start end address : ℕ) → IsSorted addresses → place ≤ length addresses
    → (0 < place → get_or addresses (place - 1) 0 < start)
    → (place < length addresses → end ≤ get_or addresses place 0) → start ≤ address → address < end → is_among address addresses ≡ false
gap-free addresses place start end address sorted within below above from_interval below_interval_end = among-absent address addresses differs where
  -- each address of the list differs from the address in the interval
  differs : (index : ℕ) → index < length addresses → get_or addresses index 0 ≢ address
  differs index in_bounds is_address = elim (cases_lt index place) [
    -- an address before `place` is below the interval
    | inl is_before ↦
        let ends_below_interval : get_or addresses (place - 1) 0 < start = below (omega arith) in
        let is_above : get_or addresses index 0 ≤ get_or addresses (place - 1) 0 =
        sorted-le addresses sorted index (place - 1) (omega arith) (omega arith) in
        absurd (omega arith)
    -- an address from `place` on is at or above the end of the interval
    | inr is_at_or_after ↦
        let interval_is_below : end ≤ get_or addresses place 0 = above (omega arith) in
        let is_above : get_or addresses place 0 ≤ get_or addresses index 0 = sorted-le addresses sorted place index is_at_or_after in_bounds in
        absurd (omega arith)
  ]
