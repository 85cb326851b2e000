-- This file is about tests of the numbers in an interval, and about the verdict from the entries that match an access.
use Rattle.std.proofs.Common.{◌≡◌, ℕ, zero, suc, ◌+◌, ◌<◌, ◌≤◌, ◌⊎◌, Bool, true, false, ◌||◌, ◌&&◌, List, Some, None, refl, sym, ◌∙◌, ap, inl}
use Rattle.std.proofs.Common.{inr, arith}
use Rattle.std.specs.List.{range_with_len, list_any, list_all, find}
use Rattle.std.proofs.lemmas.Bool.{cases_eq, or_from, or_left, or_right, and_from, and_left, and_right, cases_Bool, cond-true}
use Rattle.std.proofs.lemmas.Bool.{cond-false, false_from_ne_true, true_from_ne_false, both_ways}
use Rattle.rv_pmp.specs.declared.mode.Mode.{Mode}
use Rattle.rv_pmp.specs.declared.access.Access.{Access}
use Rattle.rv_pmp.specs.Entries.{Entries}
use Rattle.rv_pmp.specs.Covers.{covers}
use Rattle.rv_pmp.specs.Verdicts.{matching_entry, verdict, verdict_by, match_verdict, no_match_verdict}

-- ---- tests of any and of all

-- `any` holds if some number of an interval satisfies the test (by induction over the interval, as are the lemmas below)
pub any_at : (test : ℕ → Bool) (start count number : ℕ) → start ≤ number → number < start + count → test number ≡ true
    → list_any test (range_with_len start count) ≡ true
any_at test start zero number from_start before_end passes = absurd (omega arith)
any_at test start (suc count) number from_start before_end passes = elim (cases_eq start number) [
  | inl is_start ↦ or_left (test start) _ (ap test is_start ∙ passes)
  | inr not_start ↦ or_right (test start) _ (any_at test (start + 1) count number (omega arith) (omega arith) passes)
]

-- `any` fails if no number of the interval satisfies the test
pub any_none : (test : ℕ → Bool) (start count : ℕ) → ((number : ℕ) → start ≤ number → number < start + count → test number ≡ false)
    → list_any test (range_with_len start count) ≡ false
any_none test start zero none_passes = refl
any_none test start (suc count) none_passes =
    or_from (test start) _ (none_passes start (omega arith) (omega arith))
    (any_none test (start + 1) count (λ number from_start before_end. none_passes number (omega arith) (omega arith)))

-- `all` holds if each number of the interval satisfies the test
pub all_each : (test : ℕ → Bool) (start count : ℕ) → ((number : ℕ) → start ≤ number → number < start + count → test number ≡ true)
    → list_all test (range_with_len start count) ≡ true
all_each test start zero each_passes = refl
all_each test start (suc count) each_passes =
    and_from (test start) _ (each_passes start (omega arith) (omega arith))
    (all_each test (start + 1) count (λ number from_start before_end. each_passes number (omega arith) (omega arith)))

-- `all` fails if some number of the interval does not satisfy the test
pub all_fails_at : (test : ℕ → Bool) (start count number : ℕ) → start ≤ number → number < start + count → test number ≡ false
    → list_all test (range_with_len start count) ≡ false
all_fails_at test start zero number from_start before_end fails = absurd (omega arith)
all_fails_at test start (suc count) number from_start before_end fails = elim (cases_eq start number) [
  | inl is_start ↦ and_left (test start) _ (ap test is_start ∙ fails)
  | inr not_start ↦ and_right (test start) _ (all_fails_at test (start + 1) count number (omega arith) (omega arith) fails)
]

-- if `all` holds, each number of the interval satisfies the test
pub each_from_all : (test : ℕ → Bool) (start count : ℕ) → list_all test (range_with_len start count) ≡ true → (number : ℕ) → start ≤ number
    → number < start + count → test number ≡ true
each_from_all test start count all_pass number from_start before_end =
    true_from_ne_false (test number) (λ fails. both_ways _ (all_fails_at test start count number from_start before_end fails) all_pass)

-- if `any` fails, no number of the interval satisfies the test
pub none_from_any : (test : ℕ → Bool) (start count : ℕ) → list_any test (range_with_len start count) ≡ false → (number : ℕ) → start ≤ number
    → number < start + count → test number ≡ false
none_from_any test start count any_fails number from_start before_end =
    false_from_ne_true (test number) (λ passes. both_ways _ any_fails (any_at test start count number from_start before_end passes))

-- an or whose first part fails is its second part
or_of_false : (x y : Bool) → x ≡ false → (x || y) ≡ y
or_of_false true y fails = absurd (both_ways true fails refl)
or_of_false false y fails = refl

-- an and whose first part holds is its second part
and_of_true : (x y : Bool) → x ≡ true → (x && y) ≡ y
and_of_true true y passes = refl
and_of_true false y passes = absurd (both_ways false refl passes)

-- if `any` holds, some number of the interval satisfies the test
pub some_from_any : (test : ℕ → Bool) (start count : ℕ) → list_any test (range_with_len start count) ≡ true
    → (number : ℕ) × (start ≤ number) × (number < start + count) × (test number ≡ true)
some_from_any test start zero passes = absurd (both_ways false refl passes)
some_from_any test start (suc count) passes = elim (cases_Bool (test start)) [
  | inl start_passes ↦ (start, omega arith, omega arith, start_passes)
  | inr start_fails ↦
      let (number, from_next, before_end, number_passes) = some_from_any test (start + 1) count
      (sym (or_of_false (test start) (list_any test (range_with_len (start + 1) count)) start_fails) ∙ passes) in
      (number, omega (arith, from_next), omega (arith, before_end), number_passes)
]

-- if `all` fails, some number of the interval does not satisfy the test
pub some_from_all : (test : ℕ → Bool) (start count : ℕ) → list_all test (range_with_len start count) ≡ false
    → (number : ℕ) × (start ≤ number) × (number < start + count) × (test number ≡ false)
some_from_all test start zero fails = absurd (both_ways true fails refl)
some_from_all test start (suc count) fails = elim (cases_Bool (test start)) [
  | inl start_passes ↦
      let (number, from_next, before_end, number_fails) = some_from_all test (start + 1) count
      (sym (and_of_true (test start) (list_all test (range_with_len (start + 1) count)) start_passes) ∙ fails) in
      (number, omega (arith, from_next), omega (arith, before_end), number_fails)
  | inr start_fails ↦ (start, omega arith, omega arith, start_fails)
]

-- ---- the first number that satisfies a test

-- the search finds the first number of the interval that satisfies the test
pub find_at : (test : ℕ → Bool) (start count number : ℕ) → start ≤ number → number < start + count → test number ≡ true
    → ((earlier : ℕ) → start ≤ earlier → earlier < number → test earlier ≡ false)
    → find test (range_with_len start count) ≡ Some number
find_at test start zero number from_start before_end passes none_before = absurd (omega arith)
find_at test start (suc count) number from_start before_end passes none_before = elim (cases_eq start number) [
  | inl is_start ↦ cond-true (test start) _ _ (ap test is_start ∙ passes) ∙ ap Some is_start
  | inr not_start ↦ cond-false (test start) _ _ (none_before start (omega arith) (omega arith))
      ∙ find_at test (start + 1) count number (omega arith) (omega arith) passes
      (λ earlier earlier_from_start earlier_before. none_before earlier (omega arith) (omega arith))
]

-- the search finds nothing if no number of the interval satisfies the test
pub find_none : (test : ℕ → Bool) (start count : ℕ) → ((number : ℕ) → start ≤ number → number < start + count → test number ≡ false)
    → find test (range_with_len start count) ≡ None
find_none test start zero none_passes = refl
find_none test start (suc count) none_passes =
    cond-false (test start) _ _ (none_passes start (omega arith) (omega arith))
    ∙ find_none test (start + 1) count (λ number from_start before_end. none_passes number (omega arith) (omega arith))

-- `number` is the first of the `count` numbers from `start` on that satisfies the test
pub record IsFirst (test : ℕ → Bool) (start count number : ℕ) : Type 0 where
  -- the number is not below the interval
  pub low : start ≤ number
  -- the number is below the end of the interval
  pub high : number < start + count
  -- the number satisfies the test
  pub passes : test number ≡ true
  -- no earlier number of the interval satisfies the test
  pub first : (earlier : ℕ) → start ≤ earlier → earlier < number → test earlier ≡ false

-- the search finds the first number that satisfies the test, or it finds nothing and no number satisfies it
pub find_cases : (test : ℕ → Bool) (start count : ℕ)
    → ((number : ℕ) × (find test (range_with_len start count) ≡ Some number) × IsFirst test start count number)
    ⊎ ((find test (range_with_len start count) ≡ None) × ((number : ℕ) → start ≤ number → number < start + count → test number ≡ false))
find_cases test start zero = inr (refl, λ number from_start before_end. absurd (omega arith))
-- the first number passes, or the others are searched
find_cases test start (suc count) = elim (cases_Bool (test start)) [
  | inl start_passes ↦ inl (
    start,
    cond-true (test start) _ _ start_passes,
    record {
      low = omega arith;
      high = omega arith;
      passes = start_passes;
      first = λ earlier earlier_from_start earlier_before. absurd
          (omega arith);
    },
  )
  | inr start_fails ↦ elim (find_cases test (start + 1) count) [
    | inl (number, find_in_rest, is_first) ↦ inl (
      number,
      cond-false (test start) _ _ start_fails ∙ find_in_rest,
      record {
        low = omega (arith, is_first.low);
        high = omega (arith, is_first.high);
        passes = is_first.passes;
        first = λ earlier earlier_from_start earlier_before. elim (cases_eq start earlier) [
          | inl is_start ↦ ap test (sym is_start) ∙ start_fails
          | inr not_start ↦ is_first.first earlier (omega arith) earlier_before
        ];
      },
    )
    | inr (none_found_in_rest, rest_fails) ↦ inr (
      cond-false (test start) _ _ start_fails ∙ none_found_in_rest,
      λ number from_start before_end. elim (cases_eq start number) [
        | inl is_start ↦ ap test (sym is_start) ∙ start_fails
        | inr not_start ↦ rest_fails number (omega arith) (omega arith)
      ],
    )
  ]
]

-- ---- the verdict

-- the verdict is that of the lowest entry that covers some byte of the access
pub verdict_of_match : (entries : Entries) (mode : Mode) (access : Access) (bytes : List ℕ) (entry : ℕ) → entry < 16
    → list_any (covers entries entry) bytes ≡ true
    → ((lower : ℕ) → lower < entry → list_any (covers entries lower) bytes ≡ false)
    → verdict entries mode access bytes ≡ match_verdict entries mode access entry (list_all (covers entries entry) bytes)
unfolding verdict matching_entry
verdict_of_match entries mode access bytes entry in_range covers_some none_lower =
    ap (verdict_by entries mode access bytes)
    (find_at (λ lower. list_any (covers entries lower) bytes) 0 16 entry (omega arith) (omega arith) covers_some
    (λ lower from_zero lower_below. none_lower lower lower_below))

-- the verdict is that of the mode if no entry covers a byte of the access
pub verdict_of_no_match : (entries : Entries) (mode : Mode) (access : Access) (bytes : List ℕ)
    → ((lower : ℕ) → lower < 16 → list_any (covers entries lower) bytes ≡ false) → verdict entries mode access bytes ≡ no_match_verdict mode
unfolding verdict matching_entry
verdict_of_no_match entries mode access bytes none_covers =
    ap (verdict_by entries mode access bytes)
    (find_none (λ lower. list_any (covers entries lower) bytes) 0 16 (λ lower from_zero below_16. none_covers lower below_16))
