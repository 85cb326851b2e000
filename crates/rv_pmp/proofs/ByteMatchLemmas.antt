-- This file proves lemmas about the matching entry of a byte.
use Rattle.std.proofs.Common.{◌≡◌, ℕ, zero, suc, ◌+◌, ◌<◌, ◌≤◌, ◌==◌, if◌then◌else◌, Bool, true, false, Option}
use Rattle.std.proofs.Common.{Some, None, refl, sym, ◌∙◌, ap, ap₂, inl, inr, arith}
use Rattle.std.specs.List.{range_with_len, find}
use Rattle.std.specs.Option.{option_eq}
use Rattle.std.proofs.lemmas.Bool.{both_ways, eqb-true}
use Rattle.rv_pmp.specs.declared.entry_ranges.EntryRanges.{EntryRanges}
use Rattle.rv_pmp.specs.Entries.{Entries}
use Rattle.rv_pmp.specs.Covers.{covers}
use Rattle.rv_pmp.specs.Cache.Segments.{byte_match, is_within, AreRanges}
use Rattle.rv_pmp.proofs.VerdictLemmas.{find_at, find_none, find_cases}

-- two tests that agree on each number of an interval find the same number
find_alike : (first second : ℕ → Bool) (start count : ℕ) → ((entry : ℕ) → start ≤ entry → entry < start + count → first entry ≡ second entry)
    → find first (range_with_len start count) ≡ find second (range_with_len start count)
find_alike first second start zero tests_agree = refl
find_alike first second start (suc count) tests_agree =
    ap₂ (λ test rest. if test then Some start else rest) (tests_agree start (omega arith) (omega arith))
    (find_alike first second (start + 1) count (λ entry from_start before_end. tests_agree entry (omega arith) (omega arith)))

-- two bytes have the same matching entry if each of the sixteen entries covers both or neither
pub byte_match_alike : (covering other_covering : ℕ → ℕ → Bool) (byte other : ℕ)
    → ((entry : ℕ) → entry < 16 → covering entry byte ≡ other_covering entry other)
    → byte_match covering byte ≡ byte_match other_covering other
unfolding byte_match
byte_match_alike covering other_covering byte other both_or_neither = find_alike (λ entry. covering entry byte)
    (λ entry. other_covering entry other) 0 16
    (λ entry from_zero below_16. both_or_neither entry below_16)

-- the matching entry of a byte is the lowest entry that covers it
pub byte_match_is : (covering : ℕ → ℕ → Bool) (byte entry : ℕ) → entry < 16 → covering entry byte ≡ true
    → ((lower : ℕ) → lower < entry → covering lower byte ≡ false)
    → byte_match covering byte ≡ Some entry
unfolding byte_match
byte_match_is covering byte entry in_range covers_byte none_lower = find_at (λ lower. covering lower byte) 0 16 entry (omega arith)
    (omega arith) covers_byte
    (λ lower from_zero lower_below. none_lower lower lower_below)

-- a byte has no matching entry if no entry covers it
pub byte_match_none : (covering : ℕ → ℕ → Bool) (byte : ℕ) → ((lower : ℕ) → lower < 16 → covering lower byte ≡ false)
    → byte_match covering byte ≡ None
unfolding byte_match
byte_match_none covering byte none_covers = find_none (λ lower. covering lower byte) 0 16 (λ lower from_zero below_16. none_covers lower below_16)

-- `entry` is the matching entry of a byte
pub record IsByteMatch (covering : ℕ → ℕ → Bool) (byte entry : ℕ) : Type 0 where
  -- there are sixteen entries
  pub in_range : entry < 16
  -- the entry covers the byte
  pub has : covering entry byte ≡ true
  -- no lower entry covers the byte
  pub least : (lower : ℕ) → lower < entry → covering lower byte ≡ false

-- the matching entry of a byte covers it, and no entry below it does
pub matched_by : (covering : ℕ → ℕ → Bool) (byte entry : ℕ) → byte_match covering byte ≡ Some entry → IsByteMatch covering byte entry
unfolding byte_match
matched_by covering byte entry byte_match_is = elim (find_cases (λ lower. covering lower byte) 0 16) [
  | inl (number, number_is_found, is_first) ↦
      let found_is_entry : number ≡ entry = cc in
      record {
        in_range = omega (arith, is_first.high);
        has = ap (λ lower. covering lower byte) (sym found_is_entry) ∙ is_first.passes;
        least = λ lower lower_below. is_first.first lower (omega arith) (omega arith);
      }
  | inr none_found ↦ cc
]

-- none of the sixteen entries covers a byte that has no matching entry
pub unmatched : (covering : ℕ → ℕ → Bool) (byte : ℕ) → byte_match covering byte ≡ None → (lower : ℕ) → lower < 16 → covering lower byte ≡ false
unfolding byte_match
unmatched covering byte byte_match_is lower below_16 = elim (find_cases (λ entry. covering entry byte) 0 16) [
  | inl found ↦ cc
  | inr (none_is_found, no_entry_covers) ↦ no_entry_covers lower (omega arith) (omega arith)
]

-- the matching entry of a byte is the same by the ranges of the entries and by the definition
pub byte_match_by_ranges : (entries : Entries) (ranges : EntryRanges) (byte : ℕ) → AreRanges entries ranges
    → byte_match (is_within ranges) byte ≡ byte_match (covers entries) byte
byte_match_by_ranges entries ranges byte are_ranges = byte_match_alike (is_within ranges) (covers entries) byte byte
    (λ entry in_range. sym (are_ranges entry byte in_range))

-- two options that the test of equality accepts are equal
pub option_same : (x y : Option ℕ) → option_eq (λ a b. a == b) x y ≡ true → x ≡ y
option_same None None test_holds = refl
option_same None (Some b) test_holds = absurd (both_ways false refl test_holds)
option_same (Some a) None test_holds = absurd (both_ways false refl test_holds)
option_same (Some a) (Some b) test_holds = ap Some (eqb-true a b test_holds)

-- two tests are equal if each implies the other
pub bool_same : (first second : Bool) → (first ≡ true → second ≡ true) → (second ≡ true → first ≡ true) → first ≡ second
bool_same true second forth back = sym (forth refl)
bool_same false true forth back = back refl
bool_same false false forth back = refl
