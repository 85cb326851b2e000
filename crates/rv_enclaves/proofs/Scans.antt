-- Tests of a range of numbers that are equal for each number, and the PMP verdict by the matching entry. (The file VerdictLemmas of rv_pmp does not
-- have these lemmas.)
use Rattle.std.proofs.Common.{◌≡◌, ℕ, zero, suc, ◌+◌, ◌-◌, ◌<◌, ◌≤◌, ◌⊎◌, Bool, ◌||◌, ◌&&◌, List, refl, ap, ap₂, inl, inr, arith}
use Rattle.std.specs.List.{range_with_len, list_any, list_all}
use Rattle.rv_pmp.specs.Verdicts.{matching_entry, verdict_by, match_verdict, no_match_verdict}
use Rattle.rv_pmp.proofs.VerdictLemmas.{IsFirst, find_cases}
use Rattle.rv_enclaves.proofs.Prelude.{Access, Entries, Mode, covers, verdict}

-- two tests that are equal on `count` numbers from `start` on agree on whether some of these numbers passes
pub same_any : (test other_test : ℕ → Bool) (start count : ℕ)
    → ((number : ℕ) → start ≤ number → number < start + count → test number ≡ other_test number)
    → list_any test (range_with_len start count) ≡ list_any other_test (range_with_len start count)
same_any test other_test start zero same_tests = refl
same_any test other_test start (suc count) same_tests =
    ap₂ (λ first rest. first || rest) (same_tests start (omega arith) (omega arith))
    (same_any test other_test (start + 1) count (λ number from_start before_end. same_tests number (omega arith) (omega arith)))

-- two tests that are equal on `count` numbers from `start` on agree on whether all of these numbers pass
pub same_all : (test other_test : ℕ → Bool) (start count : ℕ)
    → ((number : ℕ) → start ≤ number → number < start + count → test number ≡ other_test number)
    → list_all test (range_with_len start count) ≡ list_all other_test (range_with_len start count)
same_all test other_test start zero same_tests = refl
same_all test other_test start (suc count) same_tests =
    ap₂ (λ first rest. first && rest) (same_tests start (omega arith) (omega arith))
    (same_all test other_test (start + 1) count (λ number from_start before_end. same_tests number (omega arith) (omega arith)))

-- the verdict is the verdict of the lowest entry that matches some byte, or the verdict for no match
pub verdict_cases : (entries : Entries) (mode : Mode) (access : Access) (bytes : List ℕ)
    → ((entry : ℕ) × (verdict entries mode access bytes ≡ match_verdict entries mode access entry (list_all (covers entries entry) bytes))
    × IsFirst (λ entry. list_any (covers entries entry) bytes) 0 16 entry) ⊎ (verdict entries mode access bytes ≡ no_match_verdict mode)
unfolding verdict matching_entry
verdict_cases entries mode access bytes = elim (find_cases (λ entry. list_any (covers entries entry) bytes) 0 16) [
  | inl (entry, find_is, first_match) ↦ inl (entry, ap (verdict_by entries mode access bytes) find_is, first_match)
  | inr (find_is, none_matches) ↦ inr (ap (verdict_by entries mode access bytes) find_is)
]

-- a test holds for all 32 numbers from `first` to `first + 32` if and only if it holds for 32 numbers from `start` on, if `first` is `start`
pub all_of_32 : (test : ℕ → Bool) (first start : ℕ) → first ≡ start
    → list_all test (range_with_len first (first + 32 - first)) ≡ list_all test (range_with_len start 32)
all_of_32 test first start equal =
    let count_is_32 : first + 32 - first ≡ 32 = omega arith in
    ap₂ (λ count start. list_all test (range_with_len start count)) count_is_32 equal
