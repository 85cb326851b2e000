-- Each digit of a schedule is the number of one of two harts, hart 0 or hart 1.
use Rattle.std.proofs.Common.{◌≡◌, ◌≤◌, ℕ, ◌==◌, Bool, true, false, List, [], ◌∷◌, cond, refl, arith}
use Rattle.std.proofs.lemmas.Bool.Decides.{nat_tests}
use Rattle.std.specs.List.{list_all}
use Rattle.std.specs.Prelude.{nat_lt}
use Rattle.rv_script.specs.Schedules.{hart_of_digit}

-- 0 and 1 are numbers of harts, if there are at least two harts
hart_number_below : (harts : ℕ) → 2 ≤ harts → (is_one : Bool) → nat_lt (cond is_one 1 0) harts ≡ true
hart_number_below harts has_two true = grind (arith, nat_tests)
hart_number_below harts has_two false = grind (arith, nat_tests)

-- each digit names a hart, if there are at least two harts; 49 is the code of the digit 1
digit_names_hart : (harts : ℕ) → 2 ≤ harts → (digit : ℕ) → nat_lt (hart_of_digit digit) harts ≡ true
unfolding hart_of_digit
digit_names_hart harts has_two digit = hart_number_below harts has_two (digit == 49)

-- every digit names a hart, if there are at least two harts, by induction over the digits
pub all_of_two : (harts : ℕ) → 2 ≤ harts → (digits : List ℕ) → list_all (λ digit. nat_lt (hart_of_digit digit) harts) digits ≡ true
all_of_two harts has_two [] = refl
all_of_two harts has_two (digit ∷ digits) = rw (digit_names_hart harts has_two digit, all_of_two harts has_two digits) refl
