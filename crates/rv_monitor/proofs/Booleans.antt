-- Lemmas about Boolean tests that several proofs use and std does not have.
use Rattle.std.proofs.Common.{◌≡◌, Bool, true, false, refl}
use Rattle.std.specs.Prelude.{◌&&◌, ◌||◌, not}

-- if a disjunction holds and its left part fails, then its right part holds
pub right_if_not_left : (a b : Bool) → (a || b) ≡ true → a ≡ false → b ≡ true
right_if_not_left true b either_holds left_fails = cc
right_if_not_left false b either_holds left_fails = either_holds

-- if both parts of a conjunction hold, then its negation fails
pub nand_fails : (a b : Bool) → a ≡ true → b ≡ true → not (a && b) ≡ false
nand_fails a b left_holds right_holds = rw (left_holds, right_holds) refl

-- if the negation of a conjunction fails, then the negation of its left part fails
pub left_if_nand_fails : (a b : Bool) → not (a && b) ≡ false → not a ≡ false
left_if_nand_fails true b negation_fails = refl
left_if_nand_fails false b negation_fails = cc

-- If the negation of a disjunction fails and its right part fails, then the negation of its left part fails. Each case holds by computation, or has a
-- false premise.
pub left_if_nor_fails : (a b : Bool) → not (a || b) ≡ false → b ≡ false → not a ≡ false
left_if_nor_fails true b negation_fails right_fails = refl
left_if_nor_fails false true negation_fails right_fails = cc
left_if_nor_fails false false negation_fails right_fails = cc
