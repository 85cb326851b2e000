-- The numbers in the tables of names are in range.
use Rattle.std.proofs.Common.{◌≡◌, ◌<◌, ◌≤◌, ℕ, Bool, true, false, ◌&&◌, cond, List, [], ◌∷◌, Option, Some, IfSome, nat_lt, refl, arith}
use Rattle.std.specs.Option.{option_map}
use Rattle.std.specs.List.{find, list_all}
use Rattle.std.specs.Str.{bytes_eq}
use Rattle.std.proofs.lemmas.Bool.Decides.{nat_tests}
use Rattle.rv_asm.specs.Tables.{looked_up}
use Rattle.rv_asm.specs.RegisterNames.{registers}
use Rattle.rv_asm.specs.CsrNames.{csrs}
use Rattle.rv_state.specs.CsrTable.{csr_listing}

-- if an and holds, both its parts hold
and_both : (first second : Bool) → first && second ≡ true → (first ≡ true) × (second ≡ true)
and_both true true both_hold = (refl, refl)
and_both true false both_hold = cc
and_both false second both_hold = cc

-- a number that passes the test `nat_lt` of a limit is below the limit
lt_of_test : (number limit : ℕ) → nat_lt number limit ≡ true → number < limit
lt_of_test number limit test_holds = grind (arith, nat_tests)

-- the number of the row that is found, the first or a later one, is below the limit, if the numbers of both are
first_in_range : (limit number : ℕ) (is_first_row : Bool) (later_row : Option (List ℕ × ℕ)) (name : List ℕ) → number < limit
    → IfSome (option_map (λ (row : List ℕ × ℕ). row.1) later_row) (λ other. other < limit)
    → IfSome (option_map (λ (row : List ℕ × ℕ). row.1) (cond is_first_row (Some (name, number)) later_row)) (λ other. other < limit)
first_in_range limit number true later_row name first_below later_below = first_below
first_in_range limit number false later_row name first_below later_below = later_below

-- a number that is looked up in a table is below the limit, if all numbers of the table are
looked_up-in_range : (limit : ℕ) (rows : List (List ℕ × ℕ)) (name : List ℕ) → list_all (λ row. nat_lt row.1 limit) rows ≡ true
    → IfSome (looked_up rows name) (λ other. other < limit)
looked_up-in_range limit [] name all_below = tt
looked_up-in_range limit ((known, number) ∷ rows) name all_below =
    let (first_below, others_below) = and_both _ _ all_below in
    -- the row that is found has this name and number, or is a later row
    first_in_range limit number (bytes_eq name known) (find (λ row. bytes_eq name row.0) rows) known (lt_of_test number limit first_below)
    (looked_up-in_range limit rows name others_below)

-- a register that is found by its name has a number up to 31
pub registers_in_range : (name : List ℕ) (number : ℕ) → looked_up registers name ≡ Some number → number ≤ 31
unfolding registers
registers_in_range name number looked_up_is =
    let below_32 : number < 32 = rw looked_up_is at (looked_up-in_range 32 registers name refl) in
    omega (arith, below_32)

-- a CSR that is found by its name has a 12-bit number
pub csrs_in_range : (name : List ℕ) (number : ℕ) → looked_up csrs name ≡ Some number → number < 4096
unfolding csrs csr_listing
csrs_in_range name number looked_up_is = rw looked_up_is at (looked_up-in_range 4096 csrs name refl)
