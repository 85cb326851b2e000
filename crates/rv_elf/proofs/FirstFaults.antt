-- The first error of a table whose condition holds is the error with the smallest number: the rows are in the order of their numbers.
use Rattle.std.proofs.Common.{◌≡◌, ℕ, suc, ◌≤◌, ◌&&◌, nat_lt, length, map, Bool, true, false, List, [], ◌∷◌}
use Rattle.std.proofs.Common.{◌++◌, Option, Some, None, Result, Ok, Err, refl, arith}
use Rattle.std.proofs.lemmas.Grind.{common_steps}
use Rattle.rv_elf.specs.declared.elf_fault.ElfFault.{ElfFault}
use Rattle.rv_elf.specs.declared.elf_fault.ElfFault.TheVariants.{SegmentOutside, Truncated}
use Rattle.std.specs.List.{list_any, range_with_len}
use Rattle.std.specs.Result.{IfErr}
use Rattle.rv_word.specs.Cases.{option_case}
use Rattle.rv_elf.specs.Plans.{LoadPlan, file_plan, raw_plan}
use Rattle.rv_elf.specs.declared.segment.Segment.{Segment}
use Rattle.rv_elf.specs.Faults.{first_fault, IsLeast, elf_fault_number, header_faults, segment_faults, place_faults}
use Rattle.rv_elf.specs.Faults.{file_fault, file_faults, raw_fault, raw_faults}
use Rattle.rv_elf.specs.Fields.{e_entry}
use Rattle.rv_elf.specs.Places.{first_address}
use Rattle.rv_elf.specs.Segments.{segments_of, occupying, raw_segments}

-- if the first rows of a table have no error, the first error of the table is that of the other rows
pub none_before : (rows others : List (Bool × ElfFault)) → first_fault rows ≡ None → first_fault (rows ++ others) ≡ first_fault others
none_before [] others rows_have_no_fault = refl
none_before ((true, fault) ∷ rows) others rows_have_no_fault = absurd (grind arith)
none_before ((false, fault) ∷ rows) others rows_have_no_fault = none_before rows others rows_have_no_fault

-- the first error of the first rows of a table is the first error of the whole table
pub some_before : (rows others : List (Bool × ElfFault)) (fault : ElfFault) → first_fault rows ≡ Some fault
    → first_fault (rows ++ others) ≡ Some fault
some_before [] others fault fault_found = absurd (grind arith)
some_before ((true, row_fault) ∷ rows) others fault fault_found = fault_found
some_before ((false, row_fault) ∷ rows) others fault fault_found = some_before rows others fault fault_found

-- if a table has no error, the condition of its first row fails, and the other rows have no error
pub no_fault_parts : (condition : Bool) (fault : ElfFault) (rows : List (Bool × ElfFault)) → first_fault ((condition, fault) ∷ rows) ≡ None
    → (condition ≡ false) × (first_fault rows ≡ None)
no_fault_parts true fault rows no_fault = absurd (grind arith)
no_fault_parts false fault rows no_fault = (refl, no_fault)

-- the rows of the table have consecutive numbers from `first_number` on
abbrev AreNumbered : ℕ → List (Bool × ElfFault) → Type 0
AreNumbered first_number rows = map (λ row. elf_fault_number row.1) rows ≡ range_with_len first_number (length rows)

-- if the rows have consecutive numbers from `first_number` on, no error with a smaller number has a condition that holds (by induction over the rows)
no_lesser_fault : (rows : List (Bool × ElfFault)) (first_number number : ℕ) → AreNumbered first_number rows → number ≤ first_number
    → list_any (λ row. row.0 && nat_lt (elf_fault_number row.1) number) rows ≡ false
no_lesser_fault [] first_number number rows_are_numbered least_below_n = refl
no_lesser_fault ((condition, fault) ∷ rows) first_number number rows_are_numbered least_below_n =
    let no_lesser_in_rest = no_lesser_fault rows (suc first_number) number (grind arith) (omega arith) in
    let number_is : elf_fault_number fault ≡ first_number = grind arith in
    grind (arith, common_steps)

-- if the rows have consecutive numbers, the first error whose condition holds has the smallest number (by induction over the rows)
first_fault_is_least : (rows : List (Bool × ElfFault)) (first_number : ℕ) (fault : ElfFault) → AreNumbered first_number rows
    → first_fault rows ≡ Some fault
    → IsLeast rows fault
first_fault_is_least [] first_number fault rows_are_numbered fault_found = absurd (grind arith)
first_fault_is_least ((true, row_fault) ∷ rows) first_number fault rows_are_numbered fault_found =
    let no_lesser_in_rest = no_lesser_fault rows (suc first_number) first_number (grind arith) (omega arith) in
    let number_is : elf_fault_number row_fault ≡ first_number = grind arith in
    let row_fault_is : row_fault ≡ fault = grind arith in
    (grind (arith, common_steps), grind (arith, common_steps))
first_fault_is_least ((false, row_fault) ∷ rows) first_number fault rows_are_numbered fault_found =
    first_fault_is_least rows (suc first_number) fault (grind arith) fault_found

-- the errors of an ELF file have the numbers from that of `Truncated` on, in the order in which they are checked
file_faults_numbered : (file : List ℕ) (ram_size len entry : ℕ) (monitored : Bool) (segments others : List Segment)
    → AreNumbered (elf_fault_number Truncated)
    (header_faults file ++ segment_faults len segments ++ place_faults ram_size monitored others entry)
unfolding header_faults segment_faults place_faults
file_faults_numbered file ram_size len entry monitored segments others = refl

-- the errors of the places in memory have the numbers from that of `SegmentOutside` on, in the order in which they are checked
place_faults_numbered : (ram_size entry : ℕ) (monitored : Bool) (segments : List Segment)
    → AreNumbered (elf_fault_number SegmentOutside) (place_faults ram_size monitored segments entry)
unfolding place_faults
place_faults_numbered ram_size entry monitored segments = refl

-- the first error of an ELF file has the smallest number of its errors
file_fault_is_least : (file : List ℕ) (ram_size : ℕ) (monitored : Bool) (fault : ElfFault)
    → file_fault file ram_size monitored ≡ Some fault → IsLeast (file_faults file ram_size monitored) fault
file_fault_is_least file ram_size monitored fault fault_found =
    first_fault_is_least (file_faults file ram_size monitored) (elf_fault_number Truncated) fault
    (file_faults_numbered file ram_size (length file) (e_entry file) monitored (segments_of file) (occupying (segments_of file)))
    fault_found

-- the first error of a raw image has the smallest number of its errors
raw_fault_is_least : (len ram_size : ℕ) (monitored : Bool) (fault : ElfFault) → raw_fault len ram_size monitored ≡ Some fault
    → IsLeast (raw_faults len ram_size monitored) fault
raw_fault_is_least len ram_size monitored fault fault_found =
    first_fault_is_least (raw_faults len ram_size monitored) (elf_fault_number SegmentOutside) fault
    (place_faults_numbered ram_size (first_address monitored) monitored (raw_segments len monitored)) fault_found

-- if a result is the plan, or the first error if there is one, and the first error has the smallest number, then so has the error of the result
err_is_least : (rows : List (Bool × ElfFault)) (first : Option ElfFault) (plan : LoadPlan) (result : Result LoadPlan ElfFault)
    → ((fault : ElfFault) → first ≡ Some fault → IsLeast rows fault) → result ≡ option_case first (Ok plan) Err
    → IfErr result (λ fault. IsLeast rows fault)
err_is_least rows None plan result first_is_least result_is = rw result_is tt
err_is_least rows (Some fault) plan result first_is_least result_is = rw result_is (first_is_least fault refl)

-- if the plan of an ELF file is refused, the reported error is the one with the smallest number
pub file_plan_least : (file : List ℕ) (ram_size : ℕ) (monitored : Bool) (result : Result LoadPlan ElfFault)
    → result ≡ file_plan file ram_size monitored → IfErr result (λ fault. IsLeast (file_faults file ram_size monitored) fault)
file_plan_least file ram_size monitored result result_is =
    err_is_least (file_faults file ram_size monitored) (file_fault file ram_size monitored) _ result
    (file_fault_is_least file ram_size monitored) result_is

-- if the plan of a raw image is refused, the reported error is the one with the smallest number
pub raw_plan_least : (len ram_size : ℕ) (monitored : Bool) (result : Result LoadPlan ElfFault) → result ≡ raw_plan len ram_size monitored
    → IfErr result (λ fault. IsLeast (raw_faults len ram_size monitored) fault)
raw_plan_least len ram_size monitored result result_is =
    err_is_least (raw_faults len ram_size monitored) (raw_fault len ram_size monitored) _ result
    (raw_fault_is_least len ram_size monitored) result_is
