-- A call whose error is mapped to another: from the result after the mapping (`mapped`) to the result of the call, and back.
use Rattle.std.proofs.Common.{◌≡◌, Result, Ok, Err, refl, sym, ◌∙◌, ap, subst}
use Rattle.std.specs.Result.{MatchResult, IsOkAnd, IsErrAnd}
use Rattle.std.proofs.lemmas.Result.{err_from_is_err_and}

-- a result that is an `Ok` after its errors are mapped was the same `Ok` before
pub ok_mapped : {A E F : Type 0} (Q : E → F → Type 0) (result : Result A E) (mapped_result : Result A F) (value : A)
    → MatchResult result (λ found. mapped_result ≡ Ok found) (λ fault. IsErrAnd mapped_result (Q fault)) → mapped_result ≡ Ok value
    → result ≡ Ok value
ok_mapped Q (Ok found) mapped_result value cases mapped_is = let same : found ≡ value = cc in ap Ok same
ok_mapped Q (Err fault) mapped_result value cases mapped_is =
    let error = err_from_is_err_and mapped_result cases in let is_err : mapped_result ≡ Err error.0 = error.1 in cc

-- a result that is an `Err` after its errors are mapped was an `Err` before
pub err_mapped : {A E F : Type 0} (Q : E → F → Type 0) (result : Result A E) (mapped_result : Result A F) (mapped_fault : F)
    → MatchResult result (λ found. mapped_result ≡ Ok found) (λ fault. IsErrAnd mapped_result (Q fault)) → mapped_result ≡ Err mapped_fault
    → (fault : E) × (result ≡ Err fault)
err_mapped Q (Ok found) mapped_result mapped_fault cases mapped_is = let is_ok : mapped_result ≡ Ok found = cases in cc
err_mapped Q (Err fault) mapped_result mapped_fault cases mapped_is = (fault, refl)

-- if a property P holds of an error `fault`, it holds of the result that `?` returns for this error
pub passed_on : {T E : Type 0} (P : Result T E → Type 0) (result : Result T E) (fault : E) → IsErrAnd result (λ value. value ≡ fault)
    → P (Err fault) → P result
passed_on P result fault is_error holds = let error = err_from_is_err_and result is_error in subst P (sym (error.1 ∙ ap Err error.2)) holds

-- A result whose errors are all mapped to one error `mapped_fault` has a property P, by cases on the result before the mapping: an `Ok`, or an error.
pub mapped : {A E F : Type 0} (P : Result A F → Type 0) (Q : E → F → Type 0) (mapped_fault : F) (result : Result A E) (mapped_result : Result A F)
    → MatchResult result (λ found. mapped_result ≡ Ok found) (λ fault. IsErrAnd mapped_result (Q fault))
    → ((fault : E) (other_fault : F) → Q fault other_fault → other_fault ≡ mapped_fault)
    → ((found : A) → result ≡ Ok found → P (Ok found)) → ((fault : E) → result ≡ Err fault → P (Err mapped_fault)) → P mapped_result
mapped P Q mapped_fault (Ok found) mapped_result cases error_is ok_case err_case = subst P (sym cases) (ok_case found refl)
mapped P Q mapped_fault (Err fault) mapped_result cases error_is ok_case err_case =
    let error = err_from_is_err_and mapped_result cases in subst P (sym (error.1 ∙ ap Err (error_is fault error.0 error.2))) (err_case fault refl)

-- an `Ok` whose value has a property is an `Ok` with this property
pub IsOkAnd-at : {A E : Type 0} (result : Result A E) (value : A) (P : A → Type 0) → result ≡ Ok value → P value → IsOkAnd result P
IsOkAnd-at result value P result_is holds = subst (λ result. IsOkAnd result P) (sym result_is) holds
