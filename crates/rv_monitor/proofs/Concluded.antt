-- The return values of a call that switches no world, as the code computes them.
use Rattle.std.proofs.Common.{◌≡◌, ℕ, Option, Some, None, Result, Ok, Err, MatchResult, refl}
use Rattle.rv_monitor.specs.Prelude.{Refusal, HartState, Shared, option_case, result_case}
use Rattle.rv_monitor.proofs.Prelude.{returned_to_caller, refused}

-- The function `conclude` returns to the caller with the first refusal whose condition holds, or with the result of the call if no condition holds.
-- A refused call leaves the shared state unchanged, and a performed call leaves the state `performed`.
pub concluded : (hart_state : HartState) (maybe_refusal : Option Refusal) (call_result : Result ℕ Refusal) (before after performed : Shared)
    (value : ℕ)
    → MatchResult call_result (λ result. (maybe_refusal ≡ None) × (result ≡ value) × (after ≡ performed))
    (λ refusal. (maybe_refusal ≡ Some refusal) × (after ≡ before))
    → option_case maybe_refusal (returned_to_caller hart_state performed 0 value) (refused hart_state before)
    ≡ result_case call_result (returned_to_caller hart_state after 0) (refused hart_state after)
-- the call is performed, because no condition for a refusal holds; it returns the value and the state of the performed call
concluded hart_state maybe_refusal (Ok result) before after performed value (no_refusal, value_is, shared_is) =
    rw (no_refusal, value_is, shared_is) refl
-- the call is refused with the first refusal whose condition holds, and the shared state is unchanged
concluded hart_state maybe_refusal (Err refusal) before after performed value (refusal_is, shared_is) =
    rw (refusal_is, shared_is) refl
