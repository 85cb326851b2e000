-- Refusals of calls. Each call that can be refused has a table, whose rows are a condition and the refusal that it means, in the order of the
-- checks. The first row whose condition holds decides. (Keystone, EuroSys 2020, in this project's profile.)
use Rattle.std.specs.Prelude.{ℕ, Bool, true, false, not, List, [], ◌∷◌, Option, Some, None}
use Rattle.rv_word.specs.Cases.{option_case}
use Rattle.rv_enclaves.specs.Calls.{takes}
use Rattle.rv_enclaves.specs.Table.{Slots, slot_at, is_live}
use Rattle.rv_enclaves.specs.declared.call.Call.{Call}
use Rattle.rv_enclaves.specs.declared.refusal.Refusal.{Refusal}
use Rattle.rv_enclaves.specs.declared.refusal.Refusal.TheVariants.{NoEnclave, BadState}

-- the first refusal whose condition holds
abbrev pub first_refusal : List (Bool × Refusal) → Option Refusal
first_refusal [] = None
first_refusal ((true, refusal) ∷ rows) = Some refusal
first_refusal ((false, refusal) ∷ rows) = first_refusal rows

-- whether the enclave of a slot is in a state that a call accepts
abbrev pub has_state_for : Slots → Call → ℕ → Bool
has_state_for table call slot = option_case (slot_at table slot) false (λ info. takes call info.state)

-- the refusals of destroy, run and resume for the enclave in `slot`
unfoldable pub state_refusals : Slots → Call → ℕ → List (Bool × Refusal)
state_refusals table call slot =
    (not (is_live table slot), NoEnclave)
    ∷ (not (has_state_for table call slot), BadState)
    ∷ []
