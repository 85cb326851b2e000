-- The trap handler of one hart, over two shared states that are equivalent except `enclave`, gives results that are equivalent except `enclave`. If
-- the trap handler enters `enclave`, then the results are equivalent except for the hart that runs `enclave`.
use Rattle.std.proofs.Common.{◌≡◌, ℕ, List, length, Some, None, refl, sym, ap, subst, inl, inr}
use Rattle.rv_enclaves.specs.declared.slot_info.EnclaveState.TheVariants as states
use Rattle.rv_enclaves.proofs.WorksAlike.{WorksAlike, works_alike}
use Rattle.rv_monitor.specs.Prelude.{Contexts, Running, HartState, Shared, SharedEquivExcept, Slots, Trap}
use Rattle.rv_monitor.specs.Prelude.{measured_slot, new_slot, create_args_of, running_slot}
use Rattle.rv_monitor.proofs.Prelude.{HandledAlike, HandlerLaw, a0, a1, returned_to_caller, both_ways, cases_eq, enclave_state_after, entered_slot}
use Rattle.rv_monitor.proofs.Prelude.{eq-eqb, continuing_from, handled, left, with_reprogrammed_hart}
use Rattle.rv_monitor.proofs.HandlerCases.{handler_cases_of_both, entering, context_saved_by, leaving, shared_of}

-- ---- the trap handler

-- each effect of the trap handler leaves the two shared states equivalent except `enclave`
module _ (enclave : ℕ) (table : Slots) (memory other_memory : List ℕ) (contexts other_contexts : Contexts)
    (cases : WorksAlike enclave (shared_of table memory contexts) (shared_of table other_memory other_contexts))
    (hart_state : HartState) (trap : Trap) where
  -- the shared state with the first memory and the first saved contexts
  abbrev first_shared : Shared
  first_shared = shared_of table memory contexts

  -- the shared state with the second memory and the second saved contexts
  abbrev second_shared : Shared
  second_shared = shared_of table other_memory other_contexts

  -- a return to the caller gives equivalent results, if the shared states after the call are equivalent except `enclave`
  returned_alike : (one other : Shared) (status result : ℕ) → SharedEquivExcept enclave one other
      → HandledAlike enclave (with_reprogrammed_hart (returned_to_caller hart_state one status result))
      (with_reprogrammed_hart (returned_to_caller hart_state other status result))
  returned_alike one other status result shared_equiv = record {
    entered = refl;
    hart_state = record {
      world = refl;
      same = λ not_running.
          ap (λ (table : Slots). continuing_from
          (with_reprogrammed_hart (returned_to_caller hart_state (shared_of table one.memory one.contexts) status result))) shared_equiv.table;
    };
    shared = shared_equiv;
  }

  -- an entry of a slot other than `enclave` gives equivalent results
  other_entry_alike : (a0 hart_state ≡ enclave → ⊥)
      → HandledAlike enclave (with_reprogrammed_hart (entering hart_state first_shared)) (with_reprogrammed_hart (entering hart_state second_shared))
  unfolding entered_slot
  other_entry_alike a0_is_other =
      let contexts_equal = cases.contexts (a0 hart_state) a0_is_other in
      -- both shared states have the same saved context of the slot in a0
      rw (← contexts_equal) (record {
        entered = refl;
        hart_state = record { world = refl; same = λ not_running. refl };
        shared = cases.switches (a0 hart_state) states.Running None;
      })

  -- an entry of `enclave` gives equivalent results
  own_entry_alike : a0 hart_state ≡ enclave
      → HandledAlike enclave (with_reprogrammed_hart (entering hart_state first_shared)) (with_reprogrammed_hart (entering hart_state second_shared))
  unfolding entered_slot
  own_entry_alike a0_is_enclave = record {
    entered = refl;
    hart_state =
        record { world = refl; same = λ not_running. absurd (both_ways _ not_running (eq-eqb (a0 hart_state) enclave a0_is_enclave)) };
    shared = cases.switches (a0 hart_state) states.Running None;
  }

  -- an entry of the slot in a0 gives equivalent results
  entry_alike : HandledAlike enclave (with_reprogrammed_hart (entering hart_state first_shared))
      (with_reprogrammed_hart (entering hart_state second_shared))
  entry_alike =
      elim (cases_eq (a0 hart_state) enclave) [
        | inl a0_is_enclave ↦ own_entry_alike a0_is_enclave
        | inr a0_is_other ↦ other_entry_alike a0_is_other
      ]

  -- an exit of the running enclave gives equivalent results
  exit_alike : HandledAlike enclave (with_reprogrammed_hart (leaving trap.cause hart_state first_shared))
      (with_reprogrammed_hart (leaving trap.cause hart_state second_shared))
  unfolding left
  exit_alike = record {
    entered = refl;
    hart_state = record { world = refl; same = λ not_running. refl };
    shared =
        cases.switches (running_slot hart_state.world) (enclave_state_after trap.cause hart_state.hart.regs)
        (Some (context_saved_by trap.cause hart_state));
  }

  -- the trap handler gives equivalent results over both shared states
  handled_alike : length memory ≡ length other_memory
      → HandledAlike enclave (handled hart_state first_shared trap) (handled hart_state second_shared trap)
  handled_alike =
      -- `WorksAlike` gives equivalent shared states for each effect; a call returns a status and a value
      handler_cases_of_both hart_state trap table memory other_memory contexts other_contexts (HandledAlike enclave) (record {
        answers = λ status result. returned_alike first_shared second_shared status result cases.before;
        creates =
            λ requests no_refusal. returned_alike _ _ 0 (new_slot table) (cases.creates (create_args_of hart_state.hart.regs) no_refusal);
        destroys = λ requests slot_accepted. returned_alike _ _ 0 0 (cases.destroys (a0 hart_state) slot_accepted);
        measures = λ requests no_refusal. returned_alike _ _ 0 0 (cases.measures (measured_slot hart_state.world (a0 hart_state)) (a1 hart_state));
        enters = λ call requests is_entry_call from_host slot_accepted. entry_alike;
        leaves = exit_alike;
        redirects =
            record { entered = refl; hart_state = record { world = refl; same = λ not_running. refl }; shared = cases.before };
      })

-- proves the noninterference of the trap handler, by case analysis
pub handler_law : HandlerLaw
handler_law enclave worlds hart_state one other trap shared_invariant_one shared_invariant_other not_running equiv =
    let tables_equal = equiv.table in
    let cases = works_alike enclave one other worlds shared_invariant_one shared_invariant_other equiv in
    let cases_over_table =
    subst (λ (table : Slots). WorksAlike enclave one (shared_of table other.memory other.contexts)) (sym tables_equal) cases in
    subst (λ (table : Slots). HandledAlike enclave (handled hart_state one trap)
    (handled hart_state (shared_of table other.memory other.contexts) trap)) tables_equal
    (handled_alike enclave one.table one.memory other.memory one.contexts other.contexts cases_over_table hart_state trap equiv.memory.size)
