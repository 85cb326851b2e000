-- The host gets its own context back when an enclave exits. The step that enters the enclave saves the context of the host. No step changes this
-- saved context while an enclave runs on the hart. The step with which the enclave exits restores this context. The harts may take any steps in
-- between.
use Rattle.std.proofs.Common.{◌≡◌, ◌<◌, ℕ, true, false, List, [], ◌∷◌, Option, Some, None, refl, sym, ap, ◌∙◌, subst, inl, inr}
use Rattle.std.specs.Prelude.{not, is_some}
use Rattle.rv_monitor.specs.Prelude.{Context, S, HartState, is_host, with_return_values}
use Rattle.rv_monitor.specs.TrapReturns.{past_ecall}
use Rattle.rv_monitor.specs.Returns.{RunsThrough, HostIsRestored, ReturnLaw}
use Rattle.rv_monitor.proofs.Prelude.{HostContextIsLegal, Invariant, HostContextInvariant, MonitoredMachine, HartView, HartViewStepped, StaysOrSwitches}
use Rattle.rv_monitor.proofs.Prelude.{both_ways, cases_eq, cases_lt, count_of, monitored_step, reason, saved, sched, hart_state_of, hart_view}
use Rattle.rv_monitor.proofs.Prelude.{step_of, value}
use Rattle.rv_monitor.proofs.InvariantLemmas.{invariant_law, sched_invariant}
use Rattle.rv_monitor.proofs.HartCases.{past_hart_state, other_harts_keep, step_count, step_of_view}
use Rattle.rv_monitor.proofs.Switched.{KeptStored, enclave_step_keeps_host, switch_law}

-- no saved context of the host is a legal saved context of the host
no_context_is_legal : (maybe_context : Option Context) → is_some maybe_context ≡ false → KeptStored maybe_context
no_context_is_legal None no_context = tt
no_context_is_legal (Some context) no_context = cc

-- a hart that runs the host has no saved context of the host, so each saved context of the host is legal
pub host_stored : (hart_state : HartState) → HostContextInvariant hart_state → is_host hart_state.world ≡ true
    → HostContextIsLegal hart_state
host_stored hart_state host_context_invariant host_runs = no_context_is_legal hart_state.host_context (host_context_invariant.kept ∙ ap not host_runs)

-- the step that enters an enclave saves the context of the host after its ecall
pub entry_saves_host : (view : HartView) (after : HartViewStepped) → StaysOrSwitches view after
    → is_host view.hart_state.world ≡ true
    → is_host after.state.hart_state.world ≡ false
    → after.state.hart_state.host_context ≡ Some (saved view.hart_state.hart (past_ecall view.hart_state.hart) S)
-- the host runs before the step and an enclave after it, so the world does not continue
entry_saves_host view after (inl stays) host_runs enclave_runs_after =
    absurd (both_ways _ enclave_runs_after (ap is_host stays.world ∙ host_runs))
-- the step is an entry, which saves the context of the host
entry_saves_host view after (inr (inl enters)) host_runs enclave_runs_after = enters.host
-- the step is an exit, after which the host would run
entry_saves_host view after (inr (inr leaves)) host_runs enclave_runs_after =
    absurd (both_ways _ enclave_runs_after (ap is_host leaves.world))

-- the step with which the enclave exits restores the saved context of the host
pub exit_restores_host : (before last : HartView) (after : HartViewStepped) → StaysOrSwitches last after
    → last.hart_state.host_context ≡ Some (saved before.hart_state.hart (past_ecall before.hart_state.hart) S)
    → is_host last.hart_state.world ≡ false → is_host after.state.hart_state.world ≡ true
    → HostIsRestored before last after
-- the hart runs an enclave before the step and the host after it, so the world does not continue
exit_restores_host before last after (inl stays) host_is_saved enclave_runs host_runs_after =
    absurd (both_ways _ enclave_runs (sym (ap is_host stays.world) ∙ host_runs_after))
-- the hart runs an enclave before the step, so the step is not an entry
exit_restores_host before last after (inr (inl enters)) host_is_saved enclave_runs host_runs_after =
    absurd (both_ways _ enclave_runs (ap is_host enters.from_host))
-- the step is an exit, which restores the context that the entry saved
exit_restores_host before last after (inr (inr leaves)) host_is_saved enclave_runs host_runs_after =
    let some_contexts_equal = sym leaves.kept ∙ host_is_saved in
    let contexts_equal : leaves.host ≡ saved before.hart_state.hart (past_ecall before.hart_state.hart) S = cc in
    let exit_reason = reason leaves.trap.cause last.hart_state.hart.regs in
    let exit_value = value leaves.trap.cause last.hart_state.hart.regs in
    record {
      trap = leaves.trap;
      trapped = leaves.trapped;
      again =
          leaves.again
          ∙ ap (λ (host : Context). record host { regs = with_return_values host.regs exit_reason exit_value }) contexts_equal;
    }

-- the saved context of the host on a hart
abbrev pub host_on : ℕ → MonitoredMachine → Option Context
host_on hart machine = (hart_state_of hart machine).host_context

-- a hart that runs an enclave is a hart of the machine
pub enclave_hart_in_range : (hart : ℕ) (machine : MonitoredMachine)
    → is_host (hart_state_of hart machine).world ≡ false → hart < count_of machine
enclave_hart_in_range hart machine enclave_runs = elim (cases_lt hart (count_of machine)) [
  | inl in_range ↦ in_range
  -- no hart of the machine has this number
  | inr past_last ↦
      let contradiction : true ≡ false =
      sym (ap (λ (hart_state : HartState). is_host hart_state.world) (past_hart_state machine.hart_states hart past_last)) ∙ enclave_runs in
      cc
]

-- ---- a step of a hart

-- a step of a hart that runs an enclave before and after the step keeps the saved context of the host
own_step_keeps_context : (hart : ℕ) (machine : MonitoredMachine) → is_host (hart_state_of hart machine).world ≡ false
    → is_host (hart_state_of hart (step_of hart machine).state).world ≡ false
    → host_on hart (step_of hart machine).state ≡ host_on hart machine
own_step_keeps_context hart machine enclave_runs enclave_runs_after =
    let step_is = step_of_view hart machine (enclave_hart_in_range hart machine enclave_runs) in
    ap (λ (after : HartViewStepped). after.state.hart_state.host_context) step_is
    ∙ enclave_step_keeps_host (hart_view hart machine) enclave_runs
    (sym (ap (λ (after : HartViewStepped). is_host after.state.hart_state.world) step_is) ∙ enclave_runs_after)

-- a step of any hart keeps the saved context of the host on each hart that runs an enclave before and after the step
any_step_keeps_context : (hart stepping_hart : ℕ) (machine : MonitoredMachine) → is_host (hart_state_of hart machine).world ≡ false
    → is_host (hart_state_of hart (step_of stepping_hart machine).state).world ≡ false
    → host_on hart (step_of stepping_hart machine).state ≡ host_on hart machine
any_step_keeps_context hart stepping_hart machine enclave_runs enclave_runs_after = elim (cases_eq hart stepping_hart) [
  -- the stepping hart keeps its saved host context
  | inl is_stepping_hart ↦
      subst
      (λ (stepping_hart : ℕ). is_host (hart_state_of hart (step_of stepping_hart machine).state).world ≡ false → host_on hart
      (step_of stepping_hart machine).state ≡ host_on hart machine)
      is_stepping_hart (own_step_keeps_context hart machine enclave_runs) enclave_runs_after
  -- every other hart keeps its saved host context
  | inr is_other_hart ↦
      other_harts_keep (λ (hart_state : HartState). hart_state.host_context) (λ table hart_state. refl) stepping_hart hart machine is_other_hart
]

-- ---- steps of the harts in order

-- a hart that runs an enclave through a list of steps runs an enclave before the first step
pub first_runs : (hart : ℕ) (harts : List ℕ) (machine : MonitoredMachine) → RunsThrough hart harts machine
    → is_host (hart_state_of hart machine).world ≡ false
first_runs hart [] machine runs_through = runs_through
first_runs hart (stepping_hart ∷ harts) machine (enclave_runs, _) = enclave_runs

-- the saved context of the host on a hart does not change while the hart runs an enclave
pub steps_keep : (hart : ℕ) (harts : List ℕ) (machine : MonitoredMachine) → RunsThrough hart harts machine
    → host_on hart (sched harts machine).state ≡ host_on hart machine
steps_keep hart [] machine runs_through = refl
steps_keep hart (stepping_hart ∷ harts) machine (enclave_runs, runs_through_rest) =
    let after = (step_of stepping_hart machine).state in
    steps_keep hart harts after runs_through_rest
    ∙ any_step_keeps_context hart stepping_hart machine enclave_runs (first_runs hart harts after runs_through_rest)

-- a hart that runs an enclave through a list of steps runs an enclave after the last step
pub last_runs : (hart : ℕ) (harts : List ℕ) (machine : MonitoredMachine) → RunsThrough hart harts machine
    → is_host (hart_state_of hart (sched harts machine).state).world ≡ false
last_runs hart [] machine runs_through = runs_through
last_runs hart (stepping_hart ∷ harts) machine (_, runs_through_rest) =
    last_runs hart harts (step_of stepping_hart machine).state runs_through_rest

-- ---- from entry to exit

-- a hart that runs an enclave after its step is a hart of the machine
entering_hart_in_range : (hart : ℕ) (machine : MonitoredMachine)
    → is_host (hart_state_of hart (step_of hart machine).state).world ≡ false
    → hart < count_of machine
entering_hart_in_range hart machine enclave_runs_after =
    let after = (step_of hart machine).state in
    let in_range = enclave_hart_in_range hart after enclave_runs_after in
    subst (λ (hart_count : ℕ). hart < hart_count) (step_count hart machine) in_range

-- the entry saves the context of the host after its ecall
pub entered_is : (hart : ℕ) (machine : MonitoredMachine) → Invariant machine
    → is_host (hart_state_of hart machine).world ≡ true
    → is_host (hart_state_of hart (step_of hart machine).state).world ≡ false
    → host_on hart (step_of hart machine).state ≡ Some (saved (hart_state_of hart machine).hart (past_ecall (hart_state_of hart machine).hart) S)
entered_is hart machine invariant host_runs enclave_runs_after =
    let in_range = entering_hart_in_range hart machine enclave_runs_after in
    let step_is = step_of_view hart machine in_range in
    let view = hart_view hart machine in
    let host_context_invariant = (invariant.hart_states hart in_range).host in
    ap (λ (after : HartViewStepped). after.state.hart_state.host_context) step_is
    ∙ entry_saves_host view (monitored_step view) (switch_law view host_context_invariant
    (host_stored view.hart_state host_context_invariant host_runs)) host_runs
    (sym (ap (λ (after : HartViewStepped). is_host after.state.hart_state.world) step_is) ∙ enclave_runs_after)

-- the exit restores the saved context of the host
pub comes_back : (hart : ℕ) (before : HartView) (machine : MonitoredMachine) → Invariant machine
    → HostContextIsLegal (hart_state_of hart machine)
    → host_on hart machine ≡ Some (saved before.hart_state.hart (past_ecall before.hart_state.hart) S)
    → is_host (hart_state_of hart machine).world ≡ false
    → is_host (monitored_step (hart_view hart machine)).state.hart_state.world ≡ true
    → HostIsRestored before (hart_view hart machine) (monitored_step (hart_view hart machine))
comes_back hart before machine invariant legal host_on_is runs host =
    let view = hart_view hart machine in
    exit_restores_host before view (monitored_step view)
    (switch_law view (invariant.hart_states hart (enclave_hart_in_range hart machine runs)).host legal) host_on_is runs host

-- proves that the host gets its own context back when the enclave exits
pub return_law : ReturnLaw
return_law hart harts machine invariant context_is_legal host_runs runs_through host_runs_after =
    let after_entry = (step_of hart machine).state in
    let before_exit = (sched harts after_entry).state in
    let context_kept = steps_keep hart harts after_entry runs_through in
    comes_back hart (hart_view hart machine) before_exit (sched_invariant harts after_entry (invariant_law hart machine invariant))
    (subst KeptStored (sym context_kept) context_is_legal)
    (context_kept ∙ entered_is hart machine invariant host_runs (first_runs hart harts after_entry runs_through))
    (last_runs hart harts after_entry runs_through) host_runs_after
