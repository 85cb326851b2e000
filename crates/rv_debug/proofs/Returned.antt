-- The return to the host: while an enclave runs on a hart, no command changes the host's saved context, so the exit of the enclave restores it.
use Rattle.std.proofs.Common.{◌≡◌, ℕ, false, List, [], ◌∷◌, ◌++◌, Option, Some, None, refl, sym, ◌∙◌, ap, subst}
use Rattle.std.specs.Prelude.{IsSomeAnd}
use Rattle.rv_monitor.specs.Switches.{saved}
use Rattle.rv_monitor.specs.TrapReturns.{past_ecall}
use Rattle.rv_monitor.specs.Returns.{HostIsRestored}
use Rattle.rv_monitor.proofs.Switched.{KeptStored}
use Rattle.rv_monitor.proofs.Returned.{comes_back, entered_is, first_runs, host_on, last_runs, steps_keep}
use Rattle.rv_enclaves.specs.declared.context.Context.{Context}
use Rattle.rv_debug.specs.Prelude.{Bare, Command, Invariant, MonitoredMachine, Monitored, HartView, S, HartState, Target, changed, is_host}
use Rattle.rv_debug.specs.Prelude.{monitored_step, option_case, reg_set, sched, hart_state_of, step_of, timer_line_set, write}
use Rattle.rv_debug.specs.Returns.{EntersAndLeaves, LeavesLater, LeavesWithin, ReturnLaw}
use Rattle.rv_debug.proofs.Prelude.{BenchState, Selected, Effect, TargetInvariant, Nothing, OneByte, Register, Steps, TimerLine, execute, change_preserves}
use Rattle.rv_debug.proofs.Prelude.{selected_at, done, effect, harts_stepped, invariant_law, machine_in, sched_invariant}
use Rattle.rv_debug.proofs.ExecuteAlike.{bench_of}
use Rattle.rv_debug.proofs.EffectsInvariant.{command_keeps_invariant, poke_of}
use Rattle.rv_debug.proofs.ScheduledSteps.{schedule_is_sched}

-- ---- steps of the harts in order

-- steps of the harts of two lists in turn lead to the machine after the second list, from the machine after the first list
sched_in_turn : (before after : List ℕ) (machine : MonitoredMachine)
    → (sched (before ++ after) machine).state ≡ (sched after (sched before machine).state).state
sched_in_turn [] after machine = refl
sched_in_turn (stepped_hart ∷ before) after machine = sched_in_turn before after (step_of stepped_hart machine).state

-- ---- effects

-- `host_in` is the host's saved context on a hart of a target
abbrev host_in : ℕ → Target → Option Context
host_in hart target = option_case (machine_in target) None (host_on hart)

-- a write of a register or of the timer line leaves the host's saved context of each hart as it is
write_keeps_context : (hart : ℕ) (machine : Selected) (change : HartState → HartState)
    → ((hart_state : HartState) → (change hart_state).host_context ≡ hart_state.host_context)
    → host_in hart (selected_at machine.hart (changed machine.hart change machine.state)) ≡ host_on hart machine.state
write_keeps_context hart machine change keeps_context =
    change_preserves (λ (hart_state : HartState). hart_state.host_context) change keeps_context machine.hart hart machine.state

-- a poke leaves the host's saved context of each hart as it is
poke_keeps_context : (hart : ℕ) (machine : Selected) (memory : Option (List ℕ))
    → host_in hart (poke_of (Monitored machine) memory) ≡ host_on hart machine.state
poke_keeps_context hart machine None = refl
poke_keeps_context hart machine (Some memory) = refl

-- the host's saved context after an effect is that after the steps of the effect alone
context_after_effect : (hart : ℕ) (machine : Selected) (change : Effect)
    → host_in hart (done (Monitored machine) change) ≡ host_on hart (sched (harts_stepped change) machine.state).state
context_after_effect hart machine Nothing = refl
context_after_effect hart machine (Steps harts selected) = ap (host_in hart) (schedule_is_sched harts machine _ selected)
context_after_effect hart machine (Register number value) = write_keeps_context hart machine (reg_set number value) (λ hart_state. refl)
context_after_effect hart machine (TimerLine raised) = write_keeps_context hart machine (timer_line_set raised) (λ hart_state. refl)
context_after_effect hart machine (OneByte address byte) = poke_keeps_context hart machine (write machine.state.shared.memory address (byte ∷ []))

-- ---- the step with which the enclave exits

-- `saved_at_entry` is the context of the host that the monitor saves when the host enters an enclave by its ecall
abbrev saved_at_entry : HartView → Option Context
saved_at_entry entry = Some (saved entry.hart_state.hart (past_ecall entry.hart_state.hart) S)

-- the exit restores the host, if the enclave exits among the steps of one command
exit_in_command : (hart : ℕ) (harts : List ℕ) (machine : MonitoredMachine) (entry exit : HartView) → Invariant machine
    → host_on hart machine ≡ saved_at_entry entry → LeavesWithin hart harts machine exit → HostIsRestored entry exit (monitored_step exit)
exit_in_command hart harts machine entry exit invariant saved_is leaves =
    let at_exit = (sched leaves.before machine).state in
    let same_context = steps_keep hart leaves.before machine leaves.runs in
    let returns_to_host = ap (λ (view : HartView). is_host (monitored_step view).state.hart_state.world) (sym leaves.exit_is) ∙ leaves.host in
    subst (λ (view : HartView). HostIsRestored entry view (monitored_step view)) (sym leaves.exit_is)
    (comes_back hart entry at_exit (sched_invariant leaves.before machine invariant) (subst KeptStored (sym same_context) leaves.stored)
    (same_context ∙ saved_is) (last_runs hart leaves.before machine leaves.runs) returns_to_host)

-- The exit restores the host, if the enclave exits in these steps or in a later command. The proof is by induction over the later commands.
exit_in_later_command : (hart : ℕ) (harts : List ℕ) (machine : MonitoredMachine) (target : Target) (breaks watches : List ℕ) (commands : List Command)
    (entry exit : HartView) → Invariant machine → TargetInvariant target → host_in hart target ≡ host_on hart (sched harts machine).state
    → host_on hart machine ≡ saved_at_entry entry → LeavesLater hart harts machine (bench_of target breaks watches) commands exit
    → HostIsRestored entry exit (monitored_step exit)
unfolding execute
exit_in_later_command hart harts machine target breaks watches [] entry exit invariant target_invariant same_context saved_is leaves =
    exit_in_command hart harts machine entry exit invariant saved_is leaves
exit_in_later_command hart harts machine (Bare bare_machine) breaks watches (command ∷ commands)
    entry exit invariant target_invariant same_context saved_is (enclave_runs_through, leaves_later) = absurd leaves_later
exit_in_later_command hart harts machine (Monitored selected) breaks watches
    (command ∷ commands) entry exit invariant target_invariant same_context saved_is (enclave_runs_through, leaves_later) =
    let bench = bench_of (Monitored selected) breaks watches in
    let next = (execute bench command).state in
    exit_in_later_command hart (harts_stepped (effect bench command)) selected.state next.target next.breaks next.watches commands entry exit
    target_invariant
    (command_keeps_invariant bench command target_invariant) (context_after_effect hart selected (effect bench command))
    (same_context ∙ steps_keep hart harts machine enclave_runs_through ∙ saved_is) leaves_later

-- ---- the step that enters the enclave

-- the enclave runs on the hart before the commands
runs_at_first : (hart : ℕ) (harts : List ℕ) (machine : MonitoredMachine) (after : BenchState) (commands : List Command) (exit : HartView)
    → LeavesLater hart harts machine after commands exit → is_host (hart_state_of hart machine).world ≡ false
runs_at_first hart harts machine after [] exit leaves = first_runs hart leaves.before machine leaves.runs
runs_at_first hart harts machine after (command ∷ commands) exit (enclave_runs_through, leaves_later) =
    first_runs hart harts machine enclave_runs_through

-- The exit restores the host, if the first command enters the enclave and it exits in this command or a later one. The proof takes the state before
-- the step that enters the enclave, and follows the saved context from there.
exit_after_entry : (hart : ℕ) (target : Target) (breaks watches : List ℕ) (first_command : Command) (commands : List Command)
    (entry exit : HartView) → TargetInvariant target
    → IsSomeAnd (machine_in target) (λ machine. EntersAndLeaves hart (bench_of target breaks watches) first_command commands machine entry exit)
    → HostIsRestored entry exit (monitored_step exit)
unfolding execute
exit_after_entry hart (Bare bare_machine) breaks watches first_command commands entry exit invariant enter_and_leave = absurd enter_and_leave
exit_after_entry hart (Monitored selected) breaks watches first_command commands entry exit invariant enter_and_leave =
    let bench = bench_of (Monitored selected) breaks watches in
    let next = (execute bench first_command).state in
    let machine = selected.state in
    let at_entry = (sched enter_and_leave.before machine).state in
    let after = (step_of hart at_entry).state in
    let invariant_at_entry = sched_invariant enter_and_leave.before machine invariant in
    -- the host runs on the hart before the entry, and an enclave after it
    let runs_host = ap (λ (view : HartView). is_host view.hart_state.world) (sym enter_and_leave.entry_is) ∙ enter_and_leave.host in
    let enclave_runs = runs_at_first hart enter_and_leave.after after next commands exit enter_and_leave.leaves in
    -- the saved context after the first command is the saved context after its steps
    let same_context = context_after_effect hart selected (effect bench first_command)
    ∙ ap (λ (harts : List ℕ). host_on hart (sched harts machine).state) enter_and_leave.steps_are
    ∙ ap (host_on hart) (sched_in_turn enter_and_leave.before (hart ∷ enter_and_leave.after) machine) in
    exit_in_later_command hart enter_and_leave.after after next.target next.breaks next.watches commands entry exit
    (invariant_law hart at_entry invariant_at_entry)
    (command_keeps_invariant bench first_command invariant) same_context (entered_is hart at_entry invariant_at_entry runs_host enclave_runs
    ∙ ap saved_at_entry (sym enter_and_leave.entry_is)) enter_and_leave.leaves

-- proves that commands return the host's own context after its call to an enclave
pub return_law : ReturnLaw
return_law hart bench first later entry exit invariant enter_and_leave =
    exit_after_entry hart bench.target bench.breaks bench.watches first later entry exit invariant enter_and_leave
