-- A run of a target is the run of its machine, for a bare machine, for one hart of a monitored machine, and for the selected hart.
use Rattle.std.proofs.Common.{◌≡◌, ℕ, zero, suc, ◌==◌, List, refl, sym, ◌∙◌, ap}
use Rattle.rv_debug.specs.Prelude.{Bare, MonitoredMachine, Monitored, Ran, Machine, Target, hart_state_of, step_of}
use Rattle.rv_debug.proofs.Prelude.{AfterRun, AfterSteps, Selected, Stepped, selected_at, selected_hart_state, selected_stepped, is_among}
use Rattle.rv_debug.proofs.Prelude.{lowest_accessed, machine_stepped, no_steps, pc_of, run, target_stepped, with_step, with_target}
use Rattle.rv_debug.proofs.Stepping.{next_cases, run_induction, next_of}

-- `in_target` has the steps of a machine so far, as steps of a target with this machine
abbrev pub in_target : {A : Type 0} → (A → Target) → AfterSteps A → AfterSteps Target
in_target target after = record { state = target after.state; steps = after.steps; trap = after.trap; entered = after.entered }

-- `target_of` is the result of a run of a machine, as the result of a run of a target with this machine
abbrev pub target_of : {A : Type 0} → (A → Target) → AfterRun A → AfterRun Target
target_of target after = record { state = target after.state; ran = after.ran }

-- a kind of machine whose step and pc are those of its target
module _ {A : Type 0} (target : A → Target) (step : A → Stepped A) (pc : A → ℕ)
    (steps : (machine : A) → target_stepped (target machine) ≡ with_target target (step machine))
    (pcs : (machine : A) → pc_of (target machine) ≡ pc machine) (breaks watches : List ℕ) where
  -- `next_in` is the run of the target after one more step: ended, or continued
  abbrev next_in : ℕ → AfterSteps Target → Stepped Target → ℕ → AfterRun Target
  next_in remaining before last next_pc =
      let after = with_step before last in
      next_of after (run target_stepped pc_of breaks watches remaining after) (lowest_accessed watches last.outcome.touched) (remaining == 0)
      (is_among next_pc breaks)

  -- a run of the machine is the run of its target, with the steps so far; by induction over the number of steps left
  run-in : (count : ℕ) (before : AfterSteps A)
      → run target_stepped pc_of breaks watches count (in_target target before) ≡ target_of target (run step pc breaks watches count before)
  unfolding run
  run-in zero before = refl
  run-in (suc remaining) before =
      let last = step before.state in
      let after = with_step before last in
      ap (λ (seen : Stepped Target). next_in remaining (in_target target before) seen (pc_of seen.state)) (steps before.state)
      ∙ (ap (next_in remaining (in_target target before) (with_target target last)) (pcs last.state)
      ∙ next_cases (λ (target_run : AfterRun Target) (machine_run : AfterRun A). target_run ≡ target_of target machine_run)
      (in_target target after) after _ _
      (lowest_accessed watches last.outcome.touched) (remaining == 0) (is_among (pc last.state) breaks) (λ stop. refl) (run-in remaining after))

  -- a run of the machine is a run of the target with this machine
  runs-in : (count : ℕ) (machine after : A) (ran : Ran)
      → run step pc breaks watches count (no_steps machine) ≡ record { state = after; ran = ran }
      → run target_stepped pc_of breaks watches count (no_steps (target machine)) ≡ record { state = target after; ran = ran }
  runs-in count machine after ran run_is = run-in count (no_steps machine) ∙ ap (target_of target) run_is

-- `machine_pc` is the pc of a bare machine
abbrev pub machine_pc : Machine → ℕ
machine_pc machine = machine.hart.pc

-- `hart_stepped` is a step of the hart of a monitored machine, with its outcome and the slot that it entered
abbrev pub hart_stepped : ℕ → MonitoredMachine → Stepped MonitoredMachine
hart_stepped hart machine =
    let after = step_of hart machine in
    record { state = after.state; outcome = after.outcome.step; entered = after.outcome.entered }

-- `hart_pc` is the pc of a hart
abbrev pub hart_pc : ℕ → MonitoredMachine → ℕ
hart_pc hart machine = (hart_state_of hart machine).hart.pc

-- a run of a bare machine is the run of its target
pub runs_bare : (breaks watches : List ℕ) (count : ℕ) (machine after : Machine) (ran : Ran)
    → run machine_stepped machine_pc breaks watches count (no_steps machine) ≡ record { state = after; ran = ran }
    → run target_stepped pc_of breaks watches count (no_steps (Bare machine)) ≡ record { state = Bare after; ran = ran }
runs_bare breaks watches = runs-in Bare machine_stepped machine_pc (λ machine. refl) (λ machine. refl) breaks watches

-- a run of one hart of a monitored machine is the run of its target with this hart selected
pub run_monitored : (hart : ℕ) (breaks watches : List ℕ) (count : ℕ) (before : AfterSteps MonitoredMachine)
    → run target_stepped pc_of breaks watches count (in_target (selected_at hart) before) ≡ target_of (selected_at hart)
    (run (hart_stepped hart) (hart_pc hart) breaks watches count before)
run_monitored hart breaks watches = run-in (selected_at hart) (hart_stepped hart) (hart_pc hart) (λ machine. refl) (λ machine. refl) breaks watches

-- ---- a bare machine enters no enclave

-- the steps of a bare machine enter no slot
entered-none : (breaks watches : List ℕ) (count : ℕ) (before : AfterSteps Machine)
    → (run machine_stepped machine_pc breaks watches count before).ran.entered ≡ before.entered
entered-none breaks watches =
    run_induction machine_stepped machine_pc breaks watches (λ before end. end.ran.entered ≡ before.entered) (λ after stop. refl)
    (λ before end same_slots. same_slots)

-- a run of a bare machine enters no slot
pub enters_none : (breaks watches : List ℕ) (count : ℕ) (machine after : Machine) (ran : Ran)
    → run machine_stepped machine_pc breaks watches count (no_steps machine) ≡ record { state = after; ran = ran } → ran.entered ≡ 0
enters_none breaks watches count machine after ran run_is =
    ap (λ (run_result : AfterRun Machine). run_result.ran.entered) (sym run_is) ∙ entered-none breaks watches count (no_steps machine)

-- ---- the selected hart

-- `selected_pc` is the pc of the selected hart
abbrev pub selected_pc : Selected → ℕ
selected_pc selected = (selected_hart_state selected).hart.pc

-- a run of a monitored machine with a selected hart is the run of its target
pub runs_selected : (breaks watches : List ℕ) (count : ℕ) (machine after : Selected) (ran : Ran)
    → run selected_stepped selected_pc breaks watches count (no_steps machine) ≡ record { state = after; ran = ran }
    → run target_stepped pc_of breaks watches count (no_steps (Monitored machine)) ≡ record { state = Monitored after; ran = ran }
runs_selected breaks watches = runs-in Monitored selected_stepped selected_pc (λ machine. refl) (λ machine. refl) breaks watches
