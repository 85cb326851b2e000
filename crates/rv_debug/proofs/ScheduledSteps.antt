-- The steps of a schedule are the steps of the target's machine, in the order of the harts.
use Rattle.std.proofs.Common.{◌≡◌, ℕ, List, [], ◌∷◌, refl}
use Rattle.rv_debug.specs.Prelude.{Bare, Monitored, Scheduled, Machine, Target, sched, step_of}
use Rattle.rv_debug.proofs.Prelude.{AfterSchedule, Selected, IsBare, selected_at, target_stepped, scheduled_steps, with_selected, with_scheduled_step}

-- `after_schedule` is a target with the summaries of the steps so far
abbrev pub after_schedule : Target → Scheduled → AfterSchedule
after_schedule state summary = record { state = state; did = summary }

-- the machine after a schedule is the machine after the steps of its harts, whichever hart is selected afterwards
pub schedule_is_sched : (harts : List ℕ) (machine : Selected) (summary : Scheduled) (selected : ℕ)
    → with_selected selected (scheduled_steps harts (after_schedule (Monitored machine) summary)).state
    ≡ selected_at selected (sched harts machine.state).state
unfolding scheduled_steps
schedule_is_sched [] machine summary selected = refl
schedule_is_sched (hart ∷ harts) machine summary selected =
    let before = after_schedule (Monitored machine) summary in
    schedule_is_sched harts (record { hart = hart; state = (step_of hart machine.state).state })
    (with_scheduled_step hart before (target_stepped (with_selected hart before.state))).did selected

-- ---- a bare machine stays bare

-- a property that holds of every bare machine holds of each target that is bare
pub bare_target : (P : Target → Type 0) → ((machine : Machine) → P (Bare machine)) → (target : Target) → IsBare target → P target
bare_target P holds_if_bare (Bare machine) is_bare = holds_if_bare machine
bare_target P holds_if_bare (Monitored machine) is_bare = absurd is_bare

-- a step leaves a bare machine bare
pub step_stays_bare : (hart : ℕ) (target : Target) → IsBare target → IsBare (target_stepped (with_selected hart target)).state
step_stays_bare hart = bare_target (λ (target : Target). IsBare (target_stepped (with_selected hart target)).state) (λ machine. tt)

-- the steps of a schedule leave a bare machine bare
pub schedule_stays_bare : (harts : List ℕ) (before : AfterSchedule) → IsBare before.state → IsBare (scheduled_steps harts before).state
unfolding scheduled_steps
schedule_stays_bare [] before is_bare = is_bare
schedule_stays_bare (hart ∷ harts) before is_bare =
    let last = target_stepped (with_selected hart before.state) in
    schedule_stays_bare harts (with_scheduled_step hart before last) (step_stays_bare hart before.state is_bare)

-- a bare machine with another selected hart is bare
pub selected_stays_bare : (hart : ℕ) (target : Target) → IsBare target → IsBare (with_selected hart target)
selected_stays_bare hart = bare_target (λ (target : Target). IsBare (with_selected hart target)) (λ machine. tt)
