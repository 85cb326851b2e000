-- Scheduled steps: one step of each hart of a list, in order. (This project's own commands.)
use Rattle.std.specs.Prelude.{ℕ, ◌+◌, ◌==◌, List, [], ◌∷◌}
use Rattle.std.specs.Prelude.{Option, None, if◌then◌else◌}
use Rattle.std.specs.Option.{option_or}
use Rattle.rv_debug.specs.Prelude.{HartRan, Scheduled, Target, Trap}
use Rattle.rv_debug.specs.Steps.{Stepped, slots_with}
use Rattle.rv_debug.specs.Targets.{target_stepped, with_selected}

-- `AfterSchedule` has a target after scheduled steps, and a summary of them
pub record AfterSchedule : Type 0 where
  pub state : Target
  pub did : Scheduled

-- `nothing_ran` is the summary of a hart before its first step
abbrev pub nothing_ran : HartRan
nothing_ran = record { steps = 0; trap = None }

-- a target before the first step of a schedule: no hart has stepped, and no slot was entered
abbrev pub schedule_start : Target → AfterSchedule
schedule_start state = record { state = state; did = record { first = nothing_ran; second = nothing_ran; entered = 0 } }

-- `with_own_step` is the summary of a hart after one more step of it
abbrev pub with_own_step : Option Trap → HartRan → HartRan
with_own_step trap ran = record { steps = ran.steps + 1; trap = option_or trap ran.trap }

-- `with_own` is the summary of the hart `shown_hart` after one more step, which counts only if it is a step of this hart
abbrev pub with_own : ℕ → ℕ → Option Trap → HartRan → HartRan
with_own shown_hart hart trap ran = if shown_hart == hart then with_own_step trap ran else ran

-- `with_hart_step` has a summary and one more step: its hart, its trap, and the slot that it entered
abbrev pub with_hart_step : ℕ → Option Trap → Option ℕ → Scheduled → Scheduled
with_hart_step hart trap entered did = record {
  first = with_own 0 hart trap did.first;
  second = with_own 1 hart trap did.second;
  entered = slots_with did.entered entered;
}

-- `with_scheduled_step` has the scheduled steps and one more step, `last`, which is a step of this hart
abbrev pub with_scheduled_step : ℕ → AfterSchedule → Stepped Target → AfterSchedule
with_scheduled_step hart before last = record { state = last.state; did = with_hart_step hart last.outcome.trap last.entered before.did }

-- `scheduled_steps` executes one step of each hart in the list, in order. Breakpoints and watchpoints have no effect. The hart of the last step is
-- then selected.
unfoldable pub scheduled_steps : List ℕ → AfterSchedule → AfterSchedule
scheduled_steps [] before = before
scheduled_steps (hart ∷ harts) before = scheduled_steps harts (with_scheduled_step hart before (target_stepped (with_selected hart before.state)))
