-- The effects of commands on the target, of five kinds, and the target after each. (This project's own commands.)
use Rattle.std.specs.Prelude.{ℕ, Bool, nat_lt, List, [], replicate, if◌then◌else◌}
use Rattle.rv_debug.specs.Prelude.{Command, Hart, Poke, Run, Sched, SetReg, Step, Target, Timer, harts_in, has_all, option_case}
use Rattle.rv_debug.specs.BenchState.{BenchState}
use Rattle.rv_debug.specs.ScheduledSteps.{schedule_start, scheduled_steps}
use Rattle.rv_debug.specs.Steps.{AfterRun, no_steps, run}
use Rattle.rv_debug.specs.Targets.{selected_of, harts_of, pc_of, target_stepped, register_set, timer_set, poked, with_selected}

-- the effect of a command on the target is one of five kinds:
-- - none;
-- - one step of each hart in the list `harts`, in this order, after which the hart `selected` is selected;
-- - a write of a register of the selected hart;
-- - a change of the timer line of the selected hart;
-- - a write of a byte, if its address is in RAM
pub data Effect : Type 0 where
  Nothing : Effect
  Steps : (harts : List ℕ) (selected : ℕ) → Effect
  Register : (number value : ℕ) → Effect
  TimerLine : (raised : Bool) → Effect
  OneByte : (address byte : ℕ) → Effect

-- ---- the target after an effect

-- the target after an effect; a write of a byte outside RAM has no effect
abbrev pub done : Target → Effect → Target
done target Nothing = target
done target (Steps harts selected) = with_selected selected (scheduled_steps harts (schedule_start target)).state
done target (Register number value) = register_set target number value
done target (TimerLine raised) = timer_set target raised
done target (OneByte address byte) = option_case (poked target address byte) target (λ after. after)

-- `entered_by` has the slots of the enclaves that the effect enters, as bits
abbrev pub entered_by : Target → Effect → ℕ
entered_by target (Steps harts selected) = (scheduled_steps harts (schedule_start target)).did.entered
entered_by target _ = 0

-- `harts_stepped` has the harts whose steps the effect executes, one for each step, in order
abbrev pub harts_stepped : Effect → List ℕ
harts_stepped (Steps harts selected) = harts
harts_stepped _ = []

-- ---- the effect of a command

-- `steps_of` is a run of at most `count` steps of the selected hart, which a watchpoint or a breakpoint may end
abbrev pub steps_of : Target → List ℕ → List ℕ → ℕ → AfterRun Target
steps_of target breaks watches count = run target_stepped pc_of breaks watches count (no_steps target)

-- `run_effect` is the effect of a run: as many steps of the selected hart as the run executes
abbrev pub run_effect : Target → List ℕ → List ℕ → ℕ → Effect
run_effect target breaks watches count =
    Steps (replicate (steps_of target breaks watches count).ran.steps (selected_of target)) (selected_of target)

-- `hart_effect` is the effect of `hart`: it selects the hart, or has no effect if no hart has this number
abbrev pub hart_effect : Target → ℕ → Effect
hart_effect target hart = if nat_lt hart (harts_of target) then Steps [] hart else Nothing

-- `sched_effect` is the effect of `sched`: the steps of the schedule, or no effect if some hart of the schedule does not exist. The selected hart
-- stays the same.
abbrev pub sched_effect : Target → List ℕ → Effect
sched_effect target harts = if has_all (harts_of target) harts then Steps harts (selected_of target) else Nothing

-- `effect` is the effect of a command on the target of the bench; a command that only shows something has no effect
abbrev pub effect : BenchState → Command → Effect
effect bench (Step count) = run_effect bench.target [] [] count
effect bench (Run count) = run_effect bench.target bench.breaks bench.watches count
effect bench (SetReg number value) = Register number value
effect bench (Poke address byte) = OneByte address byte
effect bench (Timer raised) = TimerLine raised
effect bench (Hart hart) = hart_effect bench.target hart
effect bench (Sched schedule) = sched_effect bench.target (harts_in schedule)
effect bench _ = Nothing
