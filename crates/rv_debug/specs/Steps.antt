-- Runs of steps, and what ends them: RISC-V Unprivileged ISA 20191213, section 1.2. (This project's own debugger.)
use Rattle.std.specs.Prelude.{ℕ, zero, suc, ◌+◌, ◌^◌, ◌==◌, bit_or, List, Option, Some, None, if◌then◌else◌}
use Rattle.std.specs.Option.{option_or}
use Rattle.rv_hart.specs.declared.trap.StepOutcome.{StepOutcome}
use Rattle.rv_debug.specs.Prelude.{Break, Done, Ran, Stop, Trap, Watch, option_case}
use Rattle.rv_debug.specs.Addresses.{is_among}
use Rattle.rv_debug.specs.Stops.{lowest_accessed}

-- the result of one step: the state after the step, its outcome, and the slot of the enclave that it entered, if any
pub record Stepped (A : Type 0) : Type 0 where
  pub state : A
  pub outcome : StepOutcome
  pub entered : Option ℕ

-- the result of steps: the state after them, their number, the last trap, and the entered slots as bits (bit 3 is set if slot 3 was entered)
pub record AfterSteps (A : Type 0) : Type 0 where
  pub state : A
  pub steps : ℕ
  pub trap : Option Trap
  pub entered : ℕ

-- the result of a run: the state after the run, and the summary of the run
pub record AfterRun (A : Type 0) : Type 0 where
  pub state : A
  pub ran : Ran

-- `no_steps` is the state before the first step of a run
abbrev pub no_steps : {A : Type 0} → A → AfterSteps A
no_steps state = record { state = state; steps = 0; trap = None; entered = 0 }

-- `slots_with` has the entered slots as a bit mask, with the slot of one more entry, if there is one
abbrev pub slots_with : ℕ → Option ℕ → ℕ
slots_with slots None = slots
slots_with slots (Some slot) = bit_or slots (2 ^ slot)

-- `with_step` has the steps so far and one more, with its trap and the slot that it entered
abbrev pub with_step : {A : Type 0} → AfterSteps A → Stepped A → AfterSteps A
with_step before last = record {
  state = last.state;
  steps = before.steps + 1;
  trap = option_or last.outcome.trap before.trap;
  entered = slots_with before.entered last.entered;
}

-- `ended` is a run that ends after these steps, for this reason
abbrev pub ended : {A : Type 0} → AfterSteps A → Stop → AfterRun A
ended after stop = record {
  state = after.state;
  ran = record { steps = after.steps; trap = after.trap; stop = stop; entered = after.entered };
}

-- `run` executes at most as many steps as the number says, after the steps `before`. After each step, an access to a watched byte ends the run.
-- Otherwise the run ends if all steps are executed, and otherwise if the next instruction is at a breakpoint.
unfoldable pub run : {A : Type 0} → (A → Stepped A) → (A → ℕ) → List ℕ → List ℕ → ℕ → AfterSteps A → AfterRun A
run step pc breaks watches zero before = ended before Done
run step pc breaks watches (suc left) before =
    let after = with_step before (step before.state) in
    option_case (lowest_accessed watches (step before.state).outcome.touched)
    (if left == 0 then ended after Done
    else (if is_among (pc after.state) breaks then ended after Break
    else run step pc breaks watches left after))
    (λ address. ended after (Watch address))
