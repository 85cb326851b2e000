-- The observation of a command: its reply without the parts that depend on what is private to an enclave. These are the state of a hart that
-- runs the enclave, the bytes of its region, and those of its window while it runs. The number of its steps and the registers that no world reads
-- are private too. (This project's own commands.)
use Rattle.std.specs.Prelude.{ℕ, ◌+◌, ◌==◌, Bool, false, ◌&&◌, ◌||◌, List, [], ◌∷◌, ◌++◌, nat_lt, replicate, Option, if◌then◌else◌}
use Rattle.std.specs.Option.{option_or}
use Rattle.rv_enclaves.specs.Table.{runs, window}
use Rattle.rv_monitor.specs.GuestView.{guest_view}
use Rattle.rv_debug.specs.Prelude.{Bare, Command, Csr, Dis, HartRan, Mem, Monitored, MonitoredMachine, Reg, Regs, Run, Sched, Step, Target, Trap}
use Rattle.rv_debug.specs.Prelude.{bytes_named, harts_in, has_all, meets, option_case, region, runs_on}
use Rattle.rv_debug.specs.Prelude.{step_of}
use Rattle.rv_debug.specs.BenchState.{BenchState}
use Rattle.rv_debug.specs.Effects.{steps_of}
use Rattle.rv_debug.specs.Execute.{csr_reply, hart_summary_text, reply_to}
use Rattle.rv_debug.specs.ReplyText.{no_hart_text, ran_text}
use Rattle.rv_debug.specs.ScheduledSteps.{AfterSchedule, nothing_ran, schedule_start, scheduled_steps}
use Rattle.rv_debug.specs.Steps.{AfterRun}
use Rattle.rv_debug.specs.Targets.{hart_of, harts_of, machine_in, pc_of, selected_at, selected_of, with_selected, world_text}

-- `is_selected` states whether `enclave` runs on the selected hart
abbrev pub is_selected : ℕ → Target → Bool
is_selected enclave (Bare machine) = false
is_selected enclave (Monitored selected) = runs_on enclave selected.hart selected.state

-- `unless` is the text, or no text if the text is hidden
abbrev pub unless : Bool → List ℕ → List ℕ
unless hidden text = if hidden then [] else text

-- ---- steps

-- `one_more_observed` has the steps of a hart and one more; a step of the enclave sets their number to 0
abbrev pub one_more_observed : Bool → Option Trap → HartRan → HartRan
one_more_observed is_own trap ran = record { steps = if is_own then 0 else ran.steps + 1; trap = option_or trap ran.trap }

-- `with_observed_step` has the observed steps of the hart `shown_hart` after a step of any hart
abbrev pub with_observed_step : ℕ → ℕ → ℕ → MonitoredMachine → HartRan → HartRan
with_observed_step enclave shown_hart hart machine ran =
    if shown_hart == hart then one_more_observed (runs_on enclave hart machine) (step_of hart machine).outcome.step.trap ran else ran

-- `observed_steps` summarizes the steps of the hart `shown_hart`, where each hart of a list makes one step in turn. The summary has the number of its
-- steps after the last step of the enclave, and its last trap.
abbrev pub observed_steps : ℕ → ℕ → List ℕ → MonitoredMachine → HartRan → HartRan
observed_steps enclave shown_hart [] machine ran = ran
observed_steps enclave shown_hart (hart ∷ harts) machine ran =
    observed_steps enclave shown_hart harts (step_of hart machine).state (with_observed_step enclave shown_hart hart machine ran)

-- `observed_count` is the number of steps of the selected hart after the last step of the enclave, among `count` steps
abbrev pub observed_count : ℕ → Target → ℕ → ℕ
observed_count enclave target count =
    let hart = selected_of target in
    option_case (machine_in target) count (λ machine. (observed_steps enclave hart (replicate count hart) machine nothing_ran).steps)

-- `observed_run` is the summary of a run, with this number of steps, or nothing if the enclave runs on the hart after it
abbrev pub observed_run : ℕ → Target → AfterRun Target → List ℕ
observed_run enclave before after =
    unless (is_selected enclave after.state)
    (ran_text (pc_of after.state) (hart_of after.state).mode (world_text after.state)
    (record { steps = observed_count enclave before after.ran.steps; trap = after.ran.trap; stop = after.ran.stop; entered = 0 }))

-- `observed_hart` is the summary of a hart after a schedule, or nothing if the enclave runs on the hart
abbrev pub observed_hart : ℕ → Target → ℕ → HartRan → List ℕ
observed_hart enclave target hart ran = unless (is_selected enclave (with_selected hart target)) (hart_summary_text target hart ran)

-- `observed_harts` is the observation of a schedule: the summary of each hart on which `enclave` does not run after the schedule
abbrev pub observed_harts : ℕ → AfterSchedule → List ℕ
observed_harts enclave after =
    observed_hart enclave after.state 0 after.did.first
    ++ (if nat_lt 1 (harts_of after.state) then observed_hart enclave after.state 1 after.did.second else [])

-- `observed_sched` is the observation of the command `sched`, or the error if a hart of the schedule does not exist
abbrev pub observed_sched : ℕ → Target → List ℕ → List ℕ
observed_sched enclave target harts =
    if has_all (harts_of target) harts then observed_harts enclave (scheduled_steps harts (schedule_start target)) else no_hart_text

-- ---- what a command shows

-- `guest_target` is the guest view of a target: the registers that no world reads are 0
abbrev pub guest_target : Target → Target
guest_target (Bare machine) = Bare machine
guest_target (Monitored selected) = selected_at selected.hart (guest_view selected.state)

-- whether the command names a byte of the region of `enclave`, or a byte of its window while the enclave runs
abbrev pub names_private : ℕ → Target → Command → Bool
names_private enclave target command =
    option_case (machine_in target) false (λ machine.
    meets (bytes_named command) (region machine.shared.table enclave)
    || (runs machine.shared.table enclave && meets (bytes_named command) (window machine.shared.table enclave)))

-- ---- every command

-- `observed` is the observation of a command: its reply without the parts that the private state of `enclave` decides
abbrev pub observed : ℕ → BenchState → Command → List ℕ
observed enclave bench (Step count) = observed_run enclave bench.target (steps_of bench.target [] [] count)
observed enclave bench (Run count) = observed_run enclave bench.target (steps_of bench.target bench.breaks bench.watches count)
observed enclave bench (Sched schedule) = observed_sched enclave bench.target (harts_in schedule)
observed enclave bench (Reg number) = unless (is_selected enclave bench.target) (reply_to bench (Reg number))
observed enclave bench Regs = unless (is_selected enclave bench.target) (reply_to bench Regs)
observed enclave bench (Csr number) = unless (is_selected enclave bench.target) (csr_reply (guest_target bench.target) number)
observed enclave bench (Mem address count) = unless (names_private enclave bench.target (Mem address count)) (reply_to bench (Mem address count))
observed enclave bench (Dis address) = unless (names_private enclave bench.target (Dis address)) (reply_to bench (Dis address))
observed enclave bench command = reply_to bench command
