-- The host's influence on an enclave, over two scripts with unlike images, setups and lines; and the lines of a script that are a list of events.
-- (Laws of this project's own monitor and debugger.)
use Rattle.std.specs.Prelude.{◌≡◌, ◌==◌, ℕ, Bool, true, List, [], ◌∷◌, codes, Some, IfOk, IfSome, if◌then◌else◌}
use Rattle.rv_monitor.specs.Events.{Event, LineOf, StepOf, events}
use Rattle.rv_monitor.specs.MonitoredMachine.{count_of}
use Rattle.rv_debug.specs.BenchState.{BenchState}
use Rattle.rv_debug.specs.CommandEvents.{are_of_harts}
use Rattle.rv_debug.specs.HostInfluence.{HasSameLife, IsSameLife}
use Rattle.rv_debug.specs.Targets.{machine_in}
use Rattle.rv_command_line.specs.declared.setup.Setup.{Setup}
use Rattle.rv_bench.specs.Integrity.{commands_of}
use Rattle.rv_bench.specs.Loaded.{started}
use Rattle.rv_bench.specs.Replies.{bench_line, state_after}

-- ---- the host's influence

-- Two benches execute the rest of a script each. If an enclave has the same life in both, its steps are the same.
abbrev pub RestsAreSame : ℕ → ℕ → BenchState → BenchState → List (List ℕ) → List (List ℕ) → Type 0
RestsAreSame slot other_slot first second lines others =
    IfSome (machine_in first.target) (λ machine. IfSome (machine_in second.target) (λ other_machine.
    (life : IsSameLife slot other_slot first second (commands_of lines) (commands_of others) machine other_machine)
    → HasSameLife slot other_slot life.moves machine other_machine (state_after bench_line first lines).target
    (state_after bench_line second others).target))

-- Two images start two benches. From any line of each script on, the law of commands holds. Nothing else is assumed of the benches.
abbrev pub ScriptInfluenceLaw : Type 0
ScriptInfluenceLaw =
    (slot other_slot : ℕ) (image other_image : List ℕ) (setup other_setup : Setup) (before other_before lines others : List (List ℕ))
    → IfOk (started image setup) (λ first. IfOk (started other_image other_setup) (λ second.
    RestsAreSame slot other_slot (state_after bench_line first before) (state_after bench_line second other_before) lines others))

-- ---- events

-- `hart_line` is the line that selects hart 0 or hart 1
abbrev pub hart_line : ℕ → List ℕ
hart_line hart = if hart == 0 then codes "hart 0" else codes "hart 1"

-- `timer_line` is the line that sets or clears the timer line of the selected hart
abbrev pub timer_line : Bool → List ℕ
timer_line raised = if raised then codes "timer on" else codes "timer off"

-- `lines_for` has two lines for each event: one that selects a hart, and one that steps it or sets its timer line
abbrev pub lines_for : List Event → List (List ℕ)
lines_for [] = []
lines_for (StepOf hart ∷ later) = hart_line hart ∷ codes "step 1" ∷ lines_for later
lines_for (LineOf hart raised ∷ later) = hart_line hart ∷ timer_line raised ∷ lines_for later

-- After any lines, take a list of events of harts 0 and 1, as far as the machine has these harts. The lines for this list lead the machine to the
-- state to which the events lead.
abbrev pub ScriptEventsLaw : Type 0
ScriptEventsLaw =
    (image : List ℕ) (setup : Setup) (before : List (List ℕ)) (list : List Event) → are_of_harts 2 list ≡ true
    → IfOk (started image setup) (λ bench.
    let start = state_after bench_line bench before in
    IfSome (machine_in start.target) (λ machine. are_of_harts (count_of machine) list ≡ true
    → machine_in (state_after bench_line start (lines_for list)).target ≡ Some (events list machine).state))
