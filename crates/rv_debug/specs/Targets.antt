-- The target of commands, and the parts of it that commands use. (This project's own debugger.)
use Rattle.std.specs.Prelude.{ℕ, Bool, false, List, [], ◌∷◌, ◌++◌, codes, decimal, Option, Some, None, IfSome}
use Rattle.std.specs.Option.{option_map}
use Rattle.rv_hart.specs.HartRecord.{Hart}
use Rattle.rv_hart.specs.Step.{step}
use Rattle.rv_enclaves.specs.declared.world.World.{World}
use Rattle.rv_enclaves.specs.declared.world.World.TheVariants.{Host, Enclave}
use Rattle.rv_debug.specs.Prelude.{HostContextsAreLegal, Bare, Invariant, MonitoredMachine, Monitored, HartState, Machine, Target, count_of}
use Rattle.rv_debug.specs.Prelude.{is_live, option_case}
use Rattle.rv_debug.specs.Prelude.{hart_state_of, step_of, with_memory, with_reg, with_register, with_timer, write}
use Rattle.rv_debug.specs.Selected.{Selected}
use Rattle.rv_debug.specs.EnclaveText.{table_text}
use Rattle.rv_debug.specs.Steps.{Stepped}

-- `machine_in` is the monitored machine of a target, if it is monitored
abbrev pub machine_in : Target → Option MonitoredMachine
machine_in (Bare machine) = None
machine_in (Monitored selected) = Some selected.state

-- the state of the selected hart
abbrev pub selected_hart_state : Selected → HartState
selected_hart_state selected = hart_state_of selected.hart selected.state

-- `hart_of` is the hart of a bare machine, or the selected hart of a monitored machine
abbrev pub hart_of : Target → Hart
hart_of (Bare machine) = machine.hart
hart_of (Monitored selected) = (selected_hart_state selected).hart

-- `memory_of` is the memory of a target
abbrev pub memory_of : Target → List ℕ
memory_of (Bare machine) = machine.memory
memory_of (Monitored selected) = selected.state.shared.memory

-- `world_name` is the name of a world: `host`, or `e` and the slot
abbrev pub world_name : World → List ℕ
world_name Host = codes "host"
world_name (Enclave slot) = codes "e" ++ decimal slot

-- `world_text` is the name of the world of the selected hart; a bare machine has the name `bare`
abbrev pub world_text : Target → List ℕ
world_text (Bare machine) = codes "bare"
world_text (Monitored selected) = world_name (selected_hart_state selected).world

-- `enclaves_text` has one line for each live enclave; a bare machine has no line
abbrev pub enclaves_text : Target → List ℕ
enclaves_text target = option_case (machine_in target) [] (λ machine. table_text machine.shared.table)

-- `is_live_in` states whether `enclave` is live
abbrev pub is_live_in : ℕ → Target → Bool
is_live_in enclave target = option_case (machine_in target) false (λ machine. is_live machine.shared.table enclave)

-- `pc_of` is the address of the next instruction
abbrev pub pc_of : Target → ℕ
pc_of target = (hart_of target).pc

-- `machine_stepped` is a bare machine after one step, which enters no enclave
abbrev pub machine_stepped : Machine → Stepped Machine
machine_stepped machine = let after = step machine in record { state = after.state; outcome = after.outcome; entered = None }

-- `selected_stepped` is a monitored machine after one step of the selected hart
abbrev pub selected_stepped : Selected → Stepped Selected
selected_stepped selected =
    let after = step_of selected.hart selected.state in
    record { state = record { hart = selected.hart; state = after.state }; outcome = after.outcome.step; entered = after.outcome.entered }

-- `with_target` is a step of a machine, with the target of the machine after it
abbrev pub with_target : {A : Type 0} → (A → Target) → Stepped A → Stepped Target
with_target target after = record { state = target after.state; outcome = after.outcome; entered = after.entered }

-- `selected_at` is a monitored machine with a selected hart
abbrev pub selected_at : ℕ → MonitoredMachine → Target
selected_at hart state = Monitored (record { hart = hart; state = state })

-- `target_stepped` is a target after one step of the selected hart
abbrev pub target_stepped : Target → Stepped Target
target_stepped (Bare machine) = with_target Bare (machine_stepped machine)
target_stepped (Monitored selected) = with_target Monitored (selected_stepped selected)

-- the number of harts of a target; a bare machine has one
abbrev pub harts_of : Target → ℕ
harts_of (Bare machine) = 1
harts_of (Monitored selected) = count_of selected.state

-- `selected_of` is the number of the selected hart
abbrev pub selected_of : Target → ℕ
selected_of (Bare machine) = 0
selected_of (Monitored selected) = selected.hart

-- `with_selected` is the target with another of its harts selected
abbrev pub with_selected : ℕ → Target → Target
with_selected hart (Bare machine) = Bare machine
with_selected hart (Monitored selected) = selected_at hart selected.state

-- `register_set` is the target after a write of a word to a register of the selected hart; x0 stays 0
abbrev pub register_set : Target → ℕ → ℕ → Target
register_set (Bare machine) number value =
    Bare (record machine { hart = record machine.hart { regs = with_register machine.hart.regs number value } })
register_set (Monitored selected) number value = selected_at selected.hart (with_reg selected.hart selected.state number value)

-- `timer_set` is the target with the timer line raised or lowered
abbrev pub timer_set : Target → Bool → Target
timer_set (Bare machine) raised =
    Bare (record machine { hart = record machine.hart { csrs = record machine.hart.csrs { timer = raised } } })
timer_set (Monitored selected) raised = selected_at selected.hart (with_timer selected.hart selected.state raised)

-- `over_memory` is the target with another memory
abbrev pub over_memory : Target → List ℕ → Target
over_memory (Bare machine) memory = Bare (record machine { memory = memory })
over_memory (Monitored selected) memory = selected_at selected.hart (with_memory selected.state memory)

-- `poked` is the target with a byte written to memory, if its address is in RAM
abbrev pub poked : Target → ℕ → ℕ → Option Target
poked target address byte = option_map (over_memory target) (write (memory_of target) address (byte ∷ []))

-- the target is a bare machine
abbrev pub IsBare : Target → Type 0
IsBare (Bare machine) = Unit {0}
IsBare (Monitored selected) = ⊥

-- The invariant of the machine, if the target is monitored. The table is valid, and the PMP entries and mie are those of the table and the
-- world. The mode is S or U, and MIE, MPRV, TVM, TW and TSR are 0.
abbrev pub TargetInvariant : Target → Type 0
TargetInvariant target = IfSome (machine_in target) Invariant

-- on each hart, the saved context of the host has legal values
abbrev pub HostContextsAreLegalIn : Target → Type 0
HostContextsAreLegalIn target = IfSome (machine_in target) HostContextsAreLegal
