-- The state of the monitored machine: the state of each hart, the state that the harts share, and the invariant. (Keystone, EuroSys 2020, in
-- this project's profile.)
use Rattle.std.specs.Prelude.{◌≡◌, ◌≢◌, ℕ, ◌<◌, Bool, true, false, not, List, length, map, slice_index_or, slice_set, take, None, IfSome, is_some}
use Rattle.std.specs.List.{range_with_len}
use Rattle.rv_enclaves.specs.Unlocked.{IsUnlocked}
use Rattle.rv_hart.specs.Hart.{at_reset}
use Rattle.rv_monitor.specs.Prelude.{Hart, Host, SharedInvariant, IsLegal, IsValid, S, HartState, Shared, Slots, World, can_go_on, is_host, is_machine}
use Rattle.rv_monitor.specs.Prelude.{layout, mie_of, no_slots, shared_at_start, with_register}

-- the state of each hart, and the shared state
pub record MonitoredMachine : Type 0 where
  pub hart_states : List HartState
  pub shared : Shared

-- the view of one hart: its own state, and what it shares with the others
pub record HartView : Type 0 where
  pub hart_state : HartState
  pub shared : Shared

-- ---- the hart of a world

-- a hart with the PMP entries and mie of a table and a world
abbrev pub pmp_programmed : Slots → World → Hart → Hart
pmp_programmed table world hart =
    record hart { csrs = record hart.csrs { pmp = layout table world; mie = mie_of world } }

-- the state of a hart with the PMP entries and mie of a table and its own world
abbrev pub reprogrammed : Slots → HartState → HartState
reprogrammed table hart_state = record hart_state { hart = pmp_programmed table hart_state.world hart_state.hart }

-- the timer line of a hart raised or lowered
abbrev pub timer_line_set : Bool → HartState → HartState
timer_line_set raised hart_state =
    record hart_state { hart = record hart_state.hart { csrs = record hart_state.hart.csrs { timer = raised } } }

-- a hart at reset: the host in mode S, and no live enclave
abbrev pub hart_state_at_start : ℕ → HartState
hart_state_at_start entry =
    record { hart = pmp_programmed no_slots Host (at_reset entry S); host_context = None; world = Host }

-- each hart starts with its number in x10
abbrev pub numbered_hart_state_at_start : ℕ → ℕ → HartState
numbered_hart_state_at_start entry hart =
    let hart_state = hart_state_at_start entry in
    record hart_state { hart = record hart_state.hart { regs = with_register hart_state.hart.regs 10 hart } }

-- the states of `hart_count` harts at reset, each with its number in x10
abbrev pub hart_states_at_start : ℕ → ℕ → List HartState
hart_states_at_start hart_count entry = map (numbered_hart_state_at_start entry) (range_with_len 0 hart_count)

-- the monitored machine at reset: its harts at the entry, its memory, and no enclave
unfoldable pub at_start : List ℕ → ℕ → ℕ → MonitoredMachine
at_start memory entry hart_count =
    record { hart_states = hart_states_at_start hart_count entry; shared = shared_at_start memory }

-- ---- the harts

-- the number of harts of a machine
abbrev pub count_of : MonitoredMachine → ℕ
count_of machine = length machine.hart_states

-- the state of one hart; for a number that is not the number of a hart, the state of the host at reset
abbrev pub hart_state_in : List HartState → ℕ → HartState
hart_state_in hart_states hart = slice_index_or hart_states hart (hart_state_at_start 0)

-- the state of the hart with this number
abbrev pub hart_state_of : ℕ → MonitoredMachine → HartState
hart_state_of hart machine = hart_state_in machine.hart_states hart

-- the view of one hart
abbrev pub hart_view : ℕ → MonitoredMachine → HartView
hart_view hart machine = record { hart_state = hart_state_of hart machine; shared = machine.shared }

-- the world on each hart
abbrev pub worlds : MonitoredMachine → List World
worlds machine = map (λ hart_state. hart_state.world) machine.hart_states

-- the machine with another state for one hart
abbrev pub with_hart_state : ℕ → HartState → MonitoredMachine → MonitoredMachine
with_hart_state hart hart_state machine = record machine { hart_states = slice_set machine.hart_states hart hart_state }

-- ---- the invariant

-- the PMP entries and mie are those of the table and the world; the mode is S or U, and MIE, MPRV, TVM, TW, TSR are 0
pub record HasPmpLayout (table : Slots) (hart_state : HartState) : Type 0 where
  -- the PMP entries are those that the table gives to the world
  pub entries : hart_state.hart.csrs.pmp ≡ layout table hart_state.world
  pub mie : hart_state.hart.csrs.mie ≡ mie_of hart_state.world
  -- the mode is S or U
  pub mode : is_machine hart_state.hart.mode ≡ false
  -- the bits MIE, MPRV, TVM, TW and TSR of mstatus are 0
  pub mstatus_mie : hart_state.hart.csrs.mstatus.mie ≡ false
  pub mprv : hart_state.hart.csrs.mstatus.mprv ≡ false
  pub tvm : hart_state.hart.csrs.mstatus.tvm ≡ false
  pub tw : hart_state.hart.csrs.mstatus.tw ≡ false
  pub tsr : hart_state.hart.csrs.mstatus.tsr ≡ false

-- the hart saves a context of the host if and only if the hart runs an enclave, and the hart can continue with this context
pub record HostContextInvariant (hart_state : HartState) : Type 0 where
  -- the context is saved if and only if an enclave runs on the hart
  pub kept : is_some hart_state.host_context ≡ not (is_host hart_state.world)
  -- the saved context has a mode below M and a pc that is a multiple of 4
  pub held : IfSome hart_state.host_context (λ context. can_go_on context ≡ true)

-- the S-mode registers of the host's saved context are as a hart stores them
abbrev pub HostContextIsLegal : HartState → Type 0
HostContextIsLegal hart_state = IfSome hart_state.host_context (λ context. IsLegal context.supervisor)

-- the host's saved context on each hart has S-mode registers as a hart stores them
abbrev pub HostContextsAreLegal : MonitoredMachine → Type 0
HostContextsAreLegal machine = (hart : ℕ) → HostContextIsLegal (hart_state_of hart machine)

-- the invariant of the state of a hart
pub record HartInvariant (table : Slots) (hart_state : HartState) : Type 0 where
  pub host : HostContextInvariant hart_state
  pub layout : HasPmpLayout table hart_state

-- the invariant of the view of one hart, whatever runs on the others
pub record HartViewInvariant (view : HartView) : Type 0 where
  pub valid : IsValid view.shared.memory view.shared.table
  pub hart : HartInvariant view.shared.table view.hart_state

-- The invariant of the machine, which holds at reset and after each step: the shared state and every hart have their invariants.
pub record Invariant (machine : MonitoredMachine) : Type 0 where
  pub shared : SharedInvariant machine.shared (worlds machine)
  pub hart_states : (hart : ℕ) → hart < count_of machine → HartInvariant machine.shared.table (hart_state_of hart machine)

-- the invariant of every machine that the code makes: the premise of the laws, and legal saved contexts of the hosts
pub record FullInvariant (machine : MonitoredMachine) : Type 0 where
  pub monitor : Invariant machine
  pub legal : HostContextsAreLegal machine

-- ---- representation in the code

-- the machine that the first `hart_count` elements of the code's array of hart states represent
abbrev pub machine_of_parts : List HartState → ℕ → Shared → MonitoredMachine
machine_of_parts state_array hart_count shared = record { hart_states = take hart_count state_array; shared = shared }

-- no PMP entry of the harts other than one is locked
abbrev pub AreOthersUnlocked : List HartState → ℕ → ℕ → Type 0
AreOthersUnlocked state_array hart_count hart =
    (other_hart : ℕ) → other_hart < hart_count → other_hart ≢ hart → IsUnlocked (hart_state_in state_array other_hart).hart.csrs.pmp
