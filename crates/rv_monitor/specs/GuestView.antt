-- The guest view: what the worlds can read of a machine. No world reads the counters, mepc, mcause, mtval, MPIE or MPP of a hart. (A law about the
-- monitor's definitions; RISC-V Privileged Architecture 20211203, section 2.1, on the mode that a number requires.)
use Rattle.std.specs.Prelude.{◌≡◌, ℕ, map}
use Rattle.rv_hart.specs.GuestView.{guest_hart}
use Rattle.rv_monitor.specs.Prelude.{HartState}
use Rattle.rv_monitor.specs.MonitoredMachine.{MonitoredMachine, Invariant}
use Rattle.rv_monitor.specs.Step.{MonitoredStepped, step_of}

-- a hart state with the registers that no world reads set to 0
abbrev pub guest_state : HartState → HartState
guest_state hart_state = record hart_state { hart = guest_hart hart_state.hart }

-- the machine with the unread registers of each hart set to 0
abbrev pub guest_view : MonitoredMachine → MonitoredMachine
guest_view machine = record machine { hart_states = map guest_state machine.hart_states }

-- two steps have equal outcomes, and leave machines with equal guest views
pub record SameGuestView (one other : MonitoredStepped) : Type 0 where
  pub outcome : one.outcome ≡ other.outcome
  pub state : guest_view one.state ≡ guest_view other.state

-- a step has the same outcome on every machine with the same guest view, and leaves equal guest views
abbrev pub DependsOnGuestView : ℕ → MonitoredMachine → MonitoredStepped → Type 0
DependsOnGuestView hart before after =
    (other : MonitoredMachine) → Invariant other → guest_view before ≡ guest_view other → SameGuestView after (step_of hart other)
