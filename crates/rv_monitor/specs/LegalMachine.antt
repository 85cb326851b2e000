-- Machines whose pc and S-mode registers have legal values: pc and sepc are multiples of 4, and stvec has a legal mode. This holds at reset, and
-- every event preserves it. (RISC-V Privileged Architecture 20211203, sections 4.1.2 and 4.1.7.)
use Rattle.std.specs.Prelude.{◌≡◌, ℕ, List, IfSome}
use Rattle.rv_monitor.specs.Prelude.{HartState, IsLegal, aligned_to_4, context_at, s_context}
use Rattle.rv_monitor.specs.Events.{Event, event_of}
use Rattle.rv_monitor.specs.MonitoredMachine.{MonitoredMachine, Invariant, at_start, hart_state_of}

-- the pc is a multiple of 4, and each register of S-mode has a value that it can store
pub record IsLegalHartState (hart_state : HartState) : Type 0 where
  pub pc : aligned_to_4 hart_state.hart.pc ≡ hart_state.hart.pc
  pub supervisor : IsLegal (s_context hart_state.hart.csrs)

-- the pc and S-mode registers of each hart, and those of each saved context of an enclave, have legal values
pub record IsLegalMachine (machine : MonitoredMachine) : Type 0 where
  pub harts : (hart : ℕ) → IsLegalHartState (hart_state_of hart machine)
  -- the S-mode registers of each saved context have values that a hart can store
  pub contexts : (slot : ℕ) → IfSome (context_at machine.shared.contexts slot) (λ context. IsLegal context.supervisor)

-- the machine at reset is legal, and every event of a legal machine leaves it legal
pub record LegalLaw : Type 0 where
  pub start : (memory : List ℕ) (entry hart_count : ℕ) → aligned_to_4 entry ≡ entry
      → IsLegalMachine (at_start memory entry hart_count)
  pub keeps : (event : Event) (machine : MonitoredMachine) → Invariant machine → IsLegalMachine machine
      → IsLegalMachine (event_of event machine).state
